-- A line that has begun.
use Rattle.std.specs.Prelude.{ℕ, ◌≡◌, List, length, take}

pub record Begun : Type 0 where
  pub text : List ℕ  -- its first bytes, at most 4,096
  pub size : ℕ  -- how many bytes have come

-- these bytes of a line have come
pub record IsBegun (raw : List ℕ) (line : Begun) : Type 0 where
  pub text : line.text ≡ take 4096 raw
  pub size : line.size ≡ length raw
