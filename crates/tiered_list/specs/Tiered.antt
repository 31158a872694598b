-- A list in rows is its items, with how many more can be put in without memory.
use Rattle.std.specs.Prelude.{ℕ, List}

pub record Tiered (A : Type 0) : Type 0 where
  pub items : List A
  pub spare : ℕ
