-- The calls of an object in memory: which of them are to fail, and what has come of them.
use Rattle.std.specs.Prelude.{ℕ, ◌+◌, ◌-◌, ◌^◌, ◌≡◌, ◌≤◌, ◌==◌, ◌⊎◌, min, Bool, true, List}
use Rattle.std.specs.List.{list_any}
use Rattle.racf_outside.specs.Causes.{Rose}

pub record CallsMade : Type 0 where
  pub failing : List ℕ  -- the numbers, from 1, of the calls that are to fail
  pub made : ℕ  -- how many calls came, at most 2^64 - 1
  pub faults : ℕ  -- how many faults were counted, at most 2^64 - 1
  pub refusals : ℕ  -- how many of these were for want of memory, at most 2^64 - 1

-- before the first call
abbrev pub no_calls : List ℕ → CallsMade
no_calls failing = record { failing = failing; made = 0; faults = 0; refusals = 0 }

-- the call of this number is to fail
abbrev pub is_to_fail : List ℕ → ℕ → Bool
is_to_fail failing number = list_any (λ n. n == number) failing

-- one call more, with whatever faults it counts
pub record CountsCall (old new : CallsMade) : Type 0 where
  pub failing : new.failing ≡ old.failing
  pub made : new.made ≡ min (old.made + 1) (2 ^ 64 - 1)

-- A call failed, or didn't. It failed where it was to fail, and where what it asks for is absent. For want of memory a
-- call fails too, and that is counted; for nothing else does one fail.
pub record FailsAsTold (absent : Bool) (old new : CallsMade) (failed : Bool) : Type 0 where
  pub counted : CountsCall old new
  pub where_told : is_to_fail old.failing new.made ≡ true → failed ≡ true
  pub where_absent : absent ≡ true → failed ≡ true
  pub only : failed ≡ true → (is_to_fail old.failing new.made ≡ true) ⊎ (absent ≡ true) ⊎ Rose old.refusals new.refusals
  pub no_fewer : old.refusals ≤ new.refusals
