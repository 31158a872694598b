-- The causes of faults: an object of the outside counts its faults, and a call fails only where that count rose.
use Rattle.std.specs.Prelude.{ℕ, ◌-◌, ◌^◌, ◌<◌, ◌≤◌, ◌≡◌, ◌⊎◌, Result, OnErr}

-- A count of faults rose from `before` to `now`: it is greater, or it has its last value, 2^64 - 1, where it stays.
abbrev pub Rose : ℕ → ℕ → Type 0
Rose before now = (before < now) ⊎ (2 ^ 64 - 1 ≤ now)

-- A call that began with the count `before` and ended with `now`: no count fell, and it failed only where the count
-- rose.
pub record HasCause {T E : Type 0} (before now : ℕ) (result : Result T E) : Type 0 where
  pub no_fewer : before ≤ now
  pub cause : OnErr result (Rose before now)

-- The count of what takes something back that counted `handed` faults: it rose where there were any, and else stayed.
pub record TakesOver (handed before now : ℕ) : Type 0 where
  pub no_fewer : before ≤ now
  pub faulty : 0 < handed → Rose before now
  pub faultless : handed ≡ 0 → now ≡ before
