-- Clocks, as their callers see them: which moments they may give.
use Rattle.std.specs.Prelude.{ℕ, ◌≡◌, ◌==◌, Bool, true, Option, IfSome}

-- a moment is one that may be given, where that is told
abbrev pub MayCome : Option (ℕ → Bool) → ℕ → Type 0
MayCome may_give moment = IfSome may_give (λ may. may moment ≡ true)

-- this moment alone
abbrev pub only : ℕ → ℕ → Bool
only moment given = given == moment
