-- A conflict that is met where a count is 0.
use Rattle.std.proofs.Common.{◌≡◌, ℕ, ◌<◌, ◌==◌, false, cond, Some, None, ap, arith}
use Rattle.std.proofs.lemmas.Bool.Decides.{nat_tests}
use Rattle.command_rules.specs.declared.conflict.Conflict.{Conflict}
use Rattle.command_rules.specs.Conflicts.{if_met}

pub met_at_0 : (n : ℕ) (conflict : Conflict) → n ≡ 0 → if_met (n == 0) conflict ≡ Some conflict
met_at_0 n conflict e = ap (λ m. if_met (m == 0) conflict) e

pub not_met_above_0 : (n : ℕ) (conflict : Conflict) → 0 < n → if_met (n == 0) conflict ≡ None
not_met_above_0 n conflict h = let apart : (n == 0) ≡ false = grind (arith, nat_tests) in ap (λ b. cond b (Some conflict) None) apart
