-- The greatest of the statuses: it doesn't matter in which order they are compared.
use Rattle.std.proofs.Common.{◌≡◌, ◌≤◌, nat_lt, Bool, true, false, List, [], ◌∷◌, map, length, refl, sym, ◌∙◌, inl, inr, arith}
use Rattle.std.specs.Prelude.{◌⊎◌, if◌then◌else◌}
use Rattle.statements.specs.declared.status.Status.{Status}
use Rattle.statements.specs.declared.status.Status.TheVariants as statuses
use Rattle.statements.specs.Status.{code_of}
use Rattle.racf_threads.specs.Together.{greater, greatest}
use Rattle.std.proofs.lemmas.Bool.Decides.{nat_tests}

pub first_least : (status : Status) → greater statuses.Done status ≡ status
first_least statuses.Done = refl
first_least statuses.Refusals = refl
first_least statuses.Usage = refl
first_least statuses.ReadFault = refl
first_least statuses.WriteFault = refl
first_least statuses.DiskFault = refl
first_least statuses.NotFormatted = refl
first_least (statuses.Damaged place) = refl
first_least statuses.NoMemory = refl
first_least statuses.InputTooLong = refl

pub last_least : (status : Status) → greater status statuses.Done ≡ status
last_least status = grind (arith, nat_tests)

pub in_turn : (one other third : Status) → greater (greater one other) third ≡ greater one (greater other third)
in_turn one other third = grind (arith, nat_tests)

-- where one of them is so great, the greater one is
pub one_of : (one other : Status) → (20 ≤ code_of one) ⊎ (20 ≤ code_of other) → 20 ≤ code_of (greater one other)
one_of one other great = by (nat_lt (code_of one) (code_of other)) refl great
  where
    by : (b : Bool) → nat_lt (code_of one) (code_of other) ≡ b → (20 ≤ code_of one) ⊎ (20 ≤ code_of other) → 20 ≤ code_of (if b then other else one)
    by true less (inl here) = grind (arith, nat_tests)
    by true less (inr here) = here
    by false more (inl here) = here
    by false more (inr here) = grind (arith, nat_tests)

-- The status so far, and the greatest of those to come.
module _ {X : Type 0} (f : X → Status) where
  pub one_greater : (x : X) (last so_far now : Status) (rest left : List X) (all : Status) → now ≡ greater so_far last → last ≡ f x → rest ≡ x ∷ left → greater so_far (greatest (map f rest)) ≡ all
      → greater now (greatest (map f left)) ≡ all
  one_greater x last so_far now rest left all is here next goes = rw (is, here, in_turn so_far (f x) (greatest (map f left))) (rw next at goes)

  pub none_greater : (so_far : Status) (rest : List X) (all : Status) → length rest ≡ 0 → greater so_far (greatest (map f rest)) ≡ all → so_far ≡ all
  none_greater so_far [] all none goes = sym (last_least so_far) ∙ goes
  none_greater so_far (x ∷ rest) all none goes = absurd (omega arith)
