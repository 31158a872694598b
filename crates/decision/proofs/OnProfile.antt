-- The decision on the profile that was found for a name, by what the code reads of it.
use Rattle.std.proofs.Common.{◌≡◌, ℕ, List, Option, None, Some, IsSomeAnd, ◌∙◌, ap}
use Rattle.access_levels.specs.declared.levels.Level.{Level}
use Rattle.generic_names.specs.Spelled.{Spelled}
use Rattle.racf_profiles.specs.declared.profiles.Profile.{Profile}
use Rattle.racf_profiles.specs.State.{State}
use Rattle.raclist_image.specs.declared.facts.Facts.{Facts}
use Rattle.raclist_image.specs.Facts.{AreFacts}
use Rattle.acee.specs.declared.acee.Acee.{Acee}
use Rattle.decision.specs.declared.answer.Answer.{Answer}
use Rattle.decision.specs.declared.outcome.Decision.{Decision}
use Rattle.decision.specs.Classification.{classified}
use Rattle.decision.specs.Table.{decision_of, decided_after, answer_with_profile}

module _ (state : State) (generation : ℕ) (acee : Acee) (class : List ℕ) (name : Spelled) (asked : Level) (before : Option Answer) (without : Answer) where
  pub on_profile : (profile : Option Profile) (facts : Facts) (answer : Answer) (result : Decision) → before ≡ None → IsSomeAnd profile (λ p. AreFacts p facts)
      → ((p : Profile) → AreFacts p facts → answer ≡ answer_with_profile (classified state acee p asked) state.rows acee class name asked p)
      → ((p : Profile) → AreFacts p facts → result ≡ decision_of generation (Some p) answer)
      → result ≡ decided_after state generation acee class name asked before without profile
  on_profile None facts answer result none h a d = absurd h
  on_profile (Some p) facts answer result none h a d = rw none (d p h ∙ ap (λ (answer : Answer). decision_of generation (Some p) answer) (a p h))
