use Rattle.std.proofs.Common.{Some, ◌∙◌, ap, sym}
use Rattle.std.specs.Prelude.{ℕ}
use Rattle.racf_profiles.specs.declared.profiles.Profile.{Profile}
use Rattle.raclist_image.specs.Facts.{AreFacts}
use Rattle.decision.specs.Table.{decision_of, decided, answer_without_profile}
use Rattle.decision.proofs.OnProfile.{on_profile}
use Rattle.decision.proofs.decide.auth.Goals as goal

pub returns-in-Some-facts_for-clause-decided : goal.returns-in-Some-facts_for-clause-decided
unfolding decided
returns-in-Some-facts_for-clause-decided c =
    let made = λ (p : Profile) (h : AreFacts p c.in-Some-facts_for.facts). c.decision_on.ensures p h ∙ ap (λ (n : ℕ). decision_of n (Some p) c.with_profile.result) c.generation-generation.ensures in
    on_profile c.args.image.now.state c.args.image.now.generation c.args.acee.now c.args.request.now.class c.args.request.now.name c.args.request.now.asked _ (answer_without_profile c.args.image.now.state.rows.options c.args.request.now.class) _ c.in-Some-facts_for.facts c.with_profile.result c.decision_on.result (sym c.in_default.ensures) c.in-Some-facts_for.ensures c.with_profile.ensures made
