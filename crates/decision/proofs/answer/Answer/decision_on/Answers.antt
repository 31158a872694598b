-- The decision, with the name of a profile and what it asks to be logged.
use Rattle.std.proofs.Common.{◌∙◌, ap, Bool, Some}
use Rattle.generic_names.specs.Spelled.{Spelled}
use Rattle.racf_profiles.specs.declared.profiles.Profile.{Profile}
use Rattle.raclist_image.specs.Facts.{AreFacts}
use Rattle.decision.specs.declared.outcome.Audits.{Audits}
use Rattle.decision.specs.declared.outcome.Decision.{Decision}
use Rattle.decision.specs.Table.{decision_with}
use Rattle.decision.proofs.answer.Answer.decision_on.Goals as goal

pub returns : goal.returns
returns c = λ (p : Profile) (h : AreFacts p c.args.facts.now).
    ap {B = Decision} (λ (warned : Bool). record { rc = c.args.self.now.rc; rule = c.args.self.now.rule; profile = Some c.args.facts.now.name.now; audits = Some c.audits_of.result; found = c.args.self.now.found; warned = warned; generation = c.args.generation }) c.is_warning.ensures
    ∙ ap (λ (name : Spelled). decision_with c.args.generation (Some name) (Some c.audits_of.result) c.args.self.now) h.name
    ∙ ap (λ (audits : Audits). decision_with c.args.generation (Some p.name) (Some audits) c.args.self.now) (c.audits_of.ensures p h)
