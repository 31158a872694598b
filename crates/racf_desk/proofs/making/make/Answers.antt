use Rattle.std.proofs.Common.{◌∙◌, ◌+◌, ◌≤◌, ap, subst, sym}
use Rattle.std.specs.Arc.{arc_value}
use Rattle.racf_profiles.specs.State.{State, changed_state}
use Rattle.raclist_image.specs.Imaged.{Imaged}
use Rattle.racf_profiles.specs.Edits.{changed}
use Rattle.command_rules.specs.Effects.{step}
use Rattle.command_rules.specs.Edits.{edits_of}
use Rattle.desk_rules.specs.Outcome.{most_number}
use Rattle.racf_desk.proofs.MakingLaws.{unspent, within, behind, made_is}
use Rattle.racf_desk.proofs.making.make.Goals as goal

pub returns-clause-made : goal.returns-clause-made
returns-clause-made c =
    let position = arc_value c.args.image.now in
    let given = c.args.given in
    let change = c.in-Ok-prepare.change in
    let same = c.requires.image.same in
    let edits = c.in-Ok-prepare.ensures.edits ∙ sym (ap (edits_of given.issuer given.command) same) in
    let made = ap (changed change.edits) same ∙ c.in-Ok-prepare.ensures.step ∙ sym (ap (step given.issuer given.command) same) in
    let seen = ap (λ (i : Imaged). i.state) c.deref-2.ensures in
    made_is position given (c.generation-number.result + 1) c.of_bytes.result c.in-Ok.entry change (arc_value c.in-Ok-after.image)
    (ap (λ n. n + 1) (c.generation-number.ensures ∙ ap (λ (i : Imaged). i.generation) c.deref.ensures)) (c.of_bytes.ensures ∙ c.into_text.ensures) c.in-Ok.ensures edits
    (c.in-Ok-after.ensures
    ∙ ap (λ (s : State). record { state = s; generation = c.generation-number.result + 1 })
    (ap (changed_state change.edits) seen ∙ behind given change.edits position.state edits made (c.rows_are_changed.ensures change.edits position.state) c.in-Ok-prepare.ensures.listed))

pub returns-clause-behind : goal.returns-clause-behind
returns-clause-behind c =
    let change = c.in-Ok-prepare.change in
    let position = arc_value c.args.image.now in
    let seen = ap (λ (i : Imaged). i.state) c.deref-2.ensures in
    record {
      same = ap (λ (i : Imaged). i.state.rows) c.in-Ok-after.ensures ∙ ap (λ (s : State). (changed_state change.edits s).rows) seen ∙ c.rows_are_changed.ensures change.edits position.state ∙ ap (changed change.edits) c.requires.image.same;
      number =
          subst (λ n. n ≤ most_number)
          (sym (ap (λ (i : Imaged). i.generation) c.in-Ok-after.ensures ∙ ap (λ n. n + 1) (c.generation-number.ensures ∙ ap (λ (i : Imaged). i.generation) c.deref.ensures)))
          (within position.generation (unspent position.generation c.requires.numbered));
    }
