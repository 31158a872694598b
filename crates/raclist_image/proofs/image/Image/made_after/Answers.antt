-- The rows behind the edits are lawful, and each RACLISTed class has its listed copy.
use Rattle.std.proofs.Common.{◌≡◌, ◌∙◌, List, ap, sym, subst}
use Rattle.racf_profiles.specs.declared.edits.Edit.{Edit}
use Rattle.racf_profiles.specs.declared.edits.Change.{Change}
use Rattle.racf_profiles.specs.Edits.{changed}
use Rattle.racf_profiles.specs.State.{State, HaveCopies, changed_state}
use Rattle.racf_profiles.specs.Lawful.{AreLawful}
use Rattle.raclist_image.specs.Imaged.{Imaged}
use Rattle.raclist_image.proofs.Copied.{changed-copied}
use Rattle.raclist_image.proofs.image.Image.made_after.Goals as goal

pub invariant_of-image : goal.invariant_of-image
invariant_of-image c =
    let edits = c.args.change.now.edits in
    let old = c.self.inside.state in
    let made : c.make_all.new.self ≡ changed_state edits old =
    c.in_ok-placed.ensures.state ∙ ap (λ (es : List Edit). changed_state es c.in_ok-state.state) (c.as_slice.ensures.value ∙ ap (λ (change : Change). change.edits) c.change.view_is) ∙ ap (changed_state edits) c.in_ok-state.ensures in
    record {
      lawful = subst AreLawful (sym (ap (λ (s : State). s.rows) made ∙ c.rows_are_changed.ensures edits old)) (subst (λ (image : Imaged). AreLawful (changed edits image.state.rows)) (sym c.self.view_is) c.requires.lawful);
      copied = subst HaveCopies (sym made) (changed-copied c.listed_classes_have_copies.ensures.edit edits old c.self.invariant.copied);
    }
