use Rattle.std.proofs.Common.{◌∙◌, ap, sym, position}
use Rattle.racf_profiles.specs.State.{is_copy_of, copy_of_class}
use Rattle.raclist_image.proofs.Places.{row-put, row-pushed}
use Rattle.raclist_image.proofs.copies.CopyList.put.Goals as goal

pub returns-in-Some : goal.returns-in-Some
returns-in-Some c =
    row-put (is_copy_of c.args.class.now.name) c.self.inside.copies.items c.args.self.now c.in-Some.place c.in_ok-copy.copy (copy_of_class c.args.class.now) c.self.view_is
    (ap (λ n. position (is_copy_of n) c.args.self.now) (sym c.name.ensures) ∙ sym c.place.ensures ∙ c.in-Some.is) c.in_ok-copy.ensures

pub returns-in_ok-push-in-None : goal.returns-in_ok-push-in-None
returns-in_ok-push-in-None c =
    c.in_ok-push-in-None.ensures.items
    ∙ row-pushed (is_copy_of c.args.class.now.name) c.self.inside.copies.items c.args.self.now c.in_ok-copy.copy (copy_of_class c.args.class.now) c.self.view_is
    (ap (λ n. position (is_copy_of n) c.args.self.now) (sym c.name.ensures) ∙ sym c.place.ensures ∙ c.in-None.is) c.in_ok-copy.ensures
