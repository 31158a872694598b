use Rattle.std.proofs.Common.{◌∙◌, sym}
use Rattle.racf_profiles.specs.State.{is_copy_of}
use Rattle.raclist_image.proofs.Places.{row-dropped, row-left}
use Rattle.raclist_image.proofs.copies.CopyList.remove.Goals as goal

pub returns-in-Some : goal.returns-in-Some
returns-in-Some c =
    c.remove.ensures.items ∙ row-dropped (is_copy_of c.args.class) c.self.inside.copies.items c.args.self.now c.in-Some.place c.self.view_is (sym c.place.ensures ∙ c.in-Some.is)

pub returns-in_default : goal.returns-in_default
returns-in_default c = row-left (is_copy_of c.args.class) c.args.self.now (sym c.place.ensures ∙ c.in_default.is)
