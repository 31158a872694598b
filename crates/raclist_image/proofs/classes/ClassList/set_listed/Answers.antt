-- The class at its place is changed; one that isn't there isn't.
use Rattle.std.proofs.Common.{◌∙◌, sym, refl}
use Rattle.racf_profiles.specs.Edits.{with_listed}
use Rattle.raclist_image.proofs.Places.{class-changed, class-absent}
use Rattle.raclist_image.proofs.classes.ClassList.set_listed.Goals as goal

pub returns-in_default : goal.returns-in_default
returns-in_default c = class-absent c.args.class (with_listed c.args.listed) c.args.self.now (sym c.place.ensures ∙ c.in_default.is)

pub returns : goal.returns
returns c = c.replace.ensures ∙ class-changed c.args.class (with_listed c.args.listed) c.args.self.now c.args.self.now c.in-Some.place c.at.result.now c.in_ok-entry.entry refl (sym c.place.ensures ∙ c.in-Some.is) c.at.ensures c.in_ok-entry.ensures
