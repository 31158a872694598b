-- The class at its place is changed; one that isn't there isn't.
use Rattle.std.proofs.Common.{◌∙◌, sym, refl}
use Rattle.racf_profiles.specs.Edits.{without_profile}
use Rattle.raclist_image.proofs.Places.{class-changed, class-absent}
use Rattle.raclist_image.proofs.classes.ClassList.remove_profile.Goals as goal

pub returns-in_default-clause-classes : goal.returns-in_default-clause-classes
returns-in_default-clause-classes c = class-absent c.args.class (without_profile c.args.name.now) c.args.self.now (sym c.place.ensures ∙ c.in_default.is)

pub returns-clause-classes : goal.returns-clause-classes
returns-clause-classes c = c.replace.ensures ∙ class-changed c.args.class (without_profile c.args.name.now) c.args.self.now c.args.self.now c.in-Some.place c.at.result.now c.in_ok-made.made.what refl (sym c.place.ensures ∙ c.in-Some.is) c.at.ensures c.in_ok-made.ensures.class
