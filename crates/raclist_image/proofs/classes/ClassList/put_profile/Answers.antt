-- The class at its place is changed; one that isn't there isn't.
use Rattle.std.proofs.Common.{◌∙◌, sym, refl}
use Rattle.racf_profiles.specs.Edits.{with_profile}
use Rattle.racf_profiles.specs.declared.class_rows.ClassRow.{ClassRow}
use Rattle.racf_profiles.specs.LawfulProfiles.{AreProfiles, kind_in}
use Rattle.raclist_image.proofs.Places.{class-changed, class-absent, class-holds}
use Rattle.raclist_image.proofs.classes.ClassList.put_profile.Goals as goal

pub returns-in_default-clause-classes : goal.returns-in_default-clause-classes
returns-in_default-clause-classes c = class-absent c.args.class (with_profile c.args.profile.now) c.args.self.now (sym c.place.ensures ∙ c.in_default.is)

pub with_profile-requires : goal.with_profile-requires
with_profile-requires c =
    class-holds c.args.class (with_profile c.args.profile.now) c.args.self.now (λ (class : ClassRow). AreProfiles (kind_in class.name) class.profiles) c.in-Some.place c.at.result.now (sym c.place.ensures ∙ c.in-Some.is) c.at.ensures c.requires.lawful

pub returns-clause-classes : goal.returns-clause-classes
returns-clause-classes c = c.replace.ensures ∙ class-changed c.args.class (with_profile c.args.profile.now) c.args.self.now c.args.self.now c.in-Some.place c.at.result.now c.in_ok-made.made.what refl (sym c.place.ensures ∙ c.in-Some.is) c.at.ensures c.in_ok-made.ensures.class
