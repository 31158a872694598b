use Rattle.std.proofs.Common.{◌∙◌, sym}
use Rattle.racf_profiles.specs.Lookup.{is_class}
use Rattle.racf_profiles.proofs.States.{same_class}
use Rattle.racf_profiles.proofs.Places.{at-is, none-is, found-at}
use Rattle.raclist_image.proofs.classes.ClassList.get.Goals as goal

pub returns-in-Some-clause-class : goal.returns-in-Some-clause-class
returns-in-Some-clause-class c =
    sym (found-at (is_class c.args.name) c.args.self.now c.in-Some.place c.at.result.now (at-is (is_class c.args.name) c.args.self.now c.in-Some.place (sym c.in-Some.is ∙ c.place.ensures)) c.at.ensures)

pub returns-in-Some-clause-named : goal.returns-in-Some-clause-named
returns-in-Some-clause-named c =
    same_class c.args.name c.at.result.now c.args.self.now
    (found-at (is_class c.args.name) c.args.self.now c.in-Some.place c.at.result.now (at-is (is_class c.args.name) c.args.self.now c.in-Some.place (sym c.in-Some.is ∙ c.place.ensures)) c.at.ensures)

pub returns-in-None-clause-class : goal.returns-in-None-clause-class
returns-in-None-clause-class c = sym (none-is (is_class c.args.name) c.args.self.now (sym c.in-None.is ∙ c.place.ensures))
