-- The class at the place of the name is the one that is found.
use Rattle.std.proofs.Common.{◌∙◌, sym, ap}
use Rattle.std.specs.List.{find}
use Rattle.racf_profiles.specs.Lookup.{is_class}
use Rattle.class_profiles.specs.Classes.{ClassList}
use Rattle.class_profiles.proofs.Places.{placed, unplaced, found-at, read-at}
use Rattle.class_profiles.proofs.class_tables.ClassTables.class.Goals as goal

pub returns-in-Some : goal.returns-in-Some
returns-in-Some c =
    let items = c.self.inside.classes.items in
    let at = placed c.args.name items c.deref.result.now c.in-Some.place c.deref.ensures.value c.in-Some.ensures in
    sym (found-at c.args.name items c.in-Some.place c.index.result.now at (read-at c.args.name items c.in-Some.place c.index.result.now at c.index.ensures))
    ∙ ap (λ (v : ClassList). find (is_class c.args.name) v.classes) c.self.view_is

pub returns-in-None : goal.returns-in-None
returns-in-None c = sym (unplaced c.args.name c.self.inside.classes.items c.deref.result.now c.deref.ensures.value c.in-None.ensures) ∙ ap (λ (v : ClassList). find (is_class c.args.name) v.classes) c.self.view_is
