-- The names stand where they stood.
use Rattle.std.proofs.Common.{◌∙◌, List, slice_get, option_map, ap, sym}
use Rattle.racf_profiles.specs.declared.class_rows.ClassRow.{ClassRow}
use Rattle.raclist_image.proofs.ClassPlaces.{places-set}
use Rattle.raclist_image.proofs.classes.ClassList.replace.Goals as goal

pub invariant_of-self : goal.invariant_of-self
invariant_of-self c = λ name.
    c.self.invariant name
    ∙ sym (places-set c.self.inside.classes.items c.args.place c.args.entry name
    (ap (λ (rows : List ClassRow). option_map (λ (class : ClassRow). class.name) (slice_get rows c.args.place)) c.self.view_is ∙ c.requires))
