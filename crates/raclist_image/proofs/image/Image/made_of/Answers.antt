use Rattle.std.proofs.Common.{◌∙◌, List, ap}
use Rattle.std.specs.Prelude.{sum_by}
use Rattle.racf_profiles.specs.declared.class_rows.ClassRow.{ClassRow}
use Rattle.racf_profiles.specs.declared.rows.Rows.{Rows}
use Rattle.raclist_image.specs.PlacedNames.{profile_names, names_placed}
use Rattle.raclist_image.proofs.image.Image.made_of.Goals as goal

pub returns-clause-placed : goal.returns-clause-placed
returns-clause-placed c =
    c.in_ok-placed.ensures
    ∙ ap (λ (classes : List ClassRow). sum_by (λ (class : ClassRow). profile_names class.profiles) classes) c.deref.ensures.value
    ∙ ap (λ (rows : Rows). names_placed rows) c.rows.view_is
