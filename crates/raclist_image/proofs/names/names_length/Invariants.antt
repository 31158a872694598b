use Rattle.std.proofs.Common.{◌≡◌, take}
use Rattle.std.specs.Prelude.{sum_by}
use Rattle.racf_profiles.specs.declared.class_rows.ClassRow.{ClassRow}
use Rattle.raclist_image.specs.PlacedNames.{profile_names}
use Rattle.raclist_image.proofs.names.names_length.Given as goal

abbrev pub invariant-loop-class : goal.invariant-loop-class
invariant-loop-class l = l.total ≡ sum_by (λ (class : ClassRow). profile_names class.profiles) (take l.class-index l.classes)
