use Rattle.std.proofs.Common.{◌≡◌, map, take}
use Rattle.std.specs.List.{filter}
use Rattle.racf_profiles.specs.declared.class_rows.ClassRow.{ClassRow}
use Rattle.racf_profiles.specs.State.{copy_of_class}
use Rattle.raclist_image.proofs.copies.CopyList.of.Given as goal

-- the copies of the classes so far that are listed
abbrev pub invariant-loop-place : goal.invariant-loop-place
invariant-loop-place l = l.copies.items ≡ map copy_of_class (filter (λ (class : ClassRow). class.listed) (take l.place l.classes))
