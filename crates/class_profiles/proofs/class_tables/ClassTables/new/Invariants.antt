-- The classes so far are those at the front of the table.
use Rattle.std.proofs.Common.{◌≡◌, map, take}
use Rattle.racf_profiles.specs.NewDatabase.{empty_class}
use Rattle.racf_profiles.specs.ClassTable.{fixed_classes, is_dataset}
use Rattle.class_profiles.specs.Summed.{rows_in}
use Rattle.class_profiles.proofs.class_tables.ClassTables.new.Given as goal

abbrev pub invariant-loop-class : goal.invariant-loop-class
invariant-loop-class l = rows_in l.classes.items ≡ map (λ class. empty_class (is_dataset class) class) (take l.class-index fixed_classes)
