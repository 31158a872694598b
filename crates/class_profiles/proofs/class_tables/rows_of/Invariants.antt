-- The rows so far are those of the classes at the front.
use Rattle.std.proofs.Common.{◌≡◌, take}
use Rattle.class_profiles.specs.Summed.{rows_in}
use Rattle.class_profiles.proofs.class_tables.rows_of.Given as goal

abbrev pub invariant-loop-class : goal.invariant-loop-class
invariant-loop-class l = l.items.items ≡ rows_in (take l.class-index l.classes)
