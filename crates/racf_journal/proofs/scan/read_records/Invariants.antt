-- The records so far, each behind its open gate, and then the rest.
use Rattle.std.proofs.Common.{◌+◌, ◌≡◌, ◌++◌, length}
use Rattle.std.specs.List.{AllByRecursion}
use Rattle.racf_journal.specs.Reading.{IsRecord, spelled}
use Rattle.racf_journal.proofs.scan.read_records.Given as goal

abbrev pub invariant-loop-rest : goal.invariant-loop-rest
invariant-loop-rest l =
    record {
      split : l.bytes ≡ spelled l.records.items ++ l.rest;
      lawful : AllByRecursion IsRecord l.records.items;
      to : l.gate ≡ l.start + length (spelled l.records.items);
    }

abbrev pub decreases-loop-rest : goal.decreases-loop-rest
decreases-loop-rest l = length l.rest
