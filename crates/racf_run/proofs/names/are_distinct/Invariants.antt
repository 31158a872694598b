use Rattle.std.proofs.Common.{◌≡◌, map, string_bytes, length}
use Rattle.racf_run.specs.Opening.{are_distinct}
use Rattle.racf_run.proofs.names.are_distinct.Given as goal

-- whether the rest are distinct tells it of all
abbrev pub invariant-loop-rest : goal.invariant-loop-rest
invariant-loop-rest l = are_distinct (map string_bytes l.names) ≡ are_distinct (map string_bytes l.rest)

abbrev pub decreases-loop-rest : goal.decreases-loop-rest
decreases-loop-rest l = length l.rest
