use Rattle.std.proofs.Common.{◌≡◌, map, string_bytes, drop}
use Rattle.racf_run.specs.Opening.{output_name}
use Rattle.racf_run.specs.Running.{are_apart}
use Rattle.racf_run.proofs.names.are_apart.Given as goal

-- whether the outputs of the rest are apart tells it of all
abbrev pub invariant-loop-name : goal.invariant-loop-name
invariant-loop-name l =
    are_apart (map output_name (map string_bytes l.names)) (map string_bytes l.names) ≡ are_apart (map output_name (map string_bytes (drop l.name-index l.names))) (map string_bytes l.names)
