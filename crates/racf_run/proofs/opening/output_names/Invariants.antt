use Rattle.std.proofs.Common.{◌≡◌, map, string_bytes, take}
use Rattle.racf_run.specs.Opening.{output_name}
use Rattle.racf_run.proofs.opening.output_names.Given as goal

abbrev pub invariant-loop-name : goal.invariant-loop-name
invariant-loop-name l = map string_bytes l.outputs.items ≡ map output_name (map string_bytes (take l.name-index l.names))
