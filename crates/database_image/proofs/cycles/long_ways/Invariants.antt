use Rattle.std.proofs.Common.{◌≡◌, ℕ, List, ◌^◌, bytes_eq}
use Rattle.indexmap.specs.IndexMap.{get}
use Rattle.database_image.specs.Ways.{climbed}
use Rattle.database_image.proofs.cycles.long_ways.Given as goal

abbrev pub invariant-loop : goal.invariant-loop
invariant-loop l = (id : List ℕ) → get bytes_eq l.ways id ≡ climbed (2 ^ l.counter) l.groups id
