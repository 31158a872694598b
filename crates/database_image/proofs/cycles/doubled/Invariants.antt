use Rattle.std.proofs.Common.{◌≡◌, ℕ, List, take, bytes_eq}
use Rattle.std.specs.Option.{option_and_then}
use Rattle.indexmap.specs.IndexMap.{get}
use Rattle.database_image.proofs.Maps.{kept}
use Rattle.database_image.proofs.cycles.doubled.Given as goal

abbrev pub invariant-loop-group : goal.invariant-loop-group
invariant-loop-group l = (id : List ℕ) → get bytes_eq l.twice id ≡ kept (λ from. option_and_then (get bytes_eq l.ways) (get bytes_eq l.ways from)) (take l.group-index l.groups) id
