use Rattle.std.proofs.Common.{◌≡◌, ℕ, List, take, bytes_eq}
use Rattle.indexmap.specs.IndexMap.{get}
use Rattle.database_image.specs.Ways.{above}
use Rattle.database_image.proofs.Maps.{kept}
use Rattle.database_image.proofs.cycles.steps.Given as goal

abbrev pub invariant-loop-group : goal.invariant-loop-group
invariant-loop-group l = (id : List ℕ) → get bytes_eq l.ways id ≡ kept (above l.groups) (take l.group-index l.groups) id
