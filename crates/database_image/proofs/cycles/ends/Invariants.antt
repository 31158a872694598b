use Rattle.std.proofs.Common.{◌≡◌, ℕ, List, Some, take, bytes_eq}
use Rattle.std.specs.List.{list_any}
use Rattle.std.specs.Option.{option_eq}
use Rattle.indexmap.specs.IndexMap.{get}
use Rattle.indexmap.specs.IndexSet.{contains}
use Rattle.racf_profiles.specs.declared.groups.Group.{Group}
use Rattle.database_image.proofs.cycles.ends.Given as goal

abbrev pub invariant-loop-group : goal.invariant-loop-group
invariant-loop-group l = (id : List ℕ) → contains bytes_eq l.ends id ≡ list_any (λ (row : Group). option_eq bytes_eq (get bytes_eq l.ways row.id) (Some id)) (take l.group-index l.groups)
