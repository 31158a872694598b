use Rattle.std.proofs.Common.{◌≡◌, ℕ, List, take, bytes_eq}
use Rattle.std.specs.Option.{option_map}
use Rattle.indexmap.specs.IndexMap.{get}
use Rattle.racf_profiles.specs.declared.groups.Group.{Group}
use Rattle.racf_profiles.specs.Lookup.{find_group}
use Rattle.database_image.proofs.index.index_of.Given as goal

abbrev pub invariant-loop-group : goal.invariant-loop-group
invariant-loop-group l = (id : List ℕ) → get bytes_eq l.index id ≡ option_map (λ (row : Group). row.superior) (find_group (take l.group-index l.groups) id)
