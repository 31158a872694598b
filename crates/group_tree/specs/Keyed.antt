-- How a tree is stored: a map from each name to its group, in order of definition.
use Rattle.std.specs.Prelude.{◌≡◌, ◌≤◌, map}
use Rattle.indexmap.specs.IndexMap.{keys, values, spare}
use Rattle.group_tree.specs.declared.tree.Tree.TheInside.{Inside}
use Rattle.group_tree.specs.Groups.{GroupTree}
use Rattle.racf_profiles.specs.Tree.{IsTree}

abbrev pub stored : Inside → GroupTree
stored tree = record { groups = values tree.groups; spare = tree.spare }

-- Each group is stored under its name, and the room that is promised is there.
pub record IsStored (tree : Inside) : Type 0 where
  pub lawful : IsTree (values tree.groups)
  pub named : keys tree.groups ≡ map (λ group. group.id) (values tree.groups)
  pub room : tree.spare ≤ spare tree.groups
