-- How the groups of an ACEE are kept: with the list of their names.
use Rattle.std.specs.Prelude.{◌≡◌, List}
use Rattle.acee.specs.declared.groups.AceeGroup.{AceeGroup}
use Rattle.acee.specs.declared.groups.AceeGroups.TheInside.{Inside}
use Rattle.acee.specs.Groups.{group_names}

abbrev pub groups_of : Inside → List AceeGroup
groups_of groups = groups.items.items

abbrev pub AreKept : Inside → Type 0
AreKept groups = groups.names.items ≡ group_names groups.items.items
