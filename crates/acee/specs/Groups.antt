-- The groups that an ACEE has.
use Rattle.std.specs.Prelude.{ℕ, not, List, map, filter}
use Rattle.racf_profiles.specs.declared.users.Connect.{Connect as Connection}
use Rattle.acee.specs.declared.groups.AceeGroup.{AceeGroup}

-- They are those of the connections that aren't revoked, in their order, each with its group-OPERATIONS.
abbrev pub acee_group : Connection → AceeGroup
acee_group connection = record { group = connection.group; operations = connection.operations }

abbrev pub acee_groups : List Connection → List AceeGroup
acee_groups connections = map acee_group (filter (λ connection. not connection.revoked) connections)

-- Their names.
abbrev pub group_names : List AceeGroup → List (List ℕ)
group_names groups = map (λ (group : AceeGroup). group.group) groups
