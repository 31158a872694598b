-- What is still to do of a list of connections, once the one to the group was met.
use Rattle.std.proofs.Common.{ℕ, Bool, true, false, List}
use Rattle.racf_profiles.specs.declared.users.Connect.{Connect as Connection}
use Rattle.racf_profiles.specs.Edits.{drop_row}
use Rattle.command_fields.specs.declared.fields.Connect.{Connect}
use Rattle.racf_profiles.specs.Names.{is_to}
use Rattle.command_rules.specs.Effects.{connects_after}

abbrev pub rest_after : Connect → List ℕ → Bool → List Connection → List Connection
rest_after c group true connects = connects
rest_after c group false connects = connects_after c group connects

abbrev pub rest_without : List ℕ → Bool → List Connection → List Connection
rest_without group true connects = connects
rest_without group false connects = drop_row (is_to group) connects
