-- Who gives a command: the user, with the group that is current for him, as they stand at that command.
use Rattle.std.specs.Prelude.{◌≡◌, ℕ, Bool, true, false, List, Option, Some, None, Result, Ok, Err, is_ok, unwrap_or, refl, bytes_eq, if◌then◌else◌}
use Rattle.std.specs.List.{list_any}
use Rattle.access_levels.specs.Spelling.{group_of}
use Rattle.racf_profiles.specs.declared.users.User.{User}
use Rattle.racf_profiles.specs.declared.users.Connect.{Connect as Connection}
use Rattle.racf_profiles.specs.declared.rows.Rows.{Rows}
use Rattle.racf_profiles.specs.Lookup.{user_of}
use Rattle.command_fields.specs.declared.issuer.Issuer.{Issuer}
use Rattle.command_authority.specs.Held.{counting}
use Rattle.desk_rules.specs.declared.refusal.Refusal.{Refusal}
use Rattle.desk_rules.specs.declared.refusal.Refusal.TheVariants.{IssuerUnknown, IssuerRevoked, IssuerNotConnected}

-- The current group is the one that was named, else his default group.
abbrev pub current_group : User → Option (List ℕ) → List ℕ
current_group user group = unwrap_or group user.default_group

-- He is connected to it, and the connection isn't revoked.
abbrev pub is_connected : User → List ℕ → Bool
is_connected user group = list_any (λ (connection : Connection). bytes_eq connection.group group) (counting user)

-- The issuer with this current group. Nobody is connected to a group whose name isn't spelled as a group's.
abbrev pub issuer_in : List ℕ → (group : List ℕ) → (spelled : Bool) → is_ok (group_of group) ≡ spelled → Result Issuer Refusal
issuer_in id group true is = Ok (record { id = id; group = group; group_spelled = is })
issuer_in id group false is = Err (IssuerNotConnected group)

abbrev pub unless_not_connected : User → List ℕ → List ℕ → Result Issuer Refusal
unless_not_connected user id group = if is_connected user group then issuer_in id group (is_ok (group_of group)) refl else Err (IssuerNotConnected group)

abbrev pub unless_revoked : User → List ℕ → Option (List ℕ) → Result Issuer Refusal
unless_revoked user id group = if user.attributes.revoked then Err (IssuerRevoked id) else unless_not_connected user id (current_group user group)

-- He is a user, he isn't revoked, and he is connected to the current group.
abbrev pub issuer_among : Option User → List ℕ → Option (List ℕ) → Result Issuer Refusal
issuer_among None id group = Err (IssuerUnknown id)
issuer_among (Some user) id group = unless_revoked user id group

abbrev pub issuer_of : Rows → List ℕ → Option (List ℕ) → Result Issuer Refusal
issuer_of rows id group = issuer_among (user_of id rows) id group
