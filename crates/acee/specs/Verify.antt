-- VERIFY's checks of the user and of his connection to the group, and the ACEE that is made of them.
use Rattle.std.specs.Prelude.{◌≡◌, ℕ, Bool, false, List, Option, Some, None, Result, Ok, Err, find, unwrap_or, codes, bytes_eq, if◌then◌else◌}
use Rattle.std.specs.Option.{option_or, option_map_or}
use Rattle.racf_profiles.specs.declared.users.User.{User}
use Rattle.racf_profiles.specs.declared.users.Connect.{Connect as Connection}
use Rattle.racf_profiles.specs.declared.class_rows.ClassRow.{ClassRow}
use Rattle.racf_profiles.specs.declared.rows.Rows.{Rows}
use Rattle.racf_profiles.specs.Lookup.{user_of, class_of}
use Rattle.racf_profiles.specs.State.{State}
use Rattle.acee.specs.declared.acee.Acee.{Acee}
use Rattle.acee.specs.Groups.{acee_groups}
use Rattle.acee.specs.declared.request.VerifyRequest.{VerifyRequest}
use Rattle.acee.specs.declared.request.VerifyFault.{VerifyFault}
use Rattle.acee.specs.declared.request.VerifyFault.TheVariants.{NotDefined, NotConnected, Revoked, ConnectRevoked, NoMemory}

-- The group is the one named, else the user's default group.
abbrev pub group_asked : VerifyRequest → User → List ℕ
group_asked request user = unwrap_or request.group user.default_group

-- The user's connection to a group.
abbrev pub connection_to : List ℕ → User → Option Connection
connection_to group user = find (λ connection. bytes_eq connection.group group) user.connects

-- A class is active.
abbrev pub is_active : List ℕ → Rows → Bool
is_active class rows = option_map_or (λ (row : ClassRow). row.active) (class_of class rows) false

-- While class SECLABEL is active the label is the one named, else the user's; otherwise there is none.
abbrev pub label_for : VerifyRequest → User → Rows → Option (List ℕ)
label_for request user rows = if is_active (codes "SECLABEL") rows then option_or request.label user.label else None

-- The ACEE of a user whose checks pass.
abbrev pub acee_for : Rows → ℕ → VerifyRequest → User → Acee
acee_for rows generation request user = record {
  user = user.id;
  current = group_asked request user;
  groups = acee_groups user.connects;
  attributes = user.attributes;
  level = user.level;
  categories = user.categories;
  label = label_for request user rows;
  port = request.port;
  application = request.application;
  generation = generation;
}

-- The checks in their order: the user is there, he is connected to the group, he isn't revoked, and his connection
-- isn't.
abbrev pub checked_connection : User → Option Connection → Option VerifyFault
checked_connection user None = Some NotConnected
checked_connection user (Some connection) = if user.attributes.revoked then Some Revoked else (if connection.revoked then Some ConnectRevoked else None)

abbrev pub acee_unless : Option VerifyFault → Acee → Result Acee VerifyFault
acee_unless (Some fault) acee = Err fault
acee_unless None acee = Ok acee

abbrev pub acee_of_user : Rows → ℕ → VerifyRequest → Option User → Result Acee VerifyFault
acee_of_user rows generation request None = Err NotDefined
acee_of_user rows generation request (Some user) = acee_unless (checked_connection user (connection_to (group_asked request user) user)) (acee_for rows generation request user)

unfoldable pub acee_of : State → ℕ → VerifyRequest → Result Acee VerifyFault
acee_of state generation request = acee_of_user state.rows generation request (user_of request.user state.rows)

-- What is answered is what is told, but that memory may be wanting for an ACEE: no clause says when there is enough, and
-- tests alone show that it isn't told then.
abbrev pub IsToldAcee : Result Acee VerifyFault → Result Acee VerifyFault → Type 0
IsToldAcee told (Ok acee) = told ≡ Ok acee
IsToldAcee told (Err NoMemory) = (acee : Acee) × (told ≡ Ok acee)
IsToldAcee told (Err fault) = told ≡ Err fault
