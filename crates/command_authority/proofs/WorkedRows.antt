-- What issuers lack, computed by the definitions.
use Rattle.std.proofs.Common.{◌≡◌, ℕ, Bool, true, false, List, [], ◌∷◌, map, Option, None, Some, codes, refl}
use Rattle.access_levels.specs.declared.authorities.GroupAuthority.{GroupAuthority}
use Rattle.access_levels.specs.declared.authorities.GroupAuthority.TheVariants.{MayUse, MayCreate, MayConnect, MayJoin}
use Rattle.access_levels.specs.declared.entries.Entry.{Entry}
use Rattle.access_levels.specs.declared.entries.CondEntry.{CondEntry}
use Rattle.access_levels.specs.declared.entries.PortClass.TheVariants.{Terminal}
use Rattle.access_levels.specs.declared.entries.Who.TheVariants.{Star, Named}
use Rattle.access_levels.specs.declared.levels.Level.TheVariants.{Read, Alter}
use Rattle.generic_names.specs.Spelled.{Spelled}
use Rattle.generic_names.specs.declared.kind.NameKind.TheVariants.{DataSet, General}
use Rattle.racf_profiles.specs.declared.users.User.{User}
use Rattle.racf_profiles.specs.declared.users.Connect.{Connect as Connection}
use Rattle.racf_profiles.specs.declared.groups.Group.{Group}
use Rattle.racf_profiles.specs.declared.profiles.AuditRule.{AuditRule}
use Rattle.racf_profiles.specs.declared.profiles.Profile.{Profile}
use Rattle.racf_profiles.specs.declared.class_rows.ClassRow.{ClassRow}
use Rattle.racf_profiles.specs.declared.class_rows.LogOption.TheVariants.{ByProfile}
use Rattle.racf_profiles.specs.declared.rows.Rows.{Rows}
use Rattle.racf_profiles.specs.NewDatabase.{ibmuser, sys1, no_options}
use Rattle.command_fields.specs.declared.issuer.Issuer.{Issuer}
use Rattle.command_fields.specs.declared.fields.AddUser.{AddUser}
use Rattle.command_fields.specs.declared.fields.AltUser.{AltUser}
use Rattle.command_fields.specs.declared.fields.Connect.{Connect as ConnectForm}
use Rattle.command_fields.specs.declared.profile_fields.RAlter.{RAlter}
use Rattle.command_fields.specs.declared.fields.CommandFields.{CommandFields}
use Rattle.command_fields.specs.declared.fields.CommandFields.TheVariants as fields
use Rattle.command_authority.specs.declared.needs.Need.{Need}
use Rattle.command_authority.specs.declared.needs.Need.TheVariants.{Special, Auditor, ClassAuthority, Join, Connect, Create, Authority, Owner, GroupSpecial, OwnData, AlterEntry, UserJoin, UserOwner, UserGroupSpecial}
use Rattle.command_authority.specs.Requirements.{add_user_requirements, alt_user_requirements, del_user_requirements, add_group_requirements, alt_group_requirements, del_group_requirements, connect_requirements, add_sd_requirements, r_define_requirements, r_alter_requirements, permit_requirements}
use Rattle.command_authority.specs.Authority.{is_met, need}

-- ---- rows
abbrev connection : List ℕ → Connection
connection group = record { group = group; authority = MayUse; special = false; operations = false; auditor = false; revoked = false }

abbrev user : List ℕ → (owner : List ℕ) → List Connection → User
user id owner connects = record {
  id = id;
  default_group = codes "DIV";
  owner = owner;
  name = [];
  attributes = record { special = false; operations = false; auditor = false; restricted = false; revoked = false; uaudit = false };
  classes = [];
  level = 0;
  categories = 0;
  label = None;
  connects = connects;
}

abbrev group : List ℕ → (superior owner : List ℕ) → Group
group id superior owner = record { id = id; superior = Some superior; owner = owner }

abbrev no_audit : AuditRule
no_audit = record { success = None; failures = None }

abbrev profile : Spelled → (owner : List ℕ) → List Entry → Profile
profile name owner standard = record { name = name; owner = owner; uacc = Alter; warning = false; standard = standard; conditional = []; level = 0; categories = 0; label = None; audit = no_audit; global_audit = no_audit; members = [] }

abbrev class_row : List ℕ → List Profile → ClassRow
class_row name profiles = record { name = name; active = true; listed = false; global = false; log = ByProfile; profiles = profiles }

abbrev data_set : List ℕ → Spelled
data_set text = record { kind = DataSet; text = text }

abbrev general : List ℕ → Spelled
general text = record { kind = General; text = text }

abbrev is_for : List ℕ → Entry
is_for id = record { who = Named id; level = Alter }

abbrev everyone : Entry
everyone = record { who = Star; level = Alter }

-- DIV below SYS1, DEPT below DIV and TEAM below DEPT. DEPT is owned as it says, each other group by its superior group.
-- ADM is a RESTRICTED user with group-SPECIAL in DIV. SUE is owned by TEAM, and TOM by ADM.
abbrev adm : User
adm = let row = user (codes "ADM") (codes "SYS1") (record (connection (codes "DIV")) { special = true } ∷ []) in
    record row { attributes = record row.attributes { restricted = true } }

abbrev groups : (owner : List ℕ) → List Group
groups owner = sys1 ∷ group (codes "DIV") (codes "SYS1") (codes "SYS1") ∷ group (codes "DEPT") (codes "DIV") owner ∷ group (codes "TEAM") (codes "DEPT") (codes "DEPT") ∷ []

abbrev some_rows : (owner : List ℕ) → List User → Rows
some_rows owner more = record {
  users = ibmuser ∷ user (codes "SUE") (codes "TEAM") [] ∷ user (codes "TOM") (codes "ADM") [] ∷ more;
  groups = groups owner;
  classes =
      class_row (codes "DATASET") (
      profile (data_set (codes "SYS1.A")) (codes "SYS1") (is_for (codes "BOB") ∷ everyone ∷ [])
      ∷ profile (data_set (codes "SYS1.**")) (codes "SYS1") (is_for (codes "BOB") ∷ [])
      ∷ profile (data_set (codes "SUE.A")) (codes "SUE") []
      ∷ [])
      ∷ class_row (codes "FACILITY") (profile (general (codes "F.A")) (codes "SYS1") (is_for (codes "G1") ∷ []) ∷ [])
      ∷ [];
  options = no_options;
}

abbrev issued_by : List ℕ → Issuer
issued_by id = record { id = id; group = codes "DIV"; group_spelled = refl }

-- what an issuer lacks for a command
abbrev lacks : Rows → List ℕ → CommandFields → Option (List Need)
lacks rows id command = need rows (issued_by id) command

-- ---- commands with few operands
abbrev add_user : List ℕ → AddUser
add_user id = record { user = id; name = None; dfltgrp = None; owner = None; authority = None; special = false; nospecial = false; operations = false; nooperations = false; auditor = false; noauditor = false; restricted = false; norestricted = false; clauth = []; seclevel = None; addcategory = []; seclabel = None }

abbrev alt_user : List ℕ → AltUser
alt_user id = record { user = id; name = None; dfltgrp = None; owner = None; special = false; nospecial = false; operations = false; nooperations = false; auditor = false; noauditor = false; restricted = false; norestricted = false; uaudit = false; nouaudit = false; revoke = false; resume = false; clauth = []; noclauth = []; seclevel = None; noseclevel = false; addcategory = []; delcategory = []; seclabel = None; noseclabel = false }

abbrev connect : List ℕ → List ℕ → ConnectForm
connect id group = record { user = id; group = Some group; authority = None; special = false; nospecial = false; operations = false; nooperations = false; auditor = false; noauditor = false; revoke = false; resume = false }

abbrev add_sd : List ℕ → CommandFields
add_sd name = fields.AddSd (record { profile = data_set name; owner = None; uacc = None; warning = false; nowarning = false; audit = None; seclevel = None; addcategory = []; seclabel = None })

abbrev r_alter : List ℕ → List ℕ → RAlter
r_alter class name = record { class = class; profile = general name; owner = None; uacc = None; warning = false; nowarning = false; audit = None; globalaudit = None; seclevel = None; noseclevel = false; addcategory = []; delcategory = []; seclabel = None; noseclabel = false; addmem = []; delmem = [] }

abbrev permit : List ℕ → Spelled → CommandFields
permit class name = fields.Permit (record { profile = name; class = class; reset = None; id = Star ∷ []; access = Some Read; delete = false; when = None })

abbrev over_user : List Need
over_user = Special ∷ Owner ∷ GroupSpecial ∷ []

-- ---- group-SPECIAL in DIV
-- ALU SUE NAME('Sue'), SUE owned by TEAM: DEPT owned by DIV, and then by IBMUSER; DU TOM, whom ADM owns
abbrev named_sue : CommandFields
named_sue = fields.AltUser (record (alt_user (codes "SUE")) { name = Some (codes "Sue") })

scope_of_group_special : map (λ owner. lacks (some_rows owner (adm ∷ [])) (codes "ADM") named_sue) (codes "DIV" ∷ codes "IBMUSER" ∷ []) ≡ None ∷ Some over_user ∷ []
unfolding need is_met alt_user_requirements
scope_of_group_special = refl

owned_user : lacks (some_rows (codes "IBMUSER") (adm ∷ [])) (codes "ADM") (fields.DelUser (record { user = codes "TOM" })) ≡ None
unfolding need is_met del_user_requirements
owned_user = refl

-- a revoked connection counts for nothing
revoked_connection : lacks (some_rows (codes "DIV") (record adm { connects = record (connection (codes "DIV")) { special = true; revoked = true } ∷ [] } ∷ [])) (codes "ADM") named_sue ≡ Some over_user
unfolding need is_met alt_user_requirements
revoked_connection = refl

-- an issuer who isn't a user
no_issuer : lacks (some_rows (codes "DIV") []) (codes "ADM") (fields.DelUser (record { user = codes "TOM" })) ≡ Some over_user
unfolding need is_met del_user_requirements
no_issuer = refl

-- ---- authority in a group ANN has CONNECT in G1: CO BOB GROUP(G1), the same with AUTHORITY(CONNECT), with
-- AUTHORITY(JOIN) and with SPECIAL, AU CAT DFLTGRP(G1)
abbrev ann : GroupAuthority → List (List ℕ) → User
ann authority classes = record (user (codes "ANN") (codes "SYS1") (record (connection (codes "G1")) { authority = authority } ∷ [])) { classes = classes }

abbrev with_ann : GroupAuthority → List (List ℕ) → Rows
with_ann authority classes = record { users = ibmuser ∷ ann authority classes ∷ []; groups = sys1 ∷ group (codes "G1") (codes "SYS1") (codes "SYS1") ∷ []; classes = []; options = no_options }

abbrev bob_to_g1 : ConnectForm
bob_to_g1 = connect (codes "BOB") (codes "G1")

connect_rows : map (λ (c : ConnectForm). lacks (with_ann MayConnect []) (codes "ANN") (fields.Connect c)) (bob_to_g1 ∷ record bob_to_g1 { authority = Some MayConnect } ∷ record bob_to_g1 { authority = Some MayJoin } ∷ record bob_to_g1 { special = true } ∷ [])
    ≡ None ∷ None ∷ Some (Special ∷ Owner ∷ GroupSpecial ∷ Authority MayJoin ∷ []) ∷ Some (Special ∷ GroupSpecial ∷ []) ∷ []
unfolding need is_met connect_requirements
connect_rows = refl

-- AU CAT DFLTGRP(G1): with JOIN and CLAUTH(USER), without the class, and with CONNECT alone; then AU CAT DFLTGRP(G1)
-- AUDITOR
abbrev cat_in_g1 : AddUser
cat_in_g1 = record (add_user (codes "CAT")) { dfltgrp = Some (codes "G1") }

abbrev over_g1 : List Need
over_g1 = Special ∷ UserJoin (codes "G1") ∷ UserOwner ∷ UserGroupSpecial ∷ []

add_user_rows : map (λ (rows : Rows). lacks rows (codes "ANN") (fields.AddUser cat_in_g1)) (with_ann MayJoin (codes "USER" ∷ []) ∷ with_ann MayJoin [] ∷ with_ann MayConnect (codes "USER" ∷ []) ∷ [])
    ≡ None ∷ Some over_g1 ∷ Some over_g1 ∷ []
unfolding need is_met add_user_requirements
add_user_rows = refl

add_auditor : lacks (with_ann MayJoin (codes "USER" ∷ [])) (codes "ANN") (fields.AddUser (record cat_in_g1 { auditor = true })) ≡ Some (Special ∷ [])
unfolding need is_met add_user_requirements
add_auditor = refl

-- IBMUSER has SPECIAL: AU CAT DFLTGRP(G1) SPECIAL
add_special : lacks (with_ann MayUse []) (codes "IBMUSER") (fields.AddUser (record cat_in_g1 { special = true })) ≡ None
unfolding need is_met add_user_requirements
add_special = refl

-- AG NEW SUPGROUP(G1), ALG G1 SUPGROUP(G1), DG G1 and DG SYS1, by ANN who has JOIN in G1
group_rows : map (λ c. lacks (with_ann MayJoin []) (codes "ANN") c)
    (fields.AddGroup (record { group = codes "NEW"; supgroup = Some (codes "G1"); owner = None })
    ∷ fields.AltGroup (record { group = codes "G1"; supgroup = Some (codes "G1"); owner = None })
    ∷ fields.DelGroup (record { group = codes "G1" })
    ∷ fields.DelGroup (record { group = codes "SYS1" }) ∷ [])
    ≡ None ∷ Some over_user ∷ Some (Special ∷ Join (codes "SYS1") ∷ Owner ∷ GroupSpecial ∷ []) ∷ Some over_user ∷ []
unfolding need is_met add_group_requirements alt_group_requirements del_group_requirements
group_rows = refl

-- ALG TEAM SUPGROUP(SYS1), by ADM who has group-SPECIAL in DIV
moved_out_of_scope : lacks (some_rows (codes "DIV") (adm ∷ [])) (codes "ADM") (fields.AltGroup (record { group = codes "TEAM"; supgroup = Some (codes "SYS1"); owner = None })) ≡ Some (Special ∷ Join (codes "SYS1") ∷ Owner ∷ GroupSpecial ∷ [])
unfolding need is_met alt_group_requirements
moved_out_of_scope = refl

-- ---- the auditor's
-- SPE has SPECIAL and not AUDITOR, AUD has AUDITOR and not SPECIAL
abbrev with_two : Rows
with_two =
    let spe = user (codes "SPE") (codes "SYS1") [] in
    let aud = user (codes "AUD") (codes "SYS1") [] in
    some_rows (codes "DIV") (record spe { attributes = record spe.attributes { special = true } } ∷ record aud { attributes = record aud.attributes { auditor = true } } ∷ [])

-- ALU SUE UAUDIT, ALU SUE NOUAUDIT NAME('Sue'), ALU SUE
abbrev audited : List AltUser
audited = record (alt_user (codes "SUE")) { uaudit = true } ∷ record (alt_user (codes "SUE")) { nouaudit = true; name = Some (codes "Sue") } ∷ alt_user (codes "SUE") ∷ []

uaudit_by_auditor : map (λ (c : AltUser). lacks with_two (codes "AUD") (fields.AltUser c)) audited ≡ None ∷ Some over_user ∷ Some over_user ∷ []
unfolding need is_met alt_user_requirements
uaudit_by_auditor = refl

uaudit_by_special : map (λ (c : AltUser). lacks with_two (codes "SPE") (fields.AltUser c)) audited ≡ Some (Auditor ∷ []) ∷ Some (Auditor ∷ []) ∷ None ∷ []
unfolding need is_met alt_user_requirements
uaudit_by_special = refl

-- RALT FACILITY F.A GLOBALAUDIT(NONE), and the same with OWNER(SUE)
abbrev global_audit : RAlter
global_audit = record (r_alter (codes "FACILITY") (codes "F.A")) { globalaudit = Some no_audit }

global_audit_rows : map (λ who. lacks with_two who (fields.RAlter global_audit)) (codes "AUD" ∷ codes "SPE" ∷ []) ≡ None ∷ Some (Auditor ∷ []) ∷ []
unfolding need is_met r_alter_requirements
global_audit_rows = refl

global_audit_and_owner : lacks with_two (codes "AUD") (fields.RAlter (record global_audit { owner = Some (codes "SUE") })) ≡ Some (Special ∷ Owner ∷ GroupSpecial ∷ AlterEntry ∷ [])
unfolding need is_met r_alter_requirements
global_audit_and_owner = refl

-- ---- profiles
-- PERMIT of SYS1.A, in which BOB and everyone have ALTER, by BOB and by CAT; of SYS1.**, in which BOB has it, by BOB
abbrev readers : Rows
readers = some_rows (codes "DIV") (user (codes "BOB") (codes "SYS1") [] ∷ user (codes "CAT") (codes "SYS1") [] ∷ [])

by_entry : map (λ who. lacks readers who (permit (codes "DATASET") (data_set (codes "SYS1.A")))) (codes "BOB" ∷ codes "CAT" ∷ []) ≡ None ∷ Some (Special ∷ Owner ∷ GroupSpecial ∷ OwnData ∷ AlterEntry ∷ []) ∷ []
unfolding need is_met permit_requirements
by_entry = refl

generic_by_entry : lacks readers (codes "BOB") (permit (codes "DATASET") (data_set (codes "SYS1.**"))) ≡ Some (Special ∷ Owner ∷ GroupSpecial ∷ OwnData ∷ [])
unfolding need is_met permit_requirements
generic_by_entry = refl

-- PERMIT of F.A, in which G1 has ALTER, by JIM: connected to G1, and by a revoked connection
abbrev with_jim : Bool → Rows
with_jim revoked = some_rows (codes "DIV") (user (codes "JIM") (codes "SYS1") (connection (codes "TEAM") ∷ record (connection (codes "G1")) { revoked = revoked } ∷ []) ∷ [])

by_group_entry : map (λ revoked. lacks (with_jim revoked) (codes "JIM") (permit (codes "FACILITY") (general (codes "F.A")))) (false ∷ true ∷ []) ≡ None ∷ Some (Special ∷ Owner ∷ GroupSpecial ∷ AlterEntry ∷ []) ∷ []
unfolding need is_met permit_requirements
by_group_entry = refl

-- PERMIT of SUE.A by SUE, whose own data it is; by ADM, in whose scope its owner SUE is; and by TOM
own_data : map (λ who. lacks (some_rows (codes "DIV") (adm ∷ [])) who (permit (codes "DATASET") (data_set (codes "SUE.A")))) (codes "SUE" ∷ codes "ADM" ∷ codes "TOM" ∷ []) ≡ None ∷ None ∷ Some (Special ∷ Owner ∷ GroupSpecial ∷ OwnData ∷ AlterEntry ∷ []) ∷ []
unfolding need is_met permit_requirements
own_data = refl

-- AD 'ANN.B', AD 'G1.B' and AD 'BOB.B' by ANN, who has CREATE in G1, and then USE
add_sd_rows : map (λ authority. map (λ name. lacks (with_ann authority []) (codes "ANN") (add_sd name)) (codes "ANN.B" ∷ codes "G1.B" ∷ codes "BOB.B" ∷ [])) (MayCreate ∷ MayUse ∷ [])
    ≡ (None ∷ None ∷ Some (Special ∷ OwnData ∷ Create (codes "BOB") ∷ GroupSpecial ∷ []) ∷ [])
    ∷ (None ∷ Some (Special ∷ OwnData ∷ Create (codes "G1") ∷ GroupSpecial ∷ []) ∷ Some (Special ∷ OwnData ∷ Create (codes "BOB") ∷ GroupSpecial ∷ []) ∷ [])
    ∷ []
unfolding need is_met add_sd_requirements
add_sd_rows = refl

-- AD 'ANN.B' is ANN's own data, AD 'G1.B' needs CREATE: by a revoked connection with JOIN
abbrev with_revoked : Rows
with_revoked = record (with_ann MayJoin []) { users = ibmuser ∷ record (ann MayJoin (codes "USER" ∷ [])) { connects = record (connection (codes "G1")) { authority = MayJoin; revoked = true } ∷ [] } ∷ [] }

revoked_create : map (λ name. lacks with_revoked (codes "ANN") (add_sd name)) (codes "ANN.B" ∷ codes "G1.B" ∷ []) ≡ None ∷ Some (Special ∷ OwnData ∷ Create (codes "G1") ∷ GroupSpecial ∷ []) ∷ []
unfolding need is_met add_sd_requirements
revoked_create = refl

-- CO BOB GROUP(G1), AU CAT DFLTGRP(G1) and AG NEW SUPGROUP(G1), by that connection
revoked_connect : lacks with_revoked (codes "ANN") (fields.Connect bob_to_g1) ≡ Some (Special ∷ Connect (codes "G1") ∷ Owner ∷ GroupSpecial ∷ [])
unfolding need is_met connect_requirements
revoked_connect = refl

revoked_join : map (λ c. lacks with_revoked (codes "ANN") c) (fields.AddUser cat_in_g1 ∷ fields.AddGroup (record { group = codes "NEW"; supgroup = Some (codes "G1"); owner = None }) ∷ []) ≡ Some over_g1 ∷ Some (Special ∷ Join (codes "G1") ∷ Owner ∷ GroupSpecial ∷ []) ∷ []
unfolding need is_met add_user_requirements add_group_requirements
revoked_join = refl

-- AU CAT DFLTGRP(G1) AUDITOR meets neither of its requirements: the first is told
neither_met : lacks (with_ann MayUse []) (codes "ANN") (fields.AddUser (record cat_in_g1 { auditor = true })) ≡ Some over_g1
unfolding need is_met add_user_requirements
neither_met = refl

-- ANN owns G2: AU CAT DFLTGRP(G2) with CLAUTH(USER) and without it; ALG G2 and DG G2 by her, and ALG G2 by BOB
abbrev with_g2 : List (List ℕ) → Rows
with_g2 classes = record (with_ann MayUse classes) { users = ibmuser ∷ ann MayUse classes ∷ user (codes "BOB") (codes "SYS1") [] ∷ []; groups = sys1 ∷ group (codes "G2") (codes "SYS1") (codes "ANN") ∷ [] }

add_user_by_owner : map (λ classes. lacks (with_g2 classes) (codes "ANN") (fields.AddUser (record (add_user (codes "CAT")) { dfltgrp = Some (codes "G2") }))) ((codes "USER" ∷ []) ∷ [] ∷ [])
    ≡ None ∷ Some (Special ∷ UserJoin (codes "G2") ∷ UserOwner ∷ UserGroupSpecial ∷ []) ∷ []
unfolding need is_met add_user_requirements
add_user_by_owner = refl

group_by_owner : map (λ c. lacks (with_g2 []) (codes "ANN") c) (fields.AltGroup (record { group = codes "G2"; supgroup = None; owner = None }) ∷ fields.DelGroup (record { group = codes "G2" }) ∷ []) ≡ None ∷ None ∷ []
unfolding need is_met alt_group_requirements del_group_requirements
group_by_owner = refl

group_by_another : lacks (with_g2 []) (codes "BOB") (fields.AltGroup (record { group = codes "G2"; supgroup = None; owner = None })) ≡ Some over_user
unfolding need is_met alt_group_requirements
group_by_another = refl

-- RDEF FACILITY F.B and RDEF OPERCMDS F.B, by ANN with CLAUTH(FACILITY)
abbrev r_define : List ℕ → CommandFields
r_define class = fields.RDefine (record { class = class; profile = general (codes "F.B"); owner = None; uacc = None; warning = false; nowarning = false; audit = None; seclevel = None; addcategory = []; seclabel = None; addmem = [] })

by_class : map (λ class. lacks (with_ann MayUse (codes "FACILITY" ∷ [])) (codes "ANN") (r_define class)) (codes "FACILITY" ∷ codes "OPERCMDS" ∷ []) ≡ None ∷ Some (Special ∷ ClassAuthority (codes "OPERCMDS") ∷ []) ∷ []
unfolding need is_met r_define_requirements
by_class = refl

-- PERMIT of F.A, by JIM who is connected to G1: G1 has ALTER and JIM himself READ; JIM has ALTER at a terminal alone
abbrev jims : List Entry → List CondEntry → Rows
jims standard conditional = record (with_jim false) { classes = class_row (codes "FACILITY") (record (profile (general (codes "F.A")) (codes "SYS1") standard) { conditional = conditional } ∷ []) ∷ [] }

abbrev at_terminal : CondEntry
at_terminal = record { condition = record { class = Terminal; name = codes "T1" }; who = Named (codes "JIM"); level = Alter }

lower_own_entry : lacks (jims (is_for (codes "G1") ∷ record (is_for (codes "JIM")) { level = Read } ∷ []) []) (codes "JIM") (permit (codes "FACILITY") (general (codes "F.A"))) ≡ Some (Special ∷ Owner ∷ GroupSpecial ∷ AlterEntry ∷ [])
unfolding need is_met permit_requirements
lower_own_entry = refl

conditional_entry : lacks (jims [] (at_terminal ∷ [])) (codes "JIM") (permit (codes "FACILITY") (general (codes "F.A"))) ≡ Some (Special ∷ Owner ∷ GroupSpecial ∷ AlterEntry ∷ [])
unfolding need is_met permit_requirements
conditional_entry = refl

-- PERMIT of ANN.C, which SYS1 owns and whose list is empty, by ANN: her own data
own_data_alone : lacks (record (with_ann MayUse []) { classes = class_row (codes "DATASET") (profile (data_set (codes "ANN.C")) (codes "SYS1") [] ∷ []) ∷ [] }) (codes "ANN") (permit (codes "DATASET") (data_set (codes "ANN.C"))) ≡ None
unfolding need is_met permit_requirements
own_data_alone = refl
