-- Commands on profiles, computed by the definitions: what each is refused for, and what it makes.
use Rattle.std.proofs.Common.{◌≡◌, ℕ, true, false, List, [], ◌∷◌, map, None, Some, codes, refl}
use Rattle.access_levels.specs.declared.levels.Level.{Level}
use Rattle.access_levels.specs.declared.levels.Level.TheVariants.{NoAccess, Read, Update, Alter}
use Rattle.access_levels.specs.declared.entries.Who.{Who}
use Rattle.access_levels.specs.declared.entries.Who.TheVariants.{Star, Named}
use Rattle.access_levels.specs.declared.entries.Entry.{Entry}
use Rattle.access_levels.specs.declared.entries.PortClass.TheVariants.{Terminal}
use Rattle.generic_names.specs.declared.kind.NameKind.TheVariants.{DataSet, General}
use Rattle.generic_names.specs.Spelled.{Spelled}
use Rattle.racf_profiles.specs.declared.profiles.Profile.{Profile}
use Rattle.racf_profiles.specs.declared.profiles.Member.{Member}
use Rattle.racf_profiles.specs.declared.profiles.Member.TheVariants as member
use Rattle.racf_profiles.specs.declared.rows.Rows.{Rows}
use Rattle.racf_profiles.specs.NewDatabase.{new_rows}
use Rattle.command_fields.specs.declared.resets.Reset.TheVariants as reset
use Rattle.command_fields.specs.declared.issuer.Issuer.{Issuer}
use Rattle.command_fields.specs.declared.profile_fields.AddSd.{AddSd}
use Rattle.command_fields.specs.declared.profile_fields.AltSd.{AltSd}
use Rattle.command_fields.specs.declared.profile_fields.RDefine.{RDefine}
use Rattle.command_fields.specs.declared.profile_fields.RAlter.{RAlter}
use Rattle.command_fields.specs.declared.profile_fields.RDelete.{RDelete}
use Rattle.command_fields.specs.declared.profile_fields.Permit.{Permit}
use Rattle.command_rules.specs.declared.conflict.Conflict.TheVariants.{NoUser, NoProfile, NoClass, Exists, InUse, NotGeneric, UnknownName}
use Rattle.command_rules.specs.declared.conflict.Named.TheVariants as named
use Rattle.command_rules.specs.declared.conflict.Holder.TheVariants as holder
use Rattle.command_rules.specs.ProfileEffects.{dataset, new_data_set, altered_data_set, after_add_sd, after_r_define, after_r_alter}
use Rattle.command_rules.specs.PermitEffects.{permitted_profile}
use Rattle.command_rules.specs.Members.{members_after}
use Rattle.command_rules.specs.Required.{first_met, no_owner, unknown_level, unknown_category, never_category, unknown_label}
use Rattle.command_rules.specs.Conflicts.{has_profile}
use Rattle.command_rules.specs.ProfileConflicts.{profiles_in, no_first_qualifier, no_permitted, no_such_class, no_resource_class, no_resource_profile, no_global_class, no_profile, profile_taken, not_generic, name_not_allowed, class_profiles_full, profiles_full, standard_full, conditional_full, entries_full, members_full, categories_full, add_sd_conflicts, add_sd_requirements, add_sd_limits, alt_sd_conflicts, r_define_conflicts, r_define_requirements, r_define_limits, r_alter_conflicts, r_delete_conflicts, permit_conflicts}

abbrev start : Rows
start = new_rows (λ _. true)

abbrev ibm : Issuer
ibm = record { id = codes "IBMUSER"; group = codes "SYS1"; group_spelled = refl }

abbrev data_set : List ℕ → Spelled
data_set text = record { kind = DataSet; text = text }

abbrev general : List ℕ → Spelled
general text = record { kind = General; text = text }

-- ---- commands with few operands
abbrev add_sd : List ℕ → AddSd
add_sd name = record { profile = data_set name; owner = None; uacc = None; warning = false; nowarning = false; audit = None; seclevel = None; addcategory = []; seclabel = None }

abbrev alt_sd : List ℕ → AltSd
alt_sd name = record { profile = data_set name; owner = None; uacc = None; warning = false; nowarning = false; audit = None; globalaudit = None; seclevel = None; noseclevel = false; addcategory = []; delcategory = []; seclabel = None; noseclabel = false }

abbrev r_define : List ℕ → List ℕ → RDefine
r_define class name = record { class = class; profile = general name; owner = None; uacc = None; warning = false; nowarning = false; audit = None; seclevel = None; addcategory = []; seclabel = None; addmem = [] }

abbrev r_alter : List ℕ → List ℕ → RAlter
r_alter class name = record { class = class; profile = general name; owner = None; uacc = None; warning = false; nowarning = false; audit = None; globalaudit = None; seclevel = None; noseclevel = false; addcategory = []; delcategory = []; seclabel = None; noseclabel = false; addmem = []; delmem = [] }

abbrev permit : List ℕ → List Who → Permit
permit name ids = record { profile = data_set name; class = dataset; reset = None; id = ids; access = None; delete = false; when = None }

-- ---- AD 'IBMUSER.*' UACC(READ) | AD 'SYS1.A' | RDEF FACILITY A.*
abbrev some_profiles : Rows
some_profiles =
    after_r_define ibm (r_define (codes "FACILITY") (codes "A.*"))
    (after_add_sd ibm (add_sd (codes "SYS1.A"))
    (after_add_sd ibm (record (add_sd (codes "IBMUSER.*")) { uacc = Some Read }) start))

names_of : map (λ (p : Profile). p.name.text) (profiles_in dataset some_profiles) ≡ codes "IBMUSER.*" ∷ codes "SYS1.A" ∷ []
names_of = refl

-- AD 'JOE.A' | AD 'SYS1.A' OWNER(JOE) | AD 'SYS1.A' SECLEVEL(TOP) | AD 'SYS1.B' SECLABEL(SYSLOW)
add_sd_rows : map (λ (c : AddSd). first_met (add_sd_conflicts ibm c some_profiles))
    (add_sd (codes "JOE.A") ∷ record (add_sd (codes "SYS1.A")) { owner = Some (codes "JOE") } ∷ record (add_sd (codes "SYS1.A")) { seclevel = Some (codes "TOP") } ∷ record (add_sd (codes "SYS1.B")) { seclevel = Some (codes "TOP") } ∷ record (add_sd (codes "SYS1.B")) { seclabel = Some (codes "SYSLOW") } ∷ [])
    ≡ Some (NoUser (codes "JOE")) ∷ Some (NoUser (codes "JOE")) ∷ Some (Exists (named.Profile (data_set (codes "SYS1.A")))) ∷ Some (UnknownName (codes "TOP")) ∷ None ∷ []
unfolding no_owner unknown_level unknown_category unknown_label no_first_qualifier profile_taken class_profiles_full profiles_full add_sd_requirements add_sd_limits
add_sd_rows = refl

-- ALD 'SYS1.A' OWNER(JOE) | ALD 'SYS1.B' | ALD 'SYS1.A' DELCATEGORY(RED) | ALD 'SYS1.A'
alt_sd_rows : map (λ (c : AltSd). first_met (alt_sd_conflicts c some_profiles))
    (record (alt_sd (codes "SYS1.B")) { owner = Some (codes "JOE") } ∷ alt_sd (codes "SYS1.B") ∷ record (alt_sd (codes "SYS1.A")) { delcategory = codes "RED" ∷ [] } ∷ alt_sd (codes "SYS1.A") ∷ [])
    ≡ Some (NoUser (codes "JOE")) ∷ Some (NoProfile dataset (data_set (codes "SYS1.B"))) ∷ Some (UnknownName (codes "RED")) ∷ None ∷ []
unfolding no_owner unknown_level unknown_category never_category unknown_label no_profile alt_sd_conflicts
alt_sd_rows = refl

-- RDEF NONE A | RDEF DATASET A | RDEF GLOBAL NONE | RDEF GLOBAL FACILITY | RDEF FACILITY A.* | RDEF SECLABEL A* | RDEF
-- FACILITY B
r_define_rows : map (λ (c : RDefine). first_met (r_define_conflicts ibm c some_profiles))
    (r_define (codes "NONE") (codes "A") ∷ r_define dataset (codes "A") ∷ r_define (codes "GLOBAL") (codes "NONE") ∷ r_define (codes "GLOBAL") (codes "FACILITY") ∷ r_define (codes "FACILITY") (codes "A.*") ∷ r_define (codes "SECLABEL") (codes "A*") ∷ r_define (codes "FACILITY") (codes "B") ∷ [])
    ≡ Some (NoClass (codes "NONE")) ∷ Some (NoClass dataset) ∷ Some (NoClass (codes "NONE")) ∷ None ∷ Some (Exists (named.Profile (general (codes "A.*")))) ∷ Some (NotGeneric (codes "SECLABEL")) ∷ None ∷ []
unfolding no_owner unknown_level unknown_category unknown_label no_resource_class no_global_class profile_taken not_generic class_profiles_full profiles_full members_full categories_full name_not_allowed r_define_requirements r_define_limits
r_define_rows = refl

-- RALT DATASET A | RALT FACILITY B | RALT FACILITY A.*; RDEL FACILITY B | RDEL NONE B
r_alter_rows : map (λ (c : RAlter). first_met (r_alter_conflicts ibm c some_profiles))
    (r_alter dataset (codes "A") ∷ r_alter (codes "FACILITY") (codes "B") ∷ r_alter (codes "FACILITY") (codes "A.*") ∷ [])
    ≡ Some (NoClass dataset) ∷ Some (NoProfile (codes "FACILITY") (general (codes "B"))) ∷ None ∷ []
unfolding no_owner unknown_level unknown_category never_category unknown_label no_resource_class no_resource_profile no_profile members_full categories_full r_alter_conflicts
r_alter_rows = refl

r_delete_rows : map (λ (c : RDelete). first_met (r_delete_conflicts c some_profiles))
    (record { class = codes "FACILITY"; profile = general (codes "B") } ∷ record { class = codes "NONE"; profile = general (codes "B") } ∷ [])
    ≡ Some (NoProfile (codes "FACILITY") (general (codes "B"))) ∷ Some (NoClass (codes "NONE")) ∷ []
unfolding no_resource_class no_resource_profile no_profile r_delete_conflicts
r_delete_rows = refl

-- PE 'SYS1.A' ID(JOE ANN) | PE 'SYS1.B' ID(*) | PE 'SYS1.A' ID(* IBMUSER SYS1); with DELETE nobody has to be there
permit_rows : map (λ (c : Permit). first_met (permit_conflicts ibm c some_profiles))
    (permit (codes "SYS1.A") (Named (codes "SYS1") ∷ Named (codes "JOE") ∷ Named (codes "ANN") ∷ []) ∷ permit (codes "SYS1.B") (Star ∷ []) ∷ permit (codes "SYS1.A") (Named (codes "IBMUSER") ∷ Named (codes "SYS1") ∷ []) ∷ record (permit (codes "SYS1.A") (Named (codes "JOE") ∷ [])) { delete = true } ∷ record (permit (codes "SYS1.A") (Star ∷ [])) { class = codes "NONE" } ∷ [])
    ≡ Some (NoUser (codes "JOE")) ∷ Some (NoProfile dataset (data_set (codes "SYS1.B"))) ∷ None ∷ None ∷ Some (NoClass (codes "NONE")) ∷ []
unfolding no_permitted no_such_class no_profile standard_full conditional_full entries_full permit_conflicts
permit_rows = refl

-- DU of a user with data set profiles
in_use : has_profile (codes "IBMUSER") some_profiles ≡ Some (InUse (holder.Profile (data_set (codes "IBMUSER.*"))))
unfolding has_profile
in_use = refl

-- ---- what is made
abbrev first : Profile
first = new_data_set ibm (add_sd (codes "SYS1.A")) start

made : first ≡ record { name = data_set (codes "SYS1.A"); owner = codes "IBMUSER"; uacc = NoAccess; warning = false; standard = []; conditional = []; level = 0; categories = 0; label = None; audit = record { success = None; failures = Some Read }; global_audit = record { success = None; failures = None }; members = [] }
made = refl

-- ALD 'SYS1.A' UACC(UPDATE) AUDIT(SUCCESS(ALTER))
altered : altered_data_set (record (alt_sd (codes "SYS1.A")) { uacc = Some Update; audit = Some (record { success = Some Alter; failures = None }) }) start first ≡ record first { uacc = Update; audit = record { success = Some Alter; failures = None } }
altered = refl

-- PE 'SYS1.A' ID(A B) ACCESS(UPDATE), then ID(A) | RESET ID(B) ACCESS(UPDATE) | ID(A) DELETE | ID(A) WHEN(TERMINAL(T1))
abbrev entry : List ℕ → Level → Entry
entry id level = record { who = Named id; level = level }

abbrev listed : Profile
listed = permitted_profile (record (permit (codes "SYS1.A") (Named (codes "A") ∷ Named (codes "B") ∷ [])) { access = Some Update }) first

replaced : (permitted_profile (permit (codes "SYS1.A") (Named (codes "A") ∷ [])) listed).standard ≡ entry (codes "A") Read ∷ entry (codes "B") Update ∷ []
replaced = refl

reset_first : (permitted_profile (record (permit (codes "SYS1.A") (Named (codes "B") ∷ [])) { reset = Some reset.All; access = Some Update }) listed).standard ≡ entry (codes "B") Update ∷ []
reset_first = refl

taken_away : (permitted_profile (record (permit (codes "SYS1.A") (Named (codes "A") ∷ Named (codes "C") ∷ [])) { delete = true }) listed).standard ≡ entry (codes "B") Update ∷ []
taken_away = refl

conditional : permitted_profile (record (permit (codes "SYS1.A") (Named (codes "A") ∷ [])) { when = Some (record { class = Terminal; name = codes "T1" }) }) listed
    ≡ record listed { conditional = record { condition = record { class = Terminal; name = codes "T1" }; who = Named (codes "A"); level = Read } ∷ [] }
conditional = refl

-- RALT SECDATA CATEGORY ADDMEM(RED BLUE RED) DELMEM(GREEN)
members_rows : (after_r_alter (record (r_alter (codes "SECDATA") (codes "CATEGORY")) { addmem = member.Category (codes "RED") ∷ member.Category (codes "BLUE") ∷ member.Category (codes "RED") ∷ []; delmem = general (codes "GREEN") ∷ [] })
    (after_r_define ibm (record (r_define (codes "SECDATA") (codes "CATEGORY")) { addmem = member.Category (codes "GREEN") ∷ [] }) start)).options.categories ≡ codes "GREEN" ∷ codes "RED" ∷ codes "BLUE" ∷ []
members_rows = refl

-- ---- levels, categories and labels that commands define
-- RDEF FACILITY F | RDEF SECDATA SECLEVEL ADDMEM(LOW/10 TOP/200) | RDEF SECDATA CATEGORY ADDMEM(RED BLUE) |
-- RDEF SECLABEL A | RALT SECDATA CATEGORY DELMEM(RED)
abbrev named_levels : Rows
named_levels =
    after_r_alter (record (r_alter (codes "SECDATA") (codes "CATEGORY")) { delmem = general (codes "RED") ∷ [] })
    (after_r_define ibm (r_define (codes "SECLABEL") (codes "A"))
    (after_r_define ibm (record (r_define (codes "SECDATA") (codes "CATEGORY")) { addmem = member.Category (codes "RED") ∷ member.Category (codes "BLUE") ∷ [] })
    (after_r_define ibm (record (r_define (codes "SECDATA") (codes "SECLEVEL")) { addmem = member.SecurityLevel (codes "LOW") 10 ∷ member.SecurityLevel (codes "TOP") 200 ∷ [] })
    (after_r_define ibm (r_define (codes "FACILITY") (codes "F")) start))))

-- RALT FACILITY F, with SECLEVEL(TOP) ADDCATEGORY(BLUE) DELCATEGORY(RED) SECLABEL(A) | ADDCATEGORY(RED) |
-- DELCATEGORY(BLUE PINK) | SECLEVEL(MID) | SECLABEL(B)
named_rows : map (λ (c : RAlter). first_met (r_alter_conflicts ibm c named_levels))
    (record (r_alter (codes "FACILITY") (codes "F")) { seclevel = Some (codes "TOP"); addcategory = codes "BLUE" ∷ []; delcategory = codes "RED" ∷ []; seclabel = Some (codes "A") } ∷ record (r_alter (codes "FACILITY") (codes "F")) { addcategory = codes "RED" ∷ [] } ∷ record (r_alter (codes "FACILITY") (codes "F")) { delcategory = codes "BLUE" ∷ codes "PINK" ∷ [] } ∷ record (r_alter (codes "FACILITY") (codes "F")) { seclevel = Some (codes "MID") } ∷ record (r_alter (codes "FACILITY") (codes "F")) { seclabel = Some (codes "B") } ∷ [])
    ≡ None ∷ Some (UnknownName (codes "RED")) ∷ Some (UnknownName (codes "PINK")) ∷ Some (UnknownName (codes "MID")) ∷ Some (UnknownName (codes "B")) ∷ []
unfolding no_owner unknown_level unknown_category never_category unknown_label no_resource_class no_resource_profile no_profile members_full categories_full r_alter_conflicts
named_rows = refl

-- RALT SECDATA CATEGORY ADDMEM(GREEN) ADDCATEGORY(GREEN): a category that the command itself defines
named_at_once : first_met (r_alter_conflicts ibm (record (r_alter (codes "SECDATA") (codes "CATEGORY")) { addmem = member.Category (codes "GREEN") ∷ []; addcategory = codes "GREEN" ∷ [] }) named_levels) ≡ Some (UnknownName (codes "GREEN"))
unfolding no_owner unknown_level unknown_category never_category unknown_label no_resource_class no_resource_profile no_profile members_full categories_full r_alter_conflicts
named_at_once = refl

-- AD 'SYS1.A' SECLEVEL(LOW) ADDCATEGORY(BLUE) SECLABEL(A): BLUE is the second that was ever defined
classified : new_data_set ibm (record (add_sd (codes "SYS1.A")) { seclevel = Some (codes "LOW"); addcategory = codes "BLUE" ∷ []; seclabel = Some (codes "A") }) named_levels ≡ record first { level = 10; categories = 2; label = Some (codes "A") }
classified = refl

-- ALD 'SYS1.A' DELCATEGORY(BLUE) ADDCATEGORY(BLUE) NOSECLEVEL, of that profile
classified_again : altered_data_set (record (alt_sd (codes "SYS1.A")) { addcategory = codes "BLUE" ∷ []; delcategory = codes "BLUE" ∷ []; noseclevel = true; noseclabel = true }) named_levels (record first { level = 10; label = Some (codes "A") }) ≡ record first { categories = 2 }
classified_again = refl

-- Of a GLOBAL table with A.* at READ, A.** at UPDATE and B at NONE: DELMEM(A.*) ADDMEM(B/READ C/ALTER), and DELMEM(B)
-- ADDMEM(B/READ)
abbrev access : List ℕ → Level → Member
access name level = member.Access (general name) level

abbrev table : List Member
table = access (codes "A.*") Read ∷ access (codes "A.**") Update ∷ access (codes "B") NoAccess ∷ []

one_spelling_goes : members_after (access (codes "B") Read ∷ access (codes "C") Alter ∷ []) (general (codes "A.*") ∷ []) table ≡ access (codes "A.**") Update ∷ access (codes "B") Read ∷ access (codes "C") Alter ∷ []
one_spelling_goes = refl

goes_before_it_comes : members_after (access (codes "B") Read ∷ []) (general (codes "B") ∷ []) table ≡ access (codes "A.*") Read ∷ access (codes "A.**") Update ∷ access (codes "B") Read ∷ []
goes_before_it_comes = refl
