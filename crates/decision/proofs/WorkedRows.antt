-- Decisions that the table gives, worked out: each case once, and neighbours where both would fit.
use Rattle.std.proofs.Common.{◌≡◌, ℕ, Bool, true, false, List, [], ◌∷◌, ◌++◌, Some, None, map, refl}
use Rattle.std.specs.Prelude.{codes, if◌then◌else◌}
use Rattle.access_levels.specs.declared.levels.Level.{Level}
use Rattle.access_levels.specs.declared.levels.Level.TheVariants.{NoAccess, Execute, Read, Update, Alter}
use Rattle.access_levels.specs.declared.entries.Who.TheVariants.{Star as Everyone, Named}
use Rattle.access_levels.specs.declared.entries.Entry.{Entry}
use Rattle.access_levels.specs.declared.entries.Condition.{Condition}
use Rattle.access_levels.specs.declared.entries.Attributes.{Attributes}
use Rattle.access_levels.specs.declared.entries.PortClass.TheVariants.{Terminal}
use Rattle.generic_names.specs.Spelled.{Spelled}
use Rattle.generic_names.specs.declared.kind.NameKind.TheVariants.{DataSet, General}
use Rattle.racf_profiles.specs.declared.profiles.Profile.{Profile}
use Rattle.racf_profiles.specs.declared.profiles.Member.{Member}
use Rattle.racf_profiles.specs.declared.profiles.Member.TheVariants.{Access, Traits}
use Rattle.racf_profiles.specs.declared.groups.Group.{Group}
use Rattle.racf_profiles.specs.declared.options.Options.{Options}
use Rattle.racf_profiles.specs.declared.class_rows.ClassRow.{ClassRow}
use Rattle.racf_profiles.specs.declared.rows.Rows.{Rows}
use Rattle.racf_profiles.specs.NewDatabase.{ibmuser, sys1, new_database, no_options}
use Rattle.racf_profiles.specs.DynamicClasses.{cdt}
use Rattle.racf_profiles.specs.Edits.{added_class}
use Rattle.racf_profiles.specs.Lookup.{is_class}
use Rattle.racf_profiles.specs.State.{State, restart}
use Rattle.global_table.specs.Grants.{granted}
use Rattle.acee.specs.declared.acee.Acee.{Acee}
use Rattle.decision.specs.declared.outcome.Rule.{Rule}
use Rattle.decision.specs.declared.outcome.Rule.TheVariants as rule
use Rattle.decision.specs.declared.outcome.Audits.{Audits}
use Rattle.decision.specs.declared.outcome.Decision.{Decision}
use Rattle.decision.specs.Classification.{classified}
use Rattle.decision.specs.Table.{decided, fast_decided}

-- JOE, in the groups G1 and G2. Group-OPERATIONS holds in G2, which owns G3.
abbrev plain : Attributes
plain = record { special = false; operations = false; auditor = false; restricted = false; revoked = false; uaudit = false }

abbrev joe : Acee
joe = record {
  user = codes "JOE";
  current = codes "G1";
  groups = record { group = codes "G1"; operations = false } ∷ record { group = codes "G2"; operations = true } ∷ [];
  attributes = plain;
  level = 0;
  categories = 0;
  label = None;
  port = None;
  application = None;
  generation = 0;
}

abbrev restricted : Acee
restricted = record joe { attributes = record plain { restricted = true } }

abbrev operator : Acee
operator = record joe { attributes = record plain { operations = true } }

abbrev at_t1 : Acee
at_t1 = record joe { port = Some record { class = Terminal; name = codes "T1" } }

abbrev at_t2 : Acee
at_t2 = record joe { port = Some record { class = Terminal; name = codes "T2" } }

abbrev groups : List Group
groups = sys1 ∷ record { id = codes "G1"; superior = Some (codes "SYS1"); owner = codes "SYS1" } ∷ record { id = codes "G2"; superior = Some (codes "SYS1"); owner = codes "SYS1" } ∷ record { id = codes "G3"; superior = Some (codes "G2"); owner = codes "G2" } ∷ []

-- A profile with these entries and this UACC.
abbrev profile : Spelled → List Entry → Level → Profile
profile name entries uacc = record {
  name = name;
  owner = codes "IBMUSER";
  uacc = uacc;
  warning = false;
  standard = entries;
  conditional = [];
  level = 0;
  categories = 0;
  label = None;
  audit = record { success = None; failures = Some Read };
  global_audit = record { success = None; failures = None };
  members = [];
}

-- What such a profile asks to be logged.
abbrev by_default : Audits
by_default = record { audit = record { success = None; failures = Some Read }; global_audit = record { success = None; failures = None } }

-- The state with these profiles in a class, which is active.
abbrev with_profiles : List ℕ → List Profile → Options → Rows
with_profiles class profiles options = record {
  users = ibmuser ∷ [];
  groups = groups;
  classes = map (λ (row : ClassRow). if is_class class row then record row { active = true; profiles = profiles } else row) new_database.classes;
  options = options;
}

abbrev grplist : Options
grplist = record no_options { grplist = true }

abbrev protectall : Options
protectall = record no_options { protectall = true }

abbrev a : Spelled
a = record { kind = DataSet; text = codes "SYS1.A" }

abbrev own : Spelled
own = record { kind = DataSet; text = codes "JOE.A" }

abbrev x : Spelled
x = record { kind = General; text = codes "X" }

abbrev is_for : List ℕ → Level → Entry
is_for id level = record { who = Named id; level = level }

abbrev for_all : Level → Entry
for_all level = record { who = Everyone; level = level }

abbrev told : Decision → Rule × ℕ × Level
told decision = (decision.rule, decision.rc, decision.found)

-- What is told of a data set that one profile covers, and of one whose only profile is another's.
abbrev dataset : Profile → Options → Acee → Level → Rule × ℕ × Level
dataset p options acee asked = told (decided (restart (with_profiles (codes "DATASET") (p ∷ []) options)) 7 acee (codes "DATASET") p.name asked)

abbrev resource : List ℕ → Rows → Rule × ℕ × Level
resource class rows = told (decided (restart rows) 7 joe class x Read)

-- 1 and 2: NOSUCH is no class, and FACILITY isn't active, though a profile covers the name.
no_class : resource (codes "NOSUCH") new_database ≡ (rule.NoClass, 4, NoAccess)
unfolding decided classified granted
no_class = refl

class_off : told (decided (restart (record (with_profiles (codes "FACILITY") (profile x [] Alter ∷ []) no_options) { classes = map (λ (row : ClassRow). record row { active = false; profiles = profile x [] Alter ∷ [] }) new_database.classes })) 7 joe (codes "FACILITY") x Read) ≡ (rule.ClassOff, 4, NoAccess)
unfolding decided classified granted
class_off = refl

-- 3: a class, its profiles, and the members of its global access table, which the class uses or not, while SECLABEL is
-- active or not.
abbrev global_profile : List ℕ → List Member → Profile
global_profile class members = record (profile (record { kind = General; text = class }) [] NoAccess) { members = members }

abbrev with_global : List ℕ → (uses : Bool) → (labels : Bool) → List Member → List Profile → Rows
with_global class uses labels members profiles = record (with_profiles class profiles no_options) {
  classes = map
      (λ (row : ClassRow).
      if is_class class row then record row { active = true; global = uses; profiles = profiles }
      else if is_class (codes "GLOBAL") row then record row { profiles = global_profile class members ∷ [] }
      else if is_class (codes "SECLABEL") row then record row { active = labels }
      else row)
      new_database.classes;
}

-- SYS1.**/READ, and &RACUID.**/ALTER.
abbrev table : List Member
table = Access (record { kind = DataSet; text = codes "SYS1.**" }) Read ∷ Access (record { kind = DataSet; text = codes "&RACUID.**" }) Alter ∷ []

abbrev globally : Bool → Bool → Acee → Spelled → Level → Rule × ℕ × Level
globally uses labels acee name asked = told (decided (restart (with_global (codes "DATASET") uses labels table (profile a [] NoAccess ∷ []))) 7 acee (codes "DATASET") name asked)

-- It comes before the profile, and where its level is too low the profile decides.
global : globally true false joe a Read ≡ (rule.Global 0, 0, Read)
unfolding decided classified granted
global = refl

global-user : globally true false joe own Alter ≡ (rule.Global 1, 0, Alter)
unfolding decided classified granted
global-user = refl

global_too_low : globally true false joe a Update ≡ (rule.Insufficient, 8, NoAccess)
unfolding decided classified granted
global_too_low = refl

-- The class doesn't use it; SECLABEL is active; the user is RESTRICTED.
global_off : globally false false joe a Read ≡ (rule.Insufficient, 8, NoAccess)
unfolding decided classified granted
global_off = refl

global_labels : globally true true joe a Read ≡ (rule.Insufficient, 8, NoAccess)
unfolding decided classified granted
global_labels = refl

global_restricted : globally true false restricted a Read ≡ (rule.Insufficient, 8, NoAccess)
unfolding decided classified granted
global_restricted = refl

-- 4 and 5: PROTECTALL speaks of DATASET alone.
protect_all : told (decided (restart (with_profiles (codes "DATASET") [] protectall)) 7 joe (codes "DATASET") own Read) ≡ (rule.ProtectAll, 8, NoAccess)
unfolding decided classified granted
protect_all = refl

no_profile : told (decided (restart (with_profiles (codes "DATASET") [] no_options)) 7 joe (codes "DATASET") own Read) ≡ (rule.NoProfile, 4, NoAccess)
unfolding decided classified granted
no_profile = refl

no_profile-other : resource (codes "FACILITY") (with_profiles (codes "FACILITY") [] protectall) ≡ (rule.NoProfile, 4, NoAccess)
unfolding decided classified granted
no_profile-other = refl

-- 7 before 8: his own data, though his entry says NONE. JOE's qualifier alone counts, and in DATASET alone.
own_data : dataset (profile own (is_for (codes "JOE") NoAccess ∷ []) NoAccess) no_options joe Alter ≡ (rule.OwnData, 0, NoAccess)
unfolding decided classified granted
own_data = refl

own_data-longer : dataset (profile (record { kind = DataSet; text = codes "JOEL.A" }) [] NoAccess) no_options joe Read ≡ (rule.Insufficient, 8, NoAccess)
unfolding decided classified granted
own_data-longer = refl

-- 8: the user's entry, and where it is too low neither his group's nor the UACC.
user : dataset (profile a (is_for (codes "G1") Alter ∷ is_for (codes "JOE") Update ∷ []) Alter) no_options joe Read ≡ (rule.UserEntry, 0, Update)
unfolding decided classified granted
user = refl

user_too_low : dataset (profile a (is_for (codes "G1") Alter ∷ is_for (codes "JOE") NoAccess ∷ for_all Alter ∷ []) Alter) grplist operator Read ≡ (rule.Insufficient, 8, NoAccess)
unfolding decided classified granted
user_too_low = refl

-- 9: the best group, on a tie the first of JOE's; only the current one while GRPLIST is off.
group : dataset (profile a (is_for (codes "G2") Update ∷ is_for (codes "G1") Read ∷ for_all Alter ∷ []) NoAccess) grplist joe Read ≡ (rule.GroupEntry (codes "G2"), 0, Update)
unfolding decided classified granted
group = refl

group_tie : dataset (profile a (is_for (codes "G2") Read ∷ is_for (codes "G1") Read ∷ []) NoAccess) grplist joe Read ≡ (rule.GroupEntry (codes "G1"), 0, Read)
unfolding decided classified granted
group_tie = refl

group_current : dataset (profile a (is_for (codes "G2") Update ∷ []) NoAccess) no_options joe Read ≡ (rule.Insufficient, 8, NoAccess)
unfolding decided classified granted
group_current = refl

group_too_low : dataset (profile a (is_for (codes "G1") Read ∷ for_all Alter ∷ []) Alter) no_options operator Update ≡ (rule.Insufficient, 8, Read)
unfolding decided classified granted
group_too_low = refl

-- 10 and 11: `*` before the UACC; neither for a RESTRICTED user, whom a group's entry helps.
star : dataset (profile a (for_all Update ∷ []) Alter) no_options joe Read ≡ (rule.Star, 0, Update)
unfolding decided classified granted
star = refl

star_too_low : dataset (profile a (for_all Read ∷ []) Alter) no_options joe Update ≡ (rule.Uacc, 0, Alter)
unfolding decided classified granted
star_too_low = refl

uacc : dataset (profile a [] Read) no_options operator Read ≡ (rule.Uacc, 0, Read)
unfolding decided classified granted
uacc = refl

restricted_none : dataset (profile a (for_all Read ∷ []) Read) no_options restricted Read ≡ (rule.Insufficient, 8, NoAccess)
unfolding decided classified granted
restricted_none = refl

restricted_group : dataset (profile a (for_all Read ∷ is_for (codes "G1") Read ∷ []) Read) no_options restricted Read ≡ (rule.GroupEntry (codes "G1"), 0, Read)
unfolding decided classified granted
restricted_group = refl

-- 12: an entry under JOE's port, though his standard entry is too low.
abbrev t1 : Condition
t1 = record { class = Terminal; name = codes "T1" }

abbrev by_port : Profile
by_port = record (profile a (is_for (codes "JOE") NoAccess ∷ []) NoAccess) { conditional = record { condition = t1; who = Named (codes "JOE"); level = Update } ∷ [] }

conditional : dataset by_port no_options at_t1 Read ≡ (rule.Conditional t1, 0, Update)
unfolding decided classified granted
conditional = refl

conditional-other_port : dataset by_port no_options at_t2 Read ≡ (rule.Insufficient, 8, NoAccess)
unfolding decided classified granted
conditional-other_port = refl

conditional-no_port : dataset by_port no_options joe Read ≡ (rule.Insufficient, 8, NoAccess)
unfolding decided classified granted
conditional-no_port = refl

-- 13: OPERATIONS, where a class heeds it and there is no entry for the user or his groups.
operations : dataset (profile a [] NoAccess) no_options operator Alter ≡ (rule.Operations, 0, NoAccess)
unfolding decided classified granted
operations = refl

operations-class : told (decided (restart (with_profiles (codes "FACILITY") (profile x [] NoAccess ∷ []) no_options)) 7 operator (codes "FACILITY") x Read) ≡ (rule.Insufficient, 8, NoAccess)
unfolding decided classified granted
operations-class = refl

-- In a dynamic class it counts where the class's profile in CDT says so.
abbrev defines : Bool → Profile
defines operations = record (profile (record { kind = General; text = codes "APPX" }) [] NoAccess) { members = Traits record { operations = operations; ids = false; longest = 7 } ∷ [] }

abbrev dynamic : Bool → Rows
dynamic operations = record (with_profiles cdt (defines operations ∷ []) no_options) {
  classes = (with_profiles cdt (defines operations ∷ []) no_options).classes ++ record (added_class (codes "APPX")) { active = true; profiles = profile x [] NoAccess ∷ [] } ∷ [];
}

operations-dynamic : told (decided (restart (dynamic true)) 7 operator (codes "APPX") x Read) ≡ (rule.Operations, 0, NoAccess)
unfolding decided classified granted
operations-dynamic = refl

operations-dynamic_without : told (decided (restart (dynamic false)) 7 operator (codes "APPX") x Read) ≡ (rule.Insufficient, 8, NoAccess)
unfolding decided classified granted
operations-dynamic_without = refl

-- 14: group-OPERATIONS in a considered group in whose scope the owner is.
abbrev owned_by : List ℕ → Bool → Profile
owned_by owner warns = record (profile a [] Execute) { owner = owner; warning = warns }

group_operations : dataset (owned_by (codes "G3") true) grplist joe Alter ≡ (rule.GroupOperations (codes "G2"), 0, Execute)
unfolding decided classified granted
group_operations = refl

group_operations-scope : dataset (owned_by (codes "G1") false) grplist joe Alter ≡ (rule.Insufficient, 8, Execute)
unfolding decided classified granted
group_operations-scope = refl

group_operations-current : dataset (owned_by (codes "G3") false) no_options joe Alter ≡ (rule.Insufficient, 8, Execute)
unfolding decided classified granted
group_operations-current = refl

-- 15: a profile that warns gives the access, even against the user's entry.
warning : decided (restart (with_profiles (codes "DATASET") (record (profile a (is_for (codes "JOE") NoAccess ∷ []) NoAccess) { warning = true } ∷ []) no_options)) 7 joe (codes "DATASET") a Read
    ≡ record { rc = 0; rule = rule.Warning; profile = Some a; audits = Some by_default; found = NoAccess; warned = true; generation = 7 }
unfolding decided classified granted
warning = refl

-- A decision carries what its profile asks to be logged, the owner's and the auditor's, and nothing without a profile.
abbrev audited : Profile
audited = record (profile a [] NoAccess) { audit = record { success = Some Update; failures = Some Read }; global_audit = record { success = None; failures = Some Alter } }

audits : (decided (restart (with_profiles (codes "DATASET") (audited ∷ []) no_options)) 7 joe (codes "DATASET") a Read).audits
    ≡ Some record { audit = record { success = Some Update; failures = Some Read }; global_audit = record { success = None; failures = Some Alter } }
unfolding decided classified granted
audits = refl

audits-none : (decided (restart (with_profiles (codes "DATASET") (audited ∷ []) no_options)) 7 joe (codes "DATASET") own Read).audits ≡ None
unfolding decided classified granted
audits-none = refl

-- A RACLISTed class is decided by its copy, by AUTH and by FASTAUTH: the live profile gives X to nobody, the copy to
-- all.
abbrev listed : State
listed = record {
  rows = record (with_profiles (codes "FACILITY") [] protectall) {
    classes = map (λ (row : ClassRow). if is_class (codes "FACILITY") row then record row { active = true; listed = true; profiles = profile x [] NoAccess ∷ [] } else row) new_database.classes;
  };
  copies = record { class = codes "FACILITY"; profiles = profile x [] Read ∷ [] } ∷ [];
}

abbrev by_the_copy : Decision
by_the_copy = record { rc = 0; rule = rule.Uacc; profile = Some x; audits = Some by_default; found = Read; warned = false; generation = 7 }

copied : decided listed 7 joe (codes "FACILITY") x Read ≡ by_the_copy
unfolding decided classified granted
copied = refl

copied-fast : fast_decided listed 7 joe (codes "FACILITY") x Read ≡ by_the_copy
unfolding fast_decided classified
copied-fast = refl

-- FASTAUTH: what isn't a class, what isn't active, what isn't RACLISTed though a profile covers the name, and a name
-- that no profile of the copy covers, whatever PROTECTALL says.
abbrev fast : State → List ℕ → Spelled → Rule × ℕ × Level
fast state class name = told (fast_decided state 7 joe class name Read)

fast_no_class : fast listed (codes "NOSUCH") x ≡ (rule.NoClass, 4, NoAccess)
unfolding fast_decided classified
fast_no_class = refl

fast_class_off : fast listed (codes "OPERCMDS") x ≡ (rule.ClassOff, 4, NoAccess)
unfolding fast_decided classified
fast_class_off = refl

fast_not_listed : fast (restart (with_profiles (codes "DATASET") (profile a [] Alter ∷ []) no_options)) (codes "DATASET") a ≡ (rule.NotListed, 4, NoAccess)
unfolding fast_decided classified
fast_not_listed = refl

fast_no_profile : fast listed (codes "FACILITY") (record { kind = General; text = codes "Y" }) ≡ (rule.NoProfile, 4, NoAccess)
unfolding fast_decided classified
fast_no_profile = refl

-- FASTAUTH asks no global access table; AUTH does.
abbrev listed_globally : State
listed_globally = record {
  rows = record (with_profiles (codes "FACILITY") [] no_options) {
    classes = map
        (λ (row : ClassRow).
        if is_class (codes "FACILITY") row then record row { active = true; listed = true; global = true }
        else if is_class (codes "GLOBAL") row then record row { profiles = global_profile (codes "FACILITY") (Access x Alter ∷ []) ∷ [] }
        else row)
        new_database.classes;
  };
  copies = record { class = codes "FACILITY"; profiles = profile x [] NoAccess ∷ [] } ∷ [];
}

listed_global : told (decided listed_globally 7 joe (codes "FACILITY") x Read) ≡ (rule.Global 0, 0, Alter)
unfolding decided classified granted
listed_global = refl

fast_global : fast listed_globally (codes "FACILITY") x ≡ (rule.Insufficient, 8, NoAccess)
unfolding fast_decided classified
fast_global = refl
