-- What holds of the profiles of every database.
use Rattle.std.specs.Prelude.{◌≡◌, ℕ, ◌+◌, ◌≤◌, nat_le, Bool, true, false, ◌||◌, ◌&&◌, not, List, [], map, take, length, Option, None, Some, IsTrue, is_ok, is_some, codes, bytes_eq, if◌then◌else◌}
use Rattle.std.specs.List.{AllByRecursion, IsDistinct, list_all, list_any}
use Rattle.access_levels.specs.Spelling.{id_of}
use Rattle.access_levels.specs.Entries.{is_same_who, is_same_port}
use Rattle.access_levels.specs.declared.levels.Level.{Level}
use Rattle.access_levels.specs.declared.levels.Level.TheVariants.{NoAccess}
use Rattle.access_levels.specs.declared.entries.Entry.{Entry}
use Rattle.access_levels.specs.declared.entries.CondEntry.{CondEntry}
use Rattle.generic_names.specs.declared.kind.NameKind.{NameKind}
use Rattle.generic_names.specs.declared.kind.NameKind.TheVariants.{DataSet, General}
use Rattle.generic_names.specs.Spelled.{Spelled, first_qualifier}
use Rattle.generic_names.specs.Covers.{is_generic}
use Rattle.racf_profiles.specs.declared.profiles.Profile.{Profile}
use Rattle.racf_profiles.specs.declared.profiles.AuditRule.{AuditRule}
use Rattle.racf_profiles.specs.declared.profiles.Member.{Member}
use Rattle.racf_profiles.specs.declared.profiles.Member.TheVariants.{Access, SecurityLevel, Category, Traits}
use Rattle.racf_profiles.specs.declared.class_rows.ClassRow.{ClassRow}
use Rattle.racf_profiles.specs.declared.fixed_classes.NameForm.{NameForm}
use Rattle.racf_profiles.specs.declared.fixed_classes.NameForm.TheVariants as names
use Rattle.racf_profiles.specs.declared.fixed_classes.ClassFacts.{ClassFacts}
use Rattle.racf_profiles.specs.declared.options.Options.{Options}
use Rattle.racf_profiles.specs.declared.rows.Rows.{Rows}
use Rattle.racf_profiles.specs.ClassTable.{class_name, fixed_classes}
use Rattle.racf_profiles.specs.DynamicClasses.{cdt, general, traits_of, facts_in, is_fixed, is_short}
use Rattle.racf_profiles.specs.Edits.{is_in_order, AreNamed}
use Rattle.racf_profiles.specs.Limits.{most_class_profiles, most_list_entries, most_members, most_dynamic_classes}
use Rattle.racf_profiles.specs.Lookup.{class_of, profile_of}
use Rattle.racf_profiles.specs.LawfulUsers.{AreDefined}
use Rattle.std.specs.Option.{option_map_or}

-- Names in DATASET are names of data sets, and in every other class general names.
abbrev pub kind_in : List ℕ → NameKind
kind_in class = if bytes_eq class (codes "DATASET") then DataSet else General

-- The profiles of a class have lawful names of one kind, stand in order of specificity, each name but once, and
-- aren't too many.
pub record AreProfiles (kind : NameKind) (profiles : List Profile) : Type 0 where
  pub named : AreNamed kind profiles
  pub ordered : IsTrue (is_in_order profiles)
  pub few : length profiles ≤ most_class_profiles

-- The names of the class table: the fixed classes in their order, and behind them the dynamic ones, no name twice.
abbrev pub most_classes : ℕ
most_classes = length fixed_classes + most_dynamic_classes

pub record AreClassNames (names : List (List ℕ)) : Type 0 where
  pub fixed : take (length fixed_classes) names ≡ map class_name fixed_classes
  pub distinct : IsDistinct bytes_eq names
  pub few : length names ≤ most_classes

abbrev pub names_of : List ClassRow → List (List ℕ)
names_of classes = map (λ (class : ClassRow). class.name) classes

-- The classes have such names, and each has lawful profiles.
pub record AreClasses (classes : List ClassRow) : Type 0 where
  pub names : AreClassNames (names_of classes)
  pub lawful : AllByRecursion (λ (class : ClassRow). AreProfiles (kind_in class.name) class.profiles) classes

-- ---- names, by the form that the class's names have
-- The first qualifier of a data set's name has an ID's spelling. SECDATA has SECLEVEL and CATEGORY alone, a label has
-- an ID's spelling, and a profile of GLOBAL has the name of a class.
abbrev pub is_named_by : NameForm → Rows → List ℕ → Bool
is_named_by names.DataSet rows text = is_ok (id_of (first_qualifier text))
is_named_by names.General rows text = true
is_named_by names.LevelOrCategory rows text = bytes_eq text (codes "SECLEVEL") || bytes_eq text (codes "CATEGORY")
is_named_by names.Identifier rows text = is_ok (id_of text)
is_named_by names.Class rows text = is_some (class_of text rows)

-- A name that a class's profile may have: one that is short enough, and a generic one only where the class has generic
-- profiles.
abbrev pub is_profile_name : Rows → Spelled → ClassFacts → Bool
is_profile_name rows name facts = is_named_by facts.names rows name.text && (is_short facts name.text && (not (is_generic name) || facts.generic))

-- ---- access lists
-- No two entries are for one user or group, and they aren't too many; in the conditional list none are so under one
-- condition.
abbrev pub is_same_entry : CondEntry → CondEntry → Bool
is_same_entry entry other = is_same_port entry.condition other.condition && is_same_who entry.who other.who

pub record AreEntries (profile : Profile) : Type 0 where
  pub distinct : IsDistinct is_same_who (map (λ (entry : Entry). entry.who) profile.standard)
  pub few : length profile.standard ≤ most_list_entries
  pub distinct_when : IsDistinct is_same_entry profile.conditional
  pub few_when : length profile.conditional ≤ most_list_entries

-- ---- auditing
-- What is logged is logged from a level on that is an access.
abbrev pub is_logged_level : Option Level → Bool
is_logged_level None = true
is_logged_level (Some NoAccess) = false
is_logged_level (Some level) = true

abbrev pub is_audit : AuditRule → Bool
is_audit rule = is_logged_level rule.success && is_logged_level rule.failures

-- ---- members
-- In GLOBAL a member names resources, of data sets in the profile DATASET; in SECDATA a level with a number from 1 to
-- 254 stands in SECLEVEL, and a category that was defined in CATEGORY. In CDT a profile has one member, the traits of its
-- class, by which names have from 1 to 246 bytes. No other profile has members.
abbrev pub is_of_kind : NameKind → NameKind → Bool
is_of_kind DataSet DataSet = true
is_of_kind General General = true
is_of_kind kind other = false

abbrev pub is_member_of : Options → (class profile : List ℕ) → Member → Bool
is_member_of options class profile (Access resources level) = bytes_eq class (codes "GLOBAL") && is_of_kind (kind_in profile) resources.kind
is_member_of options class profile (SecurityLevel name number) = bytes_eq class (codes "SECDATA") && bytes_eq profile (codes "SECLEVEL") && nat_le 1 number && nat_le number 254
is_member_of options class profile (Category name) = bytes_eq class (codes "SECDATA") && bytes_eq profile (codes "CATEGORY") && list_any (λ other. bytes_eq other name) options.categories
is_member_of options class profile (Traits traits) = bytes_eq class cdt && nat_le 1 traits.longest && nat_le traits.longest 246

-- what a member is called
abbrev pub member_name : Member → List ℕ
member_name (Access resources level) = resources.text
member_name (SecurityLevel name number) = name
member_name (Category name) = name
member_name (Traits traits) = []

pub record AreMembers (options : Options) (class : List ℕ) (profile : Profile) : Type 0 where
  pub distinct : IsDistinct bytes_eq (map member_name profile.members)
  pub fitting : IsTrue (list_all (is_member_of options class profile.name.text) profile.members)
  pub few : length profile.members ≤ most_members
  pub traits : IsTrue (not (bytes_eq class cdt) || is_some (traits_of profile.members))

-- ---- what holds of one profile, and of one class
pub record IsProfile (rows : Rows) (class : List ℕ) (profile : Profile) : Type 0 where
  pub name : IsTrue (option_map_or (is_profile_name rows profile.name) (facts_in class rows) false)
  pub entries : AreEntries profile
  pub audit : IsTrue (is_audit profile.audit && is_audit profile.global_audit)
  pub members : AreMembers rows.options class profile
  pub categories : AreDefined rows.options profile.categories

-- DATASET is active, and only a class that may be RACLISTed is.
pub record IsClass (rows : Rows) (class : ClassRow) : Type 0 where
  pub active : IsTrue (not (bytes_eq class.name (codes "DATASET")) || class.active)
  pub listed : IsTrue (not class.listed || option_map_or (λ (facts : ClassFacts). facts.raclist) (facts_in class.name rows) false)
  pub profiles : AllByRecursion (IsProfile rows class.name) class.profiles

-- ---- the dynamic classes
-- Each class that isn't fixed has its profile in CDT, and each profile in CDT has its class, which isn't fixed.
abbrev pub profiles_of : List ℕ → Rows → List Profile
profiles_of class rows = option_map_or (λ (row : ClassRow). row.profiles) (class_of class rows) []

pub record AreDynamic (rows : Rows) : Type 0 where
  pub defined : IsTrue (list_all (λ (class : ClassRow). is_fixed class.name || is_some (profile_of cdt (general class.name) rows)) rows.classes)
  pub there : IsTrue (list_all (λ (profile : Profile). not (is_fixed profile.name.text) && is_some (class_of profile.name.text rows)) (profiles_of cdt rows))
