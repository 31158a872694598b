-- The image of a database: its fields, one behind another, each with what is lawful in it.
use Rattle.std.specs.Prelude.{ℕ, zero, suc, ◌==◌, ◌^◌, ◌+◌, ◌-◌, nat_lt, nat_le, Bool, true, false, not, ◌&&◌, ◌||◌, List, [], ◌∷◌, ◌++◌, length, map, Option, Some, None, is_ok, bytes_eq, codes, if◌then◌else◌}
use Rattle.std.specs.List.{list_any, list_all, sum_by, slice_get}
use Rattle.std.specs.Option.{option_map_or, option_eq}
use Rattle.std.specs.Result.{result_ok}
use Rattle.access_levels.specs.Spelling.{id_of}
use Rattle.access_levels.specs.Level.{level_rank, levels, authority_rank, authorities, port_classes}
use Rattle.access_levels.specs.declared.levels.Level.{Level}
use Rattle.access_levels.specs.declared.levels.Level.TheVariants.{NoAccess, Execute, Read, Update, Control, Alter}
use Rattle.access_levels.specs.declared.entries.Attributes.{Attributes}
use Rattle.access_levels.specs.declared.entries.Who.{Who}
use Rattle.access_levels.specs.declared.entries.Entry.{Entry}
use Rattle.access_levels.specs.declared.entries.CondEntry.{CondEntry}
use Rattle.access_levels.specs.declared.entries.PortClass.{PortClass}
use Rattle.access_levels.specs.declared.entries.PortClass.TheVariants.{Terminal, Console, Jesinput, Appcport}
use Rattle.generic_names.specs.declared.kind.NameKind.TheVariants.{General}
use Rattle.generic_names.specs.Spelled.{Spelled, first_qualifier}
use Rattle.generic_names.specs.Faults.{pattern_of, member_of, longest}
use Rattle.generic_names.specs.Covers.{is_generic}
use Rattle.generic_names.specs.Before.{before as is_before}
use Rattle.racf_profiles.specs.declared.users.User.{User}
use Rattle.racf_profiles.specs.declared.users.Connect.{Connect}
use Rattle.racf_profiles.specs.declared.groups.Group.{Group}
use Rattle.racf_profiles.specs.declared.options.Options.{Options}
use Rattle.racf_profiles.specs.declared.class_rows.ClassRow.{ClassRow}
use Rattle.racf_profiles.specs.declared.class_rows.LogOption.{LogOption}
use Rattle.racf_profiles.specs.declared.class_rows.LogOption.TheVariants as log
use Rattle.racf_profiles.specs.declared.profiles.Profile.{Profile}
use Rattle.racf_profiles.specs.declared.profiles.Member.{Member}
use Rattle.racf_profiles.specs.declared.profiles.Member.TheVariants as members
use Rattle.racf_profiles.specs.declared.fixed_classes.NameForm.{NameForm}
use Rattle.racf_profiles.specs.declared.fixed_classes.NameForm.TheVariants as names
use Rattle.racf_profiles.specs.declared.fixed_classes.ClassFacts.{ClassFacts}
use Rattle.racf_profiles.specs.declared.rows.Rows.{Rows}
use Rattle.racf_profiles.specs.NewDatabase.{sys1}
use Rattle.racf_profiles.specs.ClassTable.{class_name, fixed_classes, facts_of}
use Rattle.racf_profiles.specs.Names.{connections}
use Rattle.racf_profiles.specs.DynamicClasses.{cdt}
use Rattle.racf_profiles.specs.Counts.{profile_count, entry_count, entries_in}
use Rattle.racf_profiles.specs.Limits.{most_users, most_groups, most_connections, most_connections_in_all, most_class_profiles, most_profiles, most_list_entries, most_entries_in_all, most_members, most_categories}
use Rattle.racf_profiles.specs.LawfulUsers.{is_printable}
use Rattle.racf_profiles.specs.LawfulProfiles.{kind_in, member_name, most_classes, names_of}
use Rattle.database_image.specs.Forms.{Form, Part, the, followed, done, field, number, listed}
use Rattle.database_image.specs.Fields.{any, below, at_most, filled, id, group_name, label, group_or_none, who_text, who, ranked, itself, category_set, text_spelling, bit, is_set, is_new}

-- In the forms below a line names a part, and the lines behind it may speak of it.
infixl 10 ◌>>=◌
abbrev pub ◌>>=◌ : {A K : Type 0} → Part A K → (K → Form A) → Form A
part >>= rest = followed part rest

-- A limit on one list, and one on all lists of its kind, of which there are so many items before.
abbrev pub within : (most in_all so_far count : ℕ) → Bool
within most in_all so_far count = nat_le count most && nat_le (so_far + count) in_all

-- A text: its length, a number of so many bytes, and its own bytes.
abbrev pub text : {A : Type 0} → (width : ℕ) → (ℕ → Bool) → (A → List ℕ) → (List ℕ → Option A) → (A → Bool) → Form A
text width is_length spelled value is_lawful = do
  count ← the (λ x. length (spelled x)) (number width is_length)
  field (text_spelling spelled value count) is_lawful

-- ---- the options of the system
abbrev pub option_flags : Options → ℕ
option_flags options = bit 1 options.grplist + bit 2 options.protectall + bit 4 options.mls

unfoldable pub options : Form Options
options = do
  flags ← the (λ o. option_flags o) (number 1 (below 8))
  names ← the (λ o. o.categories) (listed 2 (at_most most_categories) (λ before. id (is_new before)))
  done (record { grplist = is_set flags 1; protectall = is_set flags 2; mls = is_set flags 4; categories = names })

-- ---- groups
-- SYS1 has no superior group, and every other group has one.
abbrev pub is_superior_of : (id : List ℕ) → Option (List ℕ) → Bool
is_superior_of id None = bytes_eq id sys1.id
is_superior_of id (Some superior) = not (bytes_eq id sys1.id)

unfoldable pub group : (before : List Group) → Form Group
group before = do
  name ← the (λ g. g.id) (group_name (is_new (map (λ (g : Group). g.id) before)))
  superior ← the (λ g. g.superior) (group_or_none (is_superior_of name))
  owner ← the (λ g. g.owner) (id any)
  done (record { id = name; superior = superior; owner = owner })

-- ---- users
abbrev pub attribute_flags : Attributes → ℕ
attribute_flags a = bit 1 a.special + bit 2 a.operations + bit 4 a.auditor + bit 8 a.restricted + bit 16 a.revoked + bit 32 a.uaudit

abbrev pub attributes_of : ℕ → Attributes
attributes_of flags = record { special = is_set flags 1; operations = is_set flags 2; auditor = is_set flags 4; restricted = is_set flags 8; revoked = is_set flags 16; uaudit = is_set flags 32 }

abbrev pub attributes : Form Attributes
attributes = do
  flags ← the attribute_flags (number 1 (below 64))
  done (attributes_of flags)

abbrev pub connect_flags : Connect → ℕ
connect_flags c = bit 1 c.special + bit 2 c.operations + bit 4 c.auditor + bit 8 c.revoked

unfoldable pub connection : (before : List Connect) → Form Connect
connection before = do
  name ← the (λ c. c.group) (group_name (is_new (map (λ (c : Connect). c.group) before)))
  authority ← the (λ c. c.authority) (ranked authority_rank authorities)
  flags ← the (λ c. connect_flags c) (number 1 (below 16))
  done (record { group = name; authority = authority; special = is_set flags 1; operations = is_set flags 2; auditor = is_set flags 4; revoked = is_set flags 8 })

-- A user's name is any printable text.
abbrev pub printable : List ℕ → Option (List ℕ)
printable name = if list_all is_printable name then Some name else None

-- Each category has a name among the options: so many are defined.
abbrev pub defined : (count : ℕ) → Form ℕ
defined count = category_set (below (2 ^ count))

unfoldable pub user : (categories : ℕ) → (before : List User) → Form User
user categories before = do
  name ← the (λ u. u.id) (id (is_new (map (λ (u : User). u.id) before)))
  default_group ← the (λ u. u.default_group) (group_name any)
  owner ← the (λ u. u.owner) (id any)
  full_name ← the (λ u. u.name) (text 1 (at_most 20) itself printable any)
  attributes ← the (λ u. u.attributes) attributes
  level ← the (λ u. u.level) (number 1 any)
  set ← the (λ u. u.categories) (defined categories)
  label ← the (λ u. u.label) label
  classes ← the (λ u. u.classes) (listed 1 any (λ earlier. id (is_new earlier)))
  connects ← the (λ u. u.connects) (listed 2 (within most_connections most_connections_in_all (connections before)) connection)
  done (record { id = name; default_group = default_group; owner = owner; name = full_name; attributes = attributes; classes = classes; level = level; categories = set; label = label; connects = connects })

-- ---- profiles
-- The first qualifier of a data set's name has an ID's spelling. SECDATA has SECLEVEL and CATEGORY alone, and a name in
-- SECLABEL and GLOBAL has an ID's spelling. A generic name stands only in a class with generic profiles.
abbrev pub is_named_by : NameForm → List ℕ → Bool
is_named_by names.DataSet text = is_ok (id_of (first_qualifier text))
is_named_by names.General text = true
is_named_by names.LevelOrCategory text = bytes_eq text (codes "SECLEVEL") || bytes_eq text (codes "CATEGORY")
is_named_by names.Identifier text = is_ok (id_of text)
is_named_by names.Class text = is_ok (id_of text)

abbrev pub is_name_in : ClassFacts → Spelled → Bool
is_name_in facts name = is_named_by facts.names name.text && (not (is_generic name) || facts.generic)

-- The last of the profiles before is more specific.
abbrev pub comes_behind : List Profile → Spelled → Bool
comes_behind [] name = true
comes_behind (profile ∷ []) name = is_before profile.name name
comes_behind (profile ∷ other ∷ profiles) name = comes_behind (other ∷ profiles) name

abbrev pub spelled_text : Spelled → List ℕ
spelled_text name = name.text

-- What the name of a dynamic class's profile has to be, its profile in CDT says, which stands elsewhere.
unfoldable pub is_pattern_at : (class : List ℕ) → (before : List Profile) → Spelled → Bool
is_pattern_at class earlier name = option_map_or (λ facts. is_name_in facts name) (facts_of class) true && comes_behind earlier name

-- The name that a text spells in a class, and the name of a member in a profile.
unfoldable pub pattern_in : (class text : List ℕ) → Option Spelled
pattern_in class text = result_ok (pattern_of (kind_in class) text)

unfoldable pub member_in : (profile text : List ℕ) → Option Spelled
member_in profile text = result_ok (member_of (kind_in profile) text)

abbrev pub pattern : (class : List ℕ) → (before : List Profile) → Form Spelled
pattern class earlier = text 2 (λ count. nat_le 1 count && nat_le count (longest (kind_in class))) spelled_text (pattern_in class) (is_pattern_at class earlier)

-- Successes or failures are logged from a level on, or not at all.
abbrev pub audit_rank : Option Level → ℕ
audit_rank None = 0
audit_rank (Some level) = level_rank level

abbrev pub audit_levels : List (Option Level)
audit_levels = None ∷ Some Execute ∷ Some Read ∷ Some Update ∷ Some Control ∷ Some Alter ∷ []

abbrev pub flag_rank : Bool → ℕ
flag_rank false = 0
flag_rank true = 1

-- No two entries of a list are for the same users.
abbrev pub entry_key : Entry → List ℕ
entry_key entry = who_text entry.who

unfoldable pub entry : (before : List Entry) → Form Entry
entry before = do
  who ← the (λ e. e.who) (who (λ who. is_new (map entry_key before) (who_text who)))
  level ← the (λ e. e.level) (ranked level_rank levels)
  done (record { who = who; level = level })

abbrev pub port_rank : PortClass → ℕ
port_rank Terminal = 1
port_rank Console = 2
port_rank Jesinput = 3
port_rank Appcport = 4

-- No two conditional entries are for the same users under the same condition: each has first bytes of its own.
abbrev pub cond_key : PortClass → (port : List ℕ) → Who → List ℕ
cond_key class port who = port_rank class ∷ (filled port ++ who_text who)

abbrev pub cond_entry_key : CondEntry → List ℕ
cond_entry_key entry = cond_key entry.condition.class entry.condition.name entry.who

unfoldable pub cond_entry : (before : List CondEntry) → Form CondEntry
cond_entry before = do
  class ← the (λ e. e.condition.class) (ranked port_rank port_classes)
  port ← the (λ e. e.condition.name) (id any)
  who ← the (λ e. e.who) (who (λ who. is_new (map cond_entry_key before) (cond_key class port who)))
  level ← the (λ e. e.level) (ranked level_rank levels)
  done (record { condition = record { class = class; name = port }; who = who; level = level })

-- ---- members: of GLOBAL, of SECDATA's SECLEVEL, of its CATEGORY, and of CDT
abbrev pub member_kind : Member → ℕ
member_kind (members.Access resources level) = 1
member_kind (members.SecurityLevel name number) = 2
member_kind (members.Category name) = 3
member_kind (members.Traits traits) = 4

abbrev pub is_kind_in : (class profile : List ℕ) → ℕ → Bool
is_kind_in class profile kind =
    (kind == 1 && bytes_eq class (codes "GLOBAL"))
    || (kind == 2 && bytes_eq class (codes "SECDATA") && bytes_eq profile (codes "SECLEVEL"))
    || (kind == 3 && bytes_eq class (codes "SECDATA") && bytes_eq profile (codes "CATEGORY"))
    || (kind == 4 && bytes_eq class cdt)

abbrev pub resources_of : Member → Spelled
resources_of (members.Access resources level) = resources
resources_of _ = record { kind = General; text = [] }

abbrev pub level_of_member : Member → Level
level_of_member (members.Access resources level) = level
level_of_member _ = NoAccess

abbrev pub number_of_member : Member → ℕ
number_of_member (members.SecurityLevel name number) = number
number_of_member _ = 0

abbrev pub trait_flags : Member → ℕ
trait_flags (members.Traits traits) = bit 1 traits.operations + bit 2 traits.ids
trait_flags _ = 0

abbrev pub longest_of_member : Member → ℕ
longest_of_member (members.Traits traits) = traits.longest
longest_of_member _ = 0

abbrev pub is_new_member : List Member → List ℕ → Bool
is_new_member before name = is_new (map member_name before) name

abbrev pub access_member : (profile : List ℕ) → List Member → Form Member
access_member profile before = do
  resources ← the resources_of (text 2 (λ count. nat_le 1 count && nat_le count (longest (kind_in profile))) spelled_text (member_in profile) (λ name. is_new_member before name.text))
  level ← the level_of_member (ranked level_rank levels)
  done (members.Access resources level)

abbrev pub level_member : List Member → Form Member
level_member before = do
  name ← the member_name (id (is_new_member before))
  number ← the number_of_member (number 1 (λ n. nat_le 1 n && nat_le n 254))
  done (members.SecurityLevel name number)

abbrev pub category_member : (categories : List (List ℕ)) → List Member → Form Member
category_member categories before = do
  name ← the member_name (id (λ name. is_new_member before name && list_any (λ other. bytes_eq other name) categories))
  done (members.Category name)

-- No traits stand behind others.
abbrev pub traits_member : List Member → Form Member
traits_member before = do
  flags ← the trait_flags (number 1 (λ flags. nat_lt flags 4 && is_new_member before []))
  longest ← the longest_of_member (number 1 (λ n. nat_le 1 n && nat_le n 246))
  done (members.Traits (record { operations = is_set flags 1; ids = is_set flags 2; longest = longest }))

abbrev pub member_of_kind : (names : List (List ℕ)) → (profile : List ℕ) → List Member → (kind : ℕ) → Form Member
member_of_kind names profile earlier zero = traits_member earlier
member_of_kind names profile earlier (suc zero) = access_member profile earlier
member_of_kind names profile earlier (suc (suc zero)) = level_member earlier
member_of_kind names profile earlier (suc (suc (suc zero))) = category_member names earlier
member_of_kind names profile earlier (suc (suc (suc (suc n)))) = traits_member earlier

unfoldable pub member : (categories : List (List ℕ)) → (class profile : List ℕ) → (before : List Member) → Form Member
member categories class profile before = do
  kind ← the member_kind (number 1 (is_kind_in class profile))
  member_of_kind categories profile before kind

-- A profile in CDT has one member.
abbrev pub is_member_count : (class : List ℕ) → ℕ → Bool
is_member_count class count = if bytes_eq class cdt then count == 1 else nat_le count most_members

-- A profile of a class, behind others of the class and so many entries in the classes before.
unfoldable pub profile : (categories : List (List ℕ)) → (class : List ℕ) → (entries : ℕ) → (before : List Profile) → Form Profile
profile categories class entries before = do
  name ← the (λ p. p.name) (pattern class before)
  owner ← the (λ p. p.owner) (id any)
  uacc ← the (λ p. p.uacc) (ranked level_rank levels)
  warning ← the (λ p. p.warning) (ranked flag_rank (false ∷ true ∷ []))
  success ← the (λ p. p.audit.success) (ranked audit_rank audit_levels)
  failures ← the (λ p. p.audit.failures) (ranked audit_rank audit_levels)
  global_success ← the (λ p. p.global_audit.success) (ranked audit_rank audit_levels)
  global_failures ← the (λ p. p.global_audit.failures) (ranked audit_rank audit_levels)
  level ← the (λ p. p.level) (number 1 any)
  set ← the (λ p. p.categories) (defined (length categories))
  label ← the (λ p. p.label) label
  standard ← the (λ p. p.standard) (listed 2 (within most_list_entries most_entries_in_all (entries + sum_by entries_in before)) entry)
  conditional ← the (λ p. p.conditional) (listed 2 (within most_list_entries most_entries_in_all (entries + sum_by entries_in before + length standard)) cond_entry)
  members ← the (λ p. p.members) (listed 2 (is_member_count class) (member categories class name.text))
  done (record { name = name; owner = owner; uacc = uacc; warning = warning; standard = standard; conditional = conditional; level = level; categories = set; label = label; audit = record { success = success; failures = failures }; global_audit = record { success = global_success; failures = global_failures }; members = members })

-- ---- classes
abbrev pub class_flags : ClassRow → ℕ
class_flags c = bit 1 c.active + bit 2 c.listed + bit 4 c.global

-- DATASET is active, and of the fixed classes only one that may be RACLISTed is; a dynamic one may be.
abbrev pub are_class_flags : (name : List ℕ) → ℕ → Bool
are_class_flags name flags = nat_lt flags 8 && (is_set flags 1 || not (bytes_eq name (codes "DATASET")))
    && (not (is_set flags 2) || option_map_or (λ (facts : ClassFacts). facts.raclist) (facts_of name) true)

-- The classes have the names of the fixed ones in their order, and those behind them have new names.
abbrev pub fixed_names : List (List ℕ)
fixed_names = map class_name fixed_classes

abbrev pub is_class_at : (before : List (List ℕ)) → List ℕ → Bool
is_class_at before name = if nat_lt (length before) (length fixed_names) then option_eq bytes_eq (slice_get fixed_names (length before)) (Some name) else is_new before name

abbrev pub log_rank : LogOption → ℕ
log_rank log.ByProfile = 0
log_rank log.Always = 1
log_rank log.Never = 2
log_rank log.Successes = 3
log_rank log.Failures = 4

abbrev pub log_options : List LogOption
log_options = log.ByProfile ∷ log.Always ∷ log.Never ∷ log.Successes ∷ log.Failures ∷ []

unfoldable pub class : (categories : List (List ℕ)) → (before : List ClassRow) → Form ClassRow
class categories before = do
  name ← the (λ c. c.name) (id (is_class_at (names_of before)))
  flags ← the (λ c. class_flags c) (number 1 (are_class_flags name))
  log ← the (λ c. c.log) (ranked log_rank log_options)
  profiles ← the (λ c. c.profiles) (listed 4 (within most_class_profiles most_profiles (profile_count before)) (profile categories name (entry_count before)))
  done (record { name = name; active = is_set flags 1; listed = is_set flags 2; global = is_set flags 4; log = log; profiles = profiles })

-- ---- the whole
-- Before there was the class CDT the classes ended with GLOBAL: such an image is still read, and none is written.
abbrev pub is_class_count : ℕ → Bool
is_class_count count = nat_le (length fixed_classes) count && nat_le count most_classes

abbrev pub is_old_count : ℕ → Bool
is_old_count count = count == length fixed_classes - 1

abbrev pub is_read_count : ℕ → Bool
is_read_count count = is_old_count count || is_class_count count

-- The image of rows with so many classes.
unfoldable pub image_by : (is_count : ℕ → Bool) → Form Rows
image_by is_count = do
  options ← the (λ r. r.options) options
  groups ← the (λ r. r.groups) (listed 4 (at_most most_groups) group)
  users ← the (λ r. r.users) (listed 4 (at_most most_users) (user (length options.categories)))
  classes ← the (λ r. r.classes) (listed 2 is_count (class options.categories))
  done (record { users = users; groups = groups; classes = classes; options = options })

abbrev pub image : Form Rows
image = image_by is_class_count

abbrev pub read_image : Form Rows
read_image = image_by is_read_count
