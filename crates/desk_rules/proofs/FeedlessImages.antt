-- Rows that are read of an image hold no line feed: each of their IDs and names is read as one.
use Rattle.std.proofs.Common.{◌≡◌, ℕ, zero, suc, ◌+◌, Bool, true, false, List, [], ◌∷◌, ◌++◌, length, map, Option, Some, None, Result, Ok, Err, refl, ◌∙◌, subst}
use Rattle.std.specs.Prelude.{nat_lt, nat_le, ◌&&◌, is_ok, IfSome, bytes_eq, codes, option_map, if◌then◌else◌}
use Rattle.std.specs.List.{AllByRecursion, list_any, sum_by}
use Rattle.access_levels.specs.Spelling.{id_of, group_of}
use Rattle.access_levels.specs.Level.{level_rank, levels, authority_rank, authorities, port_classes}
use Rattle.access_levels.specs.declared.entries.Who.{Who}
use Rattle.access_levels.specs.declared.entries.Who.TheVariants.{Star, Named}
use Rattle.access_levels.specs.declared.entries.Entry.{Entry}
use Rattle.access_levels.specs.declared.entries.CondEntry.{CondEntry}
use Rattle.generic_names.specs.Spelled.{Spelled}
use Rattle.generic_names.specs.Faults.{longest}
use Rattle.racf_profiles.specs.declared.users.User.{User}
use Rattle.racf_profiles.specs.declared.users.Connect.{Connect as Connection}
use Rattle.racf_profiles.specs.declared.groups.Group.{Group}
use Rattle.racf_profiles.specs.declared.options.Options.{Options}
use Rattle.racf_profiles.specs.declared.profiles.Profile.{Profile}
use Rattle.racf_profiles.specs.declared.profiles.Member.{Member}
use Rattle.racf_profiles.specs.declared.profiles.Member.TheVariants as members
use Rattle.racf_profiles.specs.declared.class_rows.ClassRow.{ClassRow}
use Rattle.racf_profiles.specs.declared.rows.Rows.{Rows}
use Rattle.racf_profiles.specs.Names.{connections}
use Rattle.racf_profiles.specs.Counts.{profile_count, entry_count, entries_in}
use Rattle.racf_profiles.specs.Limits.{most_users, most_groups, most_connections, most_connections_in_all, most_class_profiles, most_profiles, most_list_entries, most_entries_in_all, most_categories}
use Rattle.racf_profiles.specs.DynamicClasses.{cdt}
use Rattle.racf_profiles.specs.Edits.{added_class}
use Rattle.racf_profiles.specs.LawfulProfiles.{kind_in, member_name, names_of}
use Rattle.database_image.specs.Reading.{◌>>=◌}
use Rattle.database_image.specs.Forms.{number}
use Rattle.database_image.specs.Fields.{any, below, at_most, of_text, text_in, id_text, group_text, itself, text_or_none, unless_blank, who_text, who_of, filled_spelling, text_spelling, ranked, label, is_set, is_new}
use Rattle.database_image.specs.Description.{within, text, option_flags, options, is_superior_of, group, attributes, connect_flags, connection, printable, defined, user, spelled_text, pattern_in, member_in, is_pattern_at, audit_rank, audit_levels, flag_rank, entry, entry_key, port_rank, cond_key, cond_entry, cond_entry_key, member_kind, is_kind_in, resources_of, level_of_member, number_of_member, trait_flags, longest_of_member, is_new_member, member_of_kind, member, is_member_count, profile, class_flags, are_class_flags, is_class_at, is_old_count, is_read_count, log_rank, log_options, class, image_by, read_image}
use Rattle.database_image.specs.Facts.{facts, first_broken}
use Rattle.database_image.specs.Image.{with_cdt, completed, unless_more, from_beginning, first_pass, unless_broken, second_pass, rows_of}
use Rattle.audit_records.specs.Feedless.{IsFeedless, IsFeedlessUser, IsFeedlessGroup, IsFeedlessWho, IsFeedlessMember, IsFeedlessProfile, AreFeedlessProfiles, AreFeedless}
use Rattle.audit_records.proofs.FeedlessNames.{pattern_name-feedless, member_name-feedless}
use Rattle.desk_rules.proofs.FeedlessFields.{spelled_id-feedless, spelled_group-feedless}
use Rattle.lawful_commands.proofs.RowLists.{all-push}
use Rattle.desk_rules.proofs.Readings.{Only, Reads, bind_ok, field_, any_, then_, done_, listed_}

-- ---- IDs, names of groups, and either where it may be left out
abbrev ReadsFeedless : (List ℕ → Option (List ℕ)) → Type 0
ReadsFeedless value = (text x : List ℕ) → value text ≡ Some x → IsFeedless x

kept : (b : Bool) (text x : List ℕ) → (if b then Some text else None) ≡ Some x → (b ≡ true) × (text ≡ x)
kept true text x e = (refl, cc)
kept false text x e = absurd cc

id-read : ReadsFeedless id_text
id-read text x e =
    let k = kept (is_ok (id_of text)) text x e in
    subst IsFeedless k.1 (spelled_id-feedless text k.0)

group-read : ReadsFeedless group_text
group-read text x e =
    let k = kept (is_ok (group_of text)) text x e in
    subst IsFeedless k.1 (spelled_group-feedless text k.0)

some-read : {A : Type 0} (P : A → Type 0) (value : List ℕ → Option A) → ((text : List ℕ) (x : A) → value text ≡ Some x → P x) → (o : Option (List ℕ)) (x : A) → of_text value o ≡ Some x → P x
some-read P value h None x e = absurd cc
some-read P value h (Some text) x e = h text x e

filled-read : {A : Type 0} {P : A → Type 0} (value : List ℕ → Option A) → ((text : List ℕ) (x : A) → value text ≡ Some x → P x) → (bytes : List ℕ) (x : A) → of_text value (text_in bytes) ≡ Some x → P x
filled-read {P = P} value h bytes x e = some-read P value h (text_in bytes) x e

superior-read : (text : List ℕ) (o : Option (List ℕ)) → unless_blank group_text text ≡ Some o → IfSome o IsFeedless
superior-read [] o e = let same : None ≡ o = cc in subst (λ (o : Option (List ℕ)). IfSome o IsFeedless) same tt
superior-read (byte ∷ text) o e = by (group_text (byte ∷ text)) (group-read (byte ∷ text)) e
  where
    by : (r : Option (List ℕ)) → ((x : List ℕ) → r ≡ Some x → IsFeedless x) → option_map Some r ≡ Some o → IfSome o IsFeedless
    by None h k = absurd cc
    by (Some x) h k = let same : Some x ≡ o = cc in subst (λ (o : Option (List ℕ)). IfSome o IsFeedless) same (h x refl)

who-read : (text : List ℕ) (who : Who) → who_of text ≡ Some who → IsFeedlessWho who
who-read text who e = by (bytes_eq text (codes "*")) (id_text text) (id-read text) e
  where
    by : (b : Bool) (r : Option (List ℕ)) → ((x : List ℕ) → r ≡ Some x → IsFeedless x) → (if b then Some Star else option_map Named r) ≡ Some who → IsFeedlessWho who
    by true r h k = let same : Star ≡ who = cc in subst IsFeedlessWho same tt
    by false None h k = absurd cc
    by false (Some x) h k = let same : Named x ≡ who = cc in subst IsFeedlessWho same (h x refl)

abbrev id_ : (is_lawful : List ℕ → Bool) → Reads IsFeedless
id_ is_lawful = field_ (filled_spelling itself id_text) is_lawful (filled-read id_text id-read)

abbrev group_name_ : (is_lawful : List ℕ → Bool) → Reads IsFeedless
group_name_ is_lawful = field_ (filled_spelling itself group_text) is_lawful (filled-read group_text group-read)

abbrev superior_ : (is_lawful : Option (List ℕ) → Bool) → Reads (λ (o : Option (List ℕ)). IfSome o IsFeedless)
superior_ is_lawful = field_ (filled_spelling text_or_none (unless_blank group_text)) is_lawful (filled-read (unless_blank group_text) superior-read)

abbrev who_ : (is_lawful : Who → Bool) → Reads IsFeedlessWho
who_ is_lawful = field_ (filled_spelling who_text who_of) is_lawful (filled-read who_of who-read)

-- ---- names of profiles, and of members
abbrev IsFeedlessName : Spelled → Type 0
IsFeedlessName name = IsFeedless name.text

abbrev name_ : (is_length : ℕ → Bool) (value : List ℕ → Option Spelled) (is_lawful : Spelled → Bool) → ((bytes : List ℕ) (name : Spelled) → value bytes ≡ Some name → IsFeedlessName name) → Reads IsFeedlessName
name_ is_length value is_lawful h =
    then_ (λ (name : Spelled). length (spelled_text name)) (any_ (number 2 is_length)) (λ count. field_ (text_spelling spelled_text value count) is_lawful (λ bytes name e so. h bytes name e))

pattern-read : (class bytes : List ℕ) (name : Spelled) → pattern_in class bytes ≡ Some name → IsFeedlessName name
unfolding pattern_in
pattern-read class bytes name e = pattern_name-feedless (kind_in class) bytes name e

member-read : (profile bytes : List ℕ) (name : Spelled) → member_in profile bytes ≡ Some name → IsFeedlessName name
unfolding member_in
member-read profile bytes name e = member_name-feedless (kind_in profile) bytes name e

-- ---- options, groups and users
abbrev AreFeedlessOptions : Options → Type 0
AreFeedlessOptions o = AllByRecursion IsFeedless o.categories

abbrev options_ : Reads AreFeedlessOptions
options_ =
    then_ (λ (o : Options). option_flags o) (any_ (number 1 (below 8))) (λ flags.
    then_ (λ (o : Options). o.categories) (listed_ 2 (at_most most_categories) (λ before. (id_ (is_new before)).form) (λ before. (id_ (is_new before)).only)) (λ names.
    done_ (record { grplist = is_set flags 1; protectall = is_set flags 2; mls = is_set flags 4; categories = names }) (λ named so. named)))

only-options : Only options AreFeedlessOptions
unfolding options
only-options = options_.only

abbrev group_ : (before : List Group) → Reads IsFeedlessGroup
group_ before =
    then_ (λ (g : Group). g.id) (group_name_ (is_new (map (λ (g : Group). g.id) before))) (λ name.
    then_ (λ (g : Group). g.superior) (superior_ (is_superior_of name)) (λ superior.
    then_ (λ (g : Group). g.owner) (id_ any) (λ owner.
    done_ (record { id = name; superior = superior; owner = owner }) (λ of_owner of_superior of_name. record { id = of_name; superior = of_superior; owner = of_owner }))))

only-group : (before : List Group) → Only (group before) IsFeedlessGroup
unfolding group
only-group before = (group_ before).only

abbrev IsFeedlessConnection : Connection → Type 0
IsFeedlessConnection c = IsFeedless c.group

abbrev connection_ : (before : List Connection) → Reads IsFeedlessConnection
connection_ before =
    then_ (λ (c : Connection). c.group) (group_name_ (is_new (map (λ (c : Connection). c.group) before))) (λ name.
    then_ (λ (c : Connection). c.authority) (any_ (ranked authority_rank authorities)) (λ authority.
    then_ (λ (c : Connection). connect_flags c) (any_ (number 1 (below 16))) (λ flags.
    done_ (record { group = name; authority = authority; special = is_set flags 1; operations = is_set flags 2; auditor = is_set flags 4; revoked = is_set flags 8 }) (λ c b of_name. of_name))))

only-connection : (before : List Connection) → Only (connection before) IsFeedlessConnection
unfolding connection
only-connection before = (connection_ before).only

abbrev user_ : (categories : ℕ) (before : List User) → Reads IsFeedlessUser
user_ categories before =
    then_ (λ (u : User). u.id) (id_ (is_new (map (λ (u : User). u.id) before))) (λ name.
    then_ (λ (u : User). u.default_group) (group_name_ any) (λ default_group.
    then_ (λ (u : User). u.owner) (id_ any) (λ owner.
    then_ (λ (u : User). u.name) (any_ (text 1 (at_most 20) itself printable any)) (λ full_name.
    then_ (λ (u : User). u.attributes) (any_ attributes) (λ attributes.
    then_ (λ (u : User). u.level) (any_ (number 1 any)) (λ level.
    then_ (λ (u : User). u.categories) (any_ (defined categories)) (λ set.
    then_ (λ (u : User). u.label) (any_ label) (λ label.
    then_ (λ (u : User). u.classes) (listed_ 1 any (λ before. (id_ (is_new before)).form) (λ before. (id_ (is_new before)).only)) (λ classes.
    then_ (λ (u : User). u.connects) (listed_ 2 (within most_connections most_connections_in_all (connections before)) connection only-connection) (λ connects.
    done_ (record { id = name; default_group = default_group; owner = owner; name = full_name; attributes = attributes; classes = classes; level = level; categories = set; label = label; connects = connects })
    (λ of_connects k j i h g f e of_group of_name. record { id = of_name; default_group = of_group; groups = of_connects })))))))))))

only-user : (categories : ℕ) (before : List User) → Only (user categories before) IsFeedlessUser
unfolding user
only-user categories before = (user_ categories before).only

-- ---- profiles
abbrev entry_ : (before : List Entry) → Reads (λ (e : Entry). IsFeedlessWho e.who)
entry_ before =
    then_ (λ (e : Entry). e.who) (who_ (λ who. is_new (map entry_key before) (who_text who))) (λ who.
    then_ (λ (e : Entry). e.level) (any_ (ranked level_rank levels)) (λ level.
    done_ (record { who = who; level = level }) (λ b of_who. of_who)))

only-entry : (before : List Entry) → Only (entry before) (λ (e : Entry). IsFeedlessWho e.who)
unfolding entry
only-entry before = (entry_ before).only

abbrev cond_entry_ : (before : List CondEntry) → Reads (λ (e : CondEntry). IsFeedless e.condition.name)
cond_entry_ before =
    then_ (λ (e : CondEntry). e.condition.class) (any_ (ranked port_rank port_classes)) (λ class.
    then_ (λ (e : CondEntry). e.condition.name) (id_ any) (λ port.
    then_ (λ (e : CondEntry). e.who) (who_ (λ who. is_new (map cond_entry_key before) (cond_key class port who))) (λ who.
    then_ (λ (e : CondEntry). e.level) (any_ (ranked level_rank levels)) (λ level.
    done_ (record { condition = record { class = class; name = port }; who = who; level = level }) (λ d c of_port a. of_port)))))

only-cond_entry : (before : List CondEntry) → Only (cond_entry before) (λ (e : CondEntry). IsFeedless e.condition.name)
unfolding cond_entry
only-cond_entry before = (cond_entry_ before).only

abbrev access_member_ : (profile : List ℕ) (before : List Member) → Reads IsFeedlessMember
access_member_ profile before =
    then_ resources_of (name_ (λ count. nat_le 1 count && nat_le count (longest (kind_in profile))) (member_in profile) (λ name. is_new_member before name.text) (member-read profile)) (λ resources.
    then_ level_of_member (any_ (ranked level_rank levels)) (λ level.
    done_ (members.Access resources level) (λ b of_name. of_name)))

abbrev level_member_ : (before : List Member) → Reads IsFeedlessMember
level_member_ before =
    then_ member_name (id_ (is_new_member before)) (λ name.
    then_ number_of_member (any_ (number 1 (λ n. nat_le 1 n && nat_le n 254))) (λ number.
    done_ (members.SecurityLevel name number) (λ b of_name. of_name)))

abbrev category_member_ : (names : List (List ℕ)) (before : List Member) → Reads IsFeedlessMember
category_member_ names before =
    then_ member_name (id_ (λ name. is_new_member before name && list_any (λ other. bytes_eq other name) names)) (λ name.
    done_ (members.Category name) (λ of_name. of_name))

abbrev traits_member_ : (before : List Member) → Reads IsFeedlessMember
traits_member_ before =
    then_ trait_flags (any_ (number 1 (λ flags. nat_lt flags 4 && is_new_member before []))) (λ flags.
    then_ longest_of_member (any_ (number 1 (λ n. nat_le 1 n && nat_le n 246))) (λ longest.
    done_ (members.Traits (record { operations = is_set flags 1; ids = is_set flags 2; longest = longest })) (λ b a. tt)))

only-member_of_kind : (names : List (List ℕ)) (profile : List ℕ) (before : List Member) (kind : ℕ) → Only (member_of_kind names profile before kind) IsFeedlessMember
only-member_of_kind names profile before zero = (traits_member_ before).only
only-member_of_kind names profile before (suc zero) = (access_member_ profile before).only
only-member_of_kind names profile before (suc (suc zero)) = (level_member_ before).only
only-member_of_kind names profile before (suc (suc (suc zero))) = (category_member_ names before).only
only-member_of_kind names profile before (suc (suc (suc (suc n)))) = (traits_member_ before).only

abbrev member_ : (names : List (List ℕ)) (class profile : List ℕ) (before : List Member) → Reads IsFeedlessMember
member_ names class profile before =
    then_ member_kind (any_ (number 1 (is_kind_in class profile))) (λ kind.
    record { form = member_of_kind names profile before kind; only = λ bytes x rest e so. only-member_of_kind names profile before kind bytes x rest e })

only-member : (names : List (List ℕ)) (class profile : List ℕ) (before : List Member) → Only (member names class profile before) IsFeedlessMember
unfolding member
only-member names class profile before = (member_ names class profile before).only

abbrev profile_ : (names : List (List ℕ)) (class : List ℕ) (entries : ℕ) (before : List Profile) → Reads IsFeedlessProfile
profile_ names class entries before =
    then_ (λ (p : Profile). p.name) (name_ (λ count. nat_le 1 count && nat_le count (longest (kind_in class))) (pattern_in class) (is_pattern_at class before) (pattern-read class)) (λ name.
    then_ (λ (p : Profile). p.owner) (id_ any) (λ owner.
    then_ (λ (p : Profile). p.uacc) (any_ (ranked level_rank levels)) (λ uacc.
    then_ (λ (p : Profile). p.warning) (any_ (ranked flag_rank (false ∷ true ∷ []))) (λ warning.
    then_ (λ (p : Profile). p.audit.success) (any_ (ranked audit_rank audit_levels)) (λ success.
    then_ (λ (p : Profile). p.audit.failures) (any_ (ranked audit_rank audit_levels)) (λ failures.
    then_ (λ (p : Profile). p.global_audit.success) (any_ (ranked audit_rank audit_levels)) (λ global_success.
    then_ (λ (p : Profile). p.global_audit.failures) (any_ (ranked audit_rank audit_levels)) (λ global_failures.
    then_ (λ (p : Profile). p.level) (any_ (number 1 any)) (λ level.
    then_ (λ (p : Profile). p.categories) (any_ (defined (length names))) (λ set.
    then_ (λ (p : Profile). p.label) (any_ label) (λ label.
    then_ (λ (p : Profile). p.standard) (listed_ 2 (within most_list_entries most_entries_in_all (entries + sum_by entries_in before)) entry only-entry) (λ standard.
    then_ (λ (p : Profile). p.conditional) (listed_ 2 (within most_list_entries most_entries_in_all (entries + sum_by entries_in before + length standard)) cond_entry only-cond_entry) (λ conditional.
    then_ (λ (p : Profile). p.members) (listed_ 2 (is_member_count class) (member names class name.text) (only-member names class name.text)) (λ members.
    done_ (record { name = name; owner = owner; uacc = uacc; warning = warning; standard = standard; conditional = conditional; level = level; categories = set; label = label; audit = record { success = success; failures = failures }; global_audit = record { success = global_success; failures = global_failures }; members = members })
    (λ of_members of_conditional of_standard l k j i h g f e d c of_name. record { name = of_name; standard = of_standard; conditional = of_conditional; members = of_members })))))))))))))))

only-profile : (names : List (List ℕ)) (class : List ℕ) (entries : ℕ) (before : List Profile) → Only (profile names class entries before) IsFeedlessProfile
unfolding profile
only-profile names class entries before = (profile_ names class entries before).only

abbrev class_ : (names : List (List ℕ)) (before : List ClassRow) → Reads AreFeedlessProfiles
class_ names before =
    then_ (λ (c : ClassRow). c.name) (id_ (is_class_at (names_of before))) (λ name.
    then_ (λ (c : ClassRow). class_flags c) (any_ (number 1 (are_class_flags name))) (λ flags.
    then_ (λ (c : ClassRow). c.log) (any_ (ranked log_rank log_options)) (λ log.
    then_ (λ (c : ClassRow). c.profiles) (listed_ 4 (within most_class_profiles most_profiles (profile_count before)) (profile names name (entry_count before)) (only-profile names name (entry_count before))) (λ profiles.
    done_ (record { name = name; active = is_set flags 1; listed = is_set flags 2; global = is_set flags 4; log = log; profiles = profiles }) (λ of_profiles c b a. of_profiles)))))

only-class : (names : List (List ℕ)) (before : List ClassRow) → Only (class names before) AreFeedlessProfiles
unfolding class
only-class names before = (class_ names before).only

-- ---- the whole
abbrev image_ : Reads AreFeedless
image_ =
    then_ (λ (r : Rows). r.options) (record { form = options; only = only-options }) (λ options.
    then_ (λ (r : Rows). r.groups) (listed_ 4 (at_most most_groups) group only-group) (λ groups.
    then_ (λ (r : Rows). r.users) (listed_ 4 (at_most most_users) (user (length options.categories)) (only-user (length options.categories))) (λ users.
    then_ (λ (r : Rows). r.classes) (listed_ 2 is_read_count (class options.categories) (only-class options.categories)) (λ classes.
    done_ (record { users = users; groups = groups; classes = classes; options = options })
    (λ of_classes of_users of_groups of_options. record { users = of_users; groups = of_groups; classes = of_classes; categories = of_options })))))

only-image : Only read_image AreFeedless
unfolding image_by
only-image = image_.only

-- the class CDT is added without a profile
with_cdt-feedless : (b : Bool) (classes : List ClassRow) → AllByRecursion AreFeedlessProfiles classes → AllByRecursion AreFeedlessProfiles (if b then classes ++ added_class cdt ∷ [] else classes)
with_cdt-feedless true classes h = all-push AreFeedlessProfiles classes (added_class cdt) h tt
with_cdt-feedless false classes h = h

completed-feedless : (rows : Rows) → AreFeedless rows → AreFeedless (completed rows)
completed-feedless rows are = record {
  users = are.users;
  groups = are.groups;
  classes = with_cdt-feedless (is_old_count (length rows.classes)) rows.classes are.classes;
  categories = are.categories;
}

-- nothing stands behind the last field, and the facts between fields hold
ended : (rows : Rows) (behind : List ℕ) (x : Rows) → unless_more rows behind ≡ Ok x → rows ≡ x
ended rows [] x e = cc
ended rows (byte ∷ behind) x e = absurd cc

unbroken : (rows : Rows) (broken : Option ℕ) (x : Rows) → unless_broken rows broken ≡ Ok x → rows ≡ x
unbroken rows None x e = cc
unbroken rows (Some place) x e = absurd cc

told : (bytes : List ℕ) (r : Result Rows ℕ) (x : Rows) → from_beginning bytes r ≡ Ok x → r ≡ Ok x
told bytes (Ok y) x e = e
told bytes (Err left) x e = absurd cc

-- the rows that bytes are read as
pub image-feedless : (bytes : List ℕ) (rows : Rows) → rows_of bytes ≡ Ok rows → AreFeedless rows
unfolding rows_of first_pass second_pass
image-feedless bytes rows e =
    let passed = bind_ok (first_pass bytes) second_pass rows e in
    let rest : Rows × List ℕ → Result Rows ℕ = λ read. unless_more (completed read.0) read.1 in
    let read = bind_ok (read_image.reading bytes) rest passed.0 (told bytes (read_image.reading bytes >>= rest) passed.0 passed.1) in
    let same : completed read.0.0 ≡ rows = ended (completed read.0.0) read.0.1 passed.0 read.2 ∙ unbroken passed.0 (first_broken (facts passed.0)) rows passed.2 in
    subst AreFeedless same (completed-feedless read.0.0 (only-image bytes read.0.0 read.0.1 read.1))
