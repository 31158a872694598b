-- The forms of the image are exact.
use Rattle.std.proofs.Common.{◌≡◌, ℕ, zero, suc, ◌+◌, ◌*◌, ◌/◌, ◌%◌, ◌^◌, ◌<◌, Bool, true, false, List, [], ◌∷◌, ◌++◌, length, map, Option, refl, sym, ap, ◌∙◌, arith, ltb-true}
use Rattle.std.proofs.lemmas.Bool.{ne_eqb}
use Rattle.std.specs.Prelude.{nat_lt, nat_le, ◌&&◌, ◌==◌, IsTrue, bytes_eq}
use Rattle.std.specs.List.{list_any, sum_by}
use Rattle.access_levels.specs.Level.{level_rank, levels, authority_rank, authorities, port_classes}
use Rattle.access_levels.specs.declared.entries.Who.{Who}
use Rattle.access_levels.specs.declared.entries.Attributes.{Attributes}
use Rattle.access_levels.specs.declared.entries.Entry.{Entry}
use Rattle.access_levels.specs.declared.entries.CondEntry.{CondEntry}
use Rattle.generic_names.specs.Faults.{longest}
use Rattle.racf_profiles.specs.declared.users.User.{User}
use Rattle.racf_profiles.specs.declared.users.Connect.{Connect}
use Rattle.racf_profiles.specs.declared.groups.Group.{Group}
use Rattle.racf_profiles.specs.declared.options.Options.{Options}
use Rattle.racf_profiles.specs.declared.profiles.Profile.{Profile}
use Rattle.racf_profiles.specs.declared.profiles.Member.{Member}
use Rattle.racf_profiles.specs.declared.profiles.Member.TheVariants as members
use Rattle.racf_profiles.specs.declared.class_rows.ClassRow.{ClassRow}
use Rattle.racf_profiles.specs.declared.rows.Rows.{Rows}
use Rattle.racf_profiles.specs.Names.{connections}
use Rattle.racf_profiles.specs.Counts.{profile_count, entry_count, entries_in}
use Rattle.racf_profiles.specs.Limits.{most_users, most_groups, most_connections, most_connections_in_all, most_class_profiles, most_profiles, most_list_entries, most_entries_in_all, most_categories}
use Rattle.racf_profiles.specs.LawfulProfiles.{kind_in, member_name, names_of}
use Rattle.database_image.specs.Forms.{Form, Spelling, the, followed, done, field, number, number_spelling, listed}
use Rattle.database_image.specs.Fields.{any, below, at_most, id_text, group_text, itself, text_or_none, unless_blank, who_text, who_of, filled_spelling, rank_spelling, set_spelling, text_spelling, bit, is_set, is_new}
use Rattle.database_image.specs.Description.{within, option_flags, options, is_superior_of, group, attribute_flags, attributes_of, attributes, connect_flags, connection, printable, user, spelled_text, pattern_in, member_in, is_pattern_at, audit_rank, audit_levels, flag_rank, entry, entry_key, port_rank, cond_key, cond_entry, cond_entry_key, member_kind, is_kind_in, resources_of, level_of_member, number_of_member, trait_flags, longest_of_member, is_new_member, member_of_kind, member, is_member_count, profile, class_flags, are_class_flags, is_class_at, log_rank, log_options, class, image_by}
use Rattle.database_image.specs.Facts.{group_width, connect_width, user_width, member_width, profile_width, class_width, classes_place}
use Rattle.database_image.proofs.Wide.{IsWide, wide-field, wide-followed, wide-done, wide-listed, same_width}
use Rattle.database_image.proofs.Exact.{IsExact, IsUnique, IsSteady, exact-field, exact-followed, exact-done, exact-listed}
use Rattle.database_image.proofs.Spellings.{IsTextOf, unique-1, unique-2, unique-4, unique-filled, unique-rank, unique-set, unique-text, id-own, group-own, blank-own, who-own, printable-own, pattern-own, member-own}

-- A form, that it is exact, and how many bytes its values have.
record Exact (A : Type 0) : Type 1 where
  form : Form A
  exact : IsExact form
  width : A → ℕ
  wide : IsWide form width

abbrev then_ : {A K : Type 0} (of : A → K) (first : Exact K) (rest : K → Exact A) → ((k : K) (x : A) → first.form.Fits k → (rest k).form.Fits x → of x ≡ k) → Exact A
then_ of first rest pins = record {
  form = followed (the of first.form) (λ k. (rest k).form);
  exact = exact-followed (the of first.form) (λ k. (rest k).form) first.exact (λ k. (rest k).exact) pins;
  width = λ x. first.width (of x) + (rest (of x)).width x;
  wide = wide-followed (the of first.form) (λ k. (rest k).form) first.width (λ k. (rest k).width) first.wide (λ k. (rest k).wide);
}

abbrev done_ : {A : Type 0} → A → Exact A
done_ x = record { form = done x; exact = exact-done x; width = λ y. 0; wide = wide-done x }

abbrev field_ : {A : Type 0} (spelling : Spelling A) (is_lawful : A → Bool) → IsUnique spelling → Exact A
field_ spelling is_lawful unique = record { form = field spelling is_lawful; exact = exact-field spelling is_lawful unique; width = λ x. spelling.width; wide = wide-field spelling is_lawful }

abbrev byte_ : (ℕ → Bool) → Exact ℕ
byte_ is_lawful = field_ (number_spelling 1) is_lawful unique-1

abbrev short_ : (ℕ → Bool) → Exact ℕ
short_ is_lawful = field_ (number_spelling 2) is_lawful unique-2

abbrev id_ : (List ℕ → Bool) → Exact (List ℕ)
id_ is_lawful = field_ (filled_spelling itself id_text) is_lawful (unique-filled itself id_text id-own)

pub exact-id : (is_lawful : List ℕ → Bool) → IsExact (field (filled_spelling itself id_text) is_lawful)
exact-id is_lawful = (id_ is_lawful).exact

abbrev group_name_ : (List ℕ → Bool) → Exact (List ℕ)
group_name_ is_lawful = field_ (filled_spelling itself group_text) is_lawful (unique-filled itself group_text group-own)

abbrev label_ : Exact (Option (List ℕ))
label_ = field_ (filled_spelling text_or_none (unless_blank id_text)) any (unique-filled text_or_none (unless_blank id_text) (blank-own id_text id-own))

abbrev superior_ : (Option (List ℕ) → Bool) → Exact (Option (List ℕ))
superior_ is_lawful = field_ (filled_spelling text_or_none (unless_blank group_text)) is_lawful (unique-filled text_or_none (unless_blank group_text) (blank-own group_text group-own))

abbrev who_ : (Who → Bool) → Exact Who
who_ is_lawful = field_ (filled_spelling who_text who_of) is_lawful (unique-filled who_text who_of who-own)

abbrev ranked_ : {A : Type 0} (rank : A → ℕ) (values : List A) → Exact A
ranked_ rank values = field_ (rank_spelling rank values) any (unique-rank rank values)

abbrev set_ : (ℕ → Bool) → Exact ℕ
set_ is_lawful = field_ set_spelling is_lawful unique-set

abbrev text_ : {A : Type 0} (count : Exact ℕ) (spelled : A → List ℕ) (value : List ℕ → Option A) (is_lawful : A → Bool) → IsTextOf spelled value → Exact A
text_ count spelled value is_lawful own = then_ (λ x. length (spelled x)) count (λ n. field_ (text_spelling spelled value n) is_lawful (unique-text spelled value n own)) (λ n x f h. h.0.whole)

abbrev listed_ : {A : Type 0} (width : ℕ) (is_lawful : ℕ → Bool) (item : List A → Form A) → IsUnique (number_spelling width) → ((before : List A) → IsExact (item before)) → IsSteady item → (item_width : A → ℕ) → ((before : List A) → IsWide (item before) item_width) → Exact (List A)
listed_ width is_lawful item unique exact steady item_width wide = record {
  form = listed width is_lawful item;
  exact = exact-listed width is_lawful item (exact-field (number_spelling width) is_lawful unique) exact steady;
  width = λ items. width + sum_by item_width items;
  wide = wide-listed width is_lawful item item_width steady wide;
}

abbrev ids_ : (width : ℕ) (is_lawful : ℕ → Bool) → IsUnique (number_spelling width) → Exact (List (List ℕ))
ids_ width is_lawful unique = listed_ width is_lawful (λ before. (id_ (is_new before)).form) unique (λ before. (id_ (is_new before)).exact) (λ before x. refl) (λ x. 8) (λ before. (id_ (is_new before)).wide)

-- ---- flags

bit-is : (value m : ℕ) → m < 2 → bit value (m == 1) ≡ value * m
bit-is value zero h = omega arith
bit-is value (suc zero) h = omega arith
bit-is value (suc (suc m)) h = absurd (omega arith)

rest-below : (n : ℕ) → n % 2 < 2
rest-below n = omega arith

flag : (n value : ℕ) → bit value (is_set n value) ≡ value * (n / value % 2)
flag n value = bit-is value (n / value % 2) (rest-below (n / value))

lt-of : (n limit : ℕ) → IsTrue (nat_lt n limit) → n < limit
lt-of n limit h = ltb-true n limit h

flags-2 : (n : ℕ) → n < 4 → bit 1 (is_set n 1) + bit 2 (is_set n 2) ≡ n
flags-2 n h = rw (flag n 1, flag n 2) omega (arith, h)

flags-3 : (n : ℕ) → n < 8 → bit 1 (is_set n 1) + bit 2 (is_set n 2) + bit 4 (is_set n 4) ≡ n
flags-3 n h = rw (flag n 1, flag n 2, flag n 4) omega (arith, h)

flags-4 : (n : ℕ) → n < 16 → bit 1 (is_set n 1) + bit 2 (is_set n 2) + bit 4 (is_set n 4) + bit 8 (is_set n 8) ≡ n
flags-4 n h = rw (flag n 1, flag n 2, flag n 4, flag n 8) omega (arith, h)

flags-6 : (n : ℕ) → n < 64 → bit 1 (is_set n 1) + bit 2 (is_set n 2) + bit 4 (is_set n 4) + bit 8 (is_set n 8) + bit 16 (is_set n 16) + bit 32 (is_set n 32) ≡ n
flags-6 n h = rw (flag n 1, flag n 2, flag n 4, flag n 8, flag n 16, flag n 32) omega (arith, h)

-- ---- options

abbrev options_ : Exact Options
options_ =
    then_ (λ (o : Options). option_flags o) (byte_ (below 8)) (λ flags.
    then_ (λ (o : Options). o.categories) (ids_ 2 (at_most most_categories) unique-2) (λ names.
    done_ (record { grplist = is_set flags 1; protectall = is_set flags 2; mls = is_set flags 4; categories = names }))
    (λ k x f h. ap (λ (o : Options). o.categories) h))
    (λ k x f h. ap (λ (o : Options). option_flags o) h.1 ∙ flags-3 k (lt-of k 8 f.1))

pub exact-options : IsExact (options)
unfolding options
exact-options = (options_).exact

wide-options : IsWide options (λ o. 3 + 8 * length o.categories)
unfolding options
wide-options o f = let k : length (options.bytes o) ≡ (options_).width o = (options_).wide o f in omega (arith, k, same_width 8 o.categories)

-- ---- group

abbrev group_ : (before : List Group) → Exact Group
group_ before =
    then_ (λ (g : Group). g.id) (group_name_ (is_new (map (λ (g : Group). g.id) before))) (λ name.
    then_ (λ (g : Group). g.superior) (superior_ (is_superior_of name)) (λ superior.
    then_ (λ (g : Group). g.owner) (id_ any) (λ owner.
    done_ (record { id = name; superior = superior; owner = owner }))
    (λ k x f h. ap (λ (g : Group). g.owner) h))
    (λ k x f h. ap (λ (g : Group). g.superior) h.1))
    (λ k x f h. ap (λ (g : Group). g.id) h.1.1)

pub exact-group : (before : List Group) → IsExact (group before)
unfolding group
exact-group before = (group_ before).exact

wide-group : (before : List Group) → IsWide (group before) group_width
unfolding group
wide-group before x f = let k : length ((group before).bytes x) ≡ (group_ before).width x = (group_ before).wide x f in omega (arith, k)

-- ---- attributes

abbrev attributes_ : Exact Attributes
attributes_ =
    then_ (attribute_flags) (byte_ (below 64)) (λ flags.
    done_ (attributes_of flags))
    (λ k x f h. ap (attribute_flags) h ∙ flags-6 k (lt-of k 64 f.1))

pub exact-attributes : IsExact (attributes)
exact-attributes = (attributes_).exact

-- ---- connection

abbrev connection_ : (before : List Connect) → Exact Connect
connection_ before =
    then_ (λ (c : Connect). c.group) (group_name_ (is_new (map (λ (c : Connect). c.group) before))) (λ name.
    then_ (λ (c : Connect). c.authority) (ranked_ authority_rank authorities) (λ authority.
    then_ (λ (c : Connect). connect_flags c) (byte_ (below 16)) (λ flags.
    done_ (record { group = name; authority = authority; special = is_set flags 1; operations = is_set flags 2; auditor = is_set flags 4; revoked = is_set flags 8 }))
    (λ k x f h. ap (λ (c : Connect). connect_flags c) h ∙ flags-4 k (lt-of k 16 f.1)))
    (λ k x f h. ap (λ (c : Connect). c.authority) h.1))
    (λ k x f h. ap (λ (c : Connect). c.group) h.1.1)

pub exact-connection : (before : List Connect) → IsExact (connection before)
unfolding connection
exact-connection before = (connection_ before).exact

wide-connection : (before : List Connect) → IsWide (connection before) connect_width
unfolding connection
wide-connection before x f = let k : length ((connection before).bytes x) ≡ (connection_ before).width x = (connection_ before).wide x f in omega (arith, k)

pub steady-group : IsSteady group
unfolding group
steady-group before x = refl

pub steady-connection : IsSteady connection
unfolding connection
steady-connection before x = refl

-- ---- user

abbrev user_ : (categories : ℕ) (before : List User) → Exact User
user_ categories before =
    then_ (λ (u : User). u.id) (id_ (is_new (map (λ (u : User). u.id) before))) (λ name.
    then_ (λ (u : User). u.default_group) (group_name_ any) (λ default_group.
    then_ (λ (u : User). u.owner) (id_ any) (λ owner.
    then_ (λ (u : User). u.name) (text_ (byte_ (at_most 20)) itself printable any printable-own) (λ full_name.
    then_ (λ (u : User). u.attributes) (attributes_) (λ attributes.
    then_ (λ (u : User). u.level) (byte_ any) (λ level.
    then_ (λ (u : User). u.categories) (set_ (below (2 ^ categories))) (λ set.
    then_ (λ (u : User). u.label) (label_) (λ label.
    then_ (λ (u : User). u.classes) (ids_ 1 any unique-1) (λ classes.
    then_ (λ (u : User). u.connects) (listed_ 2 (within most_connections most_connections_in_all (connections before)) connection unique-2 exact-connection steady-connection connect_width wide-connection) (λ connects.
    done_ (record { id = name; default_group = default_group; owner = owner; name = full_name; attributes = attributes; classes = classes; level = level; categories = set; label = label; connects = connects }))
    (λ k x f h. ap (λ (u : User). u.connects) h))
    (λ k x f h. ap (λ (u : User). u.classes) h.1))
    (λ k x f h. ap (λ (u : User). u.label) h.1.1))
    (λ k x f h. ap (λ (u : User). u.categories) h.1.1.1))
    (λ k x f h. ap (λ (u : User). u.level) h.1.1.1.1))
    (λ k x f h. ap (λ (u : User). u.attributes) h.1.1.1.1.1))
    (λ k x f h. ap (λ (u : User). u.name) h.1.1.1.1.1.1))
    (λ k x f h. ap (λ (u : User). u.owner) h.1.1.1.1.1.1.1))
    (λ k x f h. ap (λ (u : User). u.default_group) h.1.1.1.1.1.1.1.1))
    (λ k x f h. ap (λ (u : User). u.id) h.1.1.1.1.1.1.1.1.1)

pub exact-user : (categories : ℕ) (before : List User) → IsExact (user categories before)
unfolding user
exact-user categories before = (user_ categories before).exact

wide-user : (categories : ℕ) (before : List User) → IsWide (user categories before) user_width
unfolding user
wide-user categories before x f = let k : length ((user categories before).bytes x) ≡ (user_ categories before).width x = (user_ categories before).wide x f in omega (arith, k, same_width 8 x.classes, same_width 10 x.connects)

-- ---- entry

abbrev entry_ : (before : List Entry) → Exact Entry
entry_ before =
    then_ (λ (e : Entry). e.who) (who_ (λ who. is_new (map entry_key before) (who_text who))) (λ who.
    then_ (λ (e : Entry). e.level) (ranked_ level_rank levels) (λ level.
    done_ (record { who = who; level = level }))
    (λ k x f h. ap (λ (e : Entry). e.level) h))
    (λ k x f h. ap (λ (e : Entry). e.who) h.1)

pub exact-entry : (before : List Entry) → IsExact (entry before)
unfolding entry
exact-entry before = (entry_ before).exact

wide-entry : (before : List Entry) → IsWide (entry before) (λ x. 9)
unfolding entry
wide-entry before x f = let k : length ((entry before).bytes x) ≡ (entry_ before).width x = (entry_ before).wide x f in omega (arith, k)

-- ---- cond_entry

abbrev cond_entry_ : (before : List CondEntry) → Exact CondEntry
cond_entry_ before =
    then_ (λ (e : CondEntry). e.condition.class) (ranked_ port_rank port_classes) (λ class.
    then_ (λ (e : CondEntry). e.condition.name) (id_ any) (λ port.
    then_ (λ (e : CondEntry). e.who) (who_ (λ who. is_new (map cond_entry_key before) (cond_key class port who))) (λ who.
    then_ (λ (e : CondEntry). e.level) (ranked_ level_rank levels) (λ level.
    done_ (record { condition = record { class = class; name = port }; who = who; level = level }))
    (λ k x f h. ap (λ (e : CondEntry). e.level) h))
    (λ k x f h. ap (λ (e : CondEntry). e.who) h.1))
    (λ k x f h. ap (λ (e : CondEntry). e.condition.name) h.1.1))
    (λ k x f h. ap (λ (e : CondEntry). e.condition.class) h.1.1.1)

pub exact-cond_entry : (before : List CondEntry) → IsExact (cond_entry before)
unfolding cond_entry
exact-cond_entry before = (cond_entry_ before).exact

wide-cond_entry : (before : List CondEntry) → IsWide (cond_entry before) (λ x. 18)
unfolding cond_entry
wide-cond_entry before x f = let k : length ((cond_entry before).bytes x) ≡ (cond_entry_ before).width x = (cond_entry_ before).wide x f in omega (arith, k)

-- ---- members

abbrev access_member_ : (profile : List ℕ) (before : List Member) → Exact Member
access_member_ profile before =
    then_ (resources_of) (text_ (short_ (λ count. nat_le 1 count && nat_le count (longest (kind_in profile)))) spelled_text (member_in profile) (λ name. is_new_member before name.text) (member-own profile)) (λ resources.
    then_ (level_of_member) (ranked_ level_rank levels) (λ level.
    done_ (members.Access resources level))
    (λ k x f h. ap (level_of_member) h))
    (λ k x f h. ap (resources_of) h.1)

abbrev level_member_ : (before : List Member) → Exact Member
level_member_ before =
    then_ (member_name) (id_ (is_new_member before)) (λ name.
    then_ (number_of_member) (byte_ (λ n. nat_le 1 n && nat_le n 254)) (λ number.
    done_ (members.SecurityLevel name number))
    (λ k x f h. ap (number_of_member) h))
    (λ k x f h. ap (member_name) h.1)

abbrev category_member_ : (names : List (List ℕ)) (before : List Member) → Exact Member
category_member_ names before =
    then_ (member_name) (id_ (λ name. is_new_member before name && list_any (λ other. bytes_eq other name) names)) (λ name.
    done_ (members.Category name))
    (λ k x f h. ap (member_name) h)

both-true : (a b : Bool) → IsTrue (a && b) → IsTrue a
both-true true b h = refl
both-true false b h = absurd cc

abbrev are_trait_flags : List Member → ℕ → Bool
are_trait_flags before flags = nat_lt flags 4 && is_new_member before []

traits-below : (before : List Member) (flags : ℕ) → IsTrue (are_trait_flags before flags) → IsTrue (nat_lt flags 4)
traits-below before flags h = both-true (nat_lt flags 4) (is_new_member before []) h

abbrev traits_member_ : (before : List Member) → Exact Member
traits_member_ before =
    then_ (trait_flags) (byte_ (are_trait_flags before)) (λ flags.
    then_ (longest_of_member) (byte_ (λ n. nat_le 1 n && nat_le n 246)) (λ longest.
    done_ (members.Traits (record { operations = is_set flags 1; ids = is_set flags 2; longest = longest })))
    (λ k x f h. ap (longest_of_member) h))
    (λ k x f h. ap (trait_flags) h.1 ∙ flags-2 k (lt-of k 4 (traits-below before k f.1)))

exact-member_of_kind : (names : List (List ℕ)) (profile : List ℕ) (before : List Member) (kind : ℕ) → IsExact (member_of_kind names profile before kind)
exact-member_of_kind names profile before zero = (traits_member_ before).exact
exact-member_of_kind names profile before (suc zero) = (access_member_ profile before).exact
exact-member_of_kind names profile before (suc (suc zero)) = (level_member_ before).exact
exact-member_of_kind names profile before (suc (suc (suc zero))) = (category_member_ names before).exact
exact-member_of_kind names profile before (suc (suc (suc (suc n)))) = (traits_member_ before).exact

kind-far : (class profile : List ℕ) (kind : ℕ) → 4 < kind → is_kind_in class profile kind ≡ false
kind-far class profile kind h = rw (ne_eqb kind 1 (λ e. omega (arith, e, h)), ne_eqb kind 2 (λ e. omega (arith, e, h)), ne_eqb kind 3 (λ e. omega (arith, e, h)), ne_eqb kind 4 (λ e. omega (arith, e, h))) refl

kind-pinned : (names : List (List ℕ)) (class profile : List ℕ) (before : List Member) (kind : ℕ) (x : Member) → IsTrue (is_kind_in class profile kind) → (member_of_kind names profile before kind).Fits x → member_kind x ≡ kind
kind-pinned names class profile before zero x f h = let e : false ≡ true = f in absurd cc
kind-pinned names class profile before (suc zero) x f h = ap member_kind h.1.1
kind-pinned names class profile before (suc (suc zero)) x f h = ap member_kind h.1.1
kind-pinned names class profile before (suc (suc (suc zero))) x f h = ap member_kind h.1
kind-pinned names class profile before (suc (suc (suc (suc zero)))) x f h = ap member_kind h.1.1
kind-pinned names class profile before (suc (suc (suc (suc (suc n))))) x f h = let e : false ≡ true = sym (kind-far class profile (suc (suc (suc (suc (suc n))))) (omega arith)) ∙ f in absurd cc

pub exact-member : (names : List (List ℕ)) (class profile : List ℕ) (before : List Member) → IsExact (member names class profile before)
unfolding member
exact-member names class profile before = exact-followed (the member_kind (number 1 (is_kind_in class profile))) (member_of_kind names profile before) (byte_ (is_kind_in class profile)).exact (exact-member_of_kind names profile before) (λ k x f h. kind-pinned names class profile before k x f.1 h)

behind-kind : (names : List (List ℕ)) (profile : List ℕ) (before : List Member) (x : Member) → (member_of_kind names profile before (member_kind x)).Fits x → suc (length ((member_of_kind names profile before (member_kind x)).bytes x)) ≡ member_width x
behind-kind names profile before (members.Access resources level) f =
    let k = (access_member_ profile before).wide (members.Access resources level) f in omega (arith, k)
behind-kind names profile before (members.SecurityLevel name number) f =
    let k = (level_member_ before).wide (members.SecurityLevel name number) f in omega (arith, k)
behind-kind names profile before (members.Category name) f =
    let k = (category_member_ names before).wide (members.Category name) f in omega (arith, k)
behind-kind names profile before (members.Traits traits) f =
    let k = (traits_member_ before).wide (members.Traits traits) f in omega (arith, k)

wide-member : (names : List (List ℕ)) (class profile : List ℕ) (before : List Member) → IsWide (member names class profile before) member_width
unfolding member
wide-member names class profile before x f = behind-kind names profile before x f.1

pub steady-entry : IsSteady entry
unfolding entry
steady-entry before x = refl

pub steady-cond_entry : IsSteady cond_entry
unfolding cond_entry
steady-cond_entry before x = refl

steady-kind : (names : List (List ℕ)) (profile : List ℕ) (before : List Member) (kind : ℕ) (x : Member) → (member_of_kind names profile before kind).bytes x ≡ (member_of_kind names profile [] kind).bytes x
steady-kind names profile before zero x = refl
steady-kind names profile before (suc zero) x = refl
steady-kind names profile before (suc (suc zero)) x = refl
steady-kind names profile before (suc (suc (suc zero))) x = refl
steady-kind names profile before (suc (suc (suc (suc n)))) x = refl

pub steady-member : (names : List (List ℕ)) (class profile : List ℕ) → IsSteady (member names class profile)
unfolding member
steady-member names class profile before x = ap (λ (bytes : List ℕ). (number 1 (is_kind_in class profile)).bytes (member_kind x) ++ bytes) (steady-kind names profile before (member_kind x) x)

-- ---- profile

abbrev profile_ : (names : List (List ℕ)) (class : List ℕ) (entries : ℕ) (before : List Profile) → Exact Profile
profile_ names class entries before =
    then_ (λ (p : Profile). p.name) (text_ (short_ (λ count. nat_le 1 count && nat_le count (longest (kind_in class)))) spelled_text (pattern_in class) (is_pattern_at class before) (pattern-own class)) (λ name.
    then_ (λ (p : Profile). p.owner) (id_ any) (λ owner.
    then_ (λ (p : Profile). p.uacc) (ranked_ level_rank levels) (λ uacc.
    then_ (λ (p : Profile). p.warning) (ranked_ flag_rank (false ∷ true ∷ [])) (λ warning.
    then_ (λ (p : Profile). p.audit.success) (ranked_ audit_rank audit_levels) (λ success.
    then_ (λ (p : Profile). p.audit.failures) (ranked_ audit_rank audit_levels) (λ failures.
    then_ (λ (p : Profile). p.global_audit.success) (ranked_ audit_rank audit_levels) (λ global_success.
    then_ (λ (p : Profile). p.global_audit.failures) (ranked_ audit_rank audit_levels) (λ global_failures.
    then_ (λ (p : Profile). p.level) (byte_ any) (λ level.
    then_ (λ (p : Profile). p.categories) (set_ (below (2 ^ length names))) (λ set.
    then_ (λ (p : Profile). p.label) (label_) (λ label.
    then_ (λ (p : Profile). p.standard) (listed_ 2 (within most_list_entries most_entries_in_all (entries + sum_by entries_in before)) entry unique-2 exact-entry steady-entry (λ x. 9) wide-entry) (λ standard.
    then_ (λ (p : Profile). p.conditional) (listed_ 2 (within most_list_entries most_entries_in_all (entries + sum_by entries_in before + length standard)) cond_entry unique-2 exact-cond_entry steady-cond_entry (λ x. 18) wide-cond_entry) (λ conditional.
    then_ (λ (p : Profile). p.members) (listed_ 2 (is_member_count class) (member names class name.text) unique-2 (exact-member names class name.text) (steady-member names class name.text) member_width (wide-member names class name.text)) (λ members.
    done_ (record { name = name; owner = owner; uacc = uacc; warning = warning; standard = standard; conditional = conditional; level = level; categories = set; label = label; audit = record { success = success; failures = failures }; global_audit = record { success = global_success; failures = global_failures }; members = members }))
    (λ k x f h. ap (λ (p : Profile). p.members) h))
    (λ k x f h. ap (λ (p : Profile). p.conditional) h.1))
    (λ k x f h. ap (λ (p : Profile). p.standard) h.1.1))
    (λ k x f h. ap (λ (p : Profile). p.label) h.1.1.1))
    (λ k x f h. ap (λ (p : Profile). p.categories) h.1.1.1.1))
    (λ k x f h. ap (λ (p : Profile). p.level) h.1.1.1.1.1))
    (λ k x f h. ap (λ (p : Profile). p.global_audit.failures) h.1.1.1.1.1.1))
    (λ k x f h. ap (λ (p : Profile). p.global_audit.success) h.1.1.1.1.1.1.1))
    (λ k x f h. ap (λ (p : Profile). p.audit.failures) h.1.1.1.1.1.1.1.1))
    (λ k x f h. ap (λ (p : Profile). p.audit.success) h.1.1.1.1.1.1.1.1.1))
    (λ k x f h. ap (λ (p : Profile). p.warning) h.1.1.1.1.1.1.1.1.1.1))
    (λ k x f h. ap (λ (p : Profile). p.uacc) h.1.1.1.1.1.1.1.1.1.1.1))
    (λ k x f h. ap (λ (p : Profile). p.owner) h.1.1.1.1.1.1.1.1.1.1.1.1))
    (λ k x f h. ap (λ (p : Profile). p.name) h.1.1.1.1.1.1.1.1.1.1.1.1.1)

pub exact-profile : (names : List (List ℕ)) (class : List ℕ) (entries : ℕ) (before : List Profile) → IsExact (profile names class entries before)
unfolding profile
exact-profile names class entries before = (profile_ names class entries before).exact

wide-profile : (names : List (List ℕ)) (class : List ℕ) (entries : ℕ) (before : List Profile) → IsWide (profile names class entries before) profile_width
unfolding profile
wide-profile names class entries before x f =
    let k : length ((profile names class entries before).bytes x) ≡ (profile_ names class entries before).width x = (profile_ names class entries before).wide x f in
    omega (arith, k, same_width 9 x.standard, same_width 18 x.conditional)

pub steady-profile : (names : List (List ℕ)) (class : List ℕ) (entries : ℕ) → IsSteady (profile names class entries)
unfolding profile
steady-profile names class entries before x = refl

class-below : (name : List ℕ) (flags : ℕ) → IsTrue (are_class_flags name flags) → IsTrue (nat_lt flags 8)
class-below name flags h = both-true (nat_lt flags 8) _ (both-true _ _ h)

-- ---- class

abbrev class_ : (names : List (List ℕ)) (before : List ClassRow) → Exact ClassRow
class_ names before =
    then_ (λ (c : ClassRow). c.name) (id_ (is_class_at (names_of before))) (λ name.
    then_ (λ (c : ClassRow). class_flags c) (byte_ (are_class_flags name)) (λ flags.
    then_ (λ (c : ClassRow). c.log) (ranked_ log_rank log_options) (λ log.
    then_ (λ (c : ClassRow). c.profiles) (listed_ 4 (within most_class_profiles most_profiles (profile_count before)) (profile names name (entry_count before)) unique-4 (exact-profile names name (entry_count before)) (steady-profile names name (entry_count before)) profile_width (wide-profile names name (entry_count before))) (λ profiles.
    done_ (record { name = name; active = is_set flags 1; listed = is_set flags 2; global = is_set flags 4; log = log; profiles = profiles }))
    (λ k x f h. ap (λ (c : ClassRow). c.profiles) h))
    (λ k x f h. ap (λ (c : ClassRow). c.log) h.1))
    (λ k x f h. ap (λ (c : ClassRow). class_flags c) h.1.1 ∙ flags-3 k (lt-of k 8 (class-below name k f.1))))
    (λ k x f h. ap (λ (c : ClassRow). c.name) h.1.1.1)

pub exact-class : (names : List (List ℕ)) (before : List ClassRow) → IsExact (class names before)
unfolding class
exact-class names before = (class_ names before).exact

wide-class : (names : List (List ℕ)) (before : List ClassRow) → IsWide (class names before) class_width
unfolding class
wide-class names before x f = let k : length ((class names before).bytes x) ≡ (class_ names before).width x = (class_ names before).wide x f in omega (arith, k)

pub steady-user : (categories : ℕ) → IsSteady (user categories)
unfolding user
steady-user categories before x = refl

pub steady-class : (names : List (List ℕ)) → IsSteady (class names)
unfolding class profile
steady-class names before x = refl

abbrev whole_options : Exact Options
whole_options = record { form = options; exact = exact-options; width = λ o. 3 + 8 * length o.categories; wide = wide-options }

-- ---- image

abbrev image_ : (is_count : ℕ → Bool) → Exact Rows
image_ is_count =
    then_ (λ (r : Rows). r.options) (whole_options) (λ options.
    then_ (λ (r : Rows). r.groups) (listed_ 4 (at_most most_groups) group unique-4 exact-group steady-group group_width wide-group) (λ groups.
    then_ (λ (r : Rows). r.users) (listed_ 4 (at_most most_users) (user (length options.categories)) unique-4 (exact-user (length options.categories)) (steady-user (length options.categories)) user_width (wide-user (length options.categories))) (λ users.
    then_ (λ (r : Rows). r.classes) (listed_ 2 is_count (class options.categories) unique-2 (exact-class options.categories) (steady-class options.categories) class_width (wide-class options.categories)) (λ classes.
    done_ (record { users = users; groups = groups; classes = classes; options = options }))
    (λ k x f h. ap (λ (r : Rows). r.classes) h))
    (λ k x f h. ap (λ (r : Rows). r.users) h.1))
    (λ k x f h. ap (λ (r : Rows). r.groups) h.1.1))
    (λ k x f h. ap (λ (r : Rows). r.options) h.1.1.1)

pub exact-image : (is_count : ℕ → Bool) → IsExact (image_by is_count)
unfolding image_by
exact-image is_count = (image_ is_count).exact

-- The whole image has as many bytes as the widths of its parts say, in either layout.
pub wide-image : (is_count : ℕ → Bool) (rows : Rows) → (image_by is_count).Fits rows → length ((image_by is_count).bytes rows) ≡ classes_place rows + sum_by class_width rows.classes
unfolding image_by
wide-image is_count rows f = let k : length ((image_by is_count).bytes rows) ≡ (image_ is_count).width rows = (image_ is_count).wide rows f in omega (arith, k, same_width 24 rows.groups)
