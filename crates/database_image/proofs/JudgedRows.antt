-- The forms of the image judge rows that their types keep.
use Rattle.std.proofs.lemmas.Bool.{and_parts, eqb-true}
use Rattle.std.proofs.Common.{◌≡◌, ◌⊎◌, ⊎_elim, inr, ℕ, zero, suc, ◌+◌, ◌*◌, ◌/◌, ◌%◌, ◌^◌, ◌<◌, ◌≤◌, Bool, true, false, cond, List, [], ◌∷◌, ◌++◌, length, map, Option, Some, None, Ok, refl, sym, ap, subst, ◌∙◌, arith, inl}
use Rattle.std.specs.Prelude.{nat_lt, nat_le, not, ◌&&◌, ◌||◌, ◌==◌, bytes_eq}
use Rattle.std.specs.List.{AllByRecursion, list_any, sum_by}
use Rattle.std.specs.Result.{result_ok}
use Rattle.std.proofs.lemmas.Bool.Decides.{nat_tests}
use Rattle.std.proofs.lemmas.List.{append-nil}
use Rattle.access_levels.specs.Level.{level_rank, levels, authority_rank, authorities, port_classes}
use Rattle.access_levels.specs.declared.levels.Level.{Level}
use Rattle.access_levels.specs.declared.entries.Who.{Who}
use Rattle.access_levels.specs.declared.entries.Attributes.{Attributes}
use Rattle.access_levels.specs.declared.entries.Entry.{Entry}
use Rattle.access_levels.specs.declared.entries.CondEntry.{CondEntry}
use Rattle.generic_names.specs.declared.kind.NameKind.{NameKind}
use Rattle.generic_names.specs.declared.kind.NameKind.TheVariants.{DataSet, General}
use Rattle.generic_names.specs.declared.fault.NameFault.{NameFault}
use Rattle.generic_names.specs.declared.fault.NameFault.TheVariants.{Empty, TooLong}
use Rattle.generic_names.specs.Spelled.{Spelled}
use Rattle.generic_names.specs.Faults.{longest, unless, pattern_of, member_of}
use Rattle.racf_profiles.specs.declared.users.User.{User}
use Rattle.racf_profiles.specs.declared.users.Connect.{Connect}
use Rattle.racf_profiles.specs.declared.groups.Group.{Group}
use Rattle.racf_profiles.specs.declared.options.Options.{Options}
use Rattle.racf_profiles.specs.declared.profiles.Profile.{Profile}
use Rattle.racf_profiles.specs.declared.profiles.ClassTraits.{ClassTraits}
use Rattle.racf_profiles.specs.declared.profiles.Member.{Member}
use Rattle.racf_profiles.specs.declared.profiles.Member.TheVariants as members
use Rattle.racf_profiles.specs.declared.class_rows.ClassRow.{ClassRow}
use Rattle.racf_profiles.specs.declared.rows.Rows.{Rows}
use Rattle.racf_profiles.specs.Names.{connections}
use Rattle.racf_profiles.specs.Counts.{profile_count, entry_count, entries_in}
use Rattle.racf_profiles.specs.Limits.{most_users, most_groups, most_connections, most_connections_in_all, most_class_profiles, most_profiles, most_list_entries, most_entries_in_all, most_categories}
use Rattle.racf_profiles.specs.LawfulProfiles.{kind_in, member_name, names_of, is_of_kind, is_logged_level}
use Rattle.database_image.specs.Forms.{Form, Spelling, IsSpelled, the, field, number, number_spelling, listed}
use Rattle.database_image.specs.Fields.{any, below, at_most, id_text, group_text, itself, text_or_none, unless_blank, who_text, who_of, filled_spelling, rank_spelling, set_spelling, text_spelling, bit, is_set, is_new}
use Rattle.database_image.specs.Description.{within, option_flags, options, is_superior_of, group, attribute_flags, attributes_of, connect_flags, connection, printable, user, spelled_text, pattern_in, member_in, is_pattern_at, audit_rank, audit_levels, flag_rank, entry, entry_key, port_rank, cond_key, cond_entry, cond_entry_key, member_kind, is_kind_in, resources_of, level_of_member, number_of_member, trait_flags, longest_of_member, is_new_member, member_of_kind, member, is_member_count, profile, class_flags, are_class_flags, is_class_at, is_class_count, is_old_count, is_read_count, log_rank, log_options, class, image_by, image, read_image}
use Rattle.database_image.specs.Facts.{Fact, told, told_of_each, first_broken, user_width, member_width, profile_width, class_width, classes_place}
use Rattle.database_image.specs.Misleading.{has_room, tells_classes, is_of_bytes, user_marks, member_marks, profile_marks, class_marks, marks}
use Rattle.database_image.specs.Spelled.{IsId, IsIdOrNone, IsWho, IsPatternName, IsMemberName, IsSpelledGroup, IsSpelledUser, IsSpelledMember, IsSpelledProfile, IsSpelledClass, AreSpelled}
use Rattle.database_image.proofs.Wide.{same_width}
use Rattle.database_image.proofs.Exact.{IsExact, IsUnique, IsSteady}
use Rattle.database_image.proofs.Spellings.{unique-1, unique-2, unique-4, unique-filled, unique-rank, unique-set, unique-text, id-own, group-own, blank-own, who-own, printable-own, pattern-own, member-own}
use Rattle.database_image.proofs.Described.{exact-id, exact-group, exact-connection, exact-user, exact-entry, exact-cond_entry, exact-member, exact-profile, exact-class, steady-group, steady-connection, steady-user, steady-entry, steady-cond_entry, steady-member, steady-profile, steady-class}
use Rattle.database_image.proofs.Judged.{number_read, listed_read, judged-listed_read, IsDecided, IsJudged, Judgement, Judged, judged-as, judged-followed, then_, done_, decided-field, decided-followed, decided-listed, judged-listed, no-marks}
use Rattle.database_image.proofs.Honest.{IsHonest, MayMislead, judged-field, judged-marked, judged-read, honest-number, misleading-count, honest-id, honest-group, honest-label, honest-superior, honest-who, honest-level, honest-authority, honest-port, honest-log, honest-flag, misleading-audit, misleading-set, honest-printable}

-- ---- fields
abbrev Always : {A : Type 0} → A → Type 0
Always x = Unit {0}

abbrev field_ : {A : Type 0} (spelling : Spelling A) (is_lawful : A → Bool) (Kept : A → Type 0) → IsUnique spelling → ((x : A) → Kept x → IsHonest spelling x) → Judged A
field_ spelling is_lawful Kept unique honest = record {
  form = field spelling is_lawful;
  width = λ x. spelling.width;
  Kept = Kept;
  marks = λ begin x. [];
  is = judged-field spelling is_lawful Kept unique honest;
  decided = decided-field spelling is_lawful;
}

abbrev marked_ : {A : Type 0} (spelling : Spelling A) (is_lawful : A → Bool) (Kept : A → Type 0) (test : A → Bool) → IsUnique spelling → MayMislead spelling Kept test → Judged A
marked_ spelling is_lawful Kept test unique may = record {
  form = field spelling is_lawful;
  width = λ x. spelling.width;
  Kept = Kept;
  marks = λ begin x. told begin (test x) ∷ [];
  is = judged-marked spelling is_lawful Kept test unique may;
  decided = decided-field spelling is_lawful;
}

abbrev byte_ : (ℕ → Bool) → Judged ℕ
byte_ is_lawful = field_ (number_spelling 1) is_lawful (λ n. n < 256) unique-1 (honest-number 1)

abbrev short_ : (ℕ → Bool) → Judged ℕ
short_ is_lawful = field_ (number_spelling 2) is_lawful (λ n. n < 65536) unique-2 (honest-number 2)

abbrev count_ : (width : ℕ) → (ℕ → Bool) → IsUnique (number_spelling width) → 0 < width → 0 < 256 ^ width → Judged ℕ
count_ width is_lawful unique some pos = marked_ (number_spelling width) is_lawful (λ n. Unit {0}) (has_room width) unique (misleading-count width some pos)

abbrev id_ : (List ℕ → Bool) → Judged (List ℕ)
id_ is_lawful = field_ (filled_spelling itself id_text) is_lawful IsId (unique-filled itself id_text id-own) honest-id

abbrev group_name_ : (List ℕ → Bool) → Judged (List ℕ)
group_name_ is_lawful = field_ (filled_spelling itself group_text) is_lawful IsId (unique-filled itself group_text group-own) honest-group

abbrev label_ : Judged (Option (List ℕ))
label_ = field_ (filled_spelling text_or_none (unless_blank id_text)) any IsIdOrNone (unique-filled text_or_none (unless_blank id_text) (blank-own id_text id-own)) honest-label

abbrev superior_ : (Option (List ℕ) → Bool) → Judged (Option (List ℕ))
superior_ is_lawful = field_ (filled_spelling text_or_none (unless_blank group_text)) is_lawful IsIdOrNone (unique-filled text_or_none (unless_blank group_text) (blank-own group_text group-own)) honest-superior

abbrev who_ : (Who → Bool) → Judged Who
who_ is_lawful = field_ (filled_spelling who_text who_of) is_lawful IsWho (unique-filled who_text who_of who-own) honest-who

abbrev ranked_ : {A : Type 0} (rank : A → ℕ) (values : List A) → ((x : A) → IsHonest (rank_spelling rank values) x) → Judged A
ranked_ rank values honest = field_ (rank_spelling rank values) any Always (unique-rank rank values) (λ x k. honest x)

abbrev audit_ : Judged (Option Level)
audit_ = marked_ (rank_spelling audit_rank audit_levels) any Always is_logged_level (unique-rank audit_rank audit_levels) misleading-audit

abbrev set_ : (ℕ → Bool) → Judged ℕ
set_ is_lawful = marked_ set_spelling is_lawful Always is_of_bytes unique-set misleading-set

-- ---- lists
abbrev listed_ : {A : Type 0} (width : ℕ) (is_lawful : ℕ → Bool) (item : List A → Form A) (item_width : A → ℕ) (Kept : A → Type 0) (item_marks : ℕ → A → List Fact) → IsUnique (number_spelling width) → 0 < width → 0 < 256 ^ width
    → ((before : List A) → IsExact (item before)) → IsSteady item → ((before : List A) → IsJudged (item before) item_width Kept item_marks) → ((before : List A) → IsDecided (item before)) → Judged (List A)
listed_ width is_lawful item item_width Kept item_marks unique some pos exact steady judged decided = record {
  form = listed width is_lawful item;
  width = λ items. width + sum_by item_width items;
  Kept = λ items. AllByRecursion Kept items;
  marks = λ begin items. told begin (has_room width (length items)) ∷ told_of_each item_width item_marks (begin + width) items;
  is = judged-listed item item_width Kept item_marks steady judged width is_lawful unique exact (count_ width is_lawful unique some pos).is;
  decided = decided-listed width is_lawful item decided;
}

-- of items none of whose fields misleads
abbrev plain_ : {A : Type 0} (width : ℕ) (is_lawful : ℕ → Bool) (item : List A → Form A) (item_width : ℕ) (Kept : A → Type 0) → IsUnique (number_spelling width) → 0 < width → 0 < 256 ^ width
    → ((before : List A) → IsExact (item before)) → IsSteady item → ((before : List A) → IsJudged (item before) (λ x. item_width) Kept (λ begin x. [])) → ((before : List A) → IsDecided (item before)) → Judged (List A)
plain_ width is_lawful item item_width Kept unique some pos exact steady judged decided =
    let whole = listed_ width is_lawful item (λ x. item_width) Kept (λ begin x. []) unique some pos exact steady judged decided in
    record {
      form = listed width is_lawful item;
      width = λ items. width + item_width * length items;
      Kept = λ items. AllByRecursion Kept items;
      marks = λ begin items. told begin (has_room width (length items)) ∷ [];
      is = judged-as whole.form whole.width (λ items. width + item_width * length items) whole.Kept (λ items. AllByRecursion Kept items) whole.marks (λ begin items. told begin (has_room width (length items)) ∷ []) whole.is
          (λ items k. k) (λ items. ap (λ n. width + n) (sym (same_width item_width items))) (λ begin items. ap (λ (m : List Fact). told begin (has_room width (length items)) ∷ m) (sym (no-marks (λ x. item_width) (begin + width) items)));
      decided = whole.decided;
    }

abbrev ids_ : (width : ℕ) (is_lawful : ℕ → Bool) → IsUnique (number_spelling width) → 0 < width → 0 < 256 ^ width → Judged (List (List ℕ))
ids_ width is_lawful unique some pos = plain_ width is_lawful (λ before. (id_ (is_new before)).form) 8 IsId unique some pos (λ before. exact-id (is_new before)) (λ before x. refl) (λ before. (id_ (is_new before)).is) (λ before. (id_ (is_new before)).decided)

-- ---- flags
abbrev digit : Bool → ℕ
digit true = 1
digit false = 0

bit-digit : (value : ℕ) (b : Bool) → bit value b ≡ value * digit b
bit-digit value true = omega arith
bit-digit value false = omega arith

small : (b : Bool) → digit b < 2
small true = omega arith
small false = omega arith

shown : (b : Bool) → (digit b == 1) ≡ b
shown true = refl
shown false = refl

set-of : (n value : ℕ) (b : Bool) → n / value % 2 ≡ digit b → is_set n value ≡ b
set-of n value b h = ap (λ m. m == 1) h ∙ shown b

below-8 : (a b c : Bool) → bit 1 a + bit 2 b + bit 4 c < 256
below-8 a b c = omega (arith, bit-digit 1 a, bit-digit 2 b, bit-digit 4 c, small a, small b, small c)

module _ (a b c : Bool) where
  abbrev three : ℕ
  three = bit 1 a + bit 2 b + bit 4 c

  three-1 : is_set three 1 ≡ a
  three-1 = set-of three 1 a (omega (arith, bit-digit 1 a, bit-digit 2 b, bit-digit 4 c, small a, small b, small c))

  three-2 : is_set three 2 ≡ b
  three-2 = set-of three 2 b (omega (arith, bit-digit 1 a, bit-digit 2 b, bit-digit 4 c, small a, small b, small c))

  three-4 : is_set three 4 ≡ c
  three-4 = set-of three 4 c (omega (arith, bit-digit 1 a, bit-digit 2 b, bit-digit 4 c, small a, small b, small c))

module _ (a b c d : Bool) where
  abbrev four : ℕ
  four = bit 1 a + bit 2 b + bit 4 c + bit 8 d

  four-below : four < 256
  four-below = omega (arith, bit-digit 1 a, bit-digit 2 b, bit-digit 4 c, bit-digit 8 d, small a, small b, small c, small d)

  four-1 : is_set four 1 ≡ a
  four-1 = set-of four 1 a (omega (arith, bit-digit 1 a, bit-digit 2 b, bit-digit 4 c, bit-digit 8 d, small a, small b, small c, small d))

  four-2 : is_set four 2 ≡ b
  four-2 = set-of four 2 b (omega (arith, bit-digit 1 a, bit-digit 2 b, bit-digit 4 c, bit-digit 8 d, small a, small b, small c, small d))

  four-4 : is_set four 4 ≡ c
  four-4 = set-of four 4 c (omega (arith, bit-digit 1 a, bit-digit 2 b, bit-digit 4 c, bit-digit 8 d, small a, small b, small c, small d))

  four-8 : is_set four 8 ≡ d
  four-8 = set-of four 8 d (omega (arith, bit-digit 1 a, bit-digit 2 b, bit-digit 4 c, bit-digit 8 d, small a, small b, small c, small d))

module _ (a b c d e f : Bool) where
  abbrev six : ℕ
  six = bit 1 a + bit 2 b + bit 4 c + bit 8 d + bit 16 e + bit 32 f

  six-below : six < 256
  six-below = omega (arith, bit-digit 1 a, bit-digit 2 b, bit-digit 4 c, bit-digit 8 d, bit-digit 16 e, bit-digit 32 f, small a, small b, small c, small d, small e, small f)

  six-1 : is_set six 1 ≡ a
  six-1 = set-of six 1 a (omega (arith, bit-digit 1 a, bit-digit 2 b, bit-digit 4 c, bit-digit 8 d, bit-digit 16 e, bit-digit 32 f, small a, small b, small c, small d, small e, small f))

  six-2 : is_set six 2 ≡ b
  six-2 = set-of six 2 b (omega (arith, bit-digit 1 a, bit-digit 2 b, bit-digit 4 c, bit-digit 8 d, bit-digit 16 e, bit-digit 32 f, small a, small b, small c, small d, small e, small f))

  six-4 : is_set six 4 ≡ c
  six-4 = set-of six 4 c (omega (arith, bit-digit 1 a, bit-digit 2 b, bit-digit 4 c, bit-digit 8 d, bit-digit 16 e, bit-digit 32 f, small a, small b, small c, small d, small e, small f))

  six-8 : is_set six 8 ≡ d
  six-8 = set-of six 8 d (omega (arith, bit-digit 1 a, bit-digit 2 b, bit-digit 4 c, bit-digit 8 d, bit-digit 16 e, bit-digit 32 f, small a, small b, small c, small d, small e, small f))

  six-16 : is_set six 16 ≡ e
  six-16 = set-of six 16 e (omega (arith, bit-digit 1 a, bit-digit 2 b, bit-digit 4 c, bit-digit 8 d, bit-digit 16 e, bit-digit 32 f, small a, small b, small c, small d, small e, small f))

  six-32 : is_set six 32 ≡ f
  six-32 = set-of six 32 f (omega (arith, bit-digit 1 a, bit-digit 2 b, bit-digit 4 c, bit-digit 8 d, bit-digit 16 e, bit-digit 32 f, small a, small b, small c, small d, small e, small f))

-- ---- options
abbrev options_ : Judged Options
options_ =
    then_ (λ (o : Options). option_flags o) (byte_ (below 8)) (λ flags.
    then_ (λ (o : Options). o.categories) (ids_ 2 (at_most most_categories) unique-2 (omega arith) (omega arith)) (λ names.
    done_ (record { grplist = is_set flags 1; protectall = is_set flags 2; mls = is_set flags 4; categories = names })))

pub options-below : (o : Options) → option_flags o < 8
options-below o = omega (arith, bit-digit 1 o.grplist, bit-digit 2 o.protectall, bit-digit 4 o.mls, small o.grplist, small o.protectall, small o.mls)

pub flags-options : (o : Options) → o ≡ record { grplist = is_set (option_flags o) 1; protectall = is_set (option_flags o) 2; mls = is_set (option_flags o) 4; categories = o.categories }
flags-options o = rw (three-1 o.grplist o.protectall o.mls, three-2 o.grplist o.protectall o.mls, three-4 o.grplist o.protectall o.mls) refl

judged-options : IsJudged options (λ o. 3 + 8 * length o.categories) (λ o. AllByRecursion IsId o.categories) (λ begin o. told (begin + 1) (has_room 2 (length o.categories)) ∷ [])
unfolding options
judged-options = judged-as (options_).form (options_).width (λ o. 3 + 8 * length o.categories) (options_).Kept (λ o. AllByRecursion IsId o.categories) (options_).marks (λ begin o. told (begin + 1) (has_room 2 (length o.categories)) ∷ []) (options_).is
    (λ o k. (below-8 o.grplist o.protectall o.mls, (k, flags-options o))) (λ o. omega arith) (λ begin o. refl)

decided-options : IsDecided options
unfolding options
decided-options = (options_).decided

-- ---- groups
abbrev group_ : (before : List Group) → Judged Group
group_ before =
    then_ (λ (g : Group). g.id) (group_name_ (is_new (map (λ (g : Group). g.id) before))) (λ name.
    then_ (λ (g : Group). g.superior) (superior_ (is_superior_of name)) (λ superior.
    then_ (λ (g : Group). g.owner) (id_ any) (λ owner.
    done_ (record { id = name; superior = superior; owner = owner }))))

judged-group : (before : List Group) → IsJudged (group before) (λ g. 24) IsSpelledGroup (λ begin g. [])
unfolding group
judged-group before = judged-as (group_ before).form (group_ before).width (λ g. 24) (group_ before).Kept IsSpelledGroup (group_ before).marks (λ begin g. []) (group_ before).is
    (λ g k. (k.id, (k.superior, (k.owner, refl)))) (λ g. refl) (λ begin g. refl)

decided-group : (before : List Group) → IsDecided (group before)
unfolding group
decided-group before = (group_ before).decided

-- ---- users
abbrev attributes_ : Judged Attributes
attributes_ =
    then_ (attribute_flags) (byte_ (below 64)) (λ flags.
    done_ (attributes_of flags))

pub attributes-below : (a : Attributes) → attribute_flags a < 64
attributes-below a =
    omega (
      arith,
      bit-digit 1 a.special,
      bit-digit 2 a.operations,
      bit-digit 4 a.auditor,
      bit-digit 8 a.restricted,
      bit-digit 16 a.revoked,
      bit-digit 32 a.uaudit,
      small a.special,
      small a.operations,
      small a.auditor,
      small a.restricted,
      small a.revoked,
      small a.uaudit,
    )

pub flags-attributes : (a : Attributes) → a ≡ attributes_of (attribute_flags a)
flags-attributes a =
    rw (
      six-1 a.special a.operations a.auditor a.restricted a.revoked a.uaudit,
      six-2 a.special a.operations a.auditor a.restricted a.revoked a.uaudit,
      six-4 a.special a.operations a.auditor a.restricted a.revoked a.uaudit,
      six-8 a.special a.operations a.auditor a.restricted a.revoked a.uaudit,
      six-16 a.special a.operations a.auditor a.restricted a.revoked a.uaudit,
      six-32 a.special a.operations a.auditor a.restricted a.revoked a.uaudit,
    ) refl

kept-attributes : (a : Attributes) → (attributes_).Kept a
kept-attributes a = (six-below a.special a.operations a.auditor a.restricted a.revoked a.uaudit, flags-attributes a)

abbrev connection_ : (before : List Connect) → Judged Connect
connection_ before =
    then_ (λ (c : Connect). c.group) (group_name_ (is_new (map (λ (c : Connect). c.group) before))) (λ name.
    then_ (λ (c : Connect). c.authority) (ranked_ authority_rank authorities honest-authority) (λ authority.
    then_ (λ (c : Connect). connect_flags c) (byte_ (below 16)) (λ flags.
    done_ (record { group = name; authority = authority; special = is_set flags 1; operations = is_set flags 2; auditor = is_set flags 4; revoked = is_set flags 8 }))))

pub connection-below : (c : Connect) → connect_flags c < 16
connection-below c = omega (arith, bit-digit 1 c.special, bit-digit 2 c.operations, bit-digit 4 c.auditor, bit-digit 8 c.revoked, small c.special, small c.operations, small c.auditor, small c.revoked)

pub flags-connection : (c : Connect) → c ≡ record { group = c.group; authority = c.authority; special = is_set (connect_flags c) 1; operations = is_set (connect_flags c) 2; auditor = is_set (connect_flags c) 4; revoked = is_set (connect_flags c) 8 }
flags-connection c = rw (four-1 c.special c.operations c.auditor c.revoked, four-2 c.special c.operations c.auditor c.revoked, four-4 c.special c.operations c.auditor c.revoked, four-8 c.special c.operations c.auditor c.revoked) refl

judged-connection : (before : List Connect) → IsJudged (connection before) (λ c. 10) (λ c. IsId c.group) (λ begin c. [])
unfolding connection
judged-connection before = judged-as (connection_ before).form (connection_ before).width (λ c. 10) (connection_ before).Kept (λ c. IsId c.group) (connection_ before).marks (λ begin c. []) (connection_ before).is
    (λ c k. (k, (tt, (four-below c.special c.operations c.auditor c.revoked, flags-connection c)))) (λ c. refl) (λ begin c. refl)

decided-connection : (before : List Connect) → IsDecided (connection before)
unfolding connection
decided-connection before = (connection_ before).decided

abbrev user_name_ : Judged (List ℕ)
user_name_ = then_ (λ (name : List ℕ). length name) (count_ 1 (at_most 20) unique-1 (omega arith) (omega arith)) (λ n. field_ (text_spelling itself printable n) any (λ name. length name ≡ n) (unique-text itself printable n printable-own) (honest-printable n))

abbrev user_ : (categories : ℕ) (before : List User) → Judged User
user_ categories before =
    then_ (λ (u : User). u.id) (id_ (is_new (map (λ (u : User). u.id) before))) (λ name.
    then_ (λ (u : User). u.default_group) (group_name_ any) (λ default_group.
    then_ (λ (u : User). u.owner) (id_ any) (λ owner.
    then_ (λ (u : User). u.name) (user_name_) (λ full_name.
    then_ (λ (u : User). u.attributes) (attributes_) (λ attributes.
    then_ (λ (u : User). u.level) (byte_ any) (λ level.
    then_ (λ (u : User). u.categories) (set_ (below (2 ^ categories))) (λ set.
    then_ (λ (u : User). u.label) (label_) (λ label.
    then_ (λ (u : User). u.classes) (ids_ 1 any unique-1 (omega arith) (omega arith)) (λ classes.
    then_ (λ (u : User). u.connects) (plain_ 2 (within most_connections most_connections_in_all (connections before)) connection 10 (λ c. IsId c.group) unique-2 (omega arith) (omega arith) exact-connection steady-connection judged-connection decided-connection) (λ connects.
    done_ (record { id = name; default_group = default_group; owner = owner; name = full_name; attributes = attributes; classes = classes; level = level; categories = set; label = label; connects = connects })))))))))))

-- facts that are told at the same places
told-same : (a b : ℕ) (holds : Bool) (xs ys : List Fact) → a ≡ b → xs ≡ ys → (told a holds ∷ xs) ≡ (told b holds ∷ ys)
told-same a b holds xs ys e h = rw (e, h) refl

user-marks-same : (begin : ℕ) (u : User) → user_marks begin u ≡ (user_ 0 []).marks begin u
user-marks-same begin u =
    told-same _ (begin + 8 + 8 + 8) (has_room 1 (length u.name)) _ _ (omega arith)
    (told-same _ (begin + 8 + 8 + 8 + (1 + length u.name) + 1 + 1) (is_of_bytes u.categories) _ _ (omega arith)
    (told-same _ (begin + 8 + 8 + 8 + (1 + length u.name) + 1 + 1 + 32 + 8) (has_room 1 (length u.classes)) _ _ (omega arith)
    (told-same _ (begin + 8 + 8 + 8 + (1 + length u.name) + 1 + 1 + 32 + 8 + (1 + 8 * length u.classes)) (has_room 2 (length u.connects)) [] [] (omega arith) refl)))

pub judged-user : (categories : ℕ) (before : List User) → IsJudged (user categories before) user_width IsSpelledUser user_marks
unfolding user
judged-user categories before = judged-as (user_ categories before).form (user_ categories before).width user_width (user_ categories before).Kept IsSpelledUser (user_ categories before).marks user_marks (user_ categories before).is
    (λ u k. (k.id, (k.default_group, (k.owner, ((tt, refl), (kept-attributes u.attributes, (k.level, (tt, (k.label, (k.classes, (k.connects, refl)))))))))))
    (λ u. omega arith) user-marks-same

pub decided-user : (categories : ℕ) (before : List User) → IsDecided (user categories before)
unfolding user
decided-user categories before = (user_ categories before).decided

-- ---- entries
abbrev entry_ : (before : List Entry) → Judged Entry
entry_ before =
    then_ (λ (e : Entry). e.who) (who_ (λ who. is_new (map entry_key before) (who_text who))) (λ who.
    then_ (λ (e : Entry). e.level) (ranked_ level_rank levels honest-level) (λ level.
    done_ (record { who = who; level = level })))

judged-entry : (before : List Entry) → IsJudged (entry before) (λ e. 9) (λ e. IsWho e.who) (λ begin e. [])
unfolding entry
judged-entry before = judged-as (entry_ before).form (entry_ before).width (λ e. 9) (entry_ before).Kept (λ e. IsWho e.who) (entry_ before).marks (λ begin e. []) (entry_ before).is
    (λ e k. (k, (tt, refl))) (λ e. refl) (λ begin e. refl)

decided-entry : (before : List Entry) → IsDecided (entry before)
unfolding entry
decided-entry before = (entry_ before).decided

abbrev cond_entry_ : (before : List CondEntry) → Judged CondEntry
cond_entry_ before =
    then_ (λ (e : CondEntry). e.condition.class) (ranked_ port_rank port_classes honest-port) (λ class.
    then_ (λ (e : CondEntry). e.condition.name) (id_ any) (λ port.
    then_ (λ (e : CondEntry). e.who) (who_ (λ who. is_new (map cond_entry_key before) (cond_key class port who))) (λ who.
    then_ (λ (e : CondEntry). e.level) (ranked_ level_rank levels honest-level) (λ level.
    done_ (record { condition = record { class = class; name = port }; who = who; level = level })))))

abbrev IsKeptCond : CondEntry → Type 0
IsKeptCond e = IsId e.condition.name × IsWho e.who

judged-cond_entry : (before : List CondEntry) → IsJudged (cond_entry before) (λ e. 18) IsKeptCond (λ begin e. [])
unfolding cond_entry
judged-cond_entry before = judged-as (cond_entry_ before).form (cond_entry_ before).width (λ e. 18) (cond_entry_ before).Kept IsKeptCond (cond_entry_ before).marks (λ begin e. []) (cond_entry_ before).is
    (λ e k. (tt, (k.0, (k.1, (tt, refl))))) (λ e. refl) (λ begin e. refl)

decided-cond_entry : (before : List CondEntry) → IsDecided (cond_entry before)
unfolding cond_entry
decided-cond_entry before = (cond_entry_ before).decided

-- ---- names
abbrev pub faulted : (empty long : Bool) → Option NameFault → Option NameFault
faulted empty long rest = cond empty (Some Empty) (cond long (Some TooLong) rest)

pub spelled-size : (empty long : Bool) (rest : Option NameFault) (name x : Spelled) → unless (faulted empty long rest) name ≡ Ok x → (empty ≡ false) × (long ≡ false)
spelled-size true long rest name x h = absurd cc
spelled-size false true rest name x h = absurd cc
spelled-size false false rest name x h = (refl, refl)

not-empty : (n : ℕ) → (n == 0) ≡ false → 0 < n
not-empty n h = grind (arith, nat_tests)

at-most : (n limit : ℕ) → nat_lt limit n ≡ false → n ≤ limit
at-most n limit h = grind (arith, nat_tests)

pub longest-at-most : (kind : NameKind) → longest kind ≤ 246
longest-at-most DataSet = omega arith
longest-at-most General = omega arith

pub record HasSize (text : List ℕ) : Type 0 where
  pub some : 0 < length text
  pub few : length text < 65536

sized : (kind : NameKind) (text : List ℕ) (rest : Option NameFault) (name x : Spelled) → unless (faulted (length text == 0) (nat_lt (longest kind) (length text)) rest) name ≡ Ok x → HasSize text
sized kind text rest name x h =
    let s = spelled-size (length text == 0) (nat_lt (longest kind) (length text)) rest name x h in
    record { some = not-empty (length text) s.0; few = omega (arith, at-most (length text) (longest kind) s.1, longest-at-most kind) }

pub pattern-sized : (name : Spelled) → IsPatternName name → HasSize name.text
pattern-sized name h = sized name.kind name.text _ _ name h

pub member-sized : (name : Spelled) → IsMemberName name → HasSize name.text
member-sized name h = sized name.kind name.text _ _ name h

pub same-kind : (kind other : NameKind) → is_of_kind kind other ≡ true → other ≡ kind
same-kind DataSet DataSet h = refl
same-kind General General h = refl
same-kind DataSet General h = absurd cc
same-kind General DataSet h = absurd cc

one-kind : (kind other : NameKind) → other ≡ kind → is_of_kind kind other ≡ true
one-kind DataSet DataSet h = refl
one-kind General General h = refl
one-kind DataSet General h = absurd cc
one-kind General DataSet h = absurd cc

unless-name : (fault : Option NameFault) (name x : Spelled) → result_ok (unless fault name) ≡ Some x → x ≡ name
unless-name None name x e = cc
unless-name (Some fault) name x e = absurd cc

pub pattern-read : (class : List ℕ) (name : Spelled) → IsPatternName name → name.kind ≡ kind_in class → pattern_in class name.text ≡ Some name
unfolding pattern_in
pattern-read class name h e = ap (λ k. result_ok (pattern_of k name.text)) (sym e) ∙ ap result_ok h

pattern-kind : (class : List ℕ) (name : Spelled) → pattern_in class name.text ≡ Some name → name.kind ≡ kind_in class
unfolding pattern_in
pattern-kind class name h = ap (λ (n : Spelled). n.kind) (unless-name _ (record { kind = kind_in class; text = name.text }) name h)

pub member-read : (profile : List ℕ) (name : Spelled) → IsMemberName name → name.kind ≡ kind_in profile → member_in profile name.text ≡ Some name
unfolding member_in
member-read profile name h e = ap (λ k. result_ok (member_of k name.text)) (sym e) ∙ ap result_ok h

member-kind-read : (profile : List ℕ) (name : Spelled) → member_in profile name.text ≡ Some name → name.kind ≡ kind_in profile
unfolding member_in
member-kind-read profile name h = ap (λ (n : Spelled). n.kind) (unless-name _ (record { kind = kind_in profile; text = name.text }) name h)

other-kind : (kind other : NameKind) → is_of_kind kind other ≡ false → other ≡ kind → ⊥
other-kind kind other h e = let same : true ≡ false = sym (one-kind kind other e) ∙ h in cc

misleading-pattern : (class : List ℕ) (n : ℕ) → MayMislead (text_spelling spelled_text (pattern_in class) n) (λ name. (length name.text ≡ n) × IsPatternName name) (λ name. is_of_kind (kind_in class) name.kind)
misleading-pattern class n = record {
  wide = λ name k. sym k.0;
  some = λ name k. subst (λ m. 0 < m) k.0 (pattern-sized name k.1).some;
  honest = λ name k h. record { whole = k.0; reads = inl (pattern-read class name k.1 (same-kind (kind_in class) name.kind h)) };
  unspelled = λ name k h s. other-kind (kind_in class) name.kind h (pattern-kind class name s.back);
}

misleading-member : (profile : List ℕ) (n : ℕ) → MayMislead (text_spelling spelled_text (member_in profile) n) (λ name. (length name.text ≡ n) × IsMemberName name) (λ name. is_of_kind (kind_in profile) name.kind)
misleading-member profile n = record {
  wide = λ name k. sym k.0;
  some = λ name k. subst (λ m. 0 < m) k.0 (member-sized name k.1).some;
  honest = λ name k h. record { whole = k.0; reads = inl (member-read profile name k.1 (same-kind (kind_in profile) name.kind h)) };
  unspelled = λ name k h s. other-kind (kind_in profile) name.kind h (member-kind-read profile name s.back);
}

-- ---- members
abbrev resources_ : (profile : List ℕ) (before : List Member) → Judged Spelled
resources_ profile before =
    then_ (λ (name : Spelled). length name.text) (short_ (λ count. nat_le 1 count && nat_le count (longest (kind_in profile)))) (λ n.
    marked_ (text_spelling spelled_text (member_in profile) n) (λ name. is_new_member before name.text) (λ name. (length name.text ≡ n) × IsMemberName name) (λ name. is_of_kind (kind_in profile) name.kind) (unique-text spelled_text (member_in profile) n (member-own profile)) (misleading-member profile n))

abbrev access_member_ : (profile : List ℕ) (before : List Member) → Judged Member
access_member_ profile before =
    then_ (resources_of) (resources_ profile before) (λ resources.
    then_ (level_of_member) (ranked_ level_rank levels honest-level) (λ level.
    done_ (members.Access resources level)))

abbrev level_member_ : (before : List Member) → Judged Member
level_member_ before =
    then_ (member_name) (id_ (is_new_member before)) (λ name.
    then_ (number_of_member) (byte_ (λ n. nat_le 1 n && nat_le n 254)) (λ number.
    done_ (members.SecurityLevel name number)))

abbrev category_member_ : (names : List (List ℕ)) (before : List Member) → Judged Member
category_member_ names before =
    then_ (member_name) (id_ (λ name. is_new_member before name && list_any (λ other. bytes_eq other name) names)) (λ name.
    done_ (members.Category name))

abbrev two : (a b : Bool) → ℕ
two a b = bit 1 a + bit 2 b

pub two-below : (a b : Bool) → two a b < 256
two-below a b = omega (arith, bit-digit 1 a, bit-digit 2 b, small a, small b)

two-1 : (a b : Bool) → is_set (two a b) 1 ≡ a
two-1 a b = set-of (two a b) 1 a (omega (arith, bit-digit 1 a, bit-digit 2 b, small a, small b))

two-2 : (a b : Bool) → is_set (two a b) 2 ≡ b
two-2 a b = set-of (two a b) 2 b (omega (arith, bit-digit 1 a, bit-digit 2 b, small a, small b))

pub flags-traits : (t : ClassTraits) → members.Traits t ≡ members.Traits (record { operations = is_set (two t.operations t.ids) 1; ids = is_set (two t.operations t.ids) 2; longest = t.longest })
flags-traits t = rw (two-1 t.operations t.ids, two-2 t.operations t.ids) refl

abbrev traits_member_ : (before : List Member) → Judged Member
traits_member_ before =
    then_ (trait_flags) (byte_ (λ flags. nat_lt flags 4 && is_new_member before [])) (λ flags.
    then_ (longest_of_member) (byte_ (λ n. nat_le 1 n && nat_le n 246)) (λ longest.
    done_ (members.Traits (record { operations = is_set flags 1; ids = is_set flags 2; longest = longest }))))

abbrev member_of_kind_ : (names : List (List ℕ)) (profile : List ℕ) (before : List Member) (kind : ℕ) → Judged Member
member_of_kind_ names profile before zero = traits_member_ before
member_of_kind_ names profile before (suc zero) = access_member_ profile before
member_of_kind_ names profile before (suc (suc zero)) = level_member_ before
member_of_kind_ names profile before (suc (suc (suc zero))) = category_member_ names before
member_of_kind_ names profile before (suc (suc (suc (suc n)))) = traits_member_ before

judged-of-kind : (names : List (List ℕ)) (profile : List ℕ) (before : List Member) (kind : ℕ)
    → IsJudged (member_of_kind names profile before kind) (member_of_kind_ names profile before kind).width (member_of_kind_ names profile before kind).Kept (member_of_kind_ names profile before kind).marks
judged-of-kind names profile before zero = (traits_member_ before).is
judged-of-kind names profile before (suc zero) = (access_member_ profile before).is
judged-of-kind names profile before (suc (suc zero)) = (level_member_ before).is
judged-of-kind names profile before (suc (suc (suc zero))) = (category_member_ names before).is
judged-of-kind names profile before (suc (suc (suc (suc n)))) = (traits_member_ before).is

decided-of-kind : (names : List (List ℕ)) (profile : List ℕ) (before : List Member) (kind : ℕ) → IsDecided (member_of_kind names profile before kind)
decided-of-kind names profile before zero = (traits_member_ before).decided
decided-of-kind names profile before (suc zero) = (access_member_ profile before).decided
decided-of-kind names profile before (suc (suc zero)) = (level_member_ before).decided
decided-of-kind names profile before (suc (suc (suc zero))) = (category_member_ names before).decided
decided-of-kind names profile before (suc (suc (suc (suc n)))) = (traits_member_ before).decided

module _ (names : List (List ℕ)) (class profile : List ℕ) (before : List Member) where
  abbrev any_kind : ℕ → Judged Member
  any_kind kind = member_of_kind_ names profile before kind

  abbrev KeptMember : Member → Type 0
  KeptMember x = (member_kind x < 256) × (any_kind (member_kind x)).Kept x

  kept-member : (x : Member) → IsSpelledMember x → KeptMember x
  kept-member (members.Access resources level) k = (omega arith, (((member-sized resources k).few, (refl, k)), (tt, refl)))
  kept-member (members.SecurityLevel name number) k = (omega arith, (k.0, (k.1, refl)))
  kept-member (members.Category name) k = (omega arith, (k, refl))
  kept-member (members.Traits traits) k = (omega arith, (two-below traits.operations traits.ids, (k, flags-traits traits)))

  width-member : (x : Member) → member_width x ≡ 1 + (any_kind (member_kind x)).width x
  width-member (members.Access resources level) = omega arith
  width-member (members.SecurityLevel name number) = refl
  width-member (members.Category name) = refl
  width-member (members.Traits traits) = refl

  marks-member : (begin : ℕ) (x : Member) → member_marks (kind_in profile) begin x ≡ (any_kind (member_kind x)).marks (begin + 1) x
  marks-member begin (members.Access resources level) = told-same _ (begin + 1 + 2) (is_of_kind (kind_in profile) resources.kind) [] [] (omega arith) refl
  marks-member begin (members.SecurityLevel name number) = refl
  marks-member begin (members.Category name) = refl
  marks-member begin (members.Traits traits) = refl

  pub judged-member : IsJudged (member names class profile before) member_width IsSpelledMember (member_marks (kind_in profile))
  unfolding member
  judged-member = judged-as (member names class profile before) (λ x. 1 + (any_kind (member_kind x)).width x) member_width KeptMember IsSpelledMember (λ begin x. (any_kind (member_kind x)).marks (begin + 1) x) (member_marks (kind_in profile))
      (judged-followed (the member_kind (number 1 (is_kind_in class profile))) (member_of_kind names profile before) (λ n. 1) (λ kind. (any_kind kind).width) (λ n. n < 256) (λ kind. (any_kind kind).Kept) (λ begin n. []) (λ kind. (any_kind kind).marks)
      (byte_ (is_kind_in class profile)).is (judged-of-kind names profile before))
      kept-member width-member marks-member

  pub decided-member : IsDecided (member names class profile before)
  unfolding member
  decided-member = decided-followed (the member_kind (number 1 (is_kind_in class profile))) (member_of_kind names profile before) (byte_ (is_kind_in class profile)).decided (decided-of-kind names profile before)

-- ---- profiles
abbrev pattern_ : (class : List ℕ) (before : List Profile) → Judged Spelled
pattern_ class before =
    then_ (λ (name : Spelled). length name.text) (short_ (λ count. nat_le 1 count && nat_le count (longest (kind_in class)))) (λ n.
    marked_ (text_spelling spelled_text (pattern_in class) n) (is_pattern_at class before) (λ name. (length name.text ≡ n) × IsPatternName name) (λ name. is_of_kind (kind_in class) name.kind) (unique-text spelled_text (pattern_in class) n (pattern-own class)) (misleading-pattern class n))

abbrev profile_ : (names : List (List ℕ)) (class : List ℕ) (entries : ℕ) (before : List Profile) → Judged Profile
profile_ names class entries before =
    then_ (λ (p : Profile). p.name) (pattern_ class before) (λ name.
    then_ (λ (p : Profile). p.owner) (id_ any) (λ owner.
    then_ (λ (p : Profile). p.uacc) (ranked_ level_rank levels honest-level) (λ uacc.
    then_ (λ (p : Profile). p.warning) (ranked_ flag_rank (false ∷ true ∷ []) honest-flag) (λ warning.
    then_ (λ (p : Profile). p.audit.success) (audit_) (λ success.
    then_ (λ (p : Profile). p.audit.failures) (audit_) (λ failures.
    then_ (λ (p : Profile). p.global_audit.success) (audit_) (λ global_success.
    then_ (λ (p : Profile). p.global_audit.failures) (audit_) (λ global_failures.
    then_ (λ (p : Profile). p.level) (byte_ any) (λ level.
    then_ (λ (p : Profile). p.categories) (set_ (below (2 ^ length names))) (λ set.
    then_ (λ (p : Profile). p.label) (label_) (λ label.
    then_ (λ (p : Profile). p.standard) (plain_ 2 (within most_list_entries most_entries_in_all (entries + sum_by entries_in before)) entry 9 (λ e. IsWho e.who) unique-2 (omega arith) (omega arith) exact-entry steady-entry judged-entry decided-entry) (λ standard.
    then_ (λ (p : Profile). p.conditional) (plain_ 2 (within most_list_entries most_entries_in_all (entries + sum_by entries_in before + length standard)) cond_entry 18 IsKeptCond unique-2 (omega arith) (omega arith) exact-cond_entry steady-cond_entry judged-cond_entry decided-cond_entry) (λ conditional.
    then_ (λ (p : Profile). p.members) (listed_ 2 (is_member_count class) (member names class name.text) member_width IsSpelledMember (member_marks (kind_in name.text)) unique-2 (omega arith) (omega arith) (exact-member names class name.text) (steady-member names class name.text) (judged-member names class name.text) (decided-member names class name.text)) (λ members.
    done_ (record { name = name; owner = owner; uacc = uacc; warning = warning; standard = standard; conditional = conditional; level = level; categories = set; label = label; audit = record { success = success; failures = failures }; global_audit = record { success = global_success; failures = global_failures }; members = members })))))))))))))))

each-further : {A : Type 0} (width : A → ℕ) (item_marks : ℕ → A → List Fact) (m n : ℕ) (items : List A) → m ≡ n → told_of_each width item_marks m items ≡ told_of_each width item_marks n items ++ []
each-further width item_marks m n items e = ap (λ i. told_of_each width item_marks i items) e ∙ sym (append-nil (told_of_each width item_marks n items))

module _ (class : List ℕ) (begin : ℕ) (p : Profile) where
  abbrev behind_name : ℕ
  behind_name = begin + (2 + length p.name.text) + 8 + 1 + 1

  abbrev lists : ℕ
  lists = behind_name + 1 + 1 + 1 + 1 + 1 + 32 + 8

  abbrev members_at : ℕ
  members_at = lists + (2 + 9 * length p.standard) + (2 + 18 * length p.conditional)

  profile-marks-same : profile_marks (kind_in class) begin p ≡ (profile_ [] class 0 []).marks begin p
  profile-marks-same =
      told-same _ (begin + 2) (is_of_kind (kind_in class) p.name.kind) _ _ refl
      (told-same _ behind_name (is_logged_level p.audit.success) _ _ (omega arith)
      (told-same _ (behind_name + 1) (is_logged_level p.audit.failures) _ _ (omega arith)
      (told-same _ (behind_name + 1 + 1) (is_logged_level p.global_audit.success) _ _ (omega arith)
      (told-same _ (behind_name + 1 + 1 + 1) (is_logged_level p.global_audit.failures) _ _ (omega arith)
      (told-same _ (behind_name + 1 + 1 + 1 + 1 + 1) (is_of_bytes p.categories) _ _ (omega arith)
      (told-same _ lists (has_room 2 (length p.standard)) _ _ (omega arith)
      (told-same _ (lists + (2 + 9 * length p.standard)) (has_room 2 (length p.conditional)) _ _ (omega arith)
      (told-same _ members_at (has_room 2 (length p.members)) _ _ (omega arith)
      (each-further member_width (member_marks (kind_in p.name.text)) _ (members_at + 2) p.members (omega arith))))))))))

pub judged-profile : (names : List (List ℕ)) (class : List ℕ) (entries : ℕ) (before : List Profile) → IsJudged (profile names class entries before) profile_width IsSpelledProfile (profile_marks (kind_in class))
unfolding profile
judged-profile names class entries before = judged-as (profile_ names class entries before).form (profile_ names class entries before).width profile_width (profile_ names class entries before).Kept IsSpelledProfile (profile_ names class entries before).marks (profile_marks (kind_in class)) (profile_ names class entries before).is
    (λ p k. (((pattern-sized p.name k.name).few, (refl, k.name)), (k.owner, (tt, (tt, (tt, (tt, (tt, (tt, (k.level, (tt, (k.label, (k.standard, (k.conditional, (k.members, refl)))))))))))))))
    (λ p. omega arith) (profile-marks-same class)

pub decided-profile : (names : List (List ℕ)) (class : List ℕ) (entries : ℕ) (before : List Profile) → IsDecided (profile names class entries before)
unfolding profile
decided-profile names class entries before = (profile_ names class entries before).decided

-- ---- classes
pub class-below : (c : ClassRow) → class_flags c < 8
class-below c = omega (arith, bit-digit 1 c.active, bit-digit 2 c.listed, bit-digit 4 c.global, small c.active, small c.listed, small c.global)

pub class-set-1 : (c : ClassRow) → is_set (class_flags c) 1 ≡ c.active
class-set-1 c = three-1 c.active c.listed c.global

pub class-set-2 : (c : ClassRow) → is_set (class_flags c) 2 ≡ c.listed
class-set-2 c = three-2 c.active c.listed c.global

pub flags-class : (c : ClassRow) → c ≡ record { name = c.name; active = is_set (class_flags c) 1; listed = is_set (class_flags c) 2; global = is_set (class_flags c) 4; log = c.log; profiles = c.profiles }
flags-class c = rw (three-1 c.active c.listed c.global, three-2 c.active c.listed c.global, three-4 c.active c.listed c.global) refl

abbrev class_ : (names : List (List ℕ)) (before : List ClassRow) → Judged ClassRow
class_ names before =
    then_ (λ (c : ClassRow). c.name) (id_ (is_class_at (names_of before))) (λ name.
    then_ (λ (c : ClassRow). class_flags c) (byte_ (are_class_flags name)) (λ flags.
    then_ (λ (c : ClassRow). c.log) (ranked_ log_rank log_options honest-log) (λ log.
    then_ (λ (c : ClassRow). c.profiles) (listed_ 4 (within most_class_profiles most_profiles (profile_count before)) (profile names name (entry_count before)) profile_width IsSpelledProfile (profile_marks (kind_in name)) unique-4 (omega arith) (omega arith)
    (exact-profile names name (entry_count before)) (steady-profile names name (entry_count before)) (judged-profile names name (entry_count before)) (decided-profile names name (entry_count before))) (λ profiles.
    done_ (record { name = name; active = is_set flags 1; listed = is_set flags 2; global = is_set flags 4; log = log; profiles = profiles })))))

class-marks-same : (begin : ℕ) (c : ClassRow) → class_marks begin c ≡ (class_ [] []).marks begin c
class-marks-same begin c =
    told-same _ (begin + 8 + 1 + 1) (has_room 4 (length c.profiles)) _ _ (omega arith)
    (each-further profile_width (profile_marks (kind_in c.name)) _ (begin + 8 + 1 + 1 + 4) c.profiles (omega arith))

judged-class : (names : List (List ℕ)) (before : List ClassRow) → IsJudged (class names before) class_width IsSpelledClass class_marks
unfolding class
judged-class names before = judged-as (class_ names before).form (class_ names before).width class_width (class_ names before).Kept IsSpelledClass (class_ names before).marks class_marks (class_ names before).is
    (λ c k. (k.name, (below-8 c.active c.listed c.global, (tt, (k.profiles, flags-class c))))) (λ c. omega arith) class-marks-same

decided-class : (names : List (List ℕ)) (before : List ClassRow) → IsDecided (class names before)
unfolding class
decided-class names before = (class_ names before).decided

-- ---- the whole
abbrev whole_options : Judged Options
whole_options = record { form = options; width = λ o. 3 + 8 * length o.categories; Kept = λ o. AllByRecursion IsId o.categories; marks = λ begin o. told (begin + 1) (has_room 2 (length o.categories)) ∷ []; is = judged-options; decided = decided-options }

or-last : (old new : Bool) → new ≡ true → (old || new) ≡ true
or-last true new h = refl
or-last false new h = h

or-none : (old new : Bool) → old ≡ false → (old || new) ≡ new
or-none true new h = absurd cc
or-none false new h = refl

not-true : (b : Bool) → not b ≡ true → b ≡ false
not-true true h = absurd cc
not-true false h = refl

either-false : (a b : Bool) → (a && not b) ≡ false → (a ≡ false) ⊎ (b ≡ true)
either-false false b h = inl refl
either-false true true h = inr refl
either-false true false h = absurd cc

old-count : (n : ℕ) → is_old_count n ≡ true → is_class_count n ≡ true → ⊥
old-count n h k = let at : n ≡ 14 = eqb-true n 14 h in let no : false ≡ true = ap is_class_count (sym at) ∙ k in absurd cc

unfit-count : (n : ℕ) → tells_classes n ≡ false → IsSpelled (number_spelling 2) n → is_class_count n ≡ true → ⊥
unfit-count n h s k = ⊎_elim (λ full. (misleading-count 2 (omega arith) (omega arith)).unspelled n tt full s) (λ old. old-count n old k) (either-false (has_room 2 n) (is_old_count n) h)

judged-count : IsJudged (number_read 2 is_class_count is_read_count) (λ n. 2) (λ n. Unit {0}) (λ begin n. told begin (tells_classes n) ∷ [])
judged-count =
    judged-read 2 is_class_count is_read_count tells_classes unique-2 (omega arith) (omega arith)
    (λ n h. or-last (is_old_count n) (is_class_count n) h)
    (λ n h. or-none (is_old_count n) (is_class_count n) (not-true (is_old_count n) (and_parts (has_room 2 n) (not (is_old_count n)) h).1))
    (λ n h. (misleading-count 2 (omega arith) (omega arith)).honest n tt (and_parts (has_room 2 n) (not (is_old_count n)) h).0)
    unfit-count

-- the classes, of which one fewer are read
abbrev classes_ : (names : List (List ℕ)) → Judged (List ClassRow)
classes_ names = record {
  form = listed_read 2 is_class_count is_read_count (class names);
  width = λ items. 2 + sum_by class_width items;
  Kept = λ items. AllByRecursion IsSpelledClass items;
  marks = λ begin items. told begin (tells_classes (length items)) ∷ told_of_each class_width class_marks (begin + 2) items;
  is = judged-listed_read (class names) class_width IsSpelledClass class_marks (steady-class names) (judged-class names) 2 is_class_count is_read_count tells_classes unique-2 (exact-class names) (λ n h. or-last (is_old_count n) (is_class_count n) h) judged-count;
  decided = record { apart = (decided-listed 2 is_class_count (class names) (decided-class names)).apart; one = (decided-listed 2 is_class_count (class names) (decided-class names)).one };
}

abbrev image_ : Judged Rows
image_ =
    then_ (λ (r : Rows). r.options) (whole_options) (λ options.
    then_ (λ (r : Rows). r.groups) (plain_ 4 (at_most most_groups) group 24 IsSpelledGroup unique-4 (omega arith) (omega arith) exact-group steady-group judged-group decided-group) (λ groups.
    then_ (λ (r : Rows). r.users) (listed_ 4 (at_most most_users) (user (length options.categories)) user_width IsSpelledUser user_marks unique-4 (omega arith) (omega arith)
    (exact-user (length options.categories)) (steady-user (length options.categories)) (judged-user (length options.categories)) (decided-user (length options.categories))) (λ users.
    then_ (λ (r : Rows). r.classes) (classes_ options.categories) (λ classes.
    done_ (record { users = users; groups = groups; classes = classes; options = options })))))

module _ (rows : Rows) where
  abbrev groups_at : ℕ
  groups_at = 0 + (3 + 8 * length rows.options.categories)

  abbrev users_at : ℕ
  users_at = groups_at + (4 + 24 * length rows.groups)

  abbrev classes_at : ℕ
  classes_at = users_at + (4 + sum_by user_width rows.users)

  behind-users : (m n : ℕ) (us us' cs cs' : List Fact) → m ≡ n → us ≡ us' → cs ≡ cs' → us ++ (told m (tells_classes (length rows.classes)) ∷ cs) ≡ us' ++ (told n (tells_classes (length rows.classes)) ∷ cs')
  behind-users m n us us' cs cs' e f g = rw (e, f, g) refl

  marks-same : marks rows ≡ (image_).marks 0 rows
  marks-same =
      told-same 1 (0 + 1) (has_room 2 (length rows.options.categories)) _ _ (omega arith)
      (told-same _ groups_at (has_room 4 (length rows.groups)) _ _ (omega arith)
      (told-same _ users_at (has_room 4 (length rows.users)) _ _ (omega arith)
      (behind-users _ classes_at _ (told_of_each user_width user_marks (users_at + 4) rows.users) _ (told_of_each class_width class_marks (classes_at + 2) rows.classes ++ []) (omega arith)
      (ap (λ n. told_of_each user_width user_marks n rows.users) (omega arith))
      (each-further class_width class_marks _ (classes_at + 2) rows.classes (omega arith)))))

  module _ (spelled : AreSpelled rows) where
    kept-rows : (image_).Kept rows
    kept-rows = (spelled.categories, (spelled.groups, (spelled.users, (spelled.classes, refl))))

    pub wide-rows : classes_place rows + sum_by class_width rows.classes ≡ length (image.bytes rows)
    unfolding image_by
    wide-rows = let w : (image_).width rows ≡ length (image.bytes rows) = (image_).is.wide rows kept-rows in omega (arith, w)

    pub judged-rows : Judgement (image.Fits rows) (image.FaultAt rows) (image.bytes rows) read_image.reading 0 (first_broken (marks rows))
    unfolding image_by
    judged-rows = subst (λ (m : List Fact). Judgement (image.Fits rows) (image.FaultAt rows) (image.bytes rows) read_image.reading 0 (first_broken m)) (sym marks-same) ((image_).is.judged rows kept-rows 0)

pub decided-image : IsDecided image
unfolding image_by
decided-image = record { apart = (image_).decided.apart; one = (image_).decided.one }
