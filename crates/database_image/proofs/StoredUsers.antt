-- The users of rows that an image may hold are lawful.
use Rattle.std.proofs.Common.{◌≡◌, ℕ, ◌+◌, ◌*◌, ◌^◌, ◌<◌, ◌≤◌, Bool, true, false, List, [], ◌∷◌, ◌++◌, length, map, Option, Some, None, Result, Ok, Err, IsSome, is_some, is_ok, refl, sym, ap, subst, ◌∙◌, true≢false, arith, ⊎_elim, append_assoc}
use Rattle.std.specs.Prelude.{not, ◌&&◌, ◌==◌, nat_le, nat_lt, bytes_eq, IsTrue, if◌then◌else◌}
use Rattle.std.specs.List.{AllByRecursion, IsDistinct, list_any, list_all, sum_by}
use Rattle.std.proofs.lemmas.Bool.{and_parts, and_from, cases_lt, leb-true}
use Rattle.std.proofs.lemmas.List.{append-nil}
use Rattle.std.proofs.lemmas.List.Sums.{sum_by_push}
use Rattle.access_levels.specs.Category.{is_member}
use Rattle.access_levels.specs.Spelling.{group_of, unless_bad, bad_group_byte}
use Rattle.access_levels.specs.declared.ids.IdFault.{IdFault}
use Rattle.access_levels.specs.declared.ids.IdFault.TheVariants.{Empty, TooLong}
use Rattle.racf_profiles.specs.declared.groups.Group.{Group}
use Rattle.racf_profiles.specs.declared.users.User.{User}
use Rattle.racf_profiles.specs.declared.users.Connect.{Connect as Connection}
use Rattle.racf_profiles.specs.declared.rows.Rows.{Rows}
use Rattle.racf_profiles.specs.Limits.{most_users, most_connections, most_connections_in_all}
use Rattle.racf_profiles.specs.Lookup.{find_group}
use Rattle.racf_profiles.specs.Names.{connections, connected_to, is_connected_to, is_special_user}
use Rattle.racf_profiles.specs.LawfulUsers.{AreUsers, IsUser, is_printable, is_user_name, is_clauth_class}
use Rattle.database_image.specs.Forms.{Form, ItemsFit}
use Rattle.database_image.specs.Fields.{id, is_new, itself, group_text, front, of_text, text_in, filled}
use Rattle.database_image.specs.Description.{connection, group, user, image_by}
use Rattle.database_image.specs.Facts.{told, first_broken, class_id_width, connect_width, class_id_facts, connect_facts, user_facts, is_there}
use Rattle.database_image.specs.Image.{IsStored}
use Rattle.database_image.proofs.Sets.{not-below}
use Rattle.database_image.proofs.Fitting.{distinct-items}
use Rattle.database_image.proofs.Spellings.{whole_text}
use Rattle.database_image.proofs.BetweenLaws.{classes_told, connects_told}
use Rattle.database_image.proofs.StoredGroups.{both-hold, one-true, each-holds, all-fit, holding}

-- ---- lists whose items keep a limit together
pub sums-within : {A : Type 0} (width : A → ℕ) (base limit : ℕ) (item : List A → Form A) → ((before : List A) (x : A) → (item before).Fits x → base + sum_by width before ≤ limit → base + sum_by width before + width x ≤ limit)
    → (before items : List A) → ItemsFit item before items → base + sum_by width before ≤ limit → base + sum_by width (before ++ items) ≤ limit
sums-within width base limit item h before [] f so_far = subst (λ xs. base + sum_by width xs ≤ limit) (sym (append-nil before)) so_far
sums-within width base limit item h before (x ∷ items) f so_far =
    let more : base + sum_by width (before ++ x ∷ []) ≤ limit = omega (arith, sum_by_push width before x, h before x f.0 so_far) in
    subst (λ xs. base + sum_by width xs ≤ limit) (append_assoc before (x ∷ []) items) (sums-within width base limit item h (before ++ x ∷ []) items f.1 more)

map-same : (names : List (List ℕ)) → map itself names ≡ names
map-same [] = refl
map-same (name ∷ names) = ap (λ rest. name ∷ rest) (map-same names)

new-id : (before : List (List ℕ)) (x : List ℕ) → (id (is_new before)).Fits x → IsTrue (is_new (map itself before) x)
new-id before x f = ap (λ names. is_new names x) (map-same before) ∙ f.1

pub distinct-ids : (names : List (List ℕ)) → ItemsFit (λ before. id (is_new before)) [] names → IsDistinct bytes_eq names
distinct-ids names f = subst (IsDistinct bytes_eq) (map-same names) (distinct-items itself (λ before. id (is_new before)) new-id [] names f)

-- ---- names of groups
abbrev tried : (empty long : Bool) → Option ℕ → List ℕ → Result (List ℕ) IdFault
tried empty long bad text = if empty then Err Empty else (if long then Err TooLong else unless_bad bad text)

tried-ok : (empty long : Bool) (bad : Option ℕ) (text : List ℕ) → is_ok (tried empty long bad text) ≡ true → tried empty long bad text ≡ Ok text
tried-ok true long bad text h = absurd cc
tried-ok false true bad text h = absurd cc
tried-ok false false None text h = refl
tried-ok false false (Some place) text h = absurd cc

spelled_group : (text : List ℕ) → is_ok (group_of text) ≡ true → group_of text ≡ Ok text
spelled_group text h = tried-ok (length text == 0) (nat_lt 8 (length text)) (bad_group_byte text) text h

some_same : (x y : List ℕ) → (if true then Some x else None) ≡ Some y → x ≡ y
some_same x y h = cc

kept-ok : (t x : List ℕ) → group_text t ≡ Some x → is_ok (group_of x) ≡ true
kept-ok t x h = by (is_ok (group_of t)) refl h
  where
    by : (b : Bool) → is_ok (group_of t) ≡ b → (if b then Some t else None) ≡ Some x → is_ok (group_of x) ≡ true
    by true e k = let one : t ≡ x = some_same t x k in ap (λ y. is_ok (group_of y)) (sym one) ∙ e
    by false e k = absurd cc

spelled-back : (x : List ℕ) → of_text group_text (text_in (filled x)) ≡ Some x → group_of x ≡ Ok x
spelled-back x h = spelled_group x (kept-ok (front (filled x)) x (whole_text (bytes_eq (filled (front (filled x))) (filled x)) (filled x) group_text x h).1)

-- ---- one user, from the facts that hold
record UserHolds (rows : Rows) (u : User) : Type 0 where
  no_group : find_group rows.groups u.id ≡ None
  connected : is_connected_to u.default_group u ≡ true
  classes : list_all (is_clauth_class rows) u.classes ≡ true
  there : AllByRecursion (λ (c : Connection). IsSome (find_group rows.groups c.group)) u.connects

not-some : {A : Type 0} (o : Option A) → not (is_some o) ≡ true → o ≡ None
not-some None h = refl
not-some (Some x) h = absurd cc

all-classes : (rows : Rows) (names : List (List ℕ)) → AllByRecursion (λ name. (p : ℕ) × (first_broken (class_id_facts rows p name) ≡ None)) names → list_all (is_clauth_class rows) names ≡ true
all-classes rows [] h = refl
all-classes rows (name ∷ names) h = and_from _ _ (one-true h.0.0 (is_clauth_class rows name) [] h.0.1).0 (all-classes rows names h.1)

all-there : (rows : Rows) (connects : List Connection) → AllByRecursion (λ (c : Connection). (p : ℕ) × (first_broken (connect_facts rows p c) ≡ None)) connects → AllByRecursion (λ (c : Connection). IsSome (find_group rows.groups c.group)) connects
all-there rows [] h = tt
all-there rows (c ∷ connects) h = ((one-true h.0.0 (is_there rows c.group) [] h.0.1).0, all-there rows connects h.1)

user-holds : (rows : Rows) (u : User) (place : ℕ) → first_broken (user_facts rows place u) ≡ None → UserHolds rows u
user-holds rows u place h =
    let names = classes_told rows place u in
    let connects = connects_told rows place u in
    let default = is_there rows u.default_group && is_connected_to u.default_group u in
    let a = one-true place (not (is_there rows u.id)) (told (place + 8) default ∷ (names ++ connects)) h in
    let b = one-true (place + 8) default (names ++ connects) a.1 in
    let c = both-hold names connects b.1 in
    record {
      no_group = not-some (find_group rows.groups u.id) a.0;
      connected = (and_parts (is_there rows u.default_group) (is_connected_to u.default_group u) b.0).1;
      classes = all-classes rows u.classes (each-holds class_id_width (class_id_facts rows) (place + 68 + length u.name) u.classes c.0);
      there = all-there rows u.connects (each-holds connect_width (connect_facts rows) (place + 70 + length u.name + 8 * length u.classes) u.connects c.1);
    }

-- ---- and from the fields
record UserFits (categories : ℕ) (before : List User) (u : User) : Type 0 where
  new : IsTrue (is_new (map (λ (v : User). v.id) before) u.id)
  name : IsTrue (is_user_name u.name)
  set : (n : ℕ) → is_member u.categories n ≡ true → n < categories
  classes : IsDistinct bytes_eq u.classes
  connects : IsDistinct bytes_eq (map (λ (c : Connection). c.group) u.connects)
  few : length u.connects ≤ most_connections
  few_in_all : connections before + length u.connects ≤ most_connections_in_all

printed : (b : Bool) (name x : List ℕ) → (if b then Some name else None) ≡ Some x → b ≡ true
printed true name x h = refl
printed false name x h = absurd cc

pub few-set : (set count : ℕ) → nat_lt set (2 ^ count) ≡ true → (n : ℕ) → is_member set n ≡ true → n < count
few-set set count h n m = ⊎_elim (λ lt. lt) (λ le. absurd (true≢false (sym h ∙ not-below set count n le m))) (cases_lt n count)

new-connection : (before : List Connection) (c : Connection) → (connection before).Fits c → IsTrue (is_new (map (λ (d : Connection). d.group) before) c.group)
unfolding connection
new-connection before c f = f.0.1

user-fits : (categories : ℕ) (before : List User) (u : User) → (user categories before).Fits u → UserFits categories before u
unfolding user
user-fits categories before u f =
    let name = f.1.1.1.0 in
    let classes = f.1.1.1.1.1.1.1.1.0 in
    let connects = f.1.1.1.1.1.1.1.1.1.0 in
    let few = and_parts (nat_le (length u.connects) most_connections) (nat_le (connections before + length u.connects) most_connections_in_all) connects.0.1 in
    record {
      new = f.0.1;
      name = and_from (nat_le (length u.name) 20) (list_all is_printable u.name) name.0.1 (printed (list_all is_printable u.name) u.name u.name name.1.0.back);
      set = few-set u.categories categories f.1.1.1.1.1.1.0.1;
      classes = distinct-ids u.classes classes.1;
      connects = distinct-items (λ (c : Connection). c.group) connection new-connection [] u.connects connects.1;
      few = leb-true _ _ few.0;
      few_in_all = leb-true _ _ few.1;
    }

is-user : (rows : Rows) (before : List User) (u : User) → UserFits (length rows.options.categories) before u → UserHolds rows u → IsUser rows u
is-user rows before u fits holds = record {
  no_group = holds.no_group;
  name = fits.name;
  connections = record { distinct = fits.connects; there = holds.there; default = holds.connected; few = fits.few };
  classes_distinct = fits.classes;
  classes_there = holds.classes;
  categories = fits.set;
}

each-user : (rows : Rows) (before users : List User) → ItemsFit (user (length rows.options.categories)) before users → AllByRecursion (λ u. (p : ℕ) × (first_broken (user_facts rows p u) ≡ None)) users → AllByRecursion (IsUser rows) users
each-user rows before [] f h = tt
each-user rows before (u ∷ users) f h =
    (is-user rows before u (user-fits (length rows.options.categories) before u f.0) (user-holds rows u h.0.0 h.0.1), each-user rows (before ++ u ∷ []) users f.1 h.1)

record UsersFit (rows : Rows) : Type 0 where
  items : ItemsFit (user (length rows.options.categories)) [] rows.users
  few : IsTrue (nat_le (length rows.users) most_users)

users-fit : (rows : Rows) → IsStored rows → UsersFit rows
unfolding image_by
users-fit rows stored = record { items = stored.fields.1.1.0.1; few = stored.fields.1.1.0.0.1 }

module _ (rows : Rows) (stored : IsStored rows) where
  pub lawful-users : AllByRecursion (IsUser rows) rows.users
  lawful-users = each-user rows [] rows.users (users-fit rows stored).items (holding rows stored.between).users

  pub are-users : AreUsers rows.users
  are-users = record {
    distinct = distinct-items (λ (u : User). u.id) (user (length rows.options.categories)) (λ before u f. (user-fits (length rows.options.categories) before u f).new) [] rows.users (users-fit rows stored).items;
    few = leb-true _ _ (users-fit rows stored).few;
  }

  pub few-connections : connections rows.users ≤ most_connections_in_all
  few-connections =
      let one : (before : List User) (u : User) → (user (length rows.options.categories) before).Fits u → 0 + connections before ≤ most_connections_in_all → 0 + connections before + connected_to u ≤ most_connections_in_all = λ before u f so_far. let k = (user-fits (length rows.options.categories) before u f).few_in_all in omega (arith, k) in
      let all = sums-within connected_to 0 most_connections_in_all (user (length rows.options.categories)) one [] rows.users (users-fit rows stored).items (omega arith) in
      omega (arith, all)

  pub some-special : IsTrue (list_any is_special_user rows.users)
  some-special = (holding rows stored.between).special

-- ---- the names of groups
group-spelled : (before : List Group) (g : Group) → (group before).Fits g → group_of g.id ≡ Ok g.id
unfolding group
group-spelled before g f = spelled-back g.id f.0.0.back

pub group-names : (rows : Rows) → IsStored rows → AllByRecursion (λ (g : Group). group_of g.id ≡ Ok g.id) rows.groups
unfolding image_by
group-names rows stored = all-fit (λ (g : Group). group_of g.id ≡ Ok g.id) group group-spelled [] rows.groups stored.fields.1.0.1
