-- The users of lawful rows fit, and their facts hold.
use Rattle.std.proofs.Common.{◌≡◌, ℕ, ◌+◌, ◌*◌, ◌%◌, ◌^◌, ◌<◌, ◌≤◌, Bool, true, false, cond, List, [], ◌∷◌, ◌++◌, length, map, Some, None, is_some, bytes_eq, refl, sym, ap, subst, ◌∙◌, arith, lit<, ⊎_elim, lt-ltb, le-ltb}
use Rattle.std.specs.Prelude.{not, ◌&&◌, ◌||◌, codes, nat_lt, nat_le, find}
use Rattle.std.specs.List.{AllByRecursion, IsDistinct, list_any, list_all}
use Rattle.std.specs.Set.{is_member as is_among}
use Rattle.std.specs.Cmp.Lexicographic.{nat_list_eq_equiv}
use Rattle.std.proofs.Math.Nat.{mod-lt}
use Rattle.std.proofs.lemmas.Bool.{and_parts, and_from, leb-true, or_left, or_right, or_cases, false_from_ne_true, cases_lt}
use Rattle.std.proofs.lemmas.List.Sums.{sum_by-append, sum_by-cons}
use Rattle.std.proofs.lemmas.Map.Made.{length-le_from_is_member}
use Rattle.access_levels.specs.Category.{is_member}
use Rattle.racf_profiles.specs.declared.users.User.{User}
use Rattle.racf_profiles.specs.declared.users.Connect.{Connect}
use Rattle.racf_profiles.specs.declared.class_rows.ClassRow.{ClassRow}
use Rattle.racf_profiles.specs.declared.rows.Rows.{Rows}
use Rattle.racf_profiles.specs.Lookup.{find_group, is_class, class_of}
use Rattle.racf_profiles.specs.Names.{is_to, is_connected_to, is_class_word, connections, connected_to}
use Rattle.racf_profiles.specs.LawfulUsers.{IsUser, is_clauth_class, is_printable}
use Rattle.racf_profiles.specs.LawfulProfiles.{names_of}
use Rattle.racf_profiles.specs.Lawful.{AreLawful}
use Rattle.racf_profiles.proofs.Named.{same, turned}
use Rattle.database_image.specs.Forms.{ItemsFit}
use Rattle.database_image.specs.Description.{attribute_flags, connect_flags, connection, printable, user}
use Rattle.database_image.specs.Facts.{told, told_of_each, first_broken, user_width, class_id_width, connect_width, class_id_facts, connect_facts, user_facts, is_there}
use Rattle.database_image.specs.Spelled.{IsSpelledUser, AreSpelled}
use Rattle.database_image.proofs.Sets.{built, is-below, low-member}
use Rattle.database_image.proofs.Told.{none-first, one-holds}
use Rattle.database_image.proofs.JudgedRows.{flags-attributes, flags-connection, attributes-below, connection-below}
use Rattle.database_image.proofs.FitFields.{spelled-number, at-most, below-limit, spelled-set, spelled-id, spelled-group, spelled-label, spelled-authority, items-fit, new-in, ids-fit}
use Rattle.database_image.proofs.FitGroups.{each-true, all-of, all-both, there-spelled}

-- ---- sets of categories that were defined
no-member : (set count : ℕ) → ((n : ℕ) → is_member set n ≡ true → n < count) → (m : ℕ) → count ≤ m → is_member set m ≡ false
no-member set count h m le = false_from_ne_true (is_member set m) (λ t. absurd (omega (arith, h m t, le)))

pub set-below : (set count : ℕ) → count ≤ 256 → ((n : ℕ) → is_member set n ≡ true → n < count) → (set < 2 ^ 256) × (nat_lt set (2 ^ count) ≡ true)
set-below set count few h =
    let small : set % 2 ^ 256 < 2 ^ 256 = mod-lt set {m = 2 ^ 256} (lit< tt) in
    let members : (m : ℕ) → is_member set m ≡ (nat_lt m 256 && is_member (set % 2 ^ 256) m) = λ m. ⊎_elim
    (λ (low : m < 256). rw (lt-ltb m 256 low) (low-member set m low))
    (λ (high : 256 ≤ m). rw (le-ltb m 256 high) (no-member set count h m (omega (arith, few, high))))
    (cases_lt m 256) in
    let same_set : set ≡ set % 2 ^ 256 = built set (set % 2 ^ 256) small members in
    let bounded : set < 2 ^ 256 = subst (λ (n : ℕ). n < 2 ^ 256) (sym same_set) small in
    (bounded, is-below set count few bounded (λ m le lt. no-member set count h m le))

-- ---- lists all of which pass a test
pub all-pass : {A : Type 0} (p : A → Bool) (items : List A) → list_all p items ≡ true → AllByRecursion (λ x. p x ≡ true) items
all-pass p [] h = tt
all-pass p (x ∷ items) h = let both = and_parts (p x) (list_all p items) h in (both.0, all-pass p items both.1)

passes : (p : List ℕ → Bool) (items : List (List ℕ)) (q : List ℕ) → list_all p items ≡ true → is_among bytes_eq items q ≡ true → p q ≡ true
passes p [] q h m = absurd cc
passes p (x ∷ items) q h m =
    let both = and_parts (p x) (list_all p items) h in
    ⊎_elim (λ t. subst (λ y. p y ≡ true) (sym (same q x t)) both.0) (λ r. passes p items q both.1 r) (or_cases (bytes_eq q x) (is_among bytes_eq items q) m)

among-classes : (classes : List ClassRow) (q : List ℕ) → is_some (find (is_class q) classes) ≡ true → is_among bytes_eq (map (λ (c : ClassRow). c.name) classes) q ≡ true
among-classes [] q h = absurd cc
among-classes (c ∷ classes) q h = by (bytes_eq c.name q) refl (among-classes classes q) h
  where
    by : (b : Bool) → bytes_eq c.name q ≡ b → (is_some (find (is_class q) classes) ≡ true → is_among bytes_eq (map (λ (d : ClassRow). d.name) classes) q ≡ true)
        → is_some (cond b (Some c) (find (is_class q) classes)) ≡ true → (bytes_eq q c.name || is_among bytes_eq (map (λ (d : ClassRow). d.name) classes) q) ≡ true
    by true e more k = or_left (bytes_eq q c.name) _ (turned q c.name ∙ e)
    by false e more k = or_right (bytes_eq q c.name) _ (more k)

module _ (rows : Rows) (lawful : AreLawful rows) (spelled : AreSpelled rows) where
  -- no user has more classes than there are words
  words : (q : List ℕ) → is_clauth_class rows q ≡ true → is_among bytes_eq (codes "USER" ∷ names_of rows.classes) q ≡ true
  words q h =
      let word = (and_parts (is_class_word rows q) _ h).0 in
      ⊎_elim (λ t. or_left (bytes_eq q (codes "USER")) _ t)
      (λ c. or_right (bytes_eq q (codes "USER")) _ (among-classes rows.classes q c))
      (or_cases (bytes_eq q (codes "USER")) (is_some (class_of q rows)) word)

  few-words : (names : List (List ℕ)) → IsDistinct bytes_eq names → list_all (is_clauth_class rows) names ≡ true → length names ≤ 48
  few-words names distinct all =
      let few = length-le_from_is_member nat_list_eq_equiv names (codes "USER" ∷ names_of rows.classes) distinct (λ q m. words q (passes (is_clauth_class rows) names q all m)) in
      omega (arith, few, lawful.classes.names.few)

  -- ---- connections
  connected-there : (group : List ℕ) (cs : List Connect) → list_any (is_to group) cs ≡ true → AllByRecursion (λ (c : Connect). is_some (find_group rows.groups c.group) ≡ true) cs → is_some (find_group rows.groups group) ≡ true
  connected-there group [] h all = absurd cc
  connected-there group (c ∷ cs) h all =
      ⊎_elim (λ t. subst (λ g. is_some (find_group rows.groups g) ≡ true) (same c.group group t) all.0) (λ r. connected-there group cs r all.1) (or_cases (is_to group c) (list_any (is_to group) cs) h)

  connects-fit : (cs : List Connect) → IsDistinct bytes_eq (map (λ (c : Connect). c.group) cs) → AllByRecursion (λ (c : Connect). is_some (find_group rows.groups c.group) ≡ true) cs → ItemsFit connection [] cs
  unfolding connection
  connects-fit cs distinct there = items-fit connection (λ c. is_some (find_group rows.groups c.group) ≡ true) cs one [] cs refl there
    where
      one : (before : List Connect) (c : Connect) (rest : List Connect) → before ++ c ∷ rest ≡ cs → is_some (find_group rows.groups c.group) ≡ true → (connection before).Fits c
      one before c rest e k = (
        (spelled-group c.group (there-spelled rows lawful spelled c.group k), new-in (λ (d : Connect). d.group) before c rest cs e distinct),
        ((spelled-authority c.authority, refl), ((spelled-number 1 (connect_flags c) (omega (arith, connection-below c)), below-limit (connect_flags c) 16 (connection-below c)), flags-connection c)),
      )

  -- ---- a user
  shown : (name : List ℕ) → list_all is_printable name ≡ true → printable name ≡ Some name
  shown name h = rw h refl

  user-fits : (before : List User) (u : User) (rest : List User) → before ++ u ∷ rest ≡ rows.users → IsSpelledUser u × IsUser rows u → (user (length rows.options.categories) before).Fits u
  unfolding user
  user-fits before u rest e k =
      let is = k.1 in
      let s = k.0 in
      let name = and_parts (nat_le (length u.name) 20) (list_all is_printable u.name) is.name in
      let short : length u.name ≤ 20 = leb-true (length u.name) 20 name.0 in
      let set = set-below u.categories (length rows.options.categories) lawful.categories.few is.categories in
      let few : length u.classes ≤ 48 = few-words u.classes is.classes_distinct is.classes_there in
      let sum : connections rows.users ≡ connections before + (length u.connects + connections rest) = ap connections (sym e) ∙ sum_by-append connected_to before (u ∷ rest) ∙ ap (λ n. connections before + n) (sum_by-cons connected_to u rest) in
      let in_all : connections before + length u.connects ≤ 200000 = omega (arith, sum, lawful.few_connections) in
      let default = connected-there u.default_group u.connects is.connections.default is.connections.there in (
        (spelled-id u.id s.id, new-in (λ (v : User). v.id) before u rest rows.users e lawful.users.distinct),
        (
          (spelled-group u.default_group (there-spelled rows lawful spelled u.default_group default), refl),
          (
            (spelled-id u.owner s.owner, refl),
            (
              ((spelled-number 1 (length u.name) (omega (arith, short)), name.0), (record { whole = refl; back = shown u.name name.1 }, refl)),
              (
                ((spelled-number 1 (attribute_flags u.attributes) (omega (arith, attributes-below u.attributes)), below-limit (attribute_flags u.attributes) 64 (attributes-below u.attributes)), flags-attributes u.attributes),
                (
                  (spelled-number 1 u.level s.level, refl),
                  (
                    (spelled-set u.categories set.0, set.1),
                    (
                      (spelled-label u.label s.label, refl),
                      (
                        ((spelled-number 1 (length u.classes) (omega (arith, few)), refl), ids-fit u.classes s.classes is.classes_distinct),
                        (
                          (
                            (spelled-number 2 (length u.connects) (omega (arith, is.connections.few)), and_from _ _ (at-most (length u.connects) 300 is.connections.few) (at-most (connections before + length u.connects) 200000 in_all)),
                            connects-fit u.connects is.connections.distinct is.connections.there,
                          ),
                          refl,
                        ),
                      ),
                    ),
                  ),
                ),
              ),
            ),
          ),
        ),
      )

  pub users-fit : ItemsFit (user (length rows.options.categories)) [] rows.users
  users-fit = items-fit (user (length rows.options.categories)) (λ u. IsSpelledUser u × IsUser rows u) rows.users user-fits [] rows.users refl (all-both IsSpelledUser (IsUser rows) rows.users spelled.users lawful.each_user)

  -- ---- what is told of users
  user-holds : (u : User) → IsUser rows u → (place : ℕ) → first_broken (user_facts rows place u) ≡ None
  user-holds u is place =
      let classes = told_of_each class_id_width (class_id_facts rows) (place + 68 + length u.name) u.classes in
      let connects = told_of_each connect_width (connect_facts rows) (place + 70 + length u.name + 8 * length u.classes) u.connects in
      let default = connected-there u.default_group u.connects is.connections.default is.connections.there in
      one-holds place (not (is_there rows u.id)) (told (place + 8) (is_there rows u.default_group && is_connected_to u.default_group u) ∷ (classes ++ connects)) (ap (λ o. not (is_some o)) is.no_group)
      ∙ one-holds (place + 8) (is_there rows u.default_group && is_connected_to u.default_group u) (classes ++ connects) (and_from _ _ default is.connections.default)
      ∙ none-first classes connects (each-true class_id_width (class_id_facts rows) u.classes (all-of (λ n. is_clauth_class rows n ≡ true) (λ n. (p : ℕ) → first_broken (class_id_facts rows p n) ≡ None) (λ n h p. one-holds p (is_clauth_class rows n) [] h) u.classes (all-pass (is_clauth_class rows) u.classes is.classes_there)) _)
      ∙ each-true connect_width (connect_facts rows) u.connects (all-of (λ c. is_some (find_group rows.groups c.group) ≡ true) (λ c. (p : ℕ) → first_broken (connect_facts rows p c) ≡ None) (λ c h p. one-holds p (is_there rows c.group) [] h) u.connects is.connections.there) _

  pub users-hold : (place : ℕ) → first_broken (told_of_each user_width (user_facts rows) place rows.users) ≡ None
  users-hold place = each-true user_width (user_facts rows) rows.users (all-of (IsUser rows) (λ u. (p : ℕ) → first_broken (user_facts rows p u) ≡ None) user-holds rows.users lawful.each_user) place
