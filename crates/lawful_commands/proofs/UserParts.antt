-- The parts of a user after a command: his classes, his categories and his connections.
use Rattle.std.proofs.Common.{◌≡◌, ℕ, ◌<◌, eqb, Bool, true, false, cond, ◌||◌, ◌&&◌, not, List, [], ◌∷◌, ◌++◌, length, map, Option, None, Some, bytes_eq, refl, sym, ap, subst, ◌∙◌, true≢false, fold}
use Rattle.std.specs.List.{AllByRecursion, IsDistinct, list_any, list_all}
use Rattle.std.specs.Option.{option_map_or}
use Rattle.std.proofs.lemmas.Bool.{eqb-true}
use Rattle.std.proofs.lemmas.List.Quantifiers.{position-Some}
use Rattle.access_levels.specs.Category.{is_member, including, excluding}
use Rattle.access_levels.proofs.Bits.{is_member-including, is_member-excluding}
use Rattle.racf_profiles.specs.declared.users.Connect.{Connect as Connection}
use Rattle.racf_profiles.specs.declared.rows.Rows.{Rows}
use Rattle.racf_profiles.specs.Names.{is_to}
use Rattle.racf_profiles.specs.Edits.{drop_row}
use Rattle.racf_profiles.specs.LawfulUsers.{AreDefined}
use Rattle.command_fields.specs.declared.fields.Connect.{Connect}
use Rattle.command_rules.specs.Security.{category_number, with_category, without_category}
use Rattle.command_rules.specs.UserEffects.{with_class, without_classes, connects_after, altered_connection}
use Rattle.group_tree.proofs.Rows.{same, itself}
use Rattle.lawful_commands.proofs.RowLists.{all-map, all-unmap, none-any, all_pass-push, map-itself, distinct-push, distinct-filter}

-- ---- classes
module _ (passes : List ℕ → Bool) where
  pub passes-with_classes : (names classes : List (List ℕ)) → list_all passes classes ≡ true → AllByRecursion (λ name. passes name ≡ true) names → list_all passes (fold with_class classes names) ≡ true
  passes-with_classes [] classes h all = h
  passes-with_classes (name ∷ names) classes h all = passes-with_classes names (with_class classes name) (by (list_any (λ other. bytes_eq other name) classes)) all.1
    where
      by : (b : Bool) → list_all passes (cond b classes (classes ++ name ∷ [])) ≡ true
      by true = h
      by false = all_pass-push passes classes name h all.0

pub distinct-with_class : (name : List ℕ) (names : List (List ℕ)) → IsDistinct bytes_eq names → IsDistinct bytes_eq (with_class names name)
distinct-with_class name names d = by (list_any (λ other. bytes_eq other name) names) refl
  where
    by : (b : Bool) → list_any (λ other. bytes_eq other name) names ≡ b → IsDistinct bytes_eq (cond b names (names ++ name ∷ []))
    by true e = d
    by false e =
        subst (IsDistinct bytes_eq) (map-itself (names ++ name ∷ []))
        (distinct-push bytes_eq (λ (n : List ℕ). n) names name (subst (IsDistinct bytes_eq) (sym (map-itself names)) d) (none-any (λ other. bytes_eq other name) names e))

pub distinct-with_classes : (names classes : List (List ℕ)) → IsDistinct bytes_eq classes → IsDistinct bytes_eq (fold with_class classes names)
distinct-with_classes [] classes d = d
distinct-with_classes (name ∷ names) classes d = distinct-with_classes names (with_class classes name) (distinct-with_class name classes d)

pub distinct-without_classes : (gone classes : List (List ℕ)) → IsDistinct bytes_eq classes → IsDistinct bytes_eq (without_classes gone classes)
distinct-without_classes gone classes d =
    subst (IsDistinct bytes_eq) (map-itself (without_classes gone classes))
    (distinct-filter bytes_eq (λ (n : List ℕ). n) (λ name. not (list_any (λ other. bytes_eq other name) gone)) classes (subst (IsDistinct bytes_eq) (sym (map-itself classes)) d))

-- ---- categories: a set gets only numbers of categories that were defined
module _ (rows : Rows) where
  numbered : (name : List ℕ) (k : ℕ) → category_number rows name ≡ Some k → k < length rows.options.categories
  numbered name k found = (position-Some (λ other. bytes_eq other name) rows.options.categories k [] found).0

  pub defined-with : (set : ℕ) (name : List ℕ) → AreDefined rows.options set → AreDefined rows.options (with_category rows set name)
  defined-with set name defined = by (category_number rows name) refl
    where
      by : (o : Option ℕ) → category_number rows name ≡ o → AreDefined rows.options (option_map_or (including set) o set)
      by None e n is = defined n is
      by (Some k) e n is = either (eqb n k) refl (sym (is_member-including set k n) ∙ is)
        where
          either : (b : Bool) → eqb n k ≡ b → (b || is_member set n) ≡ true → n < length rows.options.categories
          either true t h = subst (λ (m : ℕ). m < length rows.options.categories) (sym (eqb-true n k t)) (numbered name k e)
          either false t h = defined n h

  pub defined-without : (set : ℕ) (name : List ℕ) → AreDefined rows.options set → AreDefined rows.options (without_category rows set name)
  defined-without set name defined = by (category_number rows name)
    where
      by : (o : Option ℕ) → AreDefined rows.options (option_map_or (excluding set) o set)
      by None n is = defined n is
      by (Some k) n is = either (eqb n k) (sym (is_member-excluding set k n) ∙ is)
        where
          either : (b : Bool) → (not b && is_member set n) ≡ true → n < length rows.options.categories
          either true h = absurd (true≢false (sym h))
          either false h = defined n h

  pub defined-added : (names : List (List ℕ)) (set : ℕ) → AreDefined rows.options set → AreDefined rows.options (fold (with_category rows) set names)
  defined-added [] set defined = defined
  defined-added (name ∷ names) set defined = defined-added names (with_category rows set name) (defined-with set name defined)

  pub defined-taken : (names : List (List ℕ)) (set : ℕ) → AreDefined rows.options set → AreDefined rows.options (fold (without_category rows) set names)
  defined-taken [] set defined = defined
  defined-taken (name ∷ names) set defined = defined-taken names (without_category rows set name) (defined-without set name defined)

-- ---- connections
module _ (c : Connect) (group : List ℕ) where
  pub all-connects_after : (P : List ℕ → Type 0) (connects : List Connection) → P group → AllByRecursion (λ (x : Connection). P x.group) connects → AllByRecursion (λ (x : Connection). P x.group) (connects_after c group connects)
  all-connects_after P [] p h = (p, tt)
  all-connects_after P (x ∷ xs) p h = by (is_to group x) (all-connects_after P xs p h.1)
    where
      by : (b : Bool) → AllByRecursion (λ (y : Connection). P y.group) (connects_after c group xs) → AllByRecursion (λ (y : Connection). P y.group) (cond b (altered_connection c x ∷ xs) (x ∷ connects_after c group xs))
      by true rest = (h.0, h.1)
      by false rest = (h.0, rest)

  pub any-connects_after : (to : List ℕ) (connects : List Connection) → list_any (is_to to) connects ≡ true → list_any (is_to to) (connects_after c group connects) ≡ true
  any-connects_after to [] h = absurd (true≢false (sym h))
  any-connects_after to (x ∷ xs) h = by (is_to group x) (is_to to x) refl h (any-connects_after to xs)
    where
      by : (b d : Bool) → is_to to x ≡ d → (d || list_any (is_to to) xs) ≡ true → (list_any (is_to to) xs ≡ true → list_any (is_to to) (connects_after c group xs) ≡ true)
          → list_any (is_to to) (cond b (altered_connection c x ∷ xs) (x ∷ connects_after c group xs)) ≡ true
      by true d e k rest = ap (λ b. b || list_any (is_to to) xs) e ∙ k
      by false true e k rest = ap (λ b. b || list_any (is_to to) (connects_after c group xs)) e
      by false false e k rest = ap (λ b. b || list_any (is_to to) (connects_after c group xs)) e ∙ rest k

  pub distinct-connects_after : (connects : List Connection) → IsDistinct bytes_eq (map (λ (x : Connection). x.group) connects) → IsDistinct bytes_eq (map (λ (x : Connection). x.group) (connects_after c group connects))
  unfolding IsDistinct
  distinct-connects_after [] d = (tt, tt)
  distinct-connects_after (x ∷ xs) d = by (is_to group x) refl (distinct-connects_after xs d.1)
    where
      by : (b : Bool) → is_to group x ≡ b → IsDistinct bytes_eq (map (λ (y : Connection). y.group) (connects_after c group xs))
          → IsDistinct bytes_eq (map (λ (y : Connection). y.group) (cond b (altered_connection c x ∷ xs) (x ∷ connects_after c group xs)))
      by true e rest = (d.0, d.1)
      by false e rest =
          (all-map (λ (y : Connection). y.group) (λ k. bytes_eq x.group k ≡ false) (connects_after c group xs) (all-connects_after (λ k. bytes_eq x.group k ≡ false) xs e (all-unmap (λ (y : Connection). y.group) (λ k. bytes_eq x.group k ≡ false) xs d.0)), rest)

-- a connection to another group stays
pub any-drop_other : (to gone : List ℕ) (connects : List Connection) → bytes_eq to gone ≡ false → list_any (is_to to) connects ≡ true → list_any (is_to to) (drop_row (is_to gone) connects) ≡ true
any-drop_other to gone [] other h = absurd (true≢false (sym h))
any-drop_other to gone (x ∷ xs) other h = by (is_to gone x) refl (is_to to x) refl h (any-drop_other to gone xs other)
  where
    by : (b : Bool) → is_to gone x ≡ b → (d : Bool) → is_to to x ≡ d → (d || list_any (is_to to) xs) ≡ true → (list_any (is_to to) xs ≡ true → list_any (is_to to) (drop_row (is_to gone) xs) ≡ true)
        → list_any (is_to to) (cond b xs (x ∷ drop_row (is_to gone) xs)) ≡ true
    by true e true f k rest =
        let one : to ≡ gone = sym (same x.group to f) ∙ same x.group gone e in
        absurd (true≢false (sym (itself to) ∙ ap (bytes_eq to) one ∙ other))
    by true e false f k rest = k
    by false e true f k rest = ap (λ b. b || list_any (is_to to) (drop_row (is_to gone) xs)) f
    by false e false f k rest = ap (λ b. b || list_any (is_to to) (drop_row (is_to gone) xs)) f ∙ rest k
