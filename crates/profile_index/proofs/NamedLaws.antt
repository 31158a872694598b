-- The place of a name among entries in order, and what is put there.
use Rattle.std.proofs.Common.{◌≡◌, ℕ, zero, suc, ◌<◌, ◌≤◌, true, false, cond, List, [], ◌∷◌, length, get_or, set, refl, ap, sym, ◌∙◌, subst, arith, ⊎_elim, Some, None}
use Rattle.std.specs.List.{AllByRecursion, AllWithin, insert, remove, find}
use Rattle.std.specs.Str.{bytes_eq}
use Rattle.std.proofs.lemmas.Bool.{cases_lt}
use Rattle.std.proofs.lemmas.List.{get_or_default}
use Rattle.std.proofs.lemmas.Slice.Eq.{bytes_eq-Decides}
use Rattle.generic_names.specs.Spelled.{Spelled}
use Rattle.generic_names.specs.Before.{before}
use Rattle.generic_names.specs.Best.{IsInOrder, AreNamed}
use Rattle.generic_names.specs.Laws.{IsPattern}
use Rattle.generic_names.proofs.OrderLaws.{not_both, same_spelled}
use Rattle.profile_index.specs.declared.entry.Entry.{Entry}
use Rattle.profile_index.specs.Indexed.{name_of, has_name, AreOf, put_entry, without, IsPlaceOf}
use Rattle.profile_index.specs.Places.{IsFirst, IsThere, IsMissing}
use Rattle.profile_index.proofs.OrderedLaws.{all-at, before-text, none-before, none-behind, none-from, behind-strict}
use Rattle.profile_index.proofs.PlaceLaws.{front, back, place-from-first, filter-one, filter-none}

module _ {T : Type 0} (name : Spelled) (entries : List (Entry T)) (ordered : IsInOrder name_of entries) (kinds : AreOf name.kind entries) (place : ℕ)
    (below : AllWithin (λ e. before e.name name ≡ true) entries 0 place) (above : AllWithin (λ e. before e.name name ≡ false) entries place (length entries)) where
  -- those before the place have other names
  others : place ≤ length entries → AllWithin (λ e. has_name name e ≡ false) entries 0 place
  others within k d low less =
      before-text (get_or entries k d).name name (all-at (λ e. e.name.kind ≡ name.kind) entries kinds k d (omega arith)) (below k d low less)

  missing : AreNamed name_of entries → IsPattern name → place ≤ length entries → AllWithin (λ e. has_name name e ≡ false) entries 0 (length entries) → IsMissing name entries place
  missing named lawful within none = record {
    within = within;
    below = below;
    behind = λ k d low high.
        behind-strict (get_or entries k d).name name (all-at (λ e. IsPattern e.name) entries named k d high) lawful (all-at (λ e. e.name.kind ≡ name.kind) entries kinds k d high)
        (λ (same : (get_or entries k d).name ≡ name).
        let alike : has_name name (get_or entries k d) ≡ true = (bytes_eq-Decides (get_or entries k d).name.text name.text).1 (ap (λ (n : Spelled). n.text) same) in
        let other : has_name name (get_or entries k d) ≡ false = none k d (omega arith) high in
        absurd (cc (alike, other)))
        (above k d low high);
    none = none;
  }

  pub missing-behind : AreNamed name_of entries → IsPattern name → place ≡ length entries → IsMissing name entries place
  missing-behind named lawful end = missing named lawful (omega (arith, end)) (subst (λ (n : ℕ). AllWithin (λ e. has_name name e ≡ false) entries 0 n) end (others (omega (arith, end))))

  module _ (within : place < length entries) (e : Entry T) where
    pub there-at : bytes_eq (get_or entries place e).name.text name.text ≡ true → IsThere name entries place
    there-at same =
        let is : (get_or entries place e).name ≡ name = same_spelled (get_or entries place e).name name (all-at (λ x. x.name.kind ≡ name.kind) entries kinds place e within) ((bytes_eq-Decides (get_or entries place e).name.text name.text).0 same) in
        record {
          within = within;
          same = λ d. ap name_of (get_or_default entries place d e within) ∙ is;
          below = below;
          none_before = none-before name_of entries ordered name kinds place within e is;
          none_behind = none-behind name_of entries ordered name kinds place within e is;
        }

    pub missing-at : bytes_eq (get_or entries place e).name.text name.text ≡ false → AreNamed name_of entries → IsPattern name → IsMissing name entries place
    missing-at other named lawful = missing named lawful (omega arith) (λ k d low high. ⊎_elim
        (λ (less : k < place). others (omega arith) k d low less)
        (λ (more : place ≤ k). none-from name_of entries ordered name kinds place within e other (above place e (omega arith) within) k d more high)
        (cases_lt k place))

module _ {T : Type 0} (name : Spelled) (entries : List (Entry T)) (place : ℕ) where
  -- a name's place is that of the first entry that has it
  pub first-there : IsThere name entries place → IsFirst (has_name name) entries (Some place)
  first-there there = (there.within, there.none_before, λ d. (bytes_eq-Decides (get_or entries place d).name.text name.text).1 (ap (λ (n : Spelled). n.text) (there.same d)))

  pub place-there : IsThere name entries place → IsPlaceOf entries (find (has_name name) entries) (Some place)
  place-there there = place-from-first (has_name name) entries (Some place) (first-there there)

  pub place-missing : IsMissing name entries place → IsPlaceOf entries (find (has_name name) entries) None
  place-missing missing = place-from-first (has_name name) entries None missing.none

  -- without the entry that has it
  pub without-there : IsThere name entries place → remove entries place ≡ without name entries
  without-there there = sym (filter-one (has_name name) entries place there.within there.none_before (first-there there).2 there.none_behind)

  pub without-missing : IsMissing name entries place → entries ≡ without name entries
  without-missing missing = sym (filter-none (has_name name) entries missing.none)

module _ {A : Type 0} where
  pub all-set : (P : A → Type 0) (xs : List A) (p : ℕ) (y : A) → AllByRecursion P xs → P y → AllByRecursion P (set xs p y)
  all-set P [] p y all here = tt
  all-set P (x ∷ xs) zero y all here = (here, all.1)
  all-set P (x ∷ xs) (suc p) y all here = (all.0, all-set P xs p y all.1 here)

  -- another entry of the same name leaves the order
  pub order-set : (name_of : A → Spelled) (xs : List A) (p : ℕ) (y : A) → p < length xs → ((d : A) → name_of (get_or xs p d) ≡ name_of y) → IsInOrder name_of xs → IsInOrder name_of (set xs p y)
  order-set name_of [] p y h same ordered = tt
  order-set name_of (x ∷ xs) zero y h same ordered = (subst (λ (n : Spelled). AllByRecursion (λ z. before n (name_of z) ≡ true) xs) (same x) ordered.0, ordered.1)
  order-set name_of (x ∷ xs) (suc p) y h same ordered =
      let here = all-at (λ z. before (name_of x) (name_of z) ≡ true) xs ordered.0 p y (omega arith) in (
        all-set (λ z. before (name_of x) (name_of z) ≡ true) xs p y ordered.0 (subst (λ (n : Spelled). before (name_of x) n ≡ true) (same y) here),
        order-set name_of xs p y (omega arith) same ordered.1,
      )

module _ {T : Type 0} (new : Entry T) where
  -- what an entry of a name that is there replaces, and where one of a new name goes
  replaced : (xs : List (Entry T)) (p : ℕ) → p < length xs → AllWithin (λ e. before e.name new.name ≡ true) xs 0 p → AllWithin (λ e. has_name new.name e ≡ false) xs 0 p
      → ((d : Entry T) → has_name new.name (get_or xs p d) ≡ true) → set xs p new ≡ put_entry new xs
  replaced [] p h below none here = absurd (omega arith)
  replaced (x ∷ xs) zero h below none here = sym (ap (λ b. cond b (new ∷ xs) (cond (before new.name x.name) (new ∷ x ∷ xs) (x ∷ put_entry new xs))) (here x))
  replaced (x ∷ xs) (suc p) h below none here =
      ap (λ ys. x ∷ ys) (replaced xs p (omega arith) (front (λ e. before e.name new.name ≡ true) x xs 0 p below (omega arith)) (front (λ e. has_name new.name e ≡ false) x xs 0 p none (omega arith)) here)
      ∙ sym (ap (λ b. cond b (new ∷ xs) (cond (before new.name x.name) (new ∷ x ∷ xs) (x ∷ put_entry new xs))) (none 0 x (omega arith) (omega arith))
      ∙ ap (λ b. cond b (new ∷ x ∷ xs) (x ∷ put_entry new xs)) (not_both x.name new.name (below 0 x (omega arith) (omega arith))))

  added : (xs : List (Entry T)) (p : ℕ) → p ≤ length xs → AllWithin (λ e. before e.name new.name ≡ true) xs 0 p → AllWithin (λ e. before new.name e.name ≡ true) xs p (length xs)
      → AllWithin (λ e. has_name new.name e ≡ false) xs 0 (length xs) → insert xs p new ≡ put_entry new xs
  added [] zero h below behind none = refl
  added [] (suc p) h below behind none = absurd (omega arith)
  added (x ∷ xs) zero h below behind none = sym (
      ap (λ b. cond b (new ∷ xs) (cond (before new.name x.name) (new ∷ x ∷ xs) (x ∷ put_entry new xs))) (none 0 x (omega arith) (omega arith))
      ∙ ap (λ b. cond b (new ∷ x ∷ xs) (x ∷ put_entry new xs)) (behind 0 x (omega arith) (omega arith)))
  added (x ∷ xs) (suc p) h below behind none =
      ap (λ ys. x ∷ ys) (added xs p (omega arith) (front (λ e. before e.name new.name ≡ true) x xs 0 p below (omega arith)) (back (λ e. before new.name e.name ≡ true) x xs p (length xs) behind)
      (front (λ e. has_name new.name e ≡ false) x xs 0 (length xs) none (omega arith)))
      ∙ sym (ap (λ b. cond b (new ∷ xs) (cond (before new.name x.name) (new ∷ x ∷ xs) (x ∷ put_entry new xs))) (none 0 x (omega arith) (omega arith))
      ∙ ap (λ b. cond b (new ∷ x ∷ xs) (x ∷ put_entry new xs)) (not_both x.name new.name (below 0 x (omega arith) (omega arith))))

  pub put-there : (xs : List (Entry T)) (p : ℕ) → IsThere new.name xs p → set xs p new ≡ put_entry new xs
  put-there xs p there = replaced xs p there.within there.below there.none_before (first-there new.name xs p there).2

  pub put-missing : (xs : List (Entry T)) (p : ℕ) → IsMissing new.name xs p → insert xs p new ≡ put_entry new xs
  put-missing xs p none = added xs p none.within none.below none.behind none.none
