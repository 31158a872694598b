-- The first of entries in order whose key isn't lower than another.
use Rattle.std.proofs.Common.{◌≡◌, ℕ, zero, suc, ◌+◌, ◌<◌, ◌≤◌, Bool, true, false, not, ◌&&◌, List, [], ◌∷◌, length, get_or, ap, ◌∙◌, subst, arith, cond, refl, ⊎_elim}
use Rattle.std.proofs.lemmas.Bool.{cases_lt, and_parts}
use Rattle.std.specs.List.{AllByRecursion, AllWithin, list_all, position_or_len}
use Rattle.std.proofs.lemmas.List.Sums.{fails_before_first}
use Rattle.generic_names.specs.Spelled.{Spelled}
use Rattle.generic_names.specs.Before.{before}
use Rattle.generic_names.specs.Best.{IsInOrder, AreNamed}
use Rattle.generic_names.specs.Laws.{IsPattern}
use Rattle.generic_names.specs.OrderKey.{is_lower}
use Rattle.generic_names.proofs.KeyLaws.{not-lower-passed_on}
use Rattle.pages.specs.Rising.{Rises}

module _ {A : Type 0} (p : A → Bool) where
  all-listed : (xs : List A) → AllByRecursion (λ x. p x ≡ true) xs → list_all p xs ≡ true
  all-listed [] all = refl
  all-listed (x ∷ xs) all = ap (λ b. b && list_all p xs) all.0 ∙ all-listed xs all.1

  listed-at : (xs : List A) → list_all p xs ≡ true → (k : ℕ) (d : A) → k < length xs → p (get_or xs k d) ≡ true
  listed-at [] all k d h = absurd (omega arith)
  listed-at (x ∷ xs) all zero d h = (and_parts (p x) (list_all p xs) all).0
  listed-at (x ∷ xs) all (suc k) d h = listed-at xs (and_parts (p x) (list_all p xs) all).1 k d (omega arith)

  -- from the first that passes on all pass
  pub all-from-first : (xs : List A) → Rises p xs → AllWithin (λ x. p x ≡ true) xs (position_or_len p xs) (length xs)
  all-from-first [] rises k d low high = absurd (omega arith)
  all-from-first (x ∷ xs) rises k d low high = by (p x) refl (all-from-first xs rises.1) k d low high
    where
      behind : AllWithin (λ y. p y ≡ true) xs (position_or_len p xs) (length xs) → AllWithin (λ y. p y ≡ true) (x ∷ xs) (1 + position_or_len p xs) (length (x ∷ xs))
      behind rest zero d low high = absurd (omega arith)
      behind rest (suc k) d low high = rest k d (omega arith) (omega arith)

      by : (b : Bool) → p x ≡ b → AllWithin (λ y. p y ≡ true) xs (position_or_len p xs) (length xs) → AllWithin (λ y. p y ≡ true) (x ∷ xs) (position_or_len p (x ∷ xs)) (length (x ∷ xs))
      by true is rest k d low high = listed-at (x ∷ xs) (ap (λ b. b && list_all p xs) is ∙ rises.0 is) k d high
      by false is rest k d low high = behind rest k d (subst (λ b. cond (not b) (1 + position_or_len p xs) 0 ≤ k) is low) high

some-get : {A : Type 0} (xs : List A) (k : ℕ) → k < length xs → A
some-get [] k h = absurd (omega arith)
some-get (x ∷ xs) k h = x

-- where a test holds, there all of those don't begin for which it fails
pub before-failing : {A : Type 0} (p : A → Bool) (xs : List A) (place k : ℕ) → AllWithin (λ x. p x ≡ false) xs place (length xs) → k < length xs → ((d : A) → p (get_or xs k d) ≡ true) → k < place
before-failing p xs place k fails h holds = ⊎_elim
    (λ (less : k < place). less)
    (λ (more : place ≤ k).
    let some = some-get xs k h in
    let refused : p (get_or xs k some) ≡ false = fails k some more h in
    absurd (cc (holds some, refused)))
    (cases_lt k place)

module _ {A : Type 0} (name_of : A → Spelled) (key : List ℕ) where
  fails-not : (b : Bool) → not b ≡ false → b ≡ true
  fails-not true h = refl
  fails-not false h = absurd (cc)

  passes-not : (b : Bool) → not b ≡ true → b ≡ false
  passes-not true h = absurd (cc)
  passes-not false h = refl

  passed : (a b : Spelled) → IsPattern a → IsPattern b → before a b ≡ true → not (is_lower a key) ≡ true → not (is_lower b key) ≡ true
  passed a b ha hb first h = ap not (not-lower-passed_on a b key ha hb first (passes-not (is_lower a key) h))

  -- the keys of names in order rise
  pub rises-in-order : (xs : List A) → IsInOrder name_of xs → AreNamed name_of xs → Rises (λ x. not (is_lower (name_of x) key)) xs
  rises-in-order [] ordered named = tt
  rises-in-order (x ∷ xs) ordered named = (
    λ h. all-listed (λ y. not (is_lower (name_of y) key)) xs (weaker xs ordered.0 named.1 h),
    rises-in-order xs ordered.1 named.1,
  )
    where
      weaker : (ys : List A) → AllByRecursion (λ y. before (name_of x) (name_of y) ≡ true) ys → AreNamed name_of ys → not (is_lower (name_of x) key) ≡ true → AllByRecursion (λ y. not (is_lower (name_of y) key) ≡ true) ys
      weaker [] all lawful h = tt
      weaker (y ∷ ys) all lawful h = (passed (name_of x) (name_of y) named.0 lawful.0 all.0 h, weaker ys all.1 lawful.1 h)

  module _ (xs : List A) (place : ℕ) (is : place ≡ position_or_len (λ x. not (is_lower (name_of x) key)) xs) where
    pub lower-before-first : AllWithin (λ x. is_lower (name_of x) key ≡ true) xs 0 place
    lower-before-first k d low less = fails-not (is_lower (name_of (get_or xs k d)) key) (fails_before_first (λ x. not (is_lower (name_of x) key)) xs k d (omega (arith, is, less)))

    pub not-lower-from-first : IsInOrder name_of xs → AreNamed name_of xs → AllWithin (λ x. is_lower (name_of x) key ≡ false) xs place (length xs)
    not-lower-from-first ordered named k d low high =
        passes-not (is_lower (name_of (get_or xs k d)) key) (all-from-first (λ x. not (is_lower (name_of x) key)) xs (rises-in-order xs ordered named) k d (omega (arith, is, low)) high)
