-- Entries in order, by their places.
use Rattle.std.proofs.Common.{◌≡◌, ◌≢◌, ℕ, zero, suc, ◌+◌, ◌*◌, ◌^◌, add-one, ◌<◌, ◌≤◌, Bool, true, false, List, [], ◌∷◌, length, get_or, refl, ap, sym, ◌∙◌, subst, arith, ⊎_elim, ◌⊎◌}
use Rattle.std.specs.List.{AllByRecursion, AllWithin}
use Rattle.std.specs.Str.{bytes_eq}
use Rattle.std.proofs.Math.Nat.{pow-suc, mul-le-mul_left}
use Rattle.std.proofs.lemmas.Bool.{cases_lt}
use Rattle.std.proofs.lemmas.Slice.Eq.{bytes_eq-Decides}
use Rattle.std.proofs.lemmas.List.{get_or_default}
use Rattle.generic_names.specs.Spelled.{Spelled}
use Rattle.generic_names.specs.Before.{before}
use Rattle.generic_names.specs.Covers.{covers}
use Rattle.generic_names.specs.Laws.{IsResource, IsPattern}
use Rattle.generic_names.specs.Gap.{is_below, NoneCovers}
use Rattle.generic_names.specs.Best.{IsInOrder, AreNamed}
use Rattle.generic_names.proofs.OrderLaws.{not_both, same_spelled, one_is_before, irreflexive}
use Rattle.generic_names.proofs.FirstLaws.{very_name_first}

module _ {A : Type 0} where
  -- what holds of all holds at each place
  pub all-at : (P : A → Type 0) (xs : List A) → AllByRecursion P xs → (k : ℕ) (d : A) → k < length xs → P (get_or xs k d)
  all-at P [] all k d h = absurd (omega arith)
  all-at P (x ∷ xs) all zero d h = all.0
  all-at P (x ∷ xs) all (suc k) d h = all-at P xs all.1 k d (omega arith)

  -- each is before those behind it
  pub ordered-at : (name_of : A → Spelled) (xs : List A) → IsInOrder name_of xs → (i j : ℕ) (d : A) → i < j → j < length xs → before (name_of (get_or xs i d)) (name_of (get_or xs j d)) ≡ true
  ordered-at name_of [] ordered i j d less h = absurd (omega arith)
  ordered-at name_of (x ∷ xs) ordered i zero d less h = absurd (omega arith)
  ordered-at name_of (x ∷ xs) ordered zero (suc j) d less h = all-at (λ y. before (name_of x) (name_of y) ≡ true) xs ordered.0 j d (omega arith)
  ordered-at name_of (x ∷ xs) ordered (suc i) (suc j) d less h = ordered-at name_of xs ordered.1 i j d (omega arith) (omega arith)

  module _ (name_of : A → Spelled) (xs : List A) (ordered : IsInOrder name_of xs) (named : AreNamed name_of xs) (middle : ℕ) (e : A) (within : middle < length xs) where
    lawful : (k : ℕ) (d : A) → k < length xs → IsPattern (name_of (get_or xs k d))
    lawful k d h = all-at (λ x. IsPattern (name_of x)) xs named k d h

    -- what is passed on to those before holds of all up to a place where it holds
    pub all-below : (Q : Spelled → Type 0) → ((a b : Spelled) → IsPattern a → IsPattern b → before a b ≡ true → Q b → Q a) → Q (name_of (get_or xs middle e)) → AllWithin (λ x. Q (name_of x)) xs 0 (middle + 1)
    all-below Q closed holds k d low high = ⊎_elim
        (λ (less : k < middle). closed (name_of (get_or xs k d)) (name_of (get_or xs middle d)) (lawful k d (omega arith)) (lawful middle d within) (ordered-at name_of xs ordered k middle d less within) (subst (λ (x : A). Q (name_of x)) same holds))
        (λ (more : middle ≤ k). let here : middle ≡ k = omega arith in subst (λ (n : ℕ). Q (name_of (get_or xs n d))) here (subst (λ (x : A). Q (name_of x)) same holds))
        (cases_lt k middle)
      where
        same : get_or xs middle e ≡ get_or xs middle d
        same = get_or_default xs middle e d within

    -- what is passed on to those behind holds of all from a place on where it holds
    pub all-above : (Q : Spelled → Type 0) → ((a b : Spelled) → IsPattern a → IsPattern b → before a b ≡ true → Q a → Q b) → Q (name_of (get_or xs middle e)) → AllWithin (λ x. Q (name_of x)) xs middle (length xs)
    all-above Q closed holds k d low high = ⊎_elim
        (λ (less : middle < k). closed (name_of (get_or xs middle d)) (name_of (get_or xs k d)) (lawful middle d within) (lawful k d high) (ordered-at name_of xs ordered middle k d less high) (subst (λ (x : A). Q (name_of x)) same holds))
        (λ (more : k ≤ middle). let here : middle ≡ k = omega arith in subst (λ (n : ℕ). Q (name_of (get_or xs n d))) here (subst (λ (x : A). Q (name_of x)) same holds))
        (cases_lt middle k)
      where
        same : get_or xs middle e ≡ get_or xs middle d
        same = get_or_default xs middle e d within

-- what is before the very name doesn't cover it
pub before-covers : (p name : Spelled) → IsResource name → p.kind ≡ name.kind → before p name ≡ true → covers p name ≡ false
before-covers p name lawful kind first = settled (covers p name) refl
  where
    settled : (t : Bool) → covers p name ≡ t → t ≡ false
    settled false is = refl
    settled true is = absurd (⊎_elim
        (λ (e : p ≡ name). let itself : before name name ≡ true = subst (λ (n : Spelled). before n name ≡ true) e first in let not_itself : before name name ≡ false = not_both name name itself in cc (itself, not_itself))
        (λ (e : before name p ≡ true). let back : before name p ≡ false = not_both p name first in cc (e, back))
        (very_name_first p name lawful kind is))

module _ {A : Type 0} (name_of : A → Spelled) (xs : List A) (ordered : IsInOrder name_of xs) where
  -- nothing before the end of a gap covers the name
  pub none-in-gap : (place : ℕ) (e : A) (within : place < length xs) (name : Spelled) (gap : List ℕ) (end : ℕ) → AllByRecursion (λ x. IsPattern (name_of x)) xs → AllByRecursion (λ x. (name_of x).kind ≡ name.kind) xs
      → NoneCovers (name_of (get_or xs place e)) gap name → end ≤ length xs → AllWithin (λ x. is_below (name_of x) gap ≡ true) xs place end
      → AllWithin (λ x. covers (name_of x) name ≡ false) xs 0 place → AllWithin (λ x. covers (name_of x) name ≡ false) xs 0 end
  none-in-gap place e within name gap end named kinds none high below before_it k d low less = ⊎_elim
      (λ (early : k < place). before_it k d low early)
      (λ (late : place ≤ k).
      let inside : k < length xs = omega arith in
      none (name_of (get_or xs k d)) (all-at (λ x. IsPattern (name_of x)) xs named k d inside) (all-at (λ x. (name_of x).kind ≡ name.kind) xs kinds k d inside) (behind k d late inside) (below k d late less))
      (cases_lt k place)
    where
      behind : (k : ℕ) (d : A) → place ≤ k → k < length xs → before (name_of (get_or xs k d)) (name_of (get_or xs place e)) ≡ false
      behind k d late inside = ⊎_elim
          (λ (less : place < k). not_both (name_of (get_or xs place e)) (name_of (get_or xs k d)) (subst (λ (x : A). before (name_of x) (name_of (get_or xs k d)) ≡ true) (sym (get_or_default xs place e d within)) (ordered-at name_of xs ordered place k d less inside)))
          (λ (more : k ≤ place). let here : place ≡ k = omega arith in
          let same : get_or xs place e ≡ get_or xs k d = get_or_default xs place e d within ∙ ap (λ (n : ℕ). get_or xs n d) here in
          subst (λ (x : A). before (name_of x) (name_of (get_or xs place e)) ≡ false) same (irreflexive (name_of (get_or xs place e))))
          (cases_lt place k)

-- a name before another, or behind it, has another text
pub before-text : (p name : Spelled) → p.kind ≡ name.kind → before p name ≡ true → bytes_eq p.text name.text ≡ false
before-text p name kind first = settled (bytes_eq p.text name.text) refl
  where
    settled : (t : Bool) → bytes_eq p.text name.text ≡ t → t ≡ false
    settled false is = refl
    settled true is =
        let same : p ≡ name = same_spelled p name kind ((bytes_eq-Decides p.text name.text).0 is) in
        let itself : before name name ≡ true = subst (λ (n : Spelled). before n name ≡ true) same first in
        absurd (let none : before name name ≡ false = irreflexive name in cc (itself, none))

pub behind-text : (p name : Spelled) → p.kind ≡ name.kind → before name p ≡ true → bytes_eq p.text name.text ≡ false
behind-text p name kind later = settled (bytes_eq p.text name.text) refl
  where
    settled : (t : Bool) → bytes_eq p.text name.text ≡ t → t ≡ false
    settled false is = refl
    settled true is =
        let same : p ≡ name = same_spelled p name kind ((bytes_eq-Decides p.text name.text).0 is) in
        let itself : before name name ≡ true = subst (λ (n : Spelled). before name n ≡ true) same later in
        absurd (let none : before name name ≡ false = irreflexive name in cc (itself, none))

module _ {A : Type 0} (name_of : A → Spelled) (xs : List A) (ordered : IsInOrder name_of xs) (name : Spelled) (kinds : AllByRecursion (λ x. (name_of x).kind ≡ name.kind) xs) (place : ℕ) (within : place < length xs) (e : A) where
  -- the entry at the place has the name: those before it and behind it don't
  pub none-before : name_of (get_or xs place e) ≡ name → AllWithin (λ x. bytes_eq (name_of x).text name.text ≡ false) xs 0 place
  none-before here k d low less =
      before-text (name_of (get_or xs k d)) name (all-at (λ x. (name_of x).kind ≡ name.kind) xs kinds k d (omega arith))
      (subst (λ (n : Spelled). before (name_of (get_or xs k d)) n ≡ true) (ap name_of (get_or_default xs place d e within) ∙ here) (ordered-at name_of xs ordered k place d less within))

  pub none-behind : name_of (get_or xs place e) ≡ name → AllWithin (λ x. bytes_eq (name_of x).text name.text ≡ false) xs (place + 1) (length xs)
  none-behind here k d low less =
      behind-text (name_of (get_or xs k d)) name (all-at (λ x. (name_of x).kind ≡ name.kind) xs kinds k d less)
      (subst (λ (n : Spelled). before n (name_of (get_or xs k d)) ≡ true) (ap name_of (get_or_default xs place d e within) ∙ here) (ordered-at name_of xs ordered place k d (omega arith) less))

  -- it doesn't have the name, and isn't before it: those behind it don't have it
  pub none-from : bytes_eq (name_of (get_or xs place e)).text name.text ≡ false → before (name_of (get_or xs place e)) name ≡ false → AllWithin (λ x. bytes_eq (name_of x).text name.text ≡ false) xs place (length xs)
  none-from other not_first k d low less = ⊎_elim
      (λ (later : place < k). settled k d later less (bytes_eq (name_of (get_or xs k d)).text name.text) refl)
      (λ (more : k ≤ place). let here : place ≡ k = omega arith in
      subst (λ (x : A). bytes_eq (name_of x).text name.text ≡ false) (get_or_default xs place e d within ∙ ap (λ (n : ℕ). get_or xs n d) here) other)
      (cases_lt place k)
    where
      settled : (k : ℕ) (d : A) → place < k → k < length xs → (t : Bool) → bytes_eq (name_of (get_or xs k d)).text name.text ≡ t → t ≡ false
      settled k d later less false is = refl
      settled k d later less true is =
          let same : name_of (get_or xs k d) ≡ name = same_spelled (name_of (get_or xs k d)) name (all-at (λ x. (name_of x).kind ≡ name.kind) xs kinds k d less) ((bytes_eq-Decides (name_of (get_or xs k d)).text name.text).0 is) in
          let first : before (name_of (get_or xs place e)) name ≡ true =
          subst (λ (x : A). before (name_of x) name ≡ true) (get_or_default xs place d e within) (subst (λ (n : Spelled). before (name_of (get_or xs place d)) n ≡ true) same (ordered-at name_of xs ordered place k d later less)) in
          absurd (cc (first, not_first))

-- halving: the weight stays, and the count stays below twice the number
pub half-weight : (s size rest n : ℕ) → 2 ^ s * size ≤ n → 2 * rest ≤ size → 2 ^ (s + 1) * rest ≤ n
half-weight s size rest n h half =
    let power : 2 ^ (s + 1) ≡ 2 ^ s * 2 = rw add-one (pow-suc 2 s) in
    let less : 2 ^ s * (2 * rest) ≤ 2 ^ s * size = mul-le-mul_left (2 ^ s) half in
    rw power (omega arith)

pub half-cost : (s size n : ℕ) → 2 ^ s * size ≤ n → 0 < size → 2 ^ (s + 1) ≤ 2 * n + 1
half-cost s size n h some =
    let power : 2 ^ (s + 1) ≡ 2 ^ s * 2 = rw add-one (pow-suc 2 s) in
    let one : 2 ^ s * 1 ≤ 2 ^ s * size = mul-le-mul_left (2 ^ s) some in
    rw power (omega arith)

-- what isn't before a name, and has another, comes behind it
pub behind-strict : (p name : Spelled) → IsPattern p → IsPattern name → p.kind ≡ name.kind → p ≢ name → before p name ≡ false → before name p ≡ true
behind-strict p name lawful named kind other not_first = ⊎_elim
    (λ (e : p ≡ name). absurd (other e))
    (λ (either : (before p name ≡ true) ⊎ (before name p ≡ true)). ⊎_elim
    (λ (e : before p name ≡ true). absurd (cc (e, not_first)))
    (λ (e : before name p ≡ true). e)
    either)
    (one_is_before p name lawful named kind)
