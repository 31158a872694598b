-- Entries in slots.
use Rattle.std.proofs.Common.{◌≡◌, ◌≢◌, ℕ, zero, suc, ◌+◌, ◌-◌, ◌<◌, ◌≤◌, Bool, true, false, cond, eqb, List, [], ◌∷◌, ◌++◌, length, map, get_or, set, Option, Some, option_to_list, refl, ap, sym, ◌∙◌, subst, arith, ⊎_elim, length-append}
use Rattle.std.specs.List.{AllByRecursion, AllWithin, slice_get, insert, remove}
use Rattle.std.proofs.lemmas.List.{length-map, length-set, get_or_default}
use Rattle.std.proofs.lemmas.List.Edits.{length-insert, length-remove}
use Rattle.std.proofs.lemmas.Bool.{cases_lt}
use Rattle.std.proofs.lemmas.Bool.Decides.{nat_tests}
use Rattle.profile_index.specs.EntrySlots.{in_slots, AreApart, renamed, IsKept}
use Rattle.profile_index.proofs.PlaceLaws.{slice_get-at, all-insert, all-remove, order-remove}
use Rattle.profile_index.proofs.OrderedLaws.{all-at, ordered-at}
use Rattle.generic_names.specs.Before.{before}
use Rattle.generic_names.specs.Best.{IsInOrder, AreNamed}
use Rattle.generic_names.specs.Laws.{IsPattern}
use Rattle.generic_names.proofs.OrderLaws.{irreflexive}
use Rattle.profile_index.specs.declared.entry.Entry.{Entry}
use Rattle.profile_index.specs.Indexed.{name_of}

module _ {A : Type 0} where
  pub some-get : (xs : List A) (i : ℕ) → i < length xs → (x : A) × (slice_get xs i ≡ Some x)
  some-get [] i h = absurd (omega arith)
  some-get (x ∷ xs) zero h = (x, refl)
  some-get (x ∷ xs) (suc i) h = some-get xs i (omega arith)

  pub get-some : (xs : List A) (i : ℕ) (x : A) → slice_get xs i ≡ Some x → (i < length xs) × (x ≡ get_or xs i x)
  get-some [] i x h = absurd (cc (h))
  get-some (y ∷ xs) zero x h = (omega arith, cc (h))
  get-some (y ∷ xs) (suc i) x h = let found = get-some xs i x h in (omega (arith, found.0), found.1)

  -- the first slot
  slots-cons : (slots : List A) (slot : ℕ) (order : List ℕ) (x : A) → slice_get slots slot ≡ Some x → in_slots slots (slot ∷ order) ≡ x ∷ in_slots slots order
  slots-cons slots slot order x h = ap (λ (o : Option A). option_to_list o ++ in_slots slots order) h

  pub length-in_slots : (slots : List A) (order : List ℕ) → AllByRecursion (λ slot. slot < length slots) order → length (in_slots slots order) ≡ length order
  length-in_slots slots [] there = refl
  length-in_slots slots (slot ∷ order) there =
      let x = some-get slots slot there.0 in
      ap (λ (xs : List A). length xs) (slots-cons slots slot order x.0 x.1) ∙ ap (λ (n : ℕ). suc n) (length-in_slots slots order there.1)

  pub get-in_slots : (slots : List A) (order : List ℕ) → AllByRecursion (λ slot. slot < length slots) order → (k : ℕ) → k < length order → (x : A) → slice_get slots (get_or order k 0) ≡ Some x → slice_get (in_slots slots order) k ≡ Some x
  get-in_slots slots [] there k h x is = absurd (omega arith)
  get-in_slots slots (slot ∷ order) there zero h x is = ap (λ (xs : List A). slice_get xs 0) (slots-cons slots slot order x is)
  get-in_slots slots (slot ∷ order) there (suc k) h x is =
      let y = some-get slots slot there.0 in
      ap (λ (xs : List A). slice_get xs (suc k)) (slots-cons slots slot order y.0 y.1) ∙ get-in_slots slots order there.1 k (omega arith) x is

  -- more slots, none of them used
  pub get-push : (slots : List A) (i : ℕ) (e : A) → i < length slots → slice_get (slots ++ e ∷ []) i ≡ slice_get slots i
  get-push [] i e h = absurd (omega arith)
  get-push (x ∷ slots) zero e h = refl
  get-push (x ∷ slots) (suc i) e h = get-push slots i e (omega arith)

  pub get-pushed : (slots : List A) (e : A) → slice_get (slots ++ e ∷ []) (length slots) ≡ Some e
  get-pushed [] e = refl
  get-pushed (x ∷ slots) e = get-pushed slots e

  in_slots-push : (slots : List A) (order : List ℕ) (e : A) → AllByRecursion (λ slot. slot < length slots) order → in_slots (slots ++ e ∷ []) order ≡ in_slots slots order
  in_slots-push slots [] e there = refl
  in_slots-push slots (slot ∷ order) e there =
      ap (λ (o : Option A). option_to_list o ++ in_slots (slots ++ e ∷ []) order) (get-push slots slot e there.0)
      ∙ ap (λ (xs : List A). option_to_list (slice_get slots slot) ++ xs) (in_slots-push slots order e there.1)

  in_slots-insert : (slots : List A) (order : List ℕ) (p slot : ℕ) (x : A) → AllByRecursion (λ s. s < length slots) order → slice_get slots slot ≡ Some x → in_slots slots (insert order p slot) ≡ insert (in_slots slots order) p x
  in_slots-insert slots order zero slot x there is = slots-cons slots slot order x is
  in_slots-insert slots [] (suc p) slot x there is = slots-cons slots slot [] x is
  in_slots-insert slots (s ∷ order) (suc p) slot x there is =
      let y = some-get slots s there.0 in
      slots-cons slots s (insert order p slot) y.0 y.1
      ∙ ap (λ (xs : List A). y.0 ∷ xs) (in_slots-insert slots order p slot x there.1 is)
      ∙ ap (λ (xs : List A). insert xs (suc p) x) (sym (slots-cons slots s order y.0 y.1))

  in_slots-remove : (slots : List A) (order : List ℕ) (p : ℕ) → AllByRecursion (λ s. s < length slots) order → in_slots slots (remove order p) ≡ remove (in_slots slots order) p
  in_slots-remove slots [] zero there = refl
  in_slots-remove slots [] (suc p) there = refl
  in_slots-remove slots (s ∷ order) zero there =
      let y = some-get slots s there.0 in
      ap (λ (xs : List A). remove xs 0) (sym (slots-cons slots s order y.0 y.1))
  in_slots-remove slots (s ∷ order) (suc p) there =
      let y = some-get slots s there.0 in
      slots-cons slots s (remove order p) y.0 y.1
      ∙ ap (λ (xs : List A). y.0 ∷ xs) (in_slots-remove slots order p there.1)
      ∙ ap (λ (xs : List A). remove xs (suc p)) (sym (slots-cons slots s order y.0 y.1))

  -- slots under new numbers
  in_slots-map : (slots others : List A) (order : List ℕ) (f : ℕ → ℕ) → AllByRecursion (λ s. slice_get others (f s) ≡ slice_get slots s) order → in_slots others (map f order) ≡ in_slots slots order
  in_slots-map slots others [] f same = refl
  in_slots-map slots others (s ∷ order) f same =
      ap (λ (o : Option A). option_to_list o ++ in_slots others (map f order)) same.0
      ∙ ap (λ (xs : List A). option_to_list (slice_get slots s) ++ xs) (in_slots-map slots others order f same.1)

all-map : (P Q : ℕ → Type 0) (f : ℕ → ℕ) (xs : List ℕ) → ((x : ℕ) → P x → Q (f x)) → AllByRecursion P xs → AllByRecursion Q (map f xs)
all-map P Q f [] h all = tt
all-map P Q f (x ∷ xs) h all = (h x all.0, all-map P Q f xs h all.1)

all-weaker : (P Q : ℕ → Type 0) (xs : List ℕ) → ((x : ℕ) → P x → Q x) → AllByRecursion P xs → AllByRecursion Q xs
all-weaker P Q [] h all = tt
all-weaker P Q (x ∷ xs) h all = (h x all.0, all-weaker P Q xs h all.1)

all-both : (P Q : ℕ → Type 0) (xs : List ℕ) → AllByRecursion P xs → AllByRecursion Q xs → AllByRecursion (λ x. P x × Q x) xs
all-both P Q [] p q = tt
all-both P Q (x ∷ xs) p q = ((p.0, q.0), all-both P Q xs p.1 q.1)

-- a new slot is apart from those that are below it
apart-insert : (order : List ℕ) (p new : ℕ) → AreApart order → AllByRecursion (λ s. s < new) order → AreApart (insert order p new)
apart-insert order zero new apart below = (all-weaker (λ s. s < new) (λ s. new ≢ s) order (λ s h e. omega arith) below, apart)
apart-insert [] (suc p) new apart below = (tt, tt)
apart-insert (s ∷ order) (suc p) new apart below =
    (all-insert (λ other. s ≢ other) order p new apart.0 (λ e. let low : s < new = below.0 in omega arith), apart-insert order p new apart.1 below.1)

apart-remove : (order : List ℕ) (p : ℕ) → AreApart order → AreApart (remove order p)
apart-remove [] zero apart = tt
apart-remove [] (suc p) apart = tt
apart-remove (s ∷ order) zero apart = apart.1
apart-remove (s ∷ order) (suc p) apart = (all-remove (λ other. s ≢ other) order p apart.0, apart-remove order p apart.1)

-- the slot that is taken out isn't among the others
removed-apart : (order : List ℕ) (p : ℕ) → AreApart order → p < length order → AllByRecursion (λ other. other ≢ get_or order p 0) (remove order p)
removed-apart [] p apart h = absurd (omega arith)
removed-apart (s ∷ order) zero apart h = all-weaker (λ other. s ≢ other) (λ other. other ≢ s) order (λ x n e. n (sym e)) apart.0
removed-apart (s ∷ order) (suc p) apart h =
    (all-at (λ other. s ≢ other) order apart.0 p 0 (omega arith), removed-apart order p apart.1 (omega arith))

-- new numbers that are apart
apart-map : (f : ℕ → ℕ) (P : ℕ → Type 0) (order : List ℕ) → ((x y : ℕ) → P x → P y → x ≢ y → f x ≢ f y) → AllByRecursion P order → AreApart order → AreApart (map f order)
apart-map f P [] h all apart = tt
apart-map f P (s ∷ order) h all apart = (
  all-map (λ y. P y × (s ≢ y)) (λ y. f s ≢ y) f order (λ y q. h s y all.0 q.0 q.1) (all-both P (λ y. s ≢ y) order all.1 apart.0),
  apart-map f P order h all.1 apart.1,
)

-- one more entry
module _ {A : Type 0} (slots : List A) (order : List ℕ) (kept : IsKept slots order) (e : A) (p : ℕ) (within : p ≤ length order) where
  more-there : AllByRecursion (λ s. s < length (slots ++ e ∷ [])) order
  more-there = all-weaker (λ s. s < length slots) (λ s. s < length (slots ++ e ∷ [])) order (λ s h. omega (arith, length-append slots (e ∷ []))) kept.there

  pub insert-kept : IsKept (slots ++ e ∷ []) (insert order p (length slots))
  insert-kept = record {
    there = all-insert (λ s. s < length (slots ++ e ∷ [])) order p (length slots) more-there (omega (arith, length-append slots (e ∷ [])));
    apart = apart-insert order p (length slots) kept.apart kept.there;
    all = length-insert order p (length slots) within ∙ ap (λ (n : ℕ). n + 1) kept.all ∙ sym (length-append slots (e ∷ []));
  }

  pub insert-slots : in_slots (slots ++ e ∷ []) (insert order p (length slots)) ≡ insert (in_slots slots order) p e
  insert-slots =
      in_slots-insert (slots ++ e ∷ []) order p (length slots) e more-there (get-pushed slots e)
      ∙ ap (λ (xs : List A). insert xs p e) (in_slots-push slots order e kept.there)

-- one entry less: the last slot's entry takes the place of the one that is taken out
module _ {A : Type 0} (slots others : List A) (order : List ℕ) (kept : IsKept slots order) (p : ℕ) (within : p < length order) (slot : ℕ) (is_slot : slot ≡ get_or order p 0) (fewer : length others + 1 ≡ length slots)
    (moved : (d : A) → slot + 1 < length slots → get_or others slot d ≡ get_or slots (length slots - 1) d) (stays : (k : ℕ) (d : A) → k ≢ slot → k + 1 < length slots → get_or others k d ≡ get_or slots k d) where
  slot-low : slot < length slots
  slot-low = subst (λ (s : ℕ). s < length slots) (sym is_slot) (all-at (λ s. s < length slots) order kept.there p 0 within)

  rest-all : AllByRecursion (λ s. (s < length slots) × (s ≢ slot)) (remove order p)
  rest-all = all-both (λ s. s < length slots) (λ s. s ≢ slot) (remove order p)
      (all-remove (λ s. s < length slots) order p kept.there)
      (subst (λ (x : ℕ). AllByRecursion (λ s. s ≢ x) (remove order p)) (sym is_slot) (removed-apart order p kept.apart within))

  renamed-low : (s : ℕ) → (s < length slots) × (s ≢ slot) → renamed (length others) slot s < length others
  renamed-low s h = settled (eqb s (length others)) refl
    where
      settled : (t : Bool) → eqb s (length others) ≡ t → cond t slot s < length others
      settled true is = let same : s ≡ length others = grind (arith, nat_tests) in let other : s ≢ slot = h.1 in let low : slot < length slots = slot-low in omega arith
      settled false is = let other : s ≢ length others = grind (arith, nat_tests) in let low : s < length slots = h.0 in omega arith

  renamed-apart : (x y : ℕ) → (x < length slots) × (x ≢ slot) → (y < length slots) × (y ≢ slot) → x ≢ y → renamed (length others) slot x ≢ renamed (length others) slot y
  renamed-apart x y hx hy other = settled (eqb x (length others)) (eqb y (length others)) refl refl
    where
      settled : (s t : Bool) → eqb x (length others) ≡ s → eqb y (length others) ≡ t → cond s slot x ≢ cond t slot y
      settled true true is at e = other (let a : x ≡ length others = grind (arith, nat_tests) in let b : y ≡ length others = grind (arith, nat_tests) in a ∙ sym b)
      settled true false is at e = hy.1 (sym e)
      settled false true is at e = hx.1 e
      settled false false is at e = other e

  renamed-get : (s : ℕ) → (s < length slots) × (s ≢ slot) → slice_get others (renamed (length others) slot s) ≡ slice_get slots s
  renamed-get s h = settled (eqb s (length others)) refl
    where
      some : (x : A) × (slice_get slots s ≡ Some x)
      some = some-get slots s h.0

      settled : (t : Bool) → eqb s (length others) ≡ t → slice_get others (cond t slot s) ≡ slice_get slots s
      settled true is =
          let same : s ≡ length others = grind (arith, nat_tests) in
          let other : s ≢ slot = h.1 in
          let low : slot < length slots = slot-low in
          let last : length slots - 1 ≡ s = omega arith in
          slice_get-at others slot some.0 (omega arith)
          ∙ ap (λ (x : A). Some x) (moved some.0 (omega arith) ∙ ap (λ (n : ℕ). get_or slots n some.0) last)
          ∙ sym (slice_get-at slots s some.0 h.0)
      settled false is =
          let other : s ≢ length others = grind (arith, nat_tests) in
          let low : s < length slots = h.0 in
          slice_get-at others s some.0 (omega arith)
          ∙ ap (λ (x : A). Some x) (stays s some.0 h.1 (omega arith))
          ∙ sym (slice_get-at slots s some.0 h.0)

  pub remove-kept : IsKept others (map (λ s. renamed (length others) slot s) (remove order p))
  remove-kept = record {
    there = all-map (λ s. (s < length slots) × (s ≢ slot)) (λ s. s < length others) (λ s. renamed (length others) slot s) (remove order p) renamed-low rest-all;
    apart = apart-map (λ s. renamed (length others) slot s) (λ s. (s < length slots) × (s ≢ slot)) (remove order p) renamed-apart rest-all (apart-remove order p kept.apart);
    all =
        let less : length (remove order p) + 1 ≡ length order = length-remove order p within in
        let same : length (map (λ s. renamed (length others) slot s) (remove order p)) ≡ length (remove order p) = length-map (remove order p) (λ s. renamed (length others) slot s) in
        let whole : length order ≡ length slots = kept.all in
        omega arith;
  }

  pub rest-got : AllByRecursion (λ s. slice_get others (renamed (length others) slot s) ≡ slice_get slots s) (remove order p)
  rest-got = all-weaker (λ s. (s < length slots) × (s ≢ slot)) (λ s. slice_get others (renamed (length others) slot s) ≡ slice_get slots s) (remove order p) renamed-get rest-all

  pub remove-slots : in_slots others (map (λ s. renamed (length others) slot s) (remove order p)) ≡ remove (in_slots slots order) p
  remove-slots =
      in_slots-map slots others (remove order p) (λ s. renamed (length others) slot s) rest-got
      ∙ in_slots-remove slots order p kept.there

pub value-at : {A : Type 0} (xs : List A) (k : ℕ) (x : A) → slice_get xs k ≡ Some x → x ≡ get_or xs k x
value-at xs k x h = (get-some xs k x h).1

-- what a read of a slot at a place gives
module _ {A : Type 0} (slots : List A) (order : List ℕ) (there : AllByRecursion (λ slot. slot < length slots) order) (place slot : ℕ) (x : A) (within : place < length order)
    (is_slot : slot ≡ get_or order place slot) (is : x ≡ get_or slots slot x) where
  pub entry-at : slice_get (in_slots slots order) place ≡ Some x
  entry-at =
      let same : slot ≡ get_or order place 0 = is_slot ∙ get_or_default order place slot 0 within in
      let low : get_or order place 0 < length slots = all-at (λ s. s < length slots) order there place 0 within in
      get-in_slots slots order there place within x
      (slice_get-at slots (get_or order place 0) x low ∙ ap (λ (y : _). Some y) (ap (λ (s : ℕ). get_or slots s x) (sym same) ∙ sym is))

  pub read-at : x ≡ get_or (in_slots slots order) place x
  read-at = value-at (in_slots slots order) place x entry-at

-- the slot that a removal gives
pub removed-slot : (order : List ℕ) (p slot : ℕ) → p < length order → slot ≡ get_or order p slot → slot ≡ get_or order p 0
removed-slot order p slot within is = is ∙ get_or_default order p slot 0 within

-- another entry in a slot
module _ {A : Type 0} where
  get-set : (xs : List A) (i : ℕ) (x : A) → i < length xs → slice_get (set xs i x) i ≡ Some x
  get-set [] i x h = absurd (omega arith)
  get-set (y ∷ xs) zero x h = refl
  get-set (y ∷ xs) (suc i) x h = get-set xs i x (omega arith)

  get-set_other : (xs : List A) (i j : ℕ) (x : A) → i ≢ j → slice_get (set xs i x) j ≡ slice_get xs j
  get-set_other [] i j x other = refl
  get-set_other (y ∷ xs) zero zero x other = absurd (other refl)
  get-set_other (y ∷ xs) zero (suc j) x other = refl
  get-set_other (y ∷ xs) (suc i) zero x other = refl
  get-set_other (y ∷ xs) (suc i) (suc j) x other = get-set_other xs i j x (λ e. other (ap (λ (n : ℕ). suc n) e))

  in_slots-others : (slots : List A) (order : List ℕ) (i : ℕ) (x : A) → AllByRecursion (λ other. i ≢ other) order → in_slots (set slots i x) order ≡ in_slots slots order
  in_slots-others slots [] i x others = refl
  in_slots-others slots (s ∷ order) i x others =
      ap (λ (o : Option A). option_to_list o ++ in_slots (set slots i x) order) (get-set_other slots i s x others.0)
      ∙ ap (λ (xs : List A). option_to_list (slice_get slots s) ++ xs) (in_slots-others slots order i x others.1)

  pub in_slots-set : (slots : List A) (order : List ℕ) (p : ℕ) (x : A) → AllByRecursion (λ slot. slot < length slots) order → AreApart order → p < length order
      → in_slots (set slots (get_or order p 0) x) order ≡ set (in_slots slots order) p x
  in_slots-set slots [] p x there apart h = absurd (omega arith)
  in_slots-set slots (s ∷ order) zero x there apart h =
      let y = some-get slots s there.0 in
      slots-cons (set slots s x) s order x (get-set slots s x there.0)
      ∙ ap (λ (xs : List A). x ∷ xs) (in_slots-others slots order s x apart.0)
      ∙ ap (λ (xs : List A). set xs 0 x) (sym (slots-cons slots s order y.0 y.1))
  in_slots-set slots (s ∷ order) (suc p) x there apart h =
      let y = some-get slots s there.0 in
      let other = all-at (λ other. s ≢ other) order apart.0 p 0 (omega arith) in
      slots-cons (set slots (get_or order p 0) x) s order y.0 (get-set_other slots (get_or order p 0) s x (λ e. other (sym e)) ∙ y.1)
      ∙ ap (λ (xs : List A). y.0 ∷ xs) (in_slots-set slots order p x there.1 apart.1 (omega arith))
      ∙ ap (λ (xs : List A). set xs (suc p) x) (sym (slots-cons slots s order y.0 y.1))

  pub set-kept : (slots : List A) (order : List ℕ) (i : ℕ) (x : A) → IsKept slots order → IsKept (set slots i x) order
  set-kept slots order i x kept = record {
    there = all-weaker (λ s. s < length slots) (λ s. s < length (set slots i x)) order (λ s h. omega (arith, h, length-set slots i x)) kept.there;
    apart = kept.apart;
    all = kept.all ∙ sym (length-set slots i x);
  }

-- the slots that are left once a place is gone
module _ {T : Type 0} (slots : List (Entry T)) (order : List ℕ) (there : AllByRecursion (λ slot. slot < length slots) order) (p : ℕ)
    (same : List (Entry T)) (left : List ℕ) (same_is : same ≡ slots) (left_is : left ≡ remove order p) where
  pub left-there : AllByRecursion (λ slot. slot < length same) left
  left-there = subst (λ (xs : List (Entry T)). AllByRecursion (λ slot. slot < length xs) left) (sym same_is)
      (subst (λ (ys : List ℕ). AllByRecursion (λ slot. slot < length slots) ys) (sym left_is) (all-remove (λ slot. slot < length slots) order p there))

  left-is : in_slots same left ≡ remove (in_slots slots order) p
  left-is = ap (λ (xs : List (Entry T)). in_slots xs left) same_is ∙ ap (λ (ys : List ℕ). in_slots slots ys) left_is ∙ in_slots-remove slots order p there

  pub left-ordered : IsInOrder name_of (in_slots slots order) → IsInOrder name_of (in_slots same left)
  left-ordered ordered = subst (λ (xs : List (Entry T)). IsInOrder name_of xs) (sym left-is) (order-remove name_of (in_slots slots order) p ordered)

  pub left-named : AreNamed name_of (in_slots slots order) → AreNamed name_of (in_slots same left)
  left-named named = subst (λ (xs : List (Entry T)). AreNamed name_of xs) (sym left-is) (all-remove (λ e. IsPattern e.name) (in_slots slots order) p named)

-- the place of an entry that is searched for by its name
module _ {T : Type 0} (slots : List (Entry T)) (order : List ℕ) (there : AllByRecursion (λ slot. slot < length slots) order) (ordered : IsInOrder name_of (in_slots slots order))
    (slot : ℕ) (e : Entry T) (is : e ≡ get_or slots slot e) (place : ℕ) (below : AllWithin (λ x. before x.name e.name ≡ true) (in_slots slots order) 0 place)
    (above : AllWithin (λ x. before x.name e.name ≡ false) (in_slots slots order) place (length order)) where
  pub only-place : (k : ℕ) → slice_get order k ≡ Some slot → k ≡ place
  only-place k at =
      let found = get-some order k slot at in
      let size = length-in_slots slots order there in
      let here = read-at slots order there k slot e found.0 found.1 is in
      let itself : before e.name e.name ≡ false = irreflexive e.name in
      ⊎_elim
      (λ (less : k < place).
      let first : before e.name e.name ≡ true = subst (λ (x : Entry T). before x.name e.name ≡ true) (sym here) (below k e (omega arith) less) in
      absurd (cc (first, itself)))
      (λ (more : place ≤ k). ⊎_elim
      (λ (less : place < k).
      let low : k < length (in_slots slots order) = omega (arith, size, found.0) in
      let first : before (get_or (in_slots slots order) place e).name e.name ≡ true =
      subst (λ (x : Entry T). before (get_or (in_slots slots order) place e).name x.name ≡ true) (sym here) (ordered-at name_of (in_slots slots order) ordered place k e less low) in
      let later : before (get_or (in_slots slots order) place e).name e.name ≡ false = above place e (omega arith) (omega (arith, less, found.0)) in
      absurd (cc (first, later)))
      (λ (same : k ≤ place). omega arith)
      (cases_lt place k))
      (cases_lt k place)
