-- The order of slots by their numbers, with the begins of the keys.
use Rattle.std.proofs.Common.{◌≡◌, ◌≢◌, ℕ, zero, suc, ◌<◌, Bool, true, false, cond, eqb, List, [], ◌∷◌, ◌++◌, length, map, get_or, set, Option, Some, refl, ap, sym, ◌∙◌, subst, arith}
use Rattle.std.specs.List.{AllByRecursion, slice_get, insert, remove}
use Rattle.std.specs.Option.{option_map}
use Rattle.std.proofs.lemmas.Bool.Decides.{nat_tests}
use Rattle.profile_index.specs.declared.entry.Entry.{Entry}
use Rattle.profile_index.specs.declared.entry_slots.Slot.{Slot}
use Rattle.profile_index.specs.Buckets.{key_of}
use Rattle.pages.specs.KeyBegin.{begin_of}
use Rattle.profile_index.specs.EntrySlots.{numbers, renamed, renamed_slot, HaveBegins}
use Rattle.profile_index.proofs.PlaceLaws.{all-insert, all-remove}
use Rattle.generic_names.specs.Best.{AreNamed}
use Rattle.generic_names.specs.Laws.{IsPattern}
use Rattle.profile_index.specs.Indexed.{name_of}
use Rattle.profile_index.proofs.SlotLaws.{some-get, get-push, get-pushed, value-at, entry-at, length-in_slots}
use Rattle.std.proofs.lemmas.Option.{slice_get_within}
use Rattle.std.proofs.lemmas.List.{length-map}
use Rattle.profile_index.specs.EntrySlots.{in_slots}
use Rattle.generic_names.specs.OrderKey.{order_key}

-- numbers of a changed order
pub numbers-insert : (order : List Slot) (p : ℕ) (slot : Slot) → numbers (insert order p slot) ≡ insert (numbers order) p slot.number
numbers-insert order zero slot = refl
numbers-insert [] (suc p) slot = refl
numbers-insert (s ∷ order) (suc p) slot = ap (λ (ns : List ℕ). s.number ∷ ns) (numbers-insert order p slot)

pub numbers-remove : (order : List Slot) (p : ℕ) → numbers (remove order p) ≡ remove (numbers order) p
numbers-remove [] zero = refl
numbers-remove [] (suc p) = refl
numbers-remove (s ∷ order) zero = refl
numbers-remove (s ∷ order) (suc p) = ap (λ (ns : List ℕ). s.number ∷ ns) (numbers-remove order p)

pub numbers-renamed : (from to : ℕ) (order : List Slot) → numbers (map (λ slot. renamed_slot from to slot) order) ≡ map (λ n. renamed from to n) (numbers order)
numbers-renamed from to [] = refl
numbers-renamed from to (s ∷ order) = ap (λ (ns : List ℕ). renamed from to s.number ∷ ns) (numbers-renamed from to order)

-- what is read at a place
pub number-got : (order : List Slot) (p : ℕ) (slot : Slot) → slice_get order p ≡ Some slot → slice_get (numbers order) p ≡ Some slot.number
number-got [] p slot h = absurd (cc (h))
number-got (s ∷ order) zero slot h = ap (λ (o : Option Slot). option_map (λ (x : Slot). x.number) o) h
number-got (s ∷ order) (suc p) slot h = number-got order p slot h

pub number-at : (order : List Slot) (p : ℕ) (slot : Slot) → slice_get order p ≡ Some slot → slot.number ≡ get_or (numbers order) p slot.number
number-at order p slot h = value-at (numbers order) p slot.number (number-got order p slot h)

module _ {A : Type 0} where
  pub all-got : (P : A → Type 0) (xs : List A) → AllByRecursion P xs → (k : ℕ) (x : A) → slice_get xs k ≡ Some x → P x
  all-got P [] all k x h = absurd (cc (h))
  all-got P (y ∷ xs) all zero x h = let same : y ≡ x = cc (h) in subst (λ (z : A). P z) same all.0
  all-got P (y ∷ xs) all (suc k) x h = all-got P xs all.1 k x h

-- as many entries as slots
pub length-entries : {A : Type 0} (slots : List A) (order : List Slot) → AllByRecursion (λ n. n < length slots) (numbers order) → length (in_slots slots (numbers order)) ≡ length order
length-entries slots order there = length-in_slots slots (numbers order) there ∙ length-map order (λ (s : Slot). s.number)

module _ {A : Type 0} (slots : List A) (order : List Slot) (there : AllByRecursion (λ n. n < length slots) (numbers order)) (place : ℕ) (slot : Slot) (got : slice_get order place ≡ Some slot) where
  pub slot-there : slot.number < length slots
  slot-there = all-got (λ n. n < length slots) (numbers order) there place slot.number (number-got order place slot got)

  module _ (x : A) (is : x ≡ get_or slots slot.number x) where
    pub entry-got : slice_get (in_slots slots (numbers order)) place ≡ Some x
    entry-got = entry-at slots (numbers order) there place slot.number x (slice_get_within (numbers order) place slot.number (number-got order place slot got)) (number-at order place slot got) is

    pub entry-read : x ≡ get_or (in_slots slots (numbers order)) place x
    entry-read = value-at (in_slots slots (numbers order)) place x entry-got

-- what holds of all
module _ {A : Type 0} where
  all-joined : (P Q R : A → Type 0) → ((x : A) → P x → Q x → R x) → (xs : List A) → AllByRecursion P xs → AllByRecursion Q xs → AllByRecursion R xs
  all-joined P Q R h [] p q = tt
  all-joined P Q R h (x ∷ xs) p q = (h x p.0 q.0, all-joined P Q R h xs p.1 q.1)

  module _ {B : Type 0} (f : A → B) where
    all-mapped : (P : B → Type 0) (xs : List A) → AllByRecursion (λ x. P (f x)) xs → AllByRecursion P (map f xs)
    all-mapped P [] all = tt
    all-mapped P (x ∷ xs) all = (all.0, all-mapped P xs all.1)

    all-unmapped : (P : B → Type 0) (xs : List A) → AllByRecursion P (map f xs) → AllByRecursion (λ x. P (f x)) xs
    all-unmapped P [] all = tt
    all-unmapped P (x ∷ xs) all = (all.0, all-unmapped P xs all.1)

    -- another item in a place, of which f makes the same
    mapped-set : (xs : List A) (i : ℕ) (x : A) → f x ≡ f (get_or xs i x) → (j : ℕ) → option_map f (slice_get (set xs i x) j) ≡ option_map f (slice_get xs j)
    mapped-set [] i x same j = refl
    mapped-set (y ∷ xs) zero x same zero = ap (λ (z : B). Some z) same
    mapped-set (y ∷ xs) zero x same (suc j) = refl
    mapped-set (y ∷ xs) (suc i) x same zero = refl
    mapped-set (y ∷ xs) (suc i) x same (suc j) = mapped-set xs i x same j

-- the begins of changed slots
module _ {T : Type 0} where
  abbrev begin : Entry T → ℕ
  begin e = begin_of (key_of e)

  abbrev HasBegin : List (Entry T) → Slot → Type 0
  HasBegin slots slot = option_map (λ e. begin_of (key_of e)) (slice_get slots slot.number) ≡ Some slot.begin

  abbrev IsThere : List (Entry T) → Slot → Type 0
  IsThere slots slot = slot.number < length slots

  module _ (slots : List (Entry T)) (order : List Slot) (there : AllByRecursion (λ n. n < length slots) (numbers order)) (begins : HaveBegins slots order) where
    pub begins-insert : (p : ℕ) (e : Entry T) (slot : Slot) → slot.number ≡ length slots → slot.begin ≡ begin_of (key_of e) → HaveBegins (slots ++ e ∷ []) (insert order p slot)
    begins-insert p e slot number is = all-insert (λ s. HasBegin (slots ++ e ∷ []) s) order p slot
        (all-joined (λ s. IsThere slots s) (λ s. HasBegin slots s) (λ s. HasBegin (slots ++ e ∷ []) s)
        (λ s low has. ap (λ (o : Option (Entry T)). option_map begin o) (get-push slots s.number e low) ∙ has) order (all-unmapped (λ (s : Slot). s.number) (λ n. n < length slots) order there) begins)
        (ap (λ (n : ℕ). option_map begin (slice_get (slots ++ e ∷ []) n)) number ∙ ap (λ (o : Option (Entry T)). option_map begin o) (get-pushed slots e) ∙ ap (λ (n : ℕ). Some n) (sym is))

    pub begins-set : (i : ℕ) (e : Entry T) → e.name ≡ (get_or slots i e).name → HaveBegins (set slots i e) order
    begins-set i e same = all-joined (λ s. HasBegin slots s) (λ s. HasBegin slots s) (λ s. HasBegin (set slots i e) s)
        (λ s has _. mapped-set begin slots i e (ap (λ n. begin_of (order_key n.text)) same) s.number ∙ has) order begins begins

    pub begins-left : (p : ℕ) → HaveBegins slots (remove order p)
    begins-left p = all-remove (λ s. HasBegin slots s) order p begins

    pub begins-remove : (others : List (Entry T)) (p from to : ℕ) → AllByRecursion (λ n. slice_get others (renamed from to n) ≡ slice_get slots n) (remove (numbers order) p)
        → HaveBegins others (map (λ slot. renamed_slot from to slot) (remove order p))
    begins-remove others p from to got =
        let rest = all-unmapped (λ (s : Slot). s.number) (λ n. slice_get others (renamed from to n) ≡ slice_get slots n) (remove order p)
        (subst (λ (ns : List ℕ). AllByRecursion (λ n. slice_get others (renamed from to n) ≡ slice_get slots n) ns) (sym (numbers-remove order p)) got) in
        all-mapped (λ slot. renamed_slot from to slot) (λ s. HasBegin others s) (remove order p)
        (all-joined (λ s. slice_get others (renamed from to s.number) ≡ slice_get slots s.number) (λ s. HasBegin slots s) (λ s. HasBegin others (renamed_slot from to s))
        (λ s same has. ap (λ (o : Option (Entry T)). option_map begin o) same ∙ has) (remove order p) rest (all-remove (λ s. HasBegin slots s) order p begins))

  -- the begin of the entry in a slot
  pub begin-got : (slots : List (Entry T)) (slot : Slot) (e : Entry T) → option_map (λ e. begin_of (key_of e)) (slice_get slots slot.number) ≡ Some slot.begin → slice_get slots slot.number ≡ Some e → slot.begin ≡ begin_of (key_of e)
  begin-got slots slot e has is =
      let both : Some slot.begin ≡ Some (begin e) = sym has ∙ ap (λ (o : Option (Entry T)). option_map begin o) is in
      cc (both)

-- the entry of a slot at a place
module _ {T : Type 0} (slots : List (Entry T)) (order : List Slot) (there : AllByRecursion (λ n. n < length slots) (numbers order)) (begins : HaveBegins slots order) (named : AreNamed name_of (in_slots slots (numbers order)))
    (place : ℕ) (slot : Slot) (got : slice_get order place ≡ Some slot) where
  pub record EntryOf (e : Entry T) : Type 0 where
    pub is : slice_get slots slot.number ≡ Some e
    pub begin : slot.begin ≡ begin_of (key_of e)
    pub lawful : IsPattern e.name
    pub read : e ≡ get_or (in_slots slots (numbers order)) place e

  pub entry-there : (e : Entry T) × EntryOf e
  entry-there =
      let found = some-get slots slot.number (slot-there slots order there place slot got) in
      let e = found.0 in
      let value = value-at slots slot.number e found.1 in (
        e,
        record {
          is = found.1;
          begin = begin-got slots slot e (all-got (λ s. HasBegin slots s) order begins place slot got) found.1;
          lawful = all-got (λ x. IsPattern x.name) (in_slots slots (numbers order)) named place e (entry-got slots order there place slot got e value);
          read = entry-read slots order there place slot got e value;
        },
      )

-- a number that stands at one place at most, under its new one
module _ (from to : ℕ) where
  renamed-same : (x : ℕ) → x ≡ from → renamed from to x ≡ to
  renamed-same x is = settled (eqb x from) refl
    where
      settled : (t : Bool) → eqb x from ≡ t → cond t to x ≡ to
      settled true e = refl
      settled false e = let other : x ≢ from = grind (arith, nat_tests) in absurd (other is)

  renamed-other : (x : ℕ) → x ≢ from → renamed from to x ≡ x
  renamed-other x other = settled (eqb x from) refl
    where
      settled : (t : Bool) → eqb x from ≡ t → cond t to x ≡ x
      settled true e = let is : x ≡ from = grind (arith, nat_tests) in absurd (other is)
      settled false e = refl

  abbrev with_number : Slot → ℕ → Slot
  with_number slot number = record { begin = slot.begin; number = number }

  pub renamed-none : (order : List Slot) → ((k : ℕ) → slice_get (numbers order) k ≡ Some from → ⊥) → order ≡ map (λ slot. renamed_slot from to slot) order
  renamed-none [] none = refl
  renamed-none (s ∷ order) none =
      ap (λ (rest : List Slot). s ∷ rest) (renamed-none order (λ k h. none (suc k) h))
      ∙ ap (λ (n : ℕ). with_number s n ∷ map (λ slot. renamed_slot from to slot) order) (sym (renamed-other s.number (λ e. none 0 (ap (λ (n : ℕ). Some n) e))))

  pub renamed-at : (order : List Slot) (place : ℕ) (d : Slot) → place < length order → (get_or order place d).number ≡ from → ((k : ℕ) → slice_get (numbers order) k ≡ Some from → k ≡ place)
      → set order place (with_number (get_or order place d) to) ≡ map (λ slot. renamed_slot from to slot) order
  renamed-at [] place d h is only = absurd (omega arith)
  renamed-at (s ∷ order) zero d h is only =
      ap (λ (rest : List Slot). with_number s to ∷ rest) (renamed-none order (λ k at. let e : suc k ≡ 0 = only (suc k) at in omega arith))
      ∙ ap (λ (n : ℕ). with_number s n ∷ map (λ slot. renamed_slot from to slot) order) (sym (renamed-same s.number is))
  renamed-at (s ∷ order) (suc place) d h is only =
      ap (λ (rest : List Slot). s ∷ rest) (renamed-at order place d (omega arith) is (λ k at. let e : suc k ≡ suc place = only (suc k) at in omega arith))
      ∙ ap (λ (n : ℕ). with_number s n ∷ map (λ slot. renamed_slot from to slot) order) (sym (renamed-other s.number (λ e. let first : 0 ≡ suc place = only 0 (ap (λ (n : ℕ). Some n) e) in omega arith)))
