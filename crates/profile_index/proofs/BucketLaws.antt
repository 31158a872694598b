-- Buckets: entries changed at one place, and the search among their keys.
use Rattle.std.proofs.Common.{◌≡◌, ℕ, zero, suc, ◌+◌, ◌-◌, ◌<◌, ◌≤◌, Bool, true, false, not, cond, ltb, eqb, List, [], ◌∷◌, ◌++◌, length, map, take, drop, set, Option, Some, None, Ok, refl, ap, sym, ◌∙◌, subst, arith, length-append, length-drop}
use Rattle.std.specs.Prelude.{◌≢◌, if◌then◌else◌, IsSomeAnd}
use Rattle.std.specs.Option.{option_map}
use Rattle.std.specs.Ordering.{nat_cmp, is_lt}
use Rattle.std.specs.Cmp.Lexicographic.{slice_cmp}
use Rattle.std.specs.List.{insert, remove, slice_get, list_any, position_or_len}
use Rattle.std.proofs.lemmas.Bool.{or_parts, ltb-false}
use Rattle.std.proofs.lemmas.List.{take-append-drop, take-set, drop-set, length-take-le, take_all}
use Rattle.std.proofs.lemmas.List.Edits.{insert-append_left, insert-append_right}
use Rattle.std.proofs.lemmas.Option.{slice_get_within}
use Rattle.generic_names.specs.declared.kind.NameKind.{NameKind}
use Rattle.generic_names.specs.declared.kind.NameKind.TheVariants.{DataSet, General}
use Rattle.generic_names.specs.declared.fault.NameFault.{NameFault}
use Rattle.generic_names.specs.declared.fault.NameFault.TheVariants.{Empty, TooLong}
use Rattle.generic_names.specs.Spelled.{Spelled}
use Rattle.generic_names.specs.Faults.{unless, longest}
use Rattle.generic_names.specs.Laws.{IsPattern}
use Rattle.pages.specs.Rising.{Rises}
use Rattle.pages.specs.KeyBegin.{begin_of, AreBytes}
use Rattle.pages.proofs.KeyBeginLaws.{begin-decides}
use Rattle.pages.proofs.RisingLaws.{rises_front, none_up_to}

-- where the begins of the last key and of another differ, they tell which is lower
pub ends-below : (last : Option (List ℕ)) (begin : ℕ) (key : List ℕ) (other : ℕ) → IsSomeAnd last (λ k. (begin ≡ begin_of k) × AreBytes k) → AreBytes key → other ≡ begin_of key → begin ≢ other
    → option_map (λ k. is_lt (slice_cmp nat_cmp k key)) last ≡ Some (ltb begin other)
ends-below None begin key other ends bytes is differ = absurd ends
ends-below (Some k) begin key other ends bytes is differ = ap (λ (b : Bool). Some b) (sym (begin-decides k key begin other ends.1 bytes ends.0 is differ))

module _ {A : Type 0} where
  -- the rest from a place on begins with what stands there
  pub drop-next : (xs : List A) (i n : ℕ) (x : A) → slice_get xs i ≡ Some x → i < n → drop i (take n xs) ≡ x ∷ drop (suc i) (take n xs)
  drop-next [] i n x e h = absurd (cc)
  drop-next (y ∷ xs) i zero x e h = absurd (omega arith)
  drop-next (y ∷ xs) zero (suc n) x e h = let same : y ≡ x = cc in ap (λ z. z ∷ take n xs) same
  drop-next (y ∷ xs) (suc i) (suc n) x e h = drop-next xs i n x e (omega arith)

  -- what stands at a place of a mapped list
  pub get-mapped : {B : Type 0} (f : A → B) (xs : List A) (i : ℕ) (x : A) (b : B) → slice_get xs i ≡ Some x → slice_get (map f xs) i ≡ Some b → b ≡ f x
  get-mapped f [] i x b e h = absurd (cc)
  get-mapped f (y ∷ xs) zero x b e h = let one : y ≡ x = cc in let other : f y ≡ b = cc in sym other ∙ ap f one
  get-mapped f (y ∷ xs) (suc i) x b e h = get-mapped f xs i x b e h

  -- and what was mapped to it
  pub mapped-some : {B : Type 0} (f : A → B) (xs : List A) (i : ℕ) (b : B) → slice_get (map f xs) i ≡ Some b → (x : A) × (slice_get xs i ≡ Some x) × (b ≡ f x)
  mapped-some f [] i b h = absurd (cc)
  mapped-some f (y ∷ xs) zero b h = let same : f y ≡ b = cc in (y, refl, sym same)
  mapped-some f (y ∷ xs) (suc i) b h = mapped-some f xs i b h

  -- the halves of a full list
  pub front-half : (xs ys front : List A) → ys ≡ xs → front ≡ drop 0 (take 8 ys) → length xs ≡ 16 → (front ≡ take 8 xs) × (length front ≡ 8)
  front-half xs ys front same is full =
      let all = is ∙ ap (λ l. take 8 l) same in
      (all, ap length all ∙ length-take-le 8 xs (omega arith))

  pub back-half : (xs ys back : List A) → ys ≡ xs → back ≡ drop 8 (take 16 ys) → length xs ≡ 16 → (back ≡ drop 8 xs) × (length back ≡ 8)
  back-half xs ys back same is full =
      let all = is ∙ ap (λ l. drop 8 (take 16 l)) same ∙ ap (λ l. drop 8 l) (take_all 16 xs (omega arith)) in
      (all, ap length all ∙ omega (arith, length-drop 8 xs))

  pub set-split : (xs : List A) (i : ℕ) (x : A) → i < length xs → take i xs ++ x ∷ drop (i + 1) xs ≡ set xs i x
  set-split xs i x h =
      ap (λ l. l ++ x ∷ drop (i + 1) xs) (sym (take-set xs i x))
      ∙ ap (λ l. take i (set xs i x) ++ l) (sym (drop-set xs i x h))
      ∙ take-append-drop i (set xs i x)

  pub length-around : (xs : List A) (i j : ℕ) (x : A) → i ≤ length xs → length (take i xs ++ x ∷ drop j xs) ≡ i + 1 + (length xs - j)
  length-around xs i j x h = omega (arith, length-append (take i xs) (x ∷ drop j xs), length-take-le i xs h, length-drop j xs)

  pub length-removed : (xs : List A) (i : ℕ) → i < length xs → length (remove xs i) + 1 ≡ length xs
  length-removed xs i h = let le : i ≤ length xs = omega arith in omega (arith, length-append (take i xs) (drop (suc i) xs), length-take-le i xs le, length-drop (suc i) xs)

  -- an item that comes into a list by its halves
  pub insert-front : (xs : List A) (half i : ℕ) (x : A) → i ≤ half → half ≤ length xs → insert (take half xs) i x ++ drop half xs ≡ insert xs i x
  insert-front xs half i x h w =
      let size = length-take-le half xs w in
      sym (insert-append_left (take half xs) (drop half xs) i x (omega (arith, size)))
      ∙ ap (λ l. insert l i x) (take-append-drop half xs)

  pub insert-back : (xs : List A) (half i : ℕ) (x : A) → half ≤ i → half ≤ length xs → take half xs ++ insert (drop half xs) (i - half) x ≡ insert xs i x
  insert-back xs half i x h w =
      sym (insert-append_right (take half xs) (drop half xs) half i x (length-take-le half xs w) h)
      ∙ ap (λ l. insert l i x) (take-append-drop half xs)

  get-taken : (xs : List A) (i n : ℕ) → i < n → slice_get (take n xs) i ≡ slice_get xs i
  get-taken xs i zero h = absurd (omega arith)
  get-taken [] i (suc n) h = refl
  get-taken (y ∷ xs) zero (suc n) h = refl
  get-taken (y ∷ xs) (suc i) (suc n) h = get-taken xs i n (omega arith)

  module _ (p : A → Bool) where
    -- where an item fails, all up to it do
    pub none-through : (xs : List A) (m : ℕ) (x : A) → Rises p xs → slice_get xs m ≡ Some x → p x ≡ false → list_any p (take (m + 1) xs) ≡ false
    none-through xs m x rises e fails =
        let front = take (m + 1) xs in
        let within = slice_get_within xs m x e in
        let size = length-take-le (m + 1) xs (omega (arith, within)) in
        let risen = rises_front p front (drop (m + 1) xs) (subst (λ l. Rises p l) (sym (take-append-drop (m + 1) xs)) rises) in
        none_up_to p front m x risen (get-taken xs m (m + 1) (omega arith) ∙ e) (sym size) fails

    -- the first place where the test holds: none before it passes, and what stands there does
    pub found-at : (xs : List A) (n : ℕ) → n ≤ length xs → list_any p (take n xs) ≡ false → ((x : A) → slice_get xs n ≡ Some x → p x ≡ true) → position_or_len p xs ≡ n
    found-at [] zero w none some = refl
    found-at [] (suc n) w none some = absurd (omega arith)
    found-at (y ∷ xs) zero w none some = ap (λ b. cond (not b) (1 + position_or_len p xs) 0) (some y refl)
    found-at (y ∷ xs) (suc n) w none some =
        let parts = or_parts (p y) (list_any p (take n xs)) none in
        let ih = found-at xs n (omega arith) parts.1 some in
        let next : 1 + position_or_len p xs ≡ suc n = omega (arith, ih) in
        ap (λ b. cond (not b) (1 + position_or_len p xs) 0) parts.0 ∙ next

-- ---- the lengths of names
no-fault : (o : Option NameFault) (made name : Spelled) → unless o made ≡ Ok name → o ≡ None
no-fault None made name h = refl
no-fault (Some fault) made name h = absurd (cc)

passed : (b c : Bool) (x y : NameFault) (rest : Option NameFault) → (if b then Some x else (if c then Some y else rest)) ≡ None → c ≡ false
passed true c x y rest h = absurd (cc)
passed false true x y rest h = absurd (cc)
passed false false x y rest h = refl

most : (kind : NameKind) → longest kind ≤ 246
most DataSet = omega arith
most General = omega arith

-- the name of a profile has at most 246 bytes
pub name-fits : (name : Spelled) → IsPattern name → length name.text ≤ 246
name-fits name h =
    let short = passed (eqb (length name.text) 0) (ltb (longest name.kind) (length name.text)) Empty TooLong _ (no-fault _ _ name h) in
    omega (arith, ltb-false (longest name.kind) (length name.text) short, most name.kind)
