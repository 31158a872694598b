-- A change in the middle one of three lists, and in one of many parts.
use Rattle.std.proofs.Common.{◌≡◌, ◌+◌, ◌-◌, ◌<◌, ◌≤◌, ℕ, List, [], ◌∷◌, ◌++◌, length, take, drop, get_or, ap, sym, ◌∙◌, arith, append_assoc, append-nil, length-append, set, None, refl, zero-add, zero, suc}
use Rattle.std.specs.List.{flat_map, insert, remove, slice_get}
use Rattle.std.proofs.lemmas.List.{set-append_left, set-append_right, take-append-drop, drop-append-le}
use Rattle.std.proofs.lemmas.List.Edits.{insert-append_left, insert-append_right, remove-append_left, remove-append_right}
use Rattle.std.proofs.lemmas.List.Concat.{flat_map-append}
use Rattle.std.proofs.Math.Seq.{drop-append-add}
use Rattle.pages.specs.PartAt.{IsPartAt}

-- what stands at a place n behind xs stands there at n + length xs
behind : (n j : ℕ) → n + j - n ≡ j
behind n j = omega arith

next : (k : ℕ) → suc (k + 1) ≡ suc k + 1
next k = omega arith

next_sum : (n j : ℕ) → suc n + j ≡ suc (n + j)
next_sum n j = omega arith

pub set_seam : {T : Type 0} (xs ys zs : List T) (j : ℕ) (x : T) → j < length ys → set (xs ++ (ys ++ zs)) (length xs + j) x ≡ xs ++ (set ys j x ++ zs)
set_seam xs ys zs j x h =
    set-append_right xs (ys ++ zs) (length xs) (length xs + j) x refl (omega arith)
    ∙ ap (λ i. xs ++ set (ys ++ zs) i x) (behind (length xs) j)
    ∙ ap (λ l. xs ++ l) (set-append_left ys zs j x h)

pub insert_seam : {T : Type 0} (xs ys zs : List T) (j : ℕ) (x : T) → j ≤ length ys → insert (xs ++ (ys ++ zs)) (length xs + j) x ≡ xs ++ (insert ys j x ++ zs)
insert_seam xs ys zs j x h =
    insert-append_right xs (ys ++ zs) (length xs) (length xs + j) x refl (omega arith)
    ∙ ap (λ i. xs ++ insert (ys ++ zs) i x) (behind (length xs) j)
    ∙ ap (λ l. xs ++ l) (insert-append_left ys zs j x h)

pub remove_seam : {T : Type 0} (xs ys zs : List T) (j : ℕ) → j < length ys → remove (xs ++ (ys ++ zs)) (length xs + j) ≡ xs ++ (remove ys j ++ zs)
remove_seam xs ys zs j h =
    remove-append_right xs (ys ++ zs) (length xs) (length xs + j) refl (omega arith)
    ∙ ap (λ i. xs ++ remove (ys ++ zs) i) (behind (length xs) j)
    ∙ ap (λ l. xs ++ l) (remove-append_left ys zs j h)

-- the item of a front, and of what stands behind one
get_front : {T : Type 0} (ys zs : List T) (j : ℕ) → j < length ys → slice_get (ys ++ zs) j ≡ slice_get ys j
get_front [] zs j h = absurd (omega arith)
get_front (y ∷ ys) zs zero h = refl
get_front (y ∷ ys) zs (suc j) h = get_front ys zs j (omega arith)

pub get_behind : {T : Type 0} (xs ys : List T) (j : ℕ) → slice_get (xs ++ ys) (length xs + j) ≡ slice_get ys j
get_behind [] ys j = ap (λ i. slice_get ys i) (zero-add j)
get_behind (x ∷ xs) ys j = ap (λ i. slice_get (x ∷ (xs ++ ys)) i) (next_sum (length xs) j) ∙ get_behind xs ys j

pub get_seam : {T : Type 0} (xs ys zs : List T) (j : ℕ) → j < length ys → slice_get (xs ++ (ys ++ zs)) (length xs + j) ≡ slice_get ys j
get_seam xs ys zs j h = get_behind xs (ys ++ zs) j ∙ get_front ys zs j h

-- nothing stands behind the last
pub get_past : {T : Type 0} (xs : List T) → slice_get xs (length xs) ≡ None
get_past [] = refl
get_past (x ∷ xs) = get_past xs

-- the items of a front and of the rest
pub flat_map_halves : {P T : Type 0} (f : P → List T) (ps : List P) (n : ℕ) → flat_map f (take n ps) ++ flat_map f (drop n ps) ≡ flat_map f ps
flat_map_halves f ps n = sym (flat_map-append f (take n ps) (drop n ps)) ∙ ap (λ l. flat_map f l) (take-append-drop n ps)

-- the items of parts, split at one of them
pub split_at_part : {P T : Type 0} (f : P → List T) (ps : List P) (k : ℕ) (p : P) → p ≡ get_or ps k p → k < length ps → flat_map f ps ≡ flat_map f (take k ps) ++ (f p ++ flat_map f (drop (k + 1) ps))
split_at_part f [] k p q at = absurd (omega arith)
split_at_part f (y ∷ ys) zero p q at = ap (λ r. f r ++ flat_map f ys) (sym q)
split_at_part f (y ∷ ys) (suc k) p q at =
    ap (λ l. f y ++ l) (split_at_part f ys k p q (omega arith))
    ∙ sym (append_assoc (f y) (flat_map f (take k ys)) (f p ++ flat_map f (drop (k + 1) ys)))
    ∙ ap (λ n. flat_map f (y ∷ take k ys) ++ (f p ++ flat_map f (drop n (y ∷ ys)))) (next k)

-- where there are items, there are parts
pub some_part : {P T : Type 0} (f : P → List T) (ps : List P) → 0 < length (flat_map f ps) → 0 < length ps
some_part f [] h = h
some_part f (p ∷ ps) h = omega arith

-- the items up to a part and with it
pub up_to_part : {P T : Type 0} (f : P → List T) (ps : List P) (k : ℕ) (p : P) → p ≡ get_or ps k p → k < length ps → flat_map f (take (k + 1) ps) ≡ flat_map f (take k ps) ++ f p
up_to_part f [] k p q at = absurd (omega arith)
up_to_part f (y ∷ ys) zero p q at = ap (λ r. f r ++ []) (sym q) ∙ append-nil (f p)
up_to_part f (y ∷ ys) (suc k) p q at =
    ap (λ n. flat_map f (take n (y ∷ ys))) (sym (next k))
    ∙ ap (λ l. f y ++ l) (up_to_part f ys k p q (omega arith))
    ∙ sym (append_assoc (f y) (flat_map f (take k ys)) (f p))

module _ {P T : Type 0} (f : P → List T) (ps : List P) (k j place : ℕ) (p : P) (q : p ≡ get_or ps k p) (at : k < length ps) (start : length (flat_map f (take k ps)) + j ≡ place) where
  pub set_within : (x : T) → j < length (f p) → set (flat_map f ps) place x ≡ flat_map f (take k ps) ++ (set (f p) j x ++ flat_map f (drop (k + 1) ps))
  set_within x h =
      ap (λ l. set l place x) (split_at_part f ps k p q at)
      ∙ ap (λ i. set (flat_map f (take k ps) ++ (f p ++ flat_map f (drop (k + 1) ps))) i x) (sym start)
      ∙ set_seam (flat_map f (take k ps)) (f p) (flat_map f (drop (k + 1) ps)) j x h

  pub insert_within : (x : T) → j ≤ length (f p) → insert (flat_map f ps) place x ≡ flat_map f (take k ps) ++ (insert (f p) j x ++ flat_map f (drop (k + 1) ps))
  insert_within x h =
      ap (λ l. insert l place x) (split_at_part f ps k p q at)
      ∙ ap (λ i. insert (flat_map f (take k ps) ++ (f p ++ flat_map f (drop (k + 1) ps))) i x) (sym start)
      ∙ insert_seam (flat_map f (take k ps)) (f p) (flat_map f (drop (k + 1) ps)) j x h

  pub remove_within : j < length (f p) → remove (flat_map f ps) place ≡ flat_map f (take k ps) ++ (remove (f p) j ++ flat_map f (drop (k + 1) ps))
  remove_within h =
      ap (λ l. remove l place) (split_at_part f ps k p q at)
      ∙ ap (λ i. remove (flat_map f (take k ps) ++ (f p ++ flat_map f (drop (k + 1) ps))) i) (sym start)
      ∙ remove_seam (flat_map f (take k ps)) (f p) (flat_map f (drop (k + 1) ps)) j h

  pub get_within : j < length (f p) → slice_get (flat_map f ps) place ≡ slice_get (f p) j
  get_within h =
      ap (λ l. slice_get l place) (split_at_part f ps k p q at)
      ∙ ap (λ i. slice_get (flat_map f (take k ps) ++ (f p ++ flat_map f (drop (k + 1) ps))) i) (sym start)
      ∙ get_seam (flat_map f (take k ps)) (f p) (flat_map f (drop (k + 1) ps)) j h

  -- a part is no longer than all
  pub length_within : length (f p) ≤ length (flat_map f ps)
  length_within =
      let whole = ap length (split_at_part f ps k p q at) in
      let front = length-append (flat_map f (take k ps)) (f p ++ flat_map f (drop (k + 1) ps)) in
      let back = length-append (f p) (flat_map f (drop (k + 1) ps)) in
      omega (arith, whole, front, back)

  -- neither is it with all before it
  pub length_up_to : length (flat_map f (take k ps)) + length (f p) ≤ length (flat_map f ps)
  length_up_to =
      let whole = ap length (split_at_part f ps k p q at) in
      let front = length-append (flat_map f (take k ps)) (f p ++ flat_map f (drop (k + 1) ps)) in
      let back = length-append (f p) (flat_map f (drop (k + 1) ps)) in
      omega (arith, whole, front, back)

  -- the items from a place of a part on
  pub drop_within : (m i : ℕ) → length (flat_map f (take k ps)) + i ≡ m → i ≤ length (f p) → drop m (flat_map f ps) ≡ drop i (f p) ++ flat_map f (drop (k + 1) ps)
  drop_within m i e h =
      ap (λ l. drop m l) (split_at_part f ps k p q at)
      ∙ ap (λ n. drop n (flat_map f (take k ps) ++ (f p ++ flat_map f (drop (k + 1) ps)))) (sym e)
      ∙ drop-append-add (flat_map f (take k ps)) (f p ++ flat_map f (drop (k + 1) ps)) i
      ∙ drop-append-le i (f p) (flat_map f (drop (k + 1) ps)) h

-- a part of a part is a part of the whole
pub part_of_part : {T : Type 0} (items page leaf : List T) (place rest inner : ℕ) → IsPartAt items place page rest → IsPartAt page rest leaf inner → IsPartAt items place leaf inner
part_of_part items page leaf place rest inner h i = record {
  front = h.front ++ i.front;
  back = i.back ++ h.back;
  among = h.among
      ∙ ap (λ l. h.front ++ (l ++ h.back)) i.among
      ∙ ap (λ l. h.front ++ l) (append_assoc i.front (leaf ++ i.back) h.back ∙ ap (λ l. i.front ++ l) (append_assoc leaf i.back h.back))
      ∙ sym (append_assoc h.front i.front (leaf ++ (i.back ++ h.back)));
  start = omega (arith, length-append h.front i.front, h.start, i.start);
  within = i.within;
}

-- no part ends behind the list
pub part_within : {T : Type 0} (items part : List T) (place rest : ℕ) → IsPartAt items place part rest → place + (length part - rest) ≤ length items
part_within items part place rest h =
    let whole = ap length h.among in
    let front = length-append h.front (part ++ h.back) in
    let back = length-append part h.back in
    omega (arith, whole, front, back, h.start, h.within)
