-- Where a test holds from some place on.
use Rattle.std.proofs.Common.{◌≡◌, ◌+◌, ◌-◌, ◌<◌, ℕ, Bool, true, false, not, cond, ◌||◌, List, [], ◌∷◌, ◌++◌, length, take, drop, get_or, Some, ap, sym, subst, ◌∙◌, refl, zero, suc, zero-add, length-append, arith}
use Rattle.std.specs.List.{flat_map, slice_get, list_any, list_all, position_or_len}
use Rattle.std.proofs.lemmas.List.Folds.{list_all-append}
use Rattle.std.proofs.lemmas.Option.{slice_get_within}
use Rattle.std.proofs.lemmas.Bool.{and_parts, or_parts, or_right}
use Rattle.pages.proofs.Seams.{split_at_part, up_to_part, flat_map_halves, get_behind}
use Rattle.pages.specs.Rising.{Rises}

module _ {T : Type 0} (p : T → Bool) where
  -- a front of a list in which a test rises, and the rest
  pub rises_front : (xs ys : List T) → Rises p (xs ++ ys) → Rises p xs
  rises_front [] ys h = tt
  rises_front (x ∷ xs) ys h = (λ e. (and_parts (list_all p xs) (list_all p ys) (sym (list_all-append p xs ys) ∙ h.0 e)).0, rises_front xs ys h.1)

  pub rises_back : (xs ys : List T) → Rises p (xs ++ ys) → Rises p ys
  rises_back [] ys h = h
  rises_back (x ∷ xs) ys h = rises_back xs ys h.1

  -- an item of a list of which all pass
  all_at : (xs : List T) (n : ℕ) (x : T) → list_all p xs ≡ true → slice_get xs n ≡ Some x → p x ≡ true
  all_at [] n x h e = absurd (cc)
  all_at (y ∷ ys) zero x h e = let same : y ≡ x = cc in subst (λ z. p z ≡ true) same (and_parts (p y) (list_all p ys) h).0
  all_at (y ∷ ys) (suc n) x h e = all_at ys n x (and_parts (p y) (list_all p ys) h).1 e

  -- an item that passes
  pub any_at : (xs : List T) (n : ℕ) (x : T) → slice_get xs n ≡ Some x → p x ≡ true → list_any p xs ≡ true
  any_at [] n x e h = absurd (cc)
  any_at (y ∷ ys) zero x e h = let same : y ≡ x = cc in let passes : p y ≡ true = subst (λ z. p z ≡ true) (sym same) h in ap (λ b. b || list_any p ys) passes
  any_at (y ∷ ys) (suc n) x e h = or_right (p y) (list_any p ys) (any_at ys n x e h)

  -- where the last item fails, all do
  pub none_up_to : (xs : List T) (n : ℕ) (x : T) → Rises p xs → slice_get xs n ≡ Some x → n + 1 ≡ length xs → p x ≡ false → list_any p xs ≡ false
  none_up_to [] n x r e l h = refl
  none_up_to (y ∷ []) zero x r e l h = let same : y ≡ x = cc in ap (λ b. b || false) (ap p same ∙ h)
  none_up_to (y ∷ z ∷ ys) zero x r e l h = absurd (omega arith)
  none_up_to (y ∷ ys) (suc n) x r e l h =
      elim (p y) as (λ b. p y ≡ b → (p y || list_any p ys) ≡ false) [
        | true ↦ λ t. (let last = all_at ys n x (r.0 t) e in absurd (cc))
        | false ↦ λ t. ap (λ b. b || list_any p ys) t ∙ none_up_to ys n x r.1 e (omega arith) h
      ] refl

  or_other : (a b : Bool) → (a || b) ≡ true → a ≡ false → b ≡ true
  or_other true b h e = absurd (cc)
  or_other false b h e = h

  -- items that fail are passed over
  pub skipped : (xs ys : List T) → list_any p xs ≡ false → position_or_len p (xs ++ ys) ≡ length xs + position_or_len p ys
  skipped [] ys h = sym (zero-add (position_or_len p ys))
  skipped (x ∷ xs) ys h =
      let ih = skipped xs ys (or_parts (p x) (list_any p xs) h).1 in
      let next : 1 + position_or_len p (xs ++ ys) ≡ suc (length xs) + position_or_len p ys = omega (arith, ih) in
      ap (λ b. cond (not b) (1 + position_or_len p (xs ++ ys)) 0) (or_parts (p x) (list_any p xs) h).0 ∙ next

  -- where all fail, the first place is the end
  pub position_of_none : (xs : List T) → list_any p xs ≡ false → position_or_len p xs ≡ length xs
  position_of_none [] h = refl
  position_of_none (x ∷ xs) h =
      let ih = position_of_none xs (or_parts (p x) (list_any p xs) h).1 in
      let next : 1 + position_or_len p xs ≡ suc (length xs) = omega (arith, ih) in
      ap (λ b. cond (not b) (1 + position_or_len p xs) 0) (or_parts (p x) (list_any p xs) h).0 ∙ next

  -- where an item passes, the first place is one of the list
  pub position_within : (xs : List T) → list_any p xs ≡ true → position_or_len p xs < length xs
  position_within [] h = absurd (cc)
  position_within (x ∷ xs) h =
      elim (p x) as (λ b. p x ≡ b → position_or_len p (x ∷ xs) < length (x ∷ xs)) [
        | true ↦ λ t. subst (λ b. cond (not b) (1 + position_or_len p xs) 0 < suc (length xs)) (sym t) (omega arith)
        | false ↦ λ t.
            let less = position_within xs (or_other (p x) (list_any p xs) h t) in
            subst (λ b. cond (not b) (1 + position_or_len p xs) 0 < suc (length xs)) (sym t) (omega (arith, less))
      ] refl

  -- where an item passes, what stands behind doesn't count
  pub found_in_front : (xs ys : List T) → list_any p xs ≡ true → position_or_len p (xs ++ ys) ≡ position_or_len p xs
  found_in_front [] ys h = absurd (cc)
  found_in_front (x ∷ xs) ys h =
      elim (p x) as (λ b. p x ≡ b → cond (not (p x)) (1 + position_or_len p (xs ++ ys)) 0 ≡ cond (not (p x)) (1 + position_or_len p xs) 0) [
        | true ↦ λ t. ap (λ b. cond (not b) (1 + position_or_len p (xs ++ ys)) 0) t ∙ sym (ap (λ b. cond (not b) (1 + position_or_len p xs) 0) t)
        | false ↦ λ t. ap (λ n. cond (not (p x)) (1 + n) 0) (found_in_front xs ys (or_other (p x) (list_any p xs) h t))
      ] refl

  module _ {P : Type 0} (f : P → List T) (ps : List P) (k : ℕ) (part : P) (is : part ≡ get_or ps k part) (at : k < length ps) where
    -- the test rises in each part
    pub rises_part : Rises p (flat_map f ps) → Rises p (f part)
    rises_part h =
        let whole = subst (λ l. Rises p l) (split_at_part f ps k part is at) h in
        rises_front (f part) (flat_map f (drop (k + 1) ps)) (rises_back (flat_map f (take k ps)) (f part ++ flat_map f (drop (k + 1) ps)) whole)

    -- where the last item of a part fails, all up to it do
    pub none_through : (x : T) → Rises p (flat_map f ps) → slice_get (f part) (length (f part) - 1) ≡ Some x → p x ≡ false → list_any p (flat_map f (take (k + 1) ps)) ≡ false
    none_through x h e fails =
        let front = flat_map f (take k ps) in
        let up_to = up_to_part f ps k part is at in
        let some = slice_get_within (f part) (length (f part) - 1) x e in
        let rises = subst (λ l. Rises p l) up_to (rises_front (flat_map f (take (k + 1) ps)) (flat_map f (drop (k + 1) ps)) (subst (λ l. Rises p l) (sym (flat_map_halves f ps (k + 1))) h)) in
        let end : length front + (length (f part) - 1) + 1 ≡ length (front ++ f part) = omega (arith, length-append front (f part), some) in
        ap (λ l. list_any p l) up_to ∙ none_up_to (front ++ f part) (length front + (length (f part) - 1)) x rises (get_behind front (f part) (length (f part) - 1) ∙ e) end fails

    -- the first place is in the first part with an item that passes
    pub found_in_part : list_any p (flat_map f (take k ps)) ≡ false → list_any p (f part) ≡ true → position_or_len p (flat_map f ps) ≡ length (flat_map f (take k ps)) + position_or_len p (f part)
    found_in_part none some =
        ap (λ l. position_or_len p l) (split_at_part f ps k part is at)
        ∙ skipped (flat_map f (take k ps)) (f part ++ flat_map f (drop (k + 1) ps)) none
        ∙ ap (λ n. length (flat_map f (take k ps)) + n) (found_in_front (f part) (flat_map f (drop (k + 1) ps)) some)
