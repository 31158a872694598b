-- What is found behind a place, where nothing before that place is meant.
use Rattle.std.proofs.Common.{◌≡◌, ℕ, zero, suc, ◌+◌, ◌<◌, ◌≤◌, Bool, false, cond, not, ltb, List, [], ◌∷◌, Some, None, length, get_or, take, drop, replicate, ◌-◌, ◌∙◌, ap, arith, length-drop}
use Rattle.std.specs.List.{position, position_or_len}
use Rattle.std.proofs.lemmas.List.{take_rest, get_or-replicate}
use Rattle.std.proofs.lemmas.Bool.Decides.{nat_tests}

first-behind : {X : Type 0} (p : X → Bool) (xs : List X) (from : ℕ) (d : X) → from ≤ length xs → ((k : ℕ) → k < from → p (get_or xs k d) ≡ false) → position_or_len p xs ≡ from + position_or_len p (drop from xs)
first-behind p xs zero d within fails = omega arith
first-behind p [] (suc from) d within fails = absurd (omega (arith, within))
first-behind p (x ∷ xs) (suc from) d within fails =
    let here : p x ≡ false = fails 0 (omega arith) in
    let rest : position_or_len p xs ≡ from + position_or_len p (drop from xs) = first-behind p xs from d (omega (arith, within)) (λ k h. fails (suc k) (omega (arith, h))) in
    let step : position_or_len p (x ∷ xs) ≡ 1 + position_or_len p xs = ap (λ b. cond (not b) (1 + position_or_len p xs) 0) here in
    omega (arith, step, rest)

placed : (from i n j m k : ℕ) → i ≡ from + j → n ≡ from + m → Some k ≡ cond (ltb j m) (Some j) None → Some (from + k) ≡ cond (ltb i n) (Some i) None
placed from i n j m k i-is n-is is = grind (arith, nat_tests)

lacking : (from i n j m : ℕ) → i ≡ from + j → n ≡ from + m → None ≡ cond (ltb j m) (Some j) None → None ≡ cond (ltb i n) (Some i) None
lacking from i n j m i-is n-is is = grind (arith, nat_tests)

pub found_behind : {X : Type 0} (p : X → Bool) (xs : List X) (from k : ℕ) (d : X) → from ≤ length xs → ((k : ℕ) → k < from → p (get_or xs k d) ≡ false) → Some k ≡ position p (take (length xs - from) (drop from xs)) → Some (from + k) ≡ position p xs
found_behind p xs from k d within fails is = placed from _ _ _ _ k (first-behind p xs from d within fails) (omega (arith, within, length-drop from xs)) (is ∙ ap (position p) (take_rest xs from))

pub none_behind : {X : Type 0} (p : X → Bool) (xs : List X) (from : ℕ) (d : X) → from ≤ length xs → ((k : ℕ) → k < from → p (get_or xs k d) ≡ false) → None ≡ position p (take (length xs - from) (drop from xs)) → None ≡ position p xs
none_behind p xs from d within fails is = lacking from _ _ _ _ (first-behind p xs from d within fails) (omega (arith, within, length-drop from xs)) (is ∙ ap (position p) (take_rest xs from))

-- Before the first group, each slot's start is the same.
pub begun : (n first most : ℕ) → first ≤ most → (slot : ℕ) → slot < n → get_or (replicate n first) slot 0 ≤ most
begun n first most h slot below = omega (arith, h, get_or-replicate n slot first 0 below)
