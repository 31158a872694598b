-- Parts of one item each.
use Rattle.std.proofs.Common.{◌≡◌, ℕ, List, [], ◌∷◌, ◌++◌, length, drop, map, ap, sym, ◌∙◌, ◌≤◌, append-nil, arith, ◌+◌}
use Rattle.std.specs.List.{flat_map}
use Rattle.std.proofs.lemmas.List.{length-map, length-drop, drop-map, drop_all}
use Rattle.std.proofs.lemmas.List.Concat.{flat_map_single}

module _ {P T : Type 0} (f : P → T) (ps : List P) where
  -- there are as many items as parts
  pub length-singles : length (flat_map (λ p. f p ∷ []) ps) ≡ length ps
  length-singles = ap length (flat_map_single f ps) ∙ length-map ps f

  -- from a place on
  pub drop_singles : (n : ℕ) → n ≤ length ps → drop n (flat_map (λ p. f p ∷ []) ps) ≡ map f (drop n ps) ++ drop (n + length (drop n ps)) (flat_map (λ p. f p ∷ []) ps)
  drop_singles n h =
      let all : length (flat_map (λ p. f p ∷ []) ps) ≤ n + length (drop n ps) = omega (arith, length-singles, length-drop n ps) in
      ap (λ l. drop n l) (flat_map_single f ps)
      ∙ drop-map f n ps
      ∙ sym (append-nil (map f (drop n ps)))
      ∙ ap (λ l. map f (drop n ps) ++ l) (sym (drop_all (n + length (drop n ps)) (flat_map (λ p. f p ∷ []) ps) all))
