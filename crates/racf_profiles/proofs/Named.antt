-- Rows of any type in a map, each under its own name, as the list of the map's values.
use Rattle.std.proofs.Common.{◌≡◌, ℕ, Bool, true, cond, map, List, [], ◌∷◌, Some, bytes_eq, refl, ap, ◌∙◌}
use Rattle.std.specs.Prelude.{find}
use Rattle.std.specs.Map.{keys_of, values_of, lookup}
use Rattle.std.specs.Cmp.Lexicographic.{nat_list_eq_equiv}
use Rattle.std.proofs.lemmas.Slice.Eq.{bytes_eq-Decides}

-- ---- names
pub same : (x y : List ℕ) → bytes_eq x y ≡ true → x ≡ y
same x y = (bytes_eq-Decides x y).0

pub itself : (x : List ℕ) → bytes_eq x x ≡ true
itself x = (bytes_eq-Decides x x).1 refl

pub turned : (x y : List ℕ) → bytes_eq x y ≡ bytes_eq y x
turned = nat_list_eq_equiv.symm

-- ---- rows
module _ {X : Type 0} (name : X → List ℕ) where
  -- each row stands under its own name
  abbrev pub IsNamed : List (List ℕ × X) → Type 0
  IsNamed es = keys_of es ≡ map name (values_of es)

  abbrev pub is_called : List ℕ → X → Bool
  is_called id row = bytes_eq (name row) id

  pub named-head : (e : List ℕ × X) (es : List (List ℕ × X)) → IsNamed (e ∷ es) → e.0 ≡ name e.1
  named-head e es h = cc

  pub named-tail : (e : List ℕ × X) (es : List (List ℕ × X)) → IsNamed (e ∷ es) → IsNamed es
  named-tail e es h = cc

  pub tested : (id : List ℕ) (e : List ℕ × X) (es : List (List ℕ × X)) → IsNamed (e ∷ es) → bytes_eq id e.0 ≡ is_called id e.1
  tested id e es h = ap (bytes_eq id) (named-head e es h) ∙ turned id (name e.1)

  -- the map finds what the list of its values has
  pub lookup-named : (id : List ℕ) (es : List (List ℕ × X)) → IsNamed es → lookup (bytes_eq id) es ≡ find (is_called id) (values_of es)
  lookup-named id [] h = refl
  lookup-named id (e ∷ es) h =
      ap (λ b. cond b (Some e.1) (lookup (bytes_eq id) es)) (tested id e es h)
      ∙ ap (cond (is_called id e.1) (Some e.1)) (lookup-named id es (named-tail e es h))
