-- The map of a list of groups, each under its name.
use Rattle.std.proofs.Common.{◌≡◌, ℕ, ◌<◌, false, cond, map, List, [], ◌∷◌, length, take, get_or, zero, suc, Some, None, bytes_eq, refl, ap, ◌∙◌, arith}
use Rattle.std.specs.Map.{keys_of, values_of, lookup}
use Rattle.std.specs.List.{IsDistinct, AllByRecursion}
use Rattle.std.proofs.lemmas.Map.Keys.{IsDistinct-head, IsDistinct-tail}
use Rattle.racf_profiles.specs.declared.groups.Group.{Group}
use Rattle.group_tree.proofs.Rows.{turned}

abbrev pub entry_of : Group → List ℕ × Group
entry_of g = (g.id, g)

pub values-listed : (groups : List Group) → values_of (map entry_of groups) ≡ groups
values-listed [] = refl
values-listed (g ∷ gs) = ap (λ rest. g ∷ rest) (values-listed gs)

pub keys-listed : (groups : List Group) → keys_of (map entry_of groups) ≡ map (λ (g : Group). g.id) groups
keys-listed [] = refl
keys-listed (g ∷ gs) = ap (λ rest. g.id ∷ rest) (keys-listed gs)

-- what is so of each name is so of the one at a place
named_at : (P : List ℕ → Type 0) (groups : List Group) (i : ℕ) (d : Group) → AllByRecursion P (map (λ (g : Group). g.id) groups) → i < length groups → P (get_or groups i d).id
named_at P [] i d all l = let no : ⊥ = omega arith in absurd no
named_at P (g ∷ gs) zero d all l = all.0
named_at P (g ∷ gs) (suc i) d all l = named_at P gs i d all.1 (omega arith)

-- where names differ, the next group's is none of those before it
pub next_absent : (groups : List Group) (i : ℕ) (d : Group) → IsDistinct bytes_eq (map (λ (g : Group). g.id) groups) → i < length groups → lookup (bytes_eq (get_or groups i d).id) (map entry_of (take i groups)) ≡ None
next_absent [] i d distinct l = let no : ⊥ = omega arith in absurd no
next_absent (g ∷ gs) zero d distinct l = refl
next_absent (g ∷ gs) (suc i) d distinct l =
    let other : bytes_eq g.id (get_or gs i d).id ≡ false = named_at (λ y. bytes_eq g.id y ≡ false) gs i d (IsDistinct-head bytes_eq g.id (map (λ (h : Group). h.id) gs) distinct) (omega arith) in
    ap (λ b. cond b (Some g) (lookup (bytes_eq (get_or gs i d).id) (map entry_of (take i gs)))) (turned (get_or gs i d).id g.id ∙ other)
    ∙ next_absent gs i d (IsDistinct-tail bytes_eq g.id (map (λ (h : Group). h.id) gs) distinct) (omega arith)
