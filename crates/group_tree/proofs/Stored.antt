-- The map of the groups after a change, as the list of its values.
use Rattle.std.proofs.Common.{◌≡◌, ℕ, Bool, true, false, cond, map, List, [], ◌∷◌, ◌++◌, Option, Some, bytes_eq, refl, sym, ap, subst, ◌∙◌}
use Rattle.std.specs.Map.{keys_of, values_of, lookup, remove_entry, set_value}
use Rattle.std.specs.List.{IsDistinct, AllByRecursion}
use Rattle.std.proofs.lemmas.List.{map-append}
use Rattle.std.proofs.lemmas.Map.Keys.{IsDistinct-head, IsDistinct-tail}
use Rattle.racf_profiles.specs.declared.groups.Group.{Group}
use Rattle.group_tree.specs.Groups.{at_group}
use Rattle.racf_profiles.specs.Lookup.{find_group, is_group}
use Rattle.racf_profiles.specs.Edits.{drop_row}
use Rattle.racf_profiles.proofs.Named.{lookup-named}
use Rattle.group_tree.proofs.Rows.{same, turned}
use Rattle.group_tree.proofs.Edits.{names-at_group}

-- each group stands under its own name
abbrev pub IsNamed : List (List ℕ × Group) → Type 0
IsNamed es = keys_of es ≡ map (λ (g : Group). g.id) (values_of es)

named-head : (e : List ℕ × Group) (es : List (List ℕ × Group)) → IsNamed (e ∷ es) → e.0 ≡ e.1.id
named-head e es h = cc

named-tail : (e : List ℕ × Group) (es : List (List ℕ × Group)) → IsNamed (e ∷ es) → IsNamed es
named-tail e es h = cc

-- what the map finds is what the list of the groups has, which a value shows
pub found : (groups : List Group) (es : List (List ℕ × Group)) (id : List ℕ) (o : Option Group) → IsNamed es → values_of es ≡ groups → o ≡ lookup (bytes_eq id) es → find_group groups id ≡ o
found groups es id o named shown is = sym (is ∙ lookup-named (λ (g : Group). g.id) id es named ∙ ap (λ gs. find_group gs id) shown)

pub looked : (groups : List Group) (es : List (List ℕ × Group)) (id : List ℕ) → IsNamed es → values_of es ≡ groups → lookup (bytes_eq id) es ≡ find_group groups id
looked groups es id named shown = lookup-named (λ (g : Group). g.id) id es named ∙ ap (λ gs. find_group gs id) shown

-- ---- one more
pub values-push : (es : List (List ℕ × Group)) (row : Group) → values_of (es ++ (row.id, row) ∷ []) ≡ values_of es ++ row ∷ []
values-push es row = map-append (λ (e : List ℕ × Group). e.1) es ((row.id, row) ∷ [])

pub named-push : (es : List (List ℕ × Group)) (row : Group) → IsNamed es → IsNamed (es ++ (row.id, row) ∷ [])
named-push es row h =
    map-append (λ (e : List ℕ × Group). e.0) es ((row.id, row) ∷ [])
    ∙ ap (λ ks. ks ++ row.id ∷ []) h
    ∙ sym (map-append (λ (g : Group). g.id) (values_of es) (row ∷ []))
    ∙ ap (map (λ (g : Group). g.id)) (sym (values-push es row))

pub pushed : (es fs : List (List ℕ × Group)) (row : Group) → IsNamed es → fs ≡ es ++ (row.id, row) ∷ [] → (values_of fs ≡ values_of es ++ row ∷ []) × IsNamed fs
pushed es fs row named new = (ap values_of new ∙ values-push es row, subst IsNamed (sym new) (named-push es row named))

-- ---- one changed in its place
module _ (change : Group → Group) (id : List ℕ) where
  -- no other has its name
  pub at_group-absent : (groups : List Group) → AllByRecursion (λ y. bytes_eq id y ≡ false) (map (λ (g : Group). g.id) groups) → at_group id change groups ≡ groups
  at_group-absent [] h = refl
  at_group-absent (g ∷ gs) h = ap (λ b. cond b (change g) g ∷ at_group id change gs) (turned g.id id ∙ h.0) ∙ ap (λ rest. g ∷ rest) (at_group-absent gs h.1)

  pub values-set_value : (es : List (List ℕ × Group)) → IsNamed es → IsDistinct bytes_eq (map (λ (g : Group). g.id) (values_of es)) → (row : Group) → lookup (bytes_eq id) es ≡ Some row → values_of (set_value (bytes_eq id) es (change row)) ≡ at_group id change (values_of es)
  values-set_value [] named distinct row h = cc
  values-set_value (e ∷ es) named distinct row h =
      by (bytes_eq id e.0) refl h (values-set_value es (named-tail e es named) (IsDistinct-tail bytes_eq e.1.id (map (λ (g : Group). g.id) (values_of es)) distinct) row)
    where
      others : List Group
      others = at_group id change (values_of es)

      by : (b : Bool) → bytes_eq id e.0 ≡ b → cond b (Some e.1) (lookup (bytes_eq id) es) ≡ Some row
          → (lookup (bytes_eq id) es ≡ Some row → values_of (set_value (bytes_eq id) es (change row)) ≡ at_group id change (values_of es))
          → values_of (cond (bytes_eq id e.0) ((e.0, change row) ∷ es) (e ∷ set_value (bytes_eq id) es (change row))) ≡ cond (bytes_eq e.1.id id) (change e.1) e.1 ∷ at_group id change (values_of es)
      by true t j rest =
          let here : e.1 ≡ row = cc in
          let name : id ≡ e.1.id = same id e.0 t ∙ named-head e es named in
          let none : AllByRecursion (λ y. bytes_eq id y ≡ false) (map (λ (g : Group). g.id) (values_of es)) =
          subst (λ n. AllByRecursion (λ y. bytes_eq n y ≡ false) (map (λ (g : Group). g.id) (values_of es))) (sym name) (IsDistinct-head bytes_eq e.1.id (map (λ (g : Group). g.id) (values_of es)) distinct) in
          ap (λ b. values_of (cond b ((e.0, change row) ∷ es) (e ∷ set_value (bytes_eq id) es (change row)))) t
          ∙ ap (λ r. change r ∷ values_of es) (sym here)
          ∙ ap (λ rest. change e.1 ∷ rest) (sym (at_group-absent (values_of es) none))
          ∙ ap (λ b. cond b (change e.1) e.1 ∷ at_group id change (values_of es)) (sym (turned e.1.id id ∙ ap (bytes_eq id) (sym (named-head e es named)) ∙ t))
      by false t j rest =
          ap (λ b. values_of (cond b ((e.0, change row) ∷ es) (e ∷ set_value (bytes_eq id) es (change row)))) t
          ∙ ap (λ rest. e.1 ∷ rest) (rest j)
          ∙ ap (λ b. cond b (change e.1) e.1 ∷ at_group id change (values_of es)) (sym (turned e.1.id id ∙ ap (bytes_eq id) (sym (named-head e es named)) ∙ t))

-- and the names stay
pub written : (change : Group → Group) → ((g : Group) → (change g).id ≡ g.id) → (id : List ℕ) (es fs : List (List ℕ × Group)) → IsNamed es → IsDistinct bytes_eq (map (λ (g : Group). g.id) (values_of es))
    → (row : Group) → lookup (bytes_eq id) es ≡ Some row → fs ≡ set_value (bytes_eq id) es (change row) → keys_of fs ≡ keys_of es → (values_of fs ≡ at_group id change (values_of es)) × IsNamed fs
written change keeps id es fs named distinct row found new keys =
    let values : values_of fs ≡ at_group id change (values_of es) = ap values_of new ∙ values-set_value change id es named distinct row found in
    (values, keys ∙ named ∙ sym (names-at_group change keeps id (values_of es)) ∙ ap (map (λ (g : Group). g.id)) (sym values))

-- ---- one taken away
module _ (id : List ℕ) where
  values-remove_entry : (es : List (List ℕ × Group)) → IsNamed es → values_of (remove_entry (bytes_eq id) es) ≡ drop_row (is_group id) (values_of es)
  values-remove_entry [] named = refl
  values-remove_entry (e ∷ es) named =
      ap (λ b. values_of (cond b es (e ∷ remove_entry (bytes_eq id) es))) (ap (bytes_eq id) (named-head e es named) ∙ turned id e.1.id)
      ∙ by (bytes_eq e.1.id id) (values-remove_entry es (named-tail e es named))
    where
      by : (b : Bool) → values_of (remove_entry (bytes_eq id) es) ≡ drop_row (is_group id) (values_of es)
          → values_of (cond b es (e ∷ remove_entry (bytes_eq id) es)) ≡ cond b (values_of es) (e.1 ∷ drop_row (is_group id) (values_of es))
      by true rest = refl
      by false rest = ap (λ gs. e.1 ∷ gs) rest

  named-remove_entry : (es : List (List ℕ × Group)) → IsNamed es → IsNamed (remove_entry (bytes_eq id) es)
  named-remove_entry [] named = refl
  named-remove_entry (e ∷ es) named = by (bytes_eq id e.0) (named-remove_entry es (named-tail e es named))
    where
      by : (b : Bool) → IsNamed (remove_entry (bytes_eq id) es) → IsNamed (cond b es (e ∷ remove_entry (bytes_eq id) es))
      by true rest = named-tail e es named
      by false rest = ap (λ k. k ∷ keys_of (remove_entry (bytes_eq id) es)) (named-head e es named) ∙ ap (λ ks. e.1.id ∷ ks) rest

  pub taken : (es fs : List (List ℕ × Group)) → IsNamed es → fs ≡ remove_entry (bytes_eq id) es → (values_of fs ≡ drop_row (is_group id) (values_of es)) × IsNamed fs
  taken es fs named new = (ap values_of new ∙ values-remove_entry es named, subst IsNamed (sym new) (named-remove_entry es named))
