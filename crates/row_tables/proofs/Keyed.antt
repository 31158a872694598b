-- Rows of any type in a map, each under its own name: one more, and one less.
use Rattle.std.proofs.Common.{◌≡◌, ℕ, Bool, true, false, cond, List, [], ◌∷◌, bytes_eq, refl, sym, ap, ◌∙◌}
use Rattle.std.specs.Map.{keys_of, values_of, remove_entry}
use Rattle.indexmap.specs.IndexMap.{insert_entry}
use Rattle.racf_profiles.specs.Edits.{put_row, drop_row}
use Rattle.racf_profiles.proofs.Named.{IsNamed, is_called, named-head, named-tail, tested}
use Rattle.group_tree.proofs.Rows.{same}

module _ {X : Type 0} (name : X → List ℕ) where
  -- one more, or one in the place of another
  pub values-insert_entry : (row : X) (es : List (List ℕ × X)) → IsNamed name es → values_of (insert_entry bytes_eq es (name row) row) ≡ put_row (is_called name (name row)) row (values_of es)
  values-insert_entry row [] h = refl
  values-insert_entry row (e ∷ es) h =
      by (bytes_eq (name row) e.0) (values-insert_entry row es (named-tail name e es h))
      ∙ ap (λ b. cond b (row ∷ values_of es) (e.1 ∷ put_row (is_called name (name row)) row (values_of es))) (tested name (name row) e es h)
    where
      by : (b : Bool) → values_of (insert_entry bytes_eq es (name row) row) ≡ put_row (is_called name (name row)) row (values_of es)
          → values_of (cond b ((e.0, row) ∷ es) (e ∷ insert_entry bytes_eq es (name row) row)) ≡ cond b (row ∷ values_of es) (e.1 ∷ put_row (is_called name (name row)) row (values_of es))
      by true rest = refl
      by false rest = ap (λ xs. e.1 ∷ xs) rest

  pub named-insert_entry : (row : X) (es : List (List ℕ × X)) → IsNamed name es → IsNamed name (insert_entry bytes_eq es (name row) row)
  named-insert_entry row [] h = refl
  named-insert_entry row (e ∷ es) h = by (bytes_eq (name row) e.0) refl (named-insert_entry row es (named-tail name e es h))
    where
      by : (b : Bool) → bytes_eq (name row) e.0 ≡ b → IsNamed name (insert_entry bytes_eq es (name row) row) → IsNamed name (cond b ((e.0, row) ∷ es) (e ∷ insert_entry bytes_eq es (name row) row))
      by true t rest = ap (λ k. k ∷ keys_of es) (sym (same (name row) e.0 t)) ∙ ap (λ ks. name row ∷ ks) (named-tail name e es h)
      by false t rest = ap (λ k. k ∷ keys_of (insert_entry bytes_eq es (name row) row)) (named-head name e es h) ∙ ap (λ ks. name e.1 ∷ ks) rest

  -- one less
  pub values-remove_entry : (id : List ℕ) (es : List (List ℕ × X)) → IsNamed name es → values_of (remove_entry (bytes_eq id) es) ≡ drop_row (is_called name id) (values_of es)
  values-remove_entry id [] h = refl
  values-remove_entry id (e ∷ es) h =
      by (bytes_eq id e.0) (values-remove_entry id es (named-tail name e es h))
      ∙ ap (λ b. cond b (values_of es) (e.1 ∷ drop_row (is_called name id) (values_of es))) (tested name id e es h)
    where
      by : (b : Bool) → values_of (remove_entry (bytes_eq id) es) ≡ drop_row (is_called name id) (values_of es)
          → values_of (cond b es (e ∷ remove_entry (bytes_eq id) es)) ≡ cond b (values_of es) (e.1 ∷ drop_row (is_called name id) (values_of es))
      by true rest = refl
      by false rest = ap (λ xs. e.1 ∷ xs) rest

  pub named-remove_entry : (id : List ℕ) (es : List (List ℕ × X)) → IsNamed name es → IsNamed name (remove_entry (bytes_eq id) es)
  named-remove_entry id [] h = refl
  named-remove_entry id (e ∷ es) h = by (bytes_eq id e.0) (named-remove_entry id es (named-tail name e es h))
    where
      by : (b : Bool) → IsNamed name (remove_entry (bytes_eq id) es) → IsNamed name (cond b es (e ∷ remove_entry (bytes_eq id) es))
      by true rest = named-tail name e es h
      by false rest = ap (λ k. k ∷ keys_of (remove_entry (bytes_eq id) es)) (named-head name e es h) ∙ ap (λ ks. name e.1 ∷ ks) rest
