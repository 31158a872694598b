-- Groups found by their names, in a list and after a change of it.
use Rattle.std.proofs.Common.{◌≡◌, ℕ, Bool, true, false, cond, map, List, [], ◌∷◌, ◌++◌, Option, Some, None, IsSome, bytes_eq, refl, sym, ap, subst, ◌∙◌, true≢false}
use Rattle.std.specs.Prelude.{IsSomeAnd, find}
use Rattle.std.specs.List.{IsDistinct, AllByRecursion}
use Rattle.std.specs.Option.{option_map, option_or}
use Rattle.std.proofs.lemmas.Bool.{false_from_ne_true}
use Rattle.std.proofs.lemmas.List.Folds.{find-append}
use Rattle.std.proofs.lemmas.Map.Keys.{IsDistinct-head, IsDistinct-tail}
use Rattle.racf_profiles.specs.declared.groups.Group.{Group}
use Rattle.racf_profiles.specs.Lookup.{is_group, find_group}
use Rattle.racf_profiles.specs.Edits.{drop_row}
use Rattle.racf_profiles.proofs.States.{find-passes}
pub use Rattle.racf_profiles.proofs.Named.{same, itself, turned}

-- ---- names
pub apart : (x y : List ℕ) → (x ≡ y → ⊥) → bytes_eq x y ≡ false
apart x y differ = false_from_ne_true _ (λ t. differ (same x y t))

pub unlike : (x y : List ℕ) → bytes_eq x y ≡ false → x ≡ y → ⊥
unlike x y f e = true≢false (sym (itself x) ∙ ap (bytes_eq x) e ∙ f)

-- ---- options
pub value_of : {A : Type 0} (o : Option A) (P : A → Type 0) → IsSomeAnd o P → (v : A) × (o ≡ Some v) × P v
value_of None P h = absurd h
value_of (Some v) P h = (v, refl, h)

pub holds_of : {A : Type 0} (o : Option A) (P : A → Type 0) (v : A) → o ≡ Some v → P v → IsSomeAnd o P
holds_of o P v e h = subst (λ q. IsSomeAnd q P) (sym e) h

pub some_of : {A : Type 0} (o : Option A) → IsSome o → (v : A) × (o ≡ Some v)
some_of None h = absurd (true≢false (sym h))
some_of (Some v) h = (v, refl)

-- ---- a group by its name
pub id-find_group : (groups : List Group) (id : List ℕ) (group : Group) → find_group groups id ≡ Some group → group.id ≡ id
id-find_group groups id group h = same group.id id (find-passes (is_group id) group groups h)

-- ---- one more group
module _ (groups : List Group) (row : Group) where
  pub find_group-push_other : (id : List ℕ) (group : Group) → find_group groups id ≡ Some group → find_group (groups ++ row ∷ []) id ≡ Some group
  find_group-push_other id group h = find-append (is_group id) groups (row ∷ []) ∙ ap (λ o. option_or o (find (is_group id) (row ∷ []))) h

  pub find_group-push_here : find_group groups row.id ≡ None → find_group (groups ++ row ∷ []) row.id ≡ Some row
  find_group-push_here h =
      find-append (is_group row.id) groups (row ∷ []) ∙ ap (λ o. option_or o (find (is_group row.id) (row ∷ []))) h
      ∙ ap (λ b. cond b (Some row) None) (itself row.id)

  -- and no other
  pub find_group-push_cases : (id : List ℕ) (group : Group) → find_group (groups ++ row ∷ []) id ≡ Some group → find_group groups id ≡ None → (id ≡ row.id) × (group ≡ row)
  find_group-push_cases id group h none =
      let last : cond (bytes_eq row.id id) (Some row) None ≡ Some group = sym (find-append (is_group id) groups (row ∷ []) ∙ ap (λ o. option_or o (find (is_group id) (row ∷ []))) none) ∙ h in
      by (bytes_eq row.id id) refl last
    where
      by : (b : Bool) → bytes_eq row.id id ≡ b → cond b (Some row) None ≡ Some group → (id ≡ row.id) × (group ≡ row)
      by true e l = (sym (same row.id id e), cc)
      by false e l = cc

-- ---- groups changed in their places
module _ (f : Group → Group) (keeps : (group : Group) → (f group).id ≡ group.id) where
  pub find_group-map : (groups : List Group) (id : List ℕ) → find_group (map f groups) id ≡ option_map f (find_group groups id)
  find_group-map [] id = refl
  find_group-map (g ∷ gs) id =
      ap (λ k. cond (bytes_eq k id) (Some (f g)) (find_group (map f gs) id)) (keeps g)
      ∙ by (bytes_eq g.id id) (find_group-map gs id)
    where
      by : (b : Bool) → find_group (map f gs) id ≡ option_map f (find_group gs id) → cond b (Some (f g)) (find_group (map f gs) id) ≡ option_map f (cond b (Some g) (find_group gs id))
      by true rest = refl
      by false rest = rest

  pub names-map : (groups : List Group) → map (λ (g : Group). g.id) (map f groups) ≡ map (λ (g : Group). g.id) groups
  names-map [] = refl
  names-map (g ∷ gs) = ap (λ k. k ∷ map (λ (h : Group). h.id) (map f gs)) (keeps g) ∙ ap (λ ks. g.id ∷ ks) (names-map gs)

-- ---- a group taken away
-- a name that differs from each finds none
pub find_group-absent : (id : List ℕ) (groups : List Group) → AllByRecursion (λ y. bytes_eq id y ≡ false) (map (λ (g : Group). g.id) groups) → find_group groups id ≡ None
find_group-absent id [] h = refl
find_group-absent id (g ∷ gs) h = ap (λ b. cond b (Some g) (find_group gs id)) (turned g.id id ∙ h.0) ∙ find_group-absent id gs h.1

module _ (gone : List ℕ) where
  pub find_group-drop_other : (groups : List Group) (id : List ℕ) → bytes_eq id gone ≡ false → find_group (drop_row (is_group gone) groups) id ≡ find_group groups id
  find_group-drop_other [] id other = refl
  find_group-drop_other (g ∷ gs) id other = by (bytes_eq g.id gone) refl (bytes_eq g.id id) refl (find_group-drop_other gs id other)
    where
      by : (b : Bool) → bytes_eq g.id gone ≡ b → (c : Bool) → bytes_eq g.id id ≡ c → find_group (drop_row (is_group gone) gs) id ≡ find_group gs id
          → find_group (cond (bytes_eq g.id gone) gs (g ∷ drop_row (is_group gone) gs)) id ≡ find_group (g ∷ gs) id
      by true e true i rest = absurd (unlike id gone other (sym (same g.id id i) ∙ same g.id gone e))
      by true e false i rest =
          ap (λ b. find_group (cond b gs (g ∷ drop_row (is_group gone) gs)) id) e
          ∙ sym (ap (λ b. cond b (Some g) (find_group gs id)) i)
      by false e c i rest =
          ap (λ b. find_group (cond b gs (g ∷ drop_row (is_group gone) gs)) id) e
          ∙ ap (cond (bytes_eq g.id id) (Some g)) rest

  pub find_group-drop_gone : (groups : List Group) → IsDistinct bytes_eq (map (λ (g : Group). g.id) groups) → find_group (drop_row (is_group gone) groups) gone ≡ None
  find_group-drop_gone [] distinct = refl
  find_group-drop_gone (g ∷ gs) distinct =
      by (bytes_eq g.id gone) refl (find_group-drop_gone gs (IsDistinct-tail bytes_eq g.id (map (λ (h : Group). h.id) gs) distinct))
    where
      by : (b : Bool) → bytes_eq g.id gone ≡ b → find_group (drop_row (is_group gone) gs) gone ≡ None → find_group (cond (bytes_eq g.id gone) gs (g ∷ drop_row (is_group gone) gs)) gone ≡ None
      by true e rest =
          ap (λ b. find_group (cond b gs (g ∷ drop_row (is_group gone) gs)) gone) e
          ∙ find_group-absent gone gs (subst (λ n. AllByRecursion (λ y. bytes_eq n y ≡ false) (map (λ (h : Group). h.id) gs)) (same g.id gone e) (IsDistinct-head bytes_eq g.id (map (λ (h : Group). h.id) gs) distinct))
      by false e rest =
          ap (λ b. find_group (cond b gs (g ∷ drop_row (is_group gone) gs)) gone) e
          ∙ ap (λ b. cond b (Some g) (find_group (drop_row (is_group gone) gs) gone)) e ∙ rest
