-- A group put in its place, as the tree changes it.
use Rattle.std.proofs.Common.{◌≡◌, ℕ, ◌<◌, Bool, true, false, cond, map, List, [], ◌∷◌, Option, Some, None, IsSome, is_some, bytes_eq, refl, sym, ap, subst, ◌∙◌, true≢false, arith}
use Rattle.std.specs.Prelude.{find}
use Rattle.std.specs.List.{IsDistinct, AllByRecursion}
use Rattle.std.specs.Option.{option_eq, option_map}
use Rattle.std.proofs.lemmas.Map.Keys.{IsDistinct-head, IsDistinct-tail}
use Rattle.racf_profiles.specs.declared.groups.Group.{Group}
use Rattle.racf_profiles.specs.Lookup.{is_group, find_group}
use Rattle.racf_profiles.specs.Edits.{put_row}
use Rattle.group_tree.specs.declared.faults.TreeFault.{TreeFault}
use Rattle.group_tree.specs.declared.faults.TreeFault.TheVariants.{NoGroup, Exists, Cycle, HasSubgroup, Full, NoMemory}
use Rattle.group_tree.specs.Groups.{GroupTree, at_group}
use Rattle.group_tree.specs.Answers.{CanAdd, AddRefused, CanMove, MoveRefused, OwnerRefused, CanRemove, RemoveRefused}
use Rattle.group_tree.proofs.Rows.{same, itself}
use Rattle.group_tree.proofs.Edits.{one_there}
use Rattle.group_tree.proofs.Stored.{at_group-absent}
use Rattle.row_tables.specs.ChangedRow.{at_row}
use Rattle.row_tables.proofs.RowLaws.{put_row-at_row}

module _ {X : Type 0} (it : X → Bool) where
  pub find-put_row : (row : X) (rows : List X) → it row ≡ true → find it (put_row it row rows) ≡ Some row
  find-put_row row [] own = ap (λ b. cond b (Some row) None) own
  find-put_row row (x ∷ xs) own = by (it x) refl (find-put_row row xs own)
    where
      by : (b : Bool) → it x ≡ b → find it (put_row it row xs) ≡ Some row → find it (cond b (row ∷ xs) (x ∷ put_row it row xs)) ≡ Some row
      by true t rest = ap (λ b. cond b (Some row) (find it xs)) own
      by false t rest = ap (λ b. cond b (Some x) (find it (put_row it row xs))) t ∙ rest

  -- the last row that is put counts
  pub put_row-twice : (first second : X) (rows : List X) → it first ≡ true → put_row it second (put_row it first rows) ≡ put_row it second rows
  put_row-twice first second [] own = ap (λ b. cond b (second ∷ []) (first ∷ second ∷ [])) own
  put_row-twice first second (x ∷ xs) own = by (it x) refl (put_row-twice first second xs own)
    where
      by : (b : Bool) → it x ≡ b → put_row it second (put_row it first xs) ≡ put_row it second xs
          → put_row it second (cond b (first ∷ xs) (x ∷ put_row it first xs)) ≡ cond b (second ∷ xs) (x ∷ put_row it second xs)
      by true t rest = ap (λ b. cond b (second ∷ xs) (first ∷ put_row it second xs)) own
      by false t rest = ap (λ b. cond b (second ∷ put_row it first xs) (x ∷ put_row it second (put_row it first xs))) t ∙ ap (λ ys. x ∷ ys) rest

  -- a row put over itself
  pub put_row-same : (row : X) (rows : List X) → find it rows ≡ Some row → put_row it row rows ≡ rows
  put_row-same row [] found = cc
  put_row-same row (x ∷ xs) found = by (it x) found (put_row-same row xs)
    where
      by : (b : Bool) → cond b (Some x) (find it xs) ≡ Some row → (find it xs ≡ Some row → put_row it row xs ≡ xs) → cond b (row ∷ xs) (x ∷ put_row it row xs) ≡ x ∷ xs
      by true f rest = let here : x ≡ row = cc in ap (λ y. y ∷ xs) (sym here)
      by false f rest = ap (λ ys. x ∷ ys) (rest f)

module _ (id : List ℕ) (change : Group → Group) where
  -- where no two groups have one name, the change is of one
  pub at_group-at_row : (groups : List Group) → IsDistinct bytes_eq (map (λ (g : Group). g.id) groups) → at_group id change groups ≡ at_row (is_group id) change groups
  at_group-at_row [] distinct = refl
  at_group-at_row (g ∷ gs) distinct = by (bytes_eq g.id id) refl (at_group-at_row gs (IsDistinct-tail bytes_eq g.id (map (λ (h : Group). h.id) gs) distinct))
    where
      by : (b : Bool) → bytes_eq g.id id ≡ b → at_group id change gs ≡ at_row (is_group id) change gs → cond b (change g) g ∷ at_group id change gs ≡ cond b (change g ∷ gs) (g ∷ at_row (is_group id) change gs)
      by true t rest =
          let others : AllByRecursion (λ y. bytes_eq id y ≡ false) (map (λ (h : Group). h.id) gs) =
          subst (λ n. AllByRecursion (λ y. bytes_eq n y ≡ false) (map (λ (h : Group). h.id) gs)) (same g.id id t) (IsDistinct-head bytes_eq g.id (map (λ (h : Group). h.id) gs) distinct) in
          ap (λ rest. change g ∷ rest) (at_group-absent change id gs others)
      by false t rest = ap (λ ys. g ∷ ys) rest

  pub at_group-put_row : (groups : List Group) (old : Group) → IsDistinct bytes_eq (map (λ (g : Group). g.id) groups) → find_group groups id ≡ Some old → at_group id change groups ≡ put_row (is_group id) (change old) groups
  at_group-put_row groups old distinct found = at_group-at_row groups distinct ∙ sym (put_row-at_row (is_group id) change old groups found)

-- ---- superior groups that are compared
pub option-same : (a b : Option (List ℕ)) → option_eq bytes_eq a b ≡ true → a ≡ b
option-same None None h = refl
option-same None (Some y) h = absurd (true≢false (sym h))
option-same (Some x) None h = absurd (true≢false (sym h))
option-same (Some x) (Some y) h = ap (λ z. Some z) (same x y h)

pub option-itself : (a : Option (List ℕ)) → option_eq bytes_eq a a ≡ true
option-itself None = refl
option-itself (Some x) = itself x

-- ---- no call is refused that can be made
pub no_add_refusal : (tree : GroupTree) (group superior : List ℕ) → CanAdd tree.groups group superior → 0 < tree.spare → (fault : TreeFault) → AddRefused tree group superior fault → ⊥
no_add_refusal tree group superior can room (NoGroup id) r = let none = can.superior_there in cc
no_add_refusal tree group superior can room (Exists id) r = true≢false (sym r.2 ∙ ap (is_some {T = Group}) can.name_free)
no_add_refusal tree group superior can room (Cycle id) r = r
no_add_refusal tree group superior can room (HasSubgroup id) r = r
no_add_refusal tree group superior can room Full r = omega (arith, can.room, r.2)
no_add_refusal tree group superior can room NoMemory r = omega (arith, room, r.1)

pub no_move_refusal : (groups : List Group) (group superior : List ℕ) → CanMove groups group superior → (fault : TreeFault) → MoveRefused groups group superior fault → ⊥
no_move_refusal groups group superior can (NoGroup id) r = let none = can.both_there in cc
no_move_refusal groups group superior can (Exists id) r = r
no_move_refusal groups group superior can (Cycle id) r = can.no_cycle r.2
no_move_refusal groups group superior can (HasSubgroup id) r = r
no_move_refusal groups group superior can Full r = r
no_move_refusal groups group superior can NoMemory r = r

pub no_owner_refusal : (groups : List Group) (group : List ℕ) → IsSome (find_group groups group) → (fault : TreeFault) → OwnerRefused groups group fault → ⊥
no_owner_refusal groups group there (NoGroup id) r = let none = one_there groups group there in cc
no_owner_refusal groups group there (Exists id) r = r
no_owner_refusal groups group there (Cycle id) r = r
no_owner_refusal groups group there (HasSubgroup id) r = r
no_owner_refusal groups group there Full r = r
no_owner_refusal groups group there NoMemory r = r

pub no_remove_refusal : (groups : List Group) (group : List ℕ) → CanRemove groups group → (fault : TreeFault) → RemoveRefused groups group fault → ⊥
no_remove_refusal groups group can (NoGroup id) r = let none = can.there in cc
no_remove_refusal groups group can (Exists id) r = r
no_remove_refusal groups group can (Cycle id) r = r
no_remove_refusal groups group can (HasSubgroup id) r = let some = r.1 in let none = ap (λ (o : Option Group). option_map (λ (row : Group). row.id) o) can.no_subgroup in cc
no_remove_refusal groups group can Full r = r
no_remove_refusal groups group can NoMemory r = r
