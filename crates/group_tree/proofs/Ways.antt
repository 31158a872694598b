-- Ways up through the groups: how far they lead, and that each group has one way to the root.
use Rattle.std.proofs.Common.{◌≡◌, ℕ, ◌<◌, Bool, true, false, cond, map, List, [], ◌∷◌, ◌++◌, length, suc, ◌||◌, Some, None, is_some, bytes_eq, refl, sym, ap, subst, ◌∙◌, true≢false, arith, ⊎_elim, length-append}
use Rattle.std.specs.Prelude.{IsSomeAnd, ◌↔◌}
use Rattle.std.specs.List.{IsDistinct, AllByRecursion}
use Rattle.std.specs.Set.{is_member}
use Rattle.std.specs.Cmp.Lexicographic.{nat_list_eq_equiv}
use Rattle.std.proofs.lemmas.Bool.{or_cases}
use Rattle.std.proofs.lemmas.Map.Keys.{IsDistinct-cons}
use Rattle.std.proofs.lemmas.Map.Made.{length-le_from_is_member}
use Rattle.std.proofs.lemmas.List.{length-map}
use Rattle.racf_profiles.specs.declared.groups.Group.{Group}
use Rattle.racf_profiles.specs.NewDatabase.{sys1}
use Rattle.racf_profiles.specs.Lookup.{find_group, IsGroup}
use Rattle.racf_profiles.specs.Scope.{IsWay, IsUnder, IsWithin}
use Rattle.racf_profiles.specs.Tree.{IsTree, IsBelow}
use Rattle.group_tree.proofs.Rows.{same, turned, apart, value_of, holds_of, some_of}

-- ---- ways of any link
module _ (L : Group → List ℕ → Type 0) (groups : List Group) where
  -- a way begins with a group
  pub way-first : (id : List ℕ) (others : List (List ℕ)) (last : List ℕ) → IsWay L groups id others last → IsGroup groups id
  way-first id [] last w = w.0
  way-first id (next ∷ others) last w =
      let v = value_of (find_group groups id) (λ g. L g next) w.0 in
      ap is_some v.1

  -- two ways, one after the other
  pub way-append : (id : List ℕ) (others : List (List ℕ)) (middle : List ℕ) (more : List (List ℕ)) (last : List ℕ) → IsWay L groups id others middle → IsWay L groups middle more last → IsWay L groups id (others ++ more) last
  way-append id [] middle more last w v = subst (λ m. IsWay L groups m more last) (sym w.1) v
  way-append id (next ∷ others) middle more last w v = (w.0, way-append next others middle more last w.1 v)

-- a way stays where each group on it keeps its link
pub way-kept : (L : Group → List ℕ → Type 0) (old new : List Group)
    → ((id : List ℕ) (group : Group) → find_group old id ≡ Some group → IsSomeAnd (find_group new id) (λ g. (next : List ℕ) → L group next → L g next))
    → (id : List ℕ) (others : List (List ℕ)) (last : List ℕ) → IsWay L old id others last → IsWay L new id others last
way-kept L old new kept id [] last w =
    let v = some_of (find_group old id) w.0 in
    let k = value_of (find_group new id) _ (kept id v.0 v.1) in
    (ap is_some k.1, w.1)
way-kept L old new kept id (next ∷ others) last w =
    let v = value_of (find_group old id) (λ g. L g next) w.0 in
    let k = value_of (find_group new id) _ (kept id v.0 v.1) in
    (holds_of (find_group new id) (λ g. L g next) k.0 k.1 (k.2 next v.2), way-kept L old new kept next others last w.1)

distinct_nil : IsDistinct bytes_eq []
unfolding IsDistinct
distinct_nil = tt

-- ---- the way to the root
module _ (groups : List Group) (root_alone : (id : List ℕ) (group : Group) → find_group groups id ≡ Some group → ((group.superior ≡ None) ↔ (id ≡ sys1.id))) where
  -- all that one group has are equally long
  pub length-way : (id : List ℕ) (xs ys : List (List ℕ)) → IsWay IsUnder groups id xs sys1.id → IsWay IsUnder groups id ys sys1.id → length xs ≡ length ys
  length-way id [] [] v w = refl
  length-way id [] (y ∷ ys) v w =
      let g = value_of (find_group groups id) (λ g. IsUnder g y) w.0 in
      let none : g.0.superior ≡ None = (root_alone id g.0 g.1).1 v.1 in
      absurd (let some : g.0.superior ≡ Some y = g.2 in cc)
  length-way id (x ∷ xs) [] v w =
      let g = value_of (find_group groups id) (λ g. IsUnder g x) v.0 in
      let none : g.0.superior ≡ None = (root_alone id g.0 g.1).1 w.1 in
      absurd (let some : g.0.superior ≡ Some x = g.2 in cc)
  length-way id (x ∷ xs) (y ∷ ys) v w =
      let g = value_of (find_group groups id) (λ g. IsUnder g x) v.0 in
      let h = value_of (find_group groups id) (λ g. IsUnder g y) w.0 in
      let row : g.0 ≡ h.0 = (let a = g.1 in let b = h.1 in cc) in
      let one : x ≡ y = (let a : g.0.superior ≡ Some x = g.2 in let b : h.0.superior ≡ Some y = h.2 in let c : g.0.superior ≡ h.0.superior = ap (λ r. r.superior) row in cc) in
      ap suc (length-way x xs ys v.1 (subst (λ z. IsWay IsUnder groups z ys sys1.id) (sym one) w.1))

  -- no group is met on a shorter way than its own
  pub not_met : (id : List ℕ) (own : List (List ℕ)) → IsWay IsUnder groups id own sys1.id → (first : List ℕ) (others : List (List ℕ)) → IsWay IsUnder groups first others sys1.id → length others < length own → AllByRecursion (λ y. bytes_eq id y ≡ false) (first ∷ others)
  not_met id own v first [] w less = (apart id first (λ e. absurd (omega (arith, length-way id own [] v (subst (λ z. IsWay IsUnder groups z [] sys1.id) (sym e) w), less))), tt)
  not_met id own v first (y ∷ ys) w less = (
    apart id first (λ e. absurd (omega (arith, length-way id own (y ∷ ys) v (subst (λ z. IsWay IsUnder groups z (y ∷ ys) sys1.id) (sym e) w), less))),
    not_met id own v y ys w.1 (omega (arith, less)),
  )

  -- so no group is met twice on it
  pub distinct-way : (id : List ℕ) (others : List (List ℕ)) → IsWay IsUnder groups id others sys1.id → IsDistinct bytes_eq (id ∷ others)
  distinct-way id [] w = IsDistinct-cons bytes_eq id [] tt distinct_nil
  distinct-way id (y ∷ ys) w = IsDistinct-cons bytes_eq id (y ∷ ys) (not_met id (y ∷ ys) w y ys w.1 (omega arith)) (distinct-way y ys w.1)

-- a group is found by its name
pub is_member-names : (groups : List Group) (id : List ℕ) → is_member bytes_eq (map (λ (g : Group). g.id) groups) id ≡ is_some (find_group groups id)
is_member-names [] id = refl
is_member-names (g ∷ gs) id = ap (λ b. b || is_member bytes_eq (map (λ (h : Group). h.id) gs) id) (turned id g.id) ∙ by (bytes_eq g.id id) (is_member-names gs id)
  where
    by : (b : Bool) → is_member bytes_eq (map (λ (h : Group). h.id) gs) id ≡ is_some (find_group gs id)
        → (b || is_member bytes_eq (map (λ (h : Group). h.id) gs) id) ≡ is_some (cond b (Some g) (find_group gs id))
    by true rest = refl
    by false rest = rest

-- each group on a way is there
pub members-way : (groups : List Group) (id : List ℕ) (others : List (List ℕ)) (last : List ℕ) → IsWay IsUnder groups id others last → (q : List ℕ) → is_member bytes_eq (id ∷ others) q ≡ true → IsGroup groups q
members-way groups id [] last w q m =
    let here : q ≡ id = ⊎_elim (λ t. same q id t) (λ f. absurd (true≢false (sym f))) (or_cases (bytes_eq q id) false m) in
    subst (IsGroup groups) (sym here) w.0
members-way groups id (y ∷ ys) last w q m =
    ⊎_elim (λ t. subst (IsGroup groups) (sym (same q id t)) (way-first IsUnder groups id (y ∷ ys) last w))
    (λ r. members-way groups y ys last w.1 q r)
    (or_cases (bytes_eq q id) (is_member bytes_eq (y ∷ ys) q) m)

-- a way to the root is no longer than the list of the groups
pub length-way_le : (groups : List Group) → IsTree groups → (id : List ℕ) (others : List (List ℕ)) → IsWay IsUnder groups id others sys1.id → length others < length groups
length-way_le groups tree id others w =
    let all = length-le_from_is_member nat_list_eq_equiv (id ∷ others) (map (λ (g : Group). g.id) groups) (distinct-way groups tree.root_alone id others w) (λ q m. is_member-names groups q ∙ members-way groups id others sys1.id w q m) in
    omega (arith, all, length-map {A = Group} {B = List ℕ} groups (λ g. g.id))

-- no group is below itself
pub none_below_itself : (groups : List Group) → IsTree groups → (id : List ℕ) → IsBelow groups id id → ⊥
none_below_itself groups tree id below =
    let row = value_of (find_group groups id) _ below in
    let up = value_of row.0.superior (IsWithin groups id) row.2 in
    let there : IsGroup groups id = ap is_some row.1 in
    let own = tree.upwards id there in
    let back = way-append IsUnder groups up.0 up.2.others id own.others sys1.id up.2.way own.way in
    let round : IsWay IsUnder groups id (up.0 ∷ (up.2.others ++ own.others)) sys1.id = (holds_of (find_group groups id) (λ g. IsUnder g up.0) row.0 row.1 up.1, back) in
    omega (arith, length-way groups tree.root_alone id (up.0 ∷ (up.2.others ++ own.others)) own.others round own.way, length-append up.2.others own.others)
