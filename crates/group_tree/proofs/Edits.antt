-- A tree that is changed as the calls change it is a tree.
use Rattle.std.proofs.Common.{◌≡◌, ℕ, ◌≤◌, Bool, true, false, cond, not, map, List, [], ◌∷◌, length, Option, Some, None, is_some, bytes_eq, refl, sym, ap, subst, ◌∙◌, true≢false, arith, ⊎_elim, inl, inr, length-append}
use Rattle.std.specs.Prelude.{◌↔◌, ◌⊎◌}
use Rattle.std.specs.List.{IsDistinct, AllByRecursion}
use Rattle.std.specs.Option.{option_map, option_eq}
use Rattle.std.specs.Set.{is_member}
use Rattle.std.specs.Cmp.Lexicographic.{nat_list_eq_equiv}
use Rattle.std.proofs.lemmas.List.{length-map, map-append}
use Rattle.std.proofs.lemmas.Map.Keys.{IsDistinct-push, IsDistinct-head, IsDistinct-tail, IsDistinct-cons}
use Rattle.racf_profiles.specs.declared.groups.Group.{Group}
use Rattle.racf_profiles.specs.NewDatabase.{sys1}
use Rattle.group_tree.specs.Groups.{first_absent, first_subgroup, with_group, at_group, with_superior, with_owner}
use Rattle.racf_profiles.specs.Lookup.{find_group, IsGroup, is_group}
use Rattle.racf_profiles.specs.Edits.{drop_row}
use Rattle.racf_profiles.specs.Scope.{IsWay, IsUnder, IsWithin}
use Rattle.racf_profiles.specs.Tree.{IsTree}
use Rattle.group_tree.specs.Answers.{CanAdd, CanMove, CanRemove}
use Rattle.group_tree.proofs.Rows.{same, itself, apart, value_of, holds_of, some_of, id-find_group, find_group-push_other, find_group-push_here, find_group-push_cases, find_group-map, names-map, find_group-drop_other, find_group-drop_gone}
use Rattle.group_tree.proofs.Ways.{way-kept, is_member-names}

-- ---- the names that have to be there
pub there_one : (groups : List Group) (id : List ℕ) → first_absent groups (id ∷ []) ≡ None → IsGroup groups id
there_one groups id h = by (is_some (find_group groups id)) h
  where
    by : (b : Bool) → cond (not b) (Some id) None ≡ None → b ≡ true
    by true e = refl
    by false e = cc

pub there_two : (groups : List Group) (x y : List ℕ) → first_absent groups (x ∷ y ∷ []) ≡ None → IsGroup groups x × IsGroup groups y
there_two groups x y h = by (is_some (find_group groups x)) (is_some (find_group groups y)) h
  where
    by : (b c : Bool) → cond (not b) (Some x) (cond (not c) (Some y) None) ≡ None → (b ≡ true) × (c ≡ true)
    by true true e = (refl, refl)
    by true false e = cc
    by false c e = cc

pub both_there : (groups : List Group) (x y : List ℕ) → IsGroup groups x → IsGroup groups y → first_absent groups (x ∷ y ∷ []) ≡ None
both_there groups x y h k = ap (λ b. cond (not b) (Some x) (cond (not (is_some (find_group groups y))) (Some y) None)) h ∙ ap (λ b. cond (not b) (Some y) None) k

pub one_there : (groups : List Group) (x : List ℕ) → IsGroup groups x → first_absent groups (x ∷ []) ≡ None
one_there groups x h = ap (λ b. cond (not b) (Some x) None) h

pub absent_one : (groups : List Group) (id : List ℕ) → find_group groups id ≡ None → first_absent groups (id ∷ []) ≡ Some id
absent_one groups id h = ap (λ o. cond (not (is_some {T = Group} o)) (Some id) None) h

pub none_from_map : {A B : Type 0} (f : A → B) (o : Option A) → option_map f o ≡ None → o ≡ None
none_from_map f None h = refl
none_from_map f (Some x) h = cc

some_from_map : {A B : Type 0} (f : A → B) (o : Option A) (y : B) → option_map f o ≡ Some y → (x : A) × (o ≡ Some x) × (f x ≡ y)
some_from_map f None y h = cc
some_from_map f (Some x) y h = (x, refl, cc)

-- ---- one more group
module _ (groups : List Group) (tree : IsTree groups) (group superior owner : List ℕ) (can : CanAdd groups group superior) where
  row : Group
  row = record { id = group; superior = Some superior; owner = owner }

  stays : (id : List ℕ) (others : List (List ℕ)) → IsWay IsUnder groups id others sys1.id → IsWay IsUnder (with_group groups group superior owner) id others sys1.id
  unfolding row
  stays id others w = way-kept IsUnder groups (with_group groups group superior owner)
      (λ x g h. holds_of (find_group (with_group groups group superior owner) x) (λ r. (next : List ℕ) → IsUnder g next → IsUnder r next) g (find_group-push_other groups row x g h) (λ n u. u))
      id others sys1.id w

  there_or_new : (id : List ℕ) (g : Group) → find_group (with_group groups group superior owner) id ≡ Some g → (o : Option Group) → find_group groups id ≡ o → (find_group groups id ≡ Some g) ⊎ ((id ≡ group) × (g ≡ row))
  unfolding row
  there_or_new id g h None e = inr (find_group-push_cases groups row id g h e)
  there_or_new id g h (Some r) e = inl (let n = find_group-push_other groups row id r e in cc)

  pub tree-with_group : IsTree (with_group groups group superior owner)
  unfolding row
  tree-with_group = record {
    distinct =
        let names = map-append (λ (g : Group). g.id) groups (row ∷ []) in
        subst (IsDistinct bytes_eq) (sym names) (IsDistinct-push nat_list_eq_equiv (map (λ (g : Group). g.id) groups) group tree.distinct (is_member-names groups group ∙ ap is_some can.name_free));
    most = omega (arith, can.room, length-append groups (row ∷ []));
    root =
        let r = some_of (find_group groups sys1.id) tree.root in
        ap is_some (find_group-push_other groups row sys1.id r.0 r.1);
    root_alone = λ id g h. ⊎_elim (λ e. tree.root_alone id g e) (λ n. new_root id g n.0 n.1) (there_or_new id g h (find_group groups id) refl);
    upwards = λ id h.
        let g = some_of (find_group (with_group groups group superior owner) id) h in
        ⊎_elim
        (λ e. let w = tree.upwards id (ap is_some e) in record { others = w.others; way = stays id w.others w.way })
        (λ n.
        let w = tree.upwards superior (there_one groups superior can.superior_there) in
        let here : find_group (with_group groups group superior owner) id ≡ Some row = subst (λ i. find_group (with_group groups group superior owner) i ≡ Some row) (sym n.0) (find_group-push_here groups row can.name_free) in
        record { others = superior ∷ w.others; way = (holds_of (find_group (with_group groups group superior owner) id) (λ r. IsUnder r superior) row here refl, stays superior w.others w.way) })
        (there_or_new id g.0 g.1 (find_group groups id) refl);
  }
    where
      new_root : (id : List ℕ) (g : Group) → id ≡ group → g ≡ record { id = group; superior = Some superior; owner = owner } → ((g.superior ≡ None) ↔ (id ≡ sys1.id))
      new_root id g n e =
          let some : g.superior ≡ Some superior = ap (λ r. r.superior) e in
          (λ none. cc, λ r. absurd (true≢false (sym tree.root ∙ ap (λ x. is_some (find_group groups x)) (sym r ∙ n) ∙ ap is_some can.name_free)))

-- ---- a group changed in its place
module _ (change : Group → Group) (keeps : (g : Group) → (change g).id ≡ g.id) (group : List ℕ) where
  at_one : Group → Group
  at_one g = cond (bytes_eq g.id group) (change g) g

  at_one-id : (g : Group) → (at_one g).id ≡ g.id
  unfolding at_one
  at_one-id g = by (bytes_eq g.id group)
    where
      by : (b : Bool) → (cond b (change g) g).id ≡ g.id
      by true = keeps g
      by false = refl

  pub names-at_group : (groups : List Group) → map (λ (g : Group). g.id) (at_group group change groups) ≡ map (λ (g : Group). g.id) groups
  unfolding at_one
  names-at_group groups = names-map at_one at_one-id groups

  pub find_group-at_group : (groups : List Group) (id : List ℕ) (g : Group) → find_group groups id ≡ Some g → find_group (at_group group change groups) id ≡ Some (cond (bytes_eq id group) (change g) g)
  unfolding at_one
  find_group-at_group groups id g h = find_group-map at_one at_one-id groups id ∙ ap (option_map at_one) h ∙ ap (λ x. Some (cond (bytes_eq x group) (change g) g)) (id-find_group groups id g h)

  pub find_group-at_group_back : (groups : List Group) (id : List ℕ) (h : Group) → find_group (at_group group change groups) id ≡ Some h → (g : Group) × (find_group groups id ≡ Some g) × (cond (bytes_eq id group) (change g) g ≡ h)
  unfolding at_one
  find_group-at_group_back groups id h e =
      let g = some_from_map at_one (find_group groups id) h (sym (find_group-map at_one at_one-id groups id) ∙ e) in
      (g.0, g.1, ap (λ x. cond (bytes_eq x group) (change g.0) g.0) (sym (id-find_group groups id g.0 g.1)) ∙ g.2)

  pub is_some-at_group : (groups : List Group) (id : List ℕ) → is_some (find_group (at_group group change groups) id) ≡ is_some (find_group groups id)
  is_some-at_group groups id = sym (is_member-names (at_group group change groups) id) ∙ ap (λ ks. is_member bytes_eq ks id) (names-at_group groups) ∙ is_member-names groups id

-- the same owner or another: superior groups stay
module _ (groups : List Group) (tree : IsTree groups) (group owner : List ℕ) where
  new_owner : (b : Bool) (g : Group) → (cond b (with_owner owner g) g).superior ≡ g.superior
  new_owner true g = refl
  new_owner false g = refl

  pub tree-with_owner : IsTree (at_group group (with_owner owner) groups)
  tree-with_owner = record {
    distinct = subst (IsDistinct bytes_eq) (sym (names-at_group (with_owner owner) (λ g. refl) group groups)) tree.distinct;
    most = omega (arith, tree.most, length-map {A = Group} {B = Group} groups (λ g. cond (bytes_eq g.id group) (with_owner owner g) g));
    root = is_some-at_group (with_owner owner) (λ g. refl) group groups sys1.id ∙ tree.root;
    root_alone = λ id h e.
        let g = find_group-at_group_back (with_owner owner) (λ g. refl) group groups id h e in
        let up : h.superior ≡ g.0.superior = ap (λ r. r.superior) (sym g.2) ∙ new_owner (bytes_eq id group) g.0 in
        subst (λ s. (s ≡ None) ↔ (id ≡ sys1.id)) (sym up) (tree.root_alone id g.0 g.1);
    upwards = λ id h.
        let w = tree.upwards id (sym (is_some-at_group (with_owner owner) (λ g. refl) group groups id) ∙ h) in
        record {
          others = w.others;
          way = way-kept IsUnder groups (at_group group (with_owner owner) groups)
              (λ x g e. holds_of (find_group (at_group group (with_owner owner) groups) x) (λ r. (next : List ℕ) → IsUnder g next → IsUnder r next) (cond (bytes_eq x group) (with_owner owner g) g) (find_group-at_group (with_owner owner) (λ g. refl) group groups x g e) (λ n u. new_owner (bytes_eq x group) g ∙ u))
              id w.others sys1.id w.way;
        };
  }

-- another superior group
module _ (groups : List Group) (tree : IsTree groups) (group superior : List ℕ) (can : CanMove groups group superior) (below : group ≡ sys1.id → ⊥) where
  moved : List Group
  moved = at_group group (with_superior superior) groups

  moved_other : (id : List ℕ) (g : Group) → bytes_eq id group ≡ false → find_group groups id ≡ Some g → find_group moved id ≡ Some g
  unfolding moved
  moved_other id g e h = find_group-at_group (with_superior superior) (λ g. refl) group groups id g h ∙ ap (λ b. Some (cond b (with_superior superior g) g)) e

  moved_here : (id : List ℕ) (g : Group) → bytes_eq id group ≡ true → find_group groups id ≡ Some g → find_group moved id ≡ Some (with_superior superior g)
  unfolding moved
  moved_here id g e h = find_group-at_group (with_superior superior) (λ g. refl) group groups id g h ∙ ap (λ b. Some (cond b (with_superior superior g) g)) e

  -- a way that doesn't meet the group stays
  way-apart : (id : List ℕ) (others : List (List ℕ)) → (IsWithin groups group id → ⊥) → IsWay IsUnder groups id others sys1.id → IsWay IsUnder moved id others sys1.id
  way-apart id [] away w =
      let g = some_of (find_group groups id) w.0 in
      let other : bytes_eq id group ≡ false = apart id group (λ e. below (sym e ∙ w.1)) in
      (ap is_some (moved_other id g.0 other g.1), w.1)
  way-apart id (next ∷ others) away w =
      let g = value_of (find_group groups id) (λ r. IsUnder r next) w.0 in
      let other : bytes_eq id group ≡ false = apart id group (λ e. away (record { others = []; way = (ap is_some g.1, e) })) in (
        holds_of (find_group moved id) (λ r. IsUnder r next) g.0 (moved_other id g.0 other g.1) g.2,
        way-apart next others (λ i. away (record { others = next ∷ i.others; way = (w.0, i.way) })) w.1,
      )

  -- and one that meets it goes on by the new superior group
  way-moved : (id : List ℕ) (others : List (List ℕ)) → IsWay IsUnder groups id others sys1.id → IsWithin moved sys1.id superior → IsWithin moved sys1.id id
  way-moved id [] w s =
      let g = some_of (find_group groups id) w.0 in
      let other : bytes_eq id group ≡ false = apart id group (λ e. below (sym e ∙ w.1)) in
      record { others = []; way = (ap is_some (moved_other id g.0 other g.1), w.1) }
  way-moved id (next ∷ others) w s = by (bytes_eq id group) refl (way-moved next others w.1 s)
    where
      by : (b : Bool) → bytes_eq id group ≡ b → IsWithin moved sys1.id next → IsWithin moved sys1.id id
      by true e rest =
          let g = value_of (find_group groups id) (λ r. IsUnder r next) w.0 in
          record { others = superior ∷ s.others; way = (holds_of (find_group moved id) (λ r. IsUnder r superior) (with_superior superior g.0) (moved_here id g.0 e g.1) refl, s.way) }
      by false e rest =
          let g = value_of (find_group groups id) (λ r. IsUnder r next) w.0 in
          record { others = next ∷ rest.others; way = (holds_of (find_group moved id) (λ r. IsUnder r next) g.0 (moved_other id g.0 e g.1) g.2, rest.way) }

  moved_root : (id : List ℕ) (g h : Group) → find_group groups id ≡ Some g → (b : Bool) → bytes_eq id group ≡ b → cond b (with_superior superior g) g ≡ h → ((h.superior ≡ None) ↔ (id ≡ sys1.id))
  moved_root id g h there true e f =
      let some : h.superior ≡ Some superior = ap (λ r. r.superior) (sym f) in
      (λ none. cc, λ r. absurd (below (sym (same id group e) ∙ r)))
  moved_root id g h there false e f = subst (λ r. (r.superior ≡ None) ↔ (id ≡ sys1.id)) f (tree.root_alone id g there)

  pub tree-with_superior : IsTree (at_group group (with_superior superior) groups)
  unfolding moved
  tree-with_superior = record {
    distinct = subst (IsDistinct bytes_eq) (sym (names-at_group (with_superior superior) (λ g. refl) group groups)) tree.distinct;
    most = omega (arith, tree.most, length-map {A = Group} {B = Group} groups (λ g. cond (bytes_eq g.id group) (with_superior superior g) g));
    root = is_some-at_group (with_superior superior) (λ g. refl) group groups sys1.id ∙ tree.root;
    root_alone = λ id h e.
        let g = find_group-at_group_back (with_superior superior) (λ g. refl) group groups id h e in
        moved_root id g.0 h g.1 (bytes_eq id group) refl g.2;
    upwards = λ id h.
        let w = tree.upwards id (sym (is_some-at_group (with_superior superior) (λ g. refl) group groups id) ∙ h) in
        let s = tree.upwards superior ((there_two groups group superior can.both_there).1) in
        way-moved id w.others w.way (record { others = s.others; way = way-apart superior s.others can.no_cycle s.way });
  }

-- ---- a group taken away
-- no superior group has a name that no group has as its superior group
no_subgroup : (groups : List Group) (id x : List ℕ) (g : Group) → first_subgroup groups id ≡ None → find_group groups x ≡ Some g → g.superior ≡ Some id → ⊥
no_subgroup [] id x g none h up = cc
no_subgroup (r ∷ rs) id x g none h up = by (option_eq bytes_eq r.superior (Some id)) refl none (bytes_eq r.id x) h (λ n j. no_subgroup rs id x g n j up)
  where
    by : (b : Bool) → option_eq bytes_eq r.superior (Some id) ≡ b → cond b (Some r) (first_subgroup rs id) ≡ None → (c : Bool) → cond c (Some r) (find_group rs x) ≡ Some g → (first_subgroup rs id ≡ None → find_group rs x ≡ Some g → ⊥) → ⊥
    by true e n c j rest = cc
    by false e n true j rest =
        let row : r ≡ g = cc in
        let it : option_eq bytes_eq r.superior (Some id) ≡ bytes_eq id id = ap (λ o. option_eq bytes_eq o (Some id)) (ap (λ z. z.superior) row ∙ up) in
        true≢false (sym (itself id) ∙ sym it ∙ e)
    by false e n false j rest = rest n j

all-drop : (P : List ℕ → Type 0) (gone : List ℕ) (groups : List Group) → AllByRecursion P (map (λ (g : Group). g.id) groups) → AllByRecursion P (map (λ (g : Group). g.id) (drop_row (is_group gone) groups))
all-drop P gone [] h = tt
all-drop P gone (g ∷ gs) h = by (bytes_eq g.id gone) (all-drop P gone gs h.1)
  where
    by : (b : Bool) → AllByRecursion P (map (λ (g : Group). g.id) (drop_row (is_group gone) gs)) → AllByRecursion P (map (λ (g : Group). g.id) (cond b gs (g ∷ drop_row (is_group gone) gs)))
    by true rest = h.1
    by false rest = (h.0, rest)

distinct-drop : (gone : List ℕ) (groups : List Group) → IsDistinct bytes_eq (map (λ (g : Group). g.id) groups) → IsDistinct bytes_eq (map (λ (g : Group). g.id) (drop_row (is_group gone) groups))
distinct-drop gone [] h = h
distinct-drop gone (g ∷ gs) h = by (bytes_eq g.id gone) (IsDistinct-tail bytes_eq g.id (map (λ (r : Group). r.id) gs) h) (distinct-drop gone gs (IsDistinct-tail bytes_eq g.id (map (λ (r : Group). r.id) gs) h))
  where
    by : (b : Bool) → IsDistinct bytes_eq (map (λ (r : Group). r.id) gs) → IsDistinct bytes_eq (map (λ (r : Group). r.id) (drop_row (is_group gone) gs)) → IsDistinct bytes_eq (map (λ (r : Group). r.id) (cond b gs (g ∷ drop_row (is_group gone) gs)))
    by true all rest = all
    by false all rest = IsDistinct-cons bytes_eq g.id (map (λ (r : Group). r.id) (drop_row (is_group gone) gs)) (all-drop (λ y. bytes_eq g.id y ≡ false) gone gs (IsDistinct-head bytes_eq g.id (map (λ (r : Group). r.id) gs) h)) rest

length-drop_le : (gone : List ℕ) (groups : List Group) → length (drop_row (is_group gone) groups) ≤ length groups
length-drop_le gone [] = omega arith
length-drop_le gone (g ∷ gs) = by (bytes_eq g.id gone) (length-drop_le gone gs)
  where
    by : (b : Bool) → length (drop_row (is_group gone) gs) ≤ length gs → length (cond b gs (g ∷ drop_row (is_group gone) gs)) ≤ length (g ∷ gs)
    by true rest = omega arith
    by false rest = omega arith

module _ (groups : List Group) (tree : IsTree groups) (gone : List ℕ) (can : CanRemove groups gone) (below : gone ≡ sys1.id → ⊥) where
  way-left : (id : List ℕ) (others : List (List ℕ)) → bytes_eq id gone ≡ false → IsWay IsUnder groups id others sys1.id → IsWay IsUnder (drop_row (is_group gone) groups) id others sys1.id
  way-left id [] other w = (ap is_some (find_group-drop_other gone groups id other) ∙ w.0, w.1)
  way-left id (next ∷ others) other w =
      let g = value_of (find_group groups id) (λ r. IsUnder r next) w.0 in
      let no : bytes_eq next gone ≡ false = apart next gone (λ e. no_subgroup groups gone id g.0 can.no_subgroup g.1 (g.2 ∙ ap (λ n. Some n) e)) in
      (holds_of (find_group (drop_row (is_group gone) groups) id) (λ r. IsUnder r next) g.0 (find_group-drop_other gone groups id other ∙ g.1) g.2, way-left next others no w.1)

  left : (id : List ℕ) (g : Group) → find_group (drop_row (is_group gone) groups) id ≡ Some g → (b : Bool) → bytes_eq id gone ≡ b → (b ≡ false) × (find_group groups id ≡ Some g)
  left id g h true e =
      let none : find_group (drop_row (is_group gone) groups) id ≡ None = ap (find_group (drop_row (is_group gone) groups)) (same id gone e) ∙ find_group-drop_gone gone groups tree.distinct in
      cc
  left id g h false e = (refl, sym (find_group-drop_other gone groups id e) ∙ h)

  pub tree-drop : IsTree (drop_row (is_group gone) groups)
  tree-drop = record {
    distinct = distinct-drop gone groups tree.distinct;
    most = omega (arith, tree.most, length-drop_le gone groups);
    root = ap is_some (find_group-drop_other gone groups sys1.id (apart sys1.id gone (λ e. below (sym e)))) ∙ tree.root;
    root_alone = λ id g h. tree.root_alone id g (left id g h (bytes_eq id gone) refl).1;
    upwards = λ id h.
        let g = some_of (find_group (drop_row (is_group gone) groups) id) h in
        let old = left id g.0 g.1 (bytes_eq id gone) refl in
        let w = tree.upwards id (ap is_some old.1) in
        record { others = w.others; way = way-left id w.others old.0 w.way };
  }
