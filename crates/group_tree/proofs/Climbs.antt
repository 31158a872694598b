-- One step of a walk up, and that it ends.
use Rattle.std.proofs.Common.{◌≡◌, ℕ, ◌+◌, ◌<◌, ◌≤◌, Bool, true, false, cond, List, [], ◌∷◌, length, Option, Some, None, is_some, bytes_eq, refl, sym, ap, subst, ◌∙◌, true≢false, arith}
use Rattle.std.specs.Option.{option_eq}
use Rattle.racf_profiles.specs.declared.groups.Group.{Group}
use Rattle.group_tree.specs.declared.climb.Climb.{Climb}
use Rattle.group_tree.specs.declared.climb.Climb.TheVariants.{BySuperiors, ByOwners}
use Rattle.racf_profiles.specs.NewDatabase.{sys1}
use Rattle.racf_profiles.specs.Lookup.{find_group, IsGroup}
use Rattle.racf_profiles.specs.Scope.{IsWay, IsUnder}
use Rattle.group_tree.specs.Climb.{above, IsLinkedBy, LeadsUp}
use Rattle.racf_profiles.specs.Tree.{IsTree}
use Rattle.group_tree.proofs.Rows.{same, itself, value_of, holds_of}
use Rattle.group_tree.proofs.Ways.{way-first, length-way_le}

-- ---- the next group up
same_owner : (o : Option (List ℕ)) (owner next : List ℕ) → cond (option_eq bytes_eq o (Some owner)) o None ≡ Some next → (o ≡ Some next) × (owner ≡ next)
same_owner None owner next h = cc
same_owner (Some s) owner next h = by (bytes_eq s owner) refl h
  where
    by : (b : Bool) → bytes_eq s owner ≡ b → cond b (Some s) None ≡ Some next → (Some s ≡ Some next) × (owner ≡ next)
    by true e j = (j, let own : s ≡ owner = same s owner e in cc)
    by false e j = cc

pub linked-above : (climb : Climb) (group : Group) (next : List ℕ) → above climb group ≡ Some next → IsLinkedBy climb group next
linked-above BySuperiors group next h = h
linked-above ByOwners group next h = same_owner group.superior group.owner next h

pub above-linked : (climb : Climb) (group : Group) (next : List ℕ) → IsLinkedBy climb group next → above climb group ≡ Some next
above-linked BySuperiors group next h = h
above-linked ByOwners group next h =
    ap (λ o. cond (option_eq bytes_eq o (Some group.owner)) o None) h.0
    ∙ ap (λ o. cond (bytes_eq next o) (Some next) None) h.1
    ∙ ap (λ b. cond b (Some next) None) (itself next)

superior-above : (climb : Climb) (group : Group) (next : List ℕ) → above climb group ≡ Some next → group.superior ≡ Some next
superior-above BySuperiors group next h = h
superior-above ByOwners group next h = (same_owner group.superior group.owner next h).0

-- ---- one step
module _ (climb : Climb) (groups : List Group) (current to : List ℕ) where
  pub leads_none : find_group groups current ≡ None → LeadsUp climb groups current to → ⊥
  leads_none none w = true≢false (sym (way-first (IsLinkedBy climb) groups current w.others to w.way) ∙ ap is_some none)

  pub leads_here : (group : Group) → find_group groups current ≡ Some group → current ≡ to → LeadsUp climb groups current to
  leads_here group here e = record { others = []; way = (ap is_some here, e) }

  pub leads_stuck : (group : Group) → find_group groups current ≡ Some group → (current ≡ to → ⊥) → above climb group ≡ None → LeadsUp climb groups current to → ⊥
  leads_stuck group here past none w = by w.others w.way
    where
      by : (others : List (List ℕ)) → IsWay (IsLinkedBy climb) groups current others to → ⊥
      by [] v = past v.1
      by (next ∷ others) v =
          let r = value_of (find_group groups current) (λ g. IsLinkedBy climb g next) v.0 in
          let some : above climb r.0 ≡ Some next = above-linked climb r.0 next r.2 in
          let one : r.0 ≡ group = (let a = r.1 in cc) in
          let no : above climb r.0 ≡ None = ap (above climb) one ∙ none in
          cc

  module _ (group : Group) (next : List ℕ) (here : find_group groups current ≡ Some group) (up : above climb group ≡ Some next) where
    pub leads_from_next : LeadsUp climb groups next to → LeadsUp climb groups current to
    leads_from_next w = record { others = next ∷ w.others; way = (holds_of (find_group groups current) (λ g. IsLinkedBy climb g next) group here (linked-above climb group next up), w.way) }

    pub leads_to_next : (current ≡ to → ⊥) → LeadsUp climb groups current to → LeadsUp climb groups next to
    leads_to_next past w = by w.others w.way
      where
        by : (others : List (List ℕ)) → IsWay (IsLinkedBy climb) groups current others to → LeadsUp climb groups next to
        by [] v = absurd (past v.1)
        by (n ∷ others) v =
            let r = value_of (find_group groups current) (λ g. IsLinkedBy climb g n) v.0 in
            let some : above climb r.0 ≡ Some n = above-linked climb r.0 n r.2 in
            let one : r.0 ≡ group = (let a = r.1 in cc) in
            let two : above climb r.0 ≡ Some next = ap (above climb) one ∙ up in
            let it : n ≡ next = cc in
            record { others = others; way = subst (λ x. IsWay (IsLinkedBy climb) groups x others to) it v.1 }

-- ---- how far the root is
-- the group's way to the root fits in the steps that are left
abbrev pub HasSteps : List Group → (current : List ℕ) → (steps : ℕ) → Type 0
HasSteps groups current steps = IsGroup groups current → (others : List (List ℕ)) × IsWay IsUnder groups current others sys1.id × (length others + steps < length groups)

pub steps_first : (groups : List Group) → IsTree groups → (id : List ℕ) → HasSteps groups id 0
steps_first groups tree id there =
    let w = tree.upwards id there in
    (w.others, w.way, omega (arith, length-way_le groups tree id w.others w.way))

pub steps_next : (groups : List Group) → IsTree groups → (climb : Climb) (current next : List ℕ) (group : Group) (steps : ℕ) → find_group groups current ≡ Some group → above climb group ≡ Some next → HasSteps groups current steps → HasSteps groups next (steps + 1)
steps_next groups tree climb current next group steps here up has there =
    let w = has (ap is_some here) in by w.0 w.1 w.2
  where
    by : (others : List (List ℕ)) → IsWay IsUnder groups current others sys1.id → length others + steps < length groups → (more : List (List ℕ)) × IsWay IsUnder groups next more sys1.id × (length more + (steps + 1) < length groups)
    by [] v fits =
        let some : group.superior ≡ Some next = superior-above climb group next up in
        let none : group.superior ≡ None = (tree.root_alone current group here).1 v.1 in
        absurd (let a = some in cc)
    by (n ∷ others) v fits =
        let r = value_of (find_group groups current) (λ g. IsUnder g n) v.0 in
        let one : r.0 ≡ group = (let a = r.1 in cc) in
        let some : r.0.superior ≡ Some next = ap (λ g. g.superior) one ∙ superior-above climb group next up in
        let it : n ≡ next = (let a : r.0.superior ≡ Some n = r.2 in cc) in
        (others, subst (λ x. IsWay IsUnder groups x others sys1.id) it v.1, omega (arith, fits))

pub steps_all : (climb : Climb) (groups : List Group) (current to : List ℕ) (steps : ℕ) → length groups ≤ steps → HasSteps groups current steps → LeadsUp climb groups current to → ⊥
steps_all climb groups current to steps all has w =
    let v = has (way-first (IsLinkedBy climb) groups current w.others to w.way) in
    omega (arith, v.2)
