-- The groups that a walk up meets are those that the group is below, or is.
use Rattle.std.proofs.Common.{◌≡◌, ℕ, ◌<◌, zero, suc, Bool, true, false, ◌||◌, List, [], ◌∷◌, ◌++◌, length, Option, None, Some, is_some, bytes_eq, refl, sym, ap, subst, ◌∙◌, true≢false, arith, length-append}
use Rattle.std.specs.List.{list_any}
use Rattle.std.specs.Option.{option_map_or}
use Rattle.std.proofs.lemmas.Bool.{or_right}
use Rattle.racf_profiles.specs.declared.groups.Group.{Group}
use Rattle.racf_profiles.specs.NewDatabase.{sys1}
use Rattle.racf_profiles.specs.Lookup.{find_group, IsGroup}
use Rattle.racf_profiles.specs.Scope.{IsWay, IsUnder, IsWithin}
use Rattle.racf_profiles.specs.Tree.{IsTree}
use Rattle.group_tree.proofs.Rows.{same, itself, value_of, holds_of, some_of, id-find_group}
use Rattle.group_tree.proofs.Ways.{way-append, length-way_le}
use Rattle.command_rules.specs.Conflicts.{walk_up, and_above, meets}

-- whether a walk meets the group
abbrev meets_in : List ℕ → List (List ℕ) → Bool
meets_in group walk = list_any (λ met. bytes_eq met group) walk

unfold_found : (steps : ℕ) (groups : List Group) (id : List ℕ) (row : Group) → find_group groups id ≡ Some row → walk_up (suc steps) groups id ≡ row.id ∷ option_map_or (walk_up steps groups) row.superior []
unfold_found steps groups id row found = ap (and_above (walk_up steps groups)) found

-- a way that is short enough is walked
pub met-way : (steps : ℕ) (groups : List Group) (from : List ℕ) (others : List (List ℕ)) (to : List ℕ) → length others < steps → IsWay IsUnder groups from others to → meets_in to (walk_up steps groups from) ≡ true
met-way zero groups from others to short way = absurd (omega (arith, short))
met-way (suc steps) groups from [] to short way =
    let row = some_of (find_group groups from) way.0 in
    let name : row.0.id ≡ to = id-find_group groups from row.0 row.1 ∙ way.1 in
    ap (meets_in to) (unfold_found steps groups from row.0 row.1)
    ∙ ap (λ b. b || meets_in to (option_map_or (walk_up steps groups) row.0.superior [])) (ap (λ n. bytes_eq n to) name ∙ itself to)
met-way (suc steps) groups from (next ∷ others) to short way =
    let row = value_of (find_group groups from) (λ g. IsUnder g next) way.0 in
    let up : row.0.superior ≡ Some next = row.2 in
    let rest : meets_in to (walk_up steps groups next) ≡ true = met-way steps groups next others to (omega (arith, short)) way.1 in
    ap (meets_in to) (unfold_found steps groups from row.0 row.1)
    ∙ ap (λ o. bytes_eq row.0.id to || meets_in to (option_map_or (walk_up steps groups) o [])) up
    ∙ ap (λ b. bytes_eq row.0.id to || b) rest
    ∙ or_right (bytes_eq row.0.id to) true refl

-- what a walk meets is on a way up
pub way-met : (steps : ℕ) (groups : List Group) (from to : List ℕ) → meets_in to (walk_up steps groups from) ≡ true → IsWithin groups to from
way-met zero groups from to met = absurd (true≢false (sym met))
way-met (suc steps) groups from to met = by (find_group groups from) refl (λ next. way-met steps groups next to)
  where
    by : (o : Option Group) → find_group groups from ≡ o → ((next : List ℕ) → meets_in to (walk_up steps groups next) ≡ true → IsWithin groups to next) → IsWithin groups to from
    by None none rest = absurd (true≢false (sym met ∙ ap (λ q. meets_in to (and_above (walk_up steps groups) q)) none))
    by (Some row) found rest = here (bytes_eq row.id to) refl row.superior refl (sym (ap (λ q. meets_in to (and_above (walk_up steps groups) q)) found) ∙ met)
      where
        here : (b : Bool) → bytes_eq row.id to ≡ b → (up : Option (List ℕ)) → row.superior ≡ up → meets_in to (row.id ∷ option_map_or (walk_up steps groups) row.superior []) ≡ true → IsWithin groups to from
        here true name up above m = record { others = []; way = (ap is_some found, sym (id-find_group groups from row found) ∙ same row.id to name) }
        here false name None above m = absurd (true≢false (sym m ∙ ap (λ o. bytes_eq row.id to || meets_in to (option_map_or (walk_up steps groups) o [])) above ∙ ap (λ b. b || false) name))
        here false name (Some next) above m =
            let within = rest next (sym (ap (λ o. bytes_eq row.id to || meets_in to (option_map_or (walk_up steps groups) o [])) above ∙ ap (λ b. b || meets_in to (walk_up steps groups next)) name) ∙ m) in
            record { others = next ∷ within.others; way = (holds_of (find_group groups from) (λ g. IsUnder g next) row found above, within.way) }

-- In a tree a walk of as many steps as there are groups meets all that there is to meet.
pub meets-within : (groups : List Group) → IsTree groups → (group from : List ℕ) → IsWithin groups group from → meets group from groups ≡ true
unfolding meets
meets-within groups tree group from within =
    let there : IsGroup groups group = way-last from within.others within.way in
    let own = tree.upwards group there in
    let all = way-append IsUnder groups from within.others group own.others sys1.id within.way own.way in
    met-way (length groups) groups from within.others group (omega (arith, length-way_le groups tree from (within.others ++ own.others) all, length-append within.others own.others)) within.way
  where
    way-last : (first : List ℕ) (others : List (List ℕ)) → IsWay IsUnder groups first others group → IsGroup groups group
    way-last first [] way = subst (IsGroup groups) way.1 way.0
    way-last first (next ∷ others) way = way-last next others way.1

pub within-meets : (groups : List Group) (group from : List ℕ) → meets group from groups ≡ true → IsWithin groups group from
unfolding meets
within-meets groups group from met = way-met (length groups) groups from group met
