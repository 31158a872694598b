-- The options and groups of lawful rows fit, and their facts hold.
use Rattle.std.proofs.Common.{◌≡◌, ℕ, zero, suc, ◌+◌, ◌≤◌, Bool, true, false, cond, List, [], ◌∷◌, ◌++◌, length, map, Option, Some, None, Ok, is_some, bytes_eq, refl, sym, ap, subst, ◌∙◌, append_assoc, ◌-◌, arith}
use Rattle.std.specs.Prelude.{not, IsSomeAnd}
use Rattle.std.specs.List.{AllByRecursion, IsDistinct}
use Rattle.std.specs.Option.{option_and_then, option_map_or}
use Rattle.std.proofs.lemmas.Bool.{and_from, false_from_ne_true}
use Rattle.std.proofs.lemmas.Map.Keys.{IsDistinct-head, IsDistinct-tail}
use Rattle.access_levels.specs.Spelling.{group_of as group_spelled}
use Rattle.racf_profiles.specs.declared.groups.Group.{Group}
use Rattle.racf_profiles.specs.declared.options.Options.{Options}
use Rattle.racf_profiles.specs.declared.rows.Rows.{Rows}
use Rattle.racf_profiles.specs.NewDatabase.{sys1}
use Rattle.racf_profiles.specs.Lookup.{is_group, find_group}
use Rattle.racf_profiles.specs.Scope.{IsUnder, IsWay}
use Rattle.racf_profiles.specs.Lawful.{AreLawful, AreCategories}
use Rattle.racf_profiles.proofs.Named.{same, itself}
use Rattle.racf_profiles.proofs.States.{find-passes}
use Rattle.database_image.specs.Description.{option_flags, options, is_superior_of, group}
use Rattle.database_image.specs.Facts.{Fact, told, told_of_each, first_broken, group_facts, is_superior_in, leads_to}
use Rattle.database_image.specs.Forms.{ItemsFit}
use Rattle.database_image.specs.Spelled.{IsId, IsSpelledGroup, AreSpelled}
use Rattle.database_image.specs.Ways.{above, climbed}
use Rattle.database_image.proofs.Climbs.{climbed-zero, climbed-suc, climbed-add, join, step_first, walk_of}
use Rattle.database_image.proofs.Told.{none-first, one-holds}
use Rattle.database_image.proofs.JudgedRows.{flags-options, options-below}
use Rattle.database_image.proofs.FitFields.{spelled-number, at-most, below-limit, spelled-id, IsGroupName, spelled-group, IsGroupOrNone, spelled-superior, items-fit, new-in, ids-fit}

pub options-fit : (o : Options) → AllByRecursion IsId o.categories → AreCategories o → options.Fits o
unfolding options
options-fit o ids lawful = (
  (spelled-number 1 (option_flags o) (omega (arith, options-below o)), below-limit (option_flags o) 8 (options-below o)),
  (
    ((spelled-number 2 (length o.categories) (omega (arith, lawful.few)), at-most (length o.categories) 256 lawful.few), ids-fit o.categories ids lawful.distinct),
    flags-options o,
  ),
)

-- ---- what facts are told of items
pub each-true : {A : Type 0} (width : A → ℕ) (F : ℕ → A → List Fact) (items : List A) → AllByRecursion (λ x. (p : ℕ) → first_broken (F p x) ≡ None) items → (place : ℕ) → first_broken (told_of_each width F place items) ≡ None
each-true width F [] h place = refl
each-true width F (x ∷ items) h place = none-first (F place x) (told_of_each width F (place + width x) items) (h.0 place) ∙ each-true width F items h.1 (place + width x)

pub all-of : {A : Type 0} (P Q : A → Type 0) → ((x : A) → P x → Q x) → (items : List A) → AllByRecursion P items → AllByRecursion Q items
all-of P Q f [] h = tt
all-of P Q f (x ∷ items) h = (f x h.0, all-of P Q f items h.1)

pub all-both : {A : Type 0} (P Q : A → Type 0) (items : List A) → AllByRecursion P items → AllByRecursion Q items → AllByRecursion (λ x. P x × Q x) items
all-both P Q [] h k = tt
all-both P Q (x ∷ items) h k = ((h.0, k.0), all-both P Q items h.1 k.1)

-- ---- a group that is there has its own name
named-apart : (before : List Group) (g : Group) (rest : List Group) → IsDistinct bytes_eq (map (λ (h : Group). h.id) (before ++ g ∷ rest)) → find_group (before ++ g ∷ rest) g.id ≡ Some g
named-apart [] g rest distinct = ap (λ b. cond b (Some g) (find_group rest g.id)) (itself g.id)
named-apart (b ∷ before) g rest distinct =
    let ids : List (List ℕ) = map (λ (h : Group). h.id) (before ++ g ∷ rest) in
    let other : bytes_eq b.id g.id ≡ false = middle (λ y. bytes_eq b.id y ≡ false) before (IsDistinct-head bytes_eq b.id ids distinct) in
    ap (λ c. cond c (Some b) (find_group (before ++ g ∷ rest) g.id)) other ∙ named-apart before g rest (IsDistinct-tail bytes_eq b.id ids distinct)
  where
    middle : (P : List ℕ → Type 0) (front : List Group) → AllByRecursion P (map (λ (h : Group). h.id) (front ++ g ∷ rest)) → P g.id
    middle P [] all = all.0
    middle P (f ∷ front) all = middle P front all.1

found-all : (P : Group → Type 0) (groups : List Group) (id : List ℕ) (g : Group) → AllByRecursion P groups → find_group groups id ≡ Some g → P g
found-all P [] id g all h = absurd cc
found-all P (x ∷ groups) id g all h = by (bytes_eq x.id id) (λ e. found-all P groups id g all.1 e) h
  where
    by : (b : Bool) → (find_group groups id ≡ Some g → P g) → (cond b (Some x) (find_group groups id)) ≡ Some g → P g
    by true more e = let one : x ≡ g = (let a = e in cc) in subst P one all.0
    by false more e = more e

module _ (rows : Rows) (lawful : AreLawful rows) (spelled : AreSpelled rows) where
  abbrev groups : List Group
  groups = rows.groups

  -- the name of a group that is there is spelled as a group's name
  pub there-spelled : (id : List ℕ) → is_some (find_group groups id) ≡ true → IsGroupName id
  there-spelled id there = by (find_group groups id) refl there
    where
      by : (o : Option Group) → find_group groups id ≡ o → is_some o ≡ true → IsGroupName id
      by None e t = absurd cc
      by (Some g) e t =
          let one : g.id ≡ id = same g.id id (find-passes (is_group id) g groups e) in
          let is = found-all (λ h. IsSpelledGroup h × (group_spelled h.id ≡ Ok h.id)) groups id g (all-both IsSpelledGroup (λ h. group_spelled h.id ≡ Ok h.id) groups spelled.groups lawful.group_names) e in
          subst IsGroupName one (record { id = is.0.id; group = is.1 })

  -- ---- ways up end
  above-under : (id next : List ℕ) → IsSomeAnd (find_group groups id) (λ row. IsUnder row next) → above groups id ≡ Some next
  above-under id next h = by (find_group groups id) h
    where
      by : (o : Option Group) → IsSomeAnd o (λ row. IsUnder row next) → option_and_then (λ (row : Group). row.superior) o ≡ Some next
      by None h = absurd h
      by (Some g) h = h

  way-climbs : (id : List ℕ) (others : List (List ℕ)) (last : List ℕ) → IsWay IsUnder groups id others last → climbed (length others) groups id ≡ Some last
  way-climbs id [] last w = climbed-zero groups id ∙ ap (λ (x : List ℕ). Some x) w.1
  way-climbs id (next ∷ others) last w = step_first groups (length others) id next last (above-under id next w.0) (way-climbs next others last w.1)

  first-there : (id : List ℕ) (others : List (List ℕ)) (last : List ℕ) → IsWay IsUnder groups id others last → is_some (find_group groups id) ≡ true
  first-there id [] last w = w.0
  first-there id (next ∷ others) last w = by (find_group groups id) w.0
    where
      by : (o : Option Group) → IsSomeAnd o (λ row. IsUnder row next) → is_some o ≡ true
      by None h = absurd h
      by (Some g) h = refl

  root-ends : above groups sys1.id ≡ None
  root-ends = by (find_group groups sys1.id) refl
    where
      by : (o : Option Group) → find_group groups sys1.id ≡ o → option_and_then (λ (row : Group). row.superior) o ≡ None
      by None e = refl
      by (Some g) e = (lawful.groups.root_alone sys1.id g e).1 refl

  past-root : (n : ℕ) (id : List ℕ) → climbed n groups id ≡ Some sys1.id → (more : ℕ) → climbed (n + suc more) groups id ≡ None
  past-root n id h more = climbed-add groups n (suc more) id ∙ ap (option_and_then (climbed (suc more) groups)) h ∙ climbed-suc groups more sys1.id ∙ ap (option_and_then (climbed more groups)) root-ends

  abbrev rounds : (step times : ℕ) → ℕ
  rounds step zero = 0
  rounds step (suc times) = suc step + rounds step times

  rounds-climb : (step : ℕ) (id : List ℕ) → climbed (suc step) groups id ≡ Some id → (times : ℕ) → climbed (rounds step times) groups id ≡ Some id
  rounds-climb step id h zero = climbed-zero groups id
  rounds-climb step id h (suc times) = join groups (suc step) (rounds step times) id id id h (rounds-climb step id h times)

  many-rounds : (step times : ℕ) → times ≤ rounds step times
  many-rounds step zero = omega arith
  many-rounds step (suc times) = omega (arith, many-rounds step times)

  none-some : (o : Option (List ℕ)) (x : List ℕ) → o ≡ Some x → o ≡ None → ⊥
  none-some o x h k = cc

  none-round : (id : List ℕ) → is_some (find_group groups id) ≡ true → (step : ℕ) → climbed (suc step) groups id ≡ Some id → ⊥
  none-round id there step round =
      let w = lawful.groups.upwards id there in
      let n : ℕ = length w.others in
      let far : ℕ = rounds step (suc n) in
      let split : (more : ℕ) × (far ≡ n + suc more) = (rounds step (suc n) - suc n, omega (arith, many-rounds step (suc n))) in
      none-some (climbed far groups id) id (rounds-climb step id round (suc n)) (ap (λ k. climbed k groups id) split.1 ∙ past-root n id (way-climbs id w.others sys1.id w.way) split.0)

  -- ---- a group of the list
  module _ (g : Group) (found : find_group groups g.id ≡ Some g) where
    here : is_some (find_group groups g.id) ≡ true
    here = ap is_some found

    up : (s : List ℕ) → g.superior ≡ Some s → above groups g.id ≡ Some s
    up s e = ap (option_and_then (λ (row : Group). row.superior)) found ∙ e

    superior-there : (s : List ℕ) → g.superior ≡ Some s → is_some (find_group groups s) ≡ true
    superior-there s e = by (lawful.groups.upwards g.id here).others (lawful.groups.upwards g.id here).way
      where
        by : (others : List (List ℕ)) → IsWay IsUnder groups g.id others sys1.id → is_some (find_group groups s) ≡ true
        by [] w = absurd (none-some g.superior s e ((lawful.groups.root_alone g.id g found).1 w.1))
        by (next ∷ others) w =
            let one : next ≡ s = (let a : Some next ≡ Some s = sym (above-under g.id next w.0) ∙ up s e in cc) in
            subst (λ x. is_some (find_group groups x) ≡ true) one (first-there next others sys1.id w.1)

    no-way-back : (s : List ℕ) → g.superior ≡ Some s → leads_to (length groups) groups g.id s ≡ false
    no-way-back s e = false_from_ne_true (leads_to (length groups) groups g.id s) (λ t. let w = walk_of groups (length groups) g.id s t in none-round g.id here w.0 (step_first groups w.0 g.id s g.id (up s e) w.2))

    superior-lawful : (o : Option (List ℕ)) → g.superior ≡ o → (is_superior_of g.id o ≡ true) × IsGroupOrNone o
    superior-lawful None e = (ap (bytes_eq g.id) (sym ((lawful.groups.root_alone g.id g found).0 e)) ∙ itself g.id, tt)
    superior-lawful (Some s) e = (
      ap not (false_from_ne_true (bytes_eq g.id sys1.id) (λ t. none-some g.superior s e ((lawful.groups.root_alone g.id g found).1 (same g.id sys1.id t)))),
      there-spelled s (superior-there s e),
    )

    facts-hold : (o : Option (List ℕ)) → g.superior ≡ o → (place : ℕ) → first_broken (option_map_or (λ superior. told (place + 8) (is_superior_in groups g superior) ∷ []) o []) ≡ None
    facts-hold None e place = refl
    facts-hold (Some s) e place = one-holds (place + 8) (is_superior_in groups g s) [] (and_from _ _ (superior-there s e) (ap not (no-way-back s e)))

  found-in : (before : List Group) (g : Group) (rest : List Group) → before ++ g ∷ rest ≡ groups → find_group groups g.id ≡ Some g
  found-in before g rest e =
      subst (λ (gs : List Group). find_group gs g.id ≡ Some g) e (named-apart before g rest (subst (λ (gs : List Group). IsDistinct bytes_eq (map (λ (h : Group). h.id) gs)) (sym e) lawful.groups.distinct))

  group-fits : (before : List Group) (g : Group) (rest : List Group) → before ++ g ∷ rest ≡ groups → IsSpelledGroup g × (group_spelled g.id ≡ Ok g.id) → (group before).Fits g
  unfolding group
  group-fits before g rest e k =
      let superior = superior-lawful g (found-in before g rest e) g.superior refl in (
        (spelled-group g.id (record { id = k.0.id; group = k.1 }), new-in (λ (h : Group). h.id) before g rest groups e lawful.groups.distinct),
        ((spelled-superior g.superior superior.1, superior.0), ((spelled-id g.owner k.0.owner, refl), refl)),
      )

  pub groups-fit : ItemsFit group [] groups
  groups-fit = items-fit group (λ h. IsSpelledGroup h × (group_spelled h.id ≡ Ok h.id)) groups group-fits [] groups refl (all-both IsSpelledGroup (λ h. group_spelled h.id ≡ Ok h.id) groups spelled.groups lawful.group_names)

  facts-of : (before items : List Group) → before ++ items ≡ groups → AllByRecursion (λ g. (p : ℕ) → first_broken (group_facts rows p g) ≡ None) items
  facts-of before [] e = tt
  facts-of before (g ∷ items) e = (facts-hold g (found-in before g items e) g.superior refl, facts-of (before ++ g ∷ []) items (append_assoc before (g ∷ []) items ∙ e))

  pub groups-hold : (width : Group → ℕ) (place : ℕ) → first_broken (told_of_each width (group_facts rows) place groups) ≡ None
  groups-hold width place = each-true width (group_facts rows) groups (facts-of [] groups refl) place
