-- Tables of some classes, without profiles: their names, and what they have so far.
use Rattle.std.proofs.Common.{◌≡◌, ℕ, zero, suc, ◌+◌, ◌-◌, ◌<◌, ◌≤◌, List, [], ◌∷◌, ◌++◌, map, take, drop, length, get_or, false, bytes_eq, refl, sym, ap, subst, ◌∙◌, arith, length-append, length-drop}
use Rattle.std.specs.List.{AllByRecursion, IsDistinct, sum_by}
use Rattle.std.proofs.lemmas.List.{take-append-drop, take_all, take_more}
use Rattle.std.proofs.lemmas.Map.Keys.{IsDistinct-head, IsDistinct-tail, IsDistinct-cons}
use Rattle.racf_profiles.specs.declared.class_rows.ClassRow.{ClassRow}
use Rattle.racf_profiles.specs.ClassTable.{class_name, fixed_classes, is_dataset}
use Rattle.racf_profiles.specs.NewDatabase.{new_classes}
use Rattle.racf_profiles.specs.Counts.{entries_in}
use Rattle.racf_profiles.specs.Edits.{added_class}
use Rattle.racf_profiles.specs.LawfulProfiles.{AreClassNames, names_of}
use Rattle.class_profiles.specs.Classes.{ClassList, CanAddClass}
use Rattle.stored_database.specs.Filling.{empty_like}

-- the classes of these rows, as they are added
abbrev pub added : List ClassRow → List ClassRow
added rows = map (λ (row : ClassRow). added_class row.name) rows

-- those of a new database, and these behind them
abbrev pub with_added : List ClassRow → List ClassRow
with_added rows = new_classes is_dataset ++ added rows

-- ---- the names are the rows'
added-names : (rows : List ClassRow) → names_of (added rows) ≡ names_of rows
added-names [] = refl
added-names (row ∷ rows) = ap (λ names. row.name ∷ names) (added-names rows)

new-names : (rows : List ClassRow) → names_of (with_added rows) ≡ map class_name fixed_classes ++ names_of rows
new-names rows = ap (λ names. map class_name fixed_classes ++ names) (added-names rows)

drop-names : (n : ℕ) (rows : List ClassRow) → drop n (names_of rows) ≡ names_of (drop n rows)
drop-names zero rows = refl
drop-names (suc n) [] = refl
drop-names (suc n) (row ∷ rows) = drop-names n rows

names-split : (rows : List ClassRow) → AreClassNames (names_of rows) → names_of rows ≡ map class_name fixed_classes ++ names_of (drop (length fixed_classes) rows)
names-split rows are =
    sym (take-append-drop (length fixed_classes) (names_of rows))
    ∙ ap (λ front. front ++ drop (length fixed_classes) (names_of rows)) are.fixed
    ∙ ap (λ rest. map class_name fixed_classes ++ rest) (drop-names (length fixed_classes) rows)

pub empty-names : (rows : List ClassRow) → AreClassNames (names_of rows) → names_of rows ≡ names_of (empty_like rows)
empty-names rows are = names-split rows are ∙ sym (new-names (drop (length fixed_classes) rows))

-- ---- there are no profiles
added-none : (P : ClassRow → Type 0) → ((name : List ℕ) → P (added_class name)) → (rows : List ClassRow) → AllByRecursion P (added rows)
added-none P holds [] = tt
added-none P holds (row ∷ rows) = (holds row.name, added-none P holds rows)

pub no-profiles : (all : List ClassRow) → AllByRecursion (λ (r : ClassRow). r.profiles ≡ []) (empty_like all)
no-profiles all =
    let behind : AllByRecursion (λ (r : ClassRow). r.profiles ≡ []) (added (drop (length fixed_classes) all)) = added-none (λ (r : ClassRow). r.profiles ≡ []) (λ name. refl) (drop (length fixed_classes) all) in
    (refl, (refl, (refl, (refl, (refl, (refl, (refl, (refl, (refl, (refl, (refl, (refl, (refl, (refl, (refl, behind)))))))))))))))

pub no-profile_count : (all : List ClassRow) → AllByRecursion (λ (r : ClassRow). length r.profiles ≡ 0) (empty_like all)
no-profile_count all =
    let behind : AllByRecursion (λ (r : ClassRow). length r.profiles ≡ 0) (added (drop (length fixed_classes) all)) = added-none (λ (r : ClassRow). length r.profiles ≡ 0) (λ name. refl) (drop (length fixed_classes) all) in
    (refl, (refl, (refl, (refl, (refl, (refl, (refl, (refl, (refl, (refl, (refl, (refl, (refl, (refl, (refl, behind)))))))))))))))

pub no-entry_count : (all : List ClassRow) → AllByRecursion (λ (r : ClassRow). sum_by entries_in r.profiles ≡ 0) (empty_like all)
no-entry_count all =
    let behind : AllByRecursion (λ (r : ClassRow). sum_by entries_in r.profiles ≡ 0) (added (drop (length fixed_classes) all)) =
    added-none (λ (r : ClassRow). sum_by entries_in r.profiles ≡ 0) (λ name. refl) (drop (length fixed_classes) all) in
    (refl, (refl, (refl, (refl, (refl, (refl, (refl, (refl, (refl, (refl, (refl, (refl, (refl, (refl, (refl, behind)))))))))))))))

-- ---- one class more
-- what no other is like, is like none of those in front
all-front : {X : Type 0} (P : X → Type 0) (front rest : List X) → AllByRecursion P (front ++ rest) → AllByRecursion P front
all-front P [] rest all = tt
all-front P (x ∷ front) rest all = (all.0, all-front P front rest all.1)

none-distinct : IsDistinct bytes_eq []
unfolding IsDistinct
none-distinct = tt

distinct-front : (front rest : List (List ℕ)) → IsDistinct bytes_eq (front ++ rest) → IsDistinct bytes_eq front
distinct-front [] rest distinct = none-distinct
distinct-front (name ∷ front) rest distinct =
    IsDistinct-cons bytes_eq name front (all-front (λ other. bytes_eq name other ≡ false) front rest (IsDistinct-head bytes_eq name (front ++ rest) distinct))
    (distinct-front front rest (IsDistinct-tail bytes_eq name (front ++ rest) distinct))

names-append : (front rest : List ClassRow) → names_of (front ++ rest) ≡ names_of front ++ names_of rest
names-append [] rest = refl
names-append (row ∷ front) rest = ap (λ names. row.name ∷ names) (names-append front rest)

added-append : (front rest : List ClassRow) → added (front ++ rest) ≡ added front ++ added rest
added-append [] rest = refl
added-append (row ∷ front) rest = ap (λ rows. added_class row.name ∷ rows) (added-append front rest)

-- the fixed classes and a front of the dynamic ones are a class table
pub front-names : (all : List ClassRow) → AreClassNames (names_of all) → (front rest : List ClassRow) → front ++ rest ≡ drop (length fixed_classes) all → AreClassNames (names_of (with_added front))
front-names all are front rest is =
    let fixed : List (List ℕ) = map class_name fixed_classes in
    let split : names_of all ≡ (fixed ++ names_of front) ++ names_of rest =
    names-split all are ∙ ap (λ rows. fixed ++ names_of rows) (sym is) ∙ ap (λ names. fixed ++ names) (names-append front rest) in
    let count : length (names_of all) ≡ length (fixed ++ names_of front) + length (names_of rest) = ap length split ∙ length-append (fixed ++ names_of front) (names_of rest) in
    subst AreClassNames (sym (new-names front)) (record {
      fixed = refl;
      distinct = distinct-front (fixed ++ names_of front) (names_of rest) (subst (IsDistinct bytes_eq) split are.distinct);
      few = omega (arith, count, are.few);
    })

-- the rows behind the fixed ones, as a slice has them
pub behind : (all : List ClassRow) → take (length all - 15) (drop (length fixed_classes) all) ≡ drop (length fixed_classes) all
behind all = take_all (length all - 15) (drop (length fixed_classes) all) (omega (arith, length-drop 15 all))

-- the dynamic classes so far, and the next
module _ (all : List ClassRow) (are : AreClassNames (names_of all)) (dynamic : List ClassRow) (is_behind : dynamic ≡ drop (length fixed_classes) all)
    (k : ℕ) (here : k < length dynamic) (c : ClassRow) (is : c ≡ get_or dynamic k c) (classes : List ClassRow) (so_far : classes ≡ with_added (take k dynamic)) where
  next : classes ++ added_class c.name ∷ [] ≡ with_added (take (k + 1) dynamic)
  next =
      let one_more : take (k + 1) dynamic ≡ take k dynamic ++ c ∷ [] = take_more dynamic k c here ∙ ap (λ row. take k dynamic ++ row ∷ []) (sym is) in
      ap (λ rows. rows ++ added_class c.name ∷ []) so_far ∙ sym (ap (λ rows. new_classes is_dataset ++ rows) (added-append (take k dynamic) (c ∷ []))) ∙ sym (ap with_added one_more)

  pub can : (list : ClassList) → list.classes ≡ classes → 0 < list.more_classes → CanAddClass list c.name
  can list same room = record {
    room = room;
    names = subst (λ rows. AreClassNames (names_of rows)) (sym (ap (λ rows. rows ++ added_class c.name ∷ []) same ∙ next))
        (front-names all are (take (k + 1) dynamic) (drop (k + 1) dynamic) (take-append-drop (k + 1) dynamic ∙ is_behind));
  }

  pub so_far-next : (before now : List ClassRow) → before ≡ classes → now ≡ before ++ added_class c.name ∷ [] → now ≡ with_added (take (k + 1) dynamic)
  so_far-next before now same added_to = added_to ∙ ap (λ rows. rows ++ added_class c.name ∷ []) same ∙ next

-- in the end
pub all-added : (all dynamic : List ClassRow) → dynamic ≡ drop (length fixed_classes) all → (k : ℕ) → length dynamic ≤ k → (classes : List ClassRow) → classes ≡ with_added (take k dynamic) → classes ≡ empty_like all
all-added all dynamic is_behind k end classes so_far = so_far ∙ ap with_added (take_all k dynamic end ∙ is_behind)
