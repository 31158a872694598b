-- Classes without profiles, filled one behind another.
use Rattle.std.proofs.Common.{◌≡◌, ℕ, ◌+◌, ◌≤◌, true, false, cond, List, [], ◌∷◌, ◌++◌, map, length, Some, bytes_eq, refl, sym, ap, subst, ◌∙◌, arith}
use Rattle.std.specs.Prelude.{IsSomeAnd}
use Rattle.std.specs.List.{find, AllByRecursion, IsDistinct, sum_by}
use Rattle.std.proofs.lemmas.Map.Keys.{IsDistinct-head, IsDistinct-tail}
use Rattle.std.proofs.lemmas.List.Sums.{sum_by-append, sum_by-cons}
use Rattle.racf_profiles.specs.declared.class_rows.ClassRow.{ClassRow}
use Rattle.racf_profiles.specs.Lookup.{is_class}
use Rattle.racf_profiles.specs.Counts.{profile_count, entry_count, entries_in}
use Rattle.racf_profiles.specs.Edits.{at_class}
use Rattle.racf_profiles.specs.LawfulProfiles.{AreClasses, AreProfiles, kind_in}
use Rattle.racf_profiles.specs.Limits.{most_profiles, most_entries_in_all}
use Rattle.group_tree.proofs.Rows.{itself}
use Rattle.stored_database.specs.Filling.{HasNoProfiles, empty_like}
use Rattle.stored_database.proofs.EmptyTables.{empty-names, no-profiles, no-profile_count, no-entry_count}
use Rattle.stored_database.proofs.Front.{among, of_next}

abbrev name_of : ClassRow → List ℕ
name_of class = class.name

-- The classes that are filled, in place of as many of the new ones.
abbrev pub filled : (front new : List ClassRow) → List ClassRow
filled [] new = new
filled (c ∷ cs) [] = c ∷ cs
filled (c ∷ cs) (n ∷ new) = c ∷ filled cs new

-- in the end all are filled
pub all-filled : (all new : List ClassRow) → map name_of all ≡ map name_of new → filled all new ≡ all
all-filled [] [] same = refl
all-filled [] (n ∷ new) same = cc
all-filled (c ∷ cs) [] same = refl
all-filled (c ∷ cs) (n ∷ new) same = let rest : map name_of cs ≡ map name_of new = cc in ap (λ rs. c ∷ rs) (all-filled cs new rest)

-- the next class is the first of the new ones
module _ (c : ClassRow) (rest : List ClassRow) where
  pub next-empty : (front new : List ClassRow) → map name_of (front ++ c ∷ rest) ≡ map name_of new → IsDistinct bytes_eq (map name_of (front ++ c ∷ rest)) → AllByRecursion (λ (r : ClassRow). r.profiles ≡ []) new
      → HasNoProfiles c.name (filled front new)
  next-empty [] [] same distinct empty = cc
  next-empty [] (n ∷ new) same distinct empty =
      let hit : is_class c.name n ≡ true = let named : n.name ≡ c.name = cc in ap (λ name. bytes_eq name c.name) named ∙ itself c.name in
      subst (λ b. IsSomeAnd (cond b (Some n) (find (is_class c.name) new)) (λ (r : ClassRow). r.profiles ≡ [])) (sym hit) empty.0
  next-empty (b ∷ bs) [] same distinct empty = cc
  next-empty (b ∷ bs) (n ∷ new) same distinct empty =
      let names : List (List ℕ) = map name_of (bs ++ c ∷ rest) in
      let miss : is_class c.name b ≡ false = among (λ name. bytes_eq b.name name ≡ false) name_of bs c rest (IsDistinct-head bytes_eq b.name names distinct) in
      let tail : map name_of (bs ++ c ∷ rest) ≡ map name_of new = cc in
      subst (λ t. IsSomeAnd (cond t (Some b) (find (is_class c.name) (filled bs new))) (λ (r : ClassRow). r.profiles ≡ [])) (sym miss)
      (next-empty bs new tail (IsDistinct-tail bytes_eq b.name names distinct) empty.1)

  pub next-filled : (front new : List ClassRow) → map name_of (front ++ c ∷ rest) ≡ map name_of new → IsDistinct bytes_eq (map name_of (front ++ c ∷ rest))
      → at_class c.name (λ r. c) (filled front new) ≡ filled (front ++ c ∷ []) new
  next-filled [] [] same distinct = cc
  next-filled [] (n ∷ new) same distinct =
      let hit : is_class c.name n ≡ true = let named : n.name ≡ c.name = cc in ap (λ name. bytes_eq name c.name) named ∙ itself c.name in
      ap (λ b. cond b (c ∷ new) (n ∷ at_class c.name (λ r. c) new)) hit
  next-filled (b ∷ bs) [] same distinct = cc
  next-filled (b ∷ bs) (n ∷ new) same distinct =
      let names : List (List ℕ) = map name_of (bs ++ c ∷ rest) in
      let miss : is_class c.name b ≡ false = among (λ name. bytes_eq b.name name ≡ false) name_of bs c rest (IsDistinct-head bytes_eq b.name names distinct) in
      let tail : map name_of (bs ++ c ∷ rest) ≡ map name_of new = cc in
      ap (λ t. cond t (c ∷ filled bs new) (b ∷ at_class c.name (λ r. c) (filled bs new))) miss
      ∙ ap (λ rs. b ∷ rs) (next-filled bs new tail (IsDistinct-tail bytes_eq b.name names distinct))

-- what is filled weighs as much as the front
module _ (weight : ClassRow → ℕ) where
  none-weighs : (new : List ClassRow) → AllByRecursion (λ (r : ClassRow). weight r ≡ 0) new → sum_by weight new ≡ 0
  none-weighs [] none = refl
  none-weighs (n ∷ new) none = omega (arith, none.0, sum_by-cons weight n new, none-weighs new none.1)

  filled-weighs : (front new : List ClassRow) → AllByRecursion (λ (r : ClassRow). weight r ≡ 0) new → sum_by weight (filled front new) ≡ sum_by weight front
  filled-weighs [] new none = none-weighs new none
  filled-weighs (c ∷ cs) [] none = refl
  filled-weighs (c ∷ cs) (n ∷ new) none =
      let now : sum_by weight (c ∷ filled cs new) ≡ sum_by weight (c ∷ cs) = omega (arith, sum_by-cons weight c (filled cs new), sum_by-cons weight c cs, filled-weighs cs new none.1) in now

  pub next-weighs : (all front : List ClassRow) (c : ClassRow) (rest new : List ClassRow) (most : ℕ) → AllByRecursion (λ (r : ClassRow). weight r ≡ 0) new → front ++ c ∷ rest ≡ all → sum_by weight all ≤ most
      → sum_by weight (filled front new) + weight c ≤ most
  next-weighs all front c rest new most none split few =
      omega (arith, filled-weighs front new none, ap (sum_by weight) split, sum_by-append weight front (c ∷ rest), sum_by-cons weight c rest, few)

-- the classes that are filled are the front of all, and the next
module _ (all : List ClassRow) (lawful : AreClasses all) (front items : List ClassRow) (c : ClassRow) (rest : List ClassRow) (is : items ≡ c ∷ rest) (whole : front ++ items ≡ all)
    (classes : List ClassRow) (so_far : classes ≡ filled front (empty_like all)) where
  split : front ++ c ∷ rest ≡ all
  split = sym (ap (λ cs. front ++ cs) is) ∙ whole

  named : map name_of (front ++ c ∷ rest) ≡ map name_of (empty_like all)
  named = ap (map name_of) split ∙ empty-names all lawful.names

  distinct : IsDistinct bytes_eq (map name_of (front ++ c ∷ rest))
  distinct = subst (λ (rows : List ClassRow). IsDistinct bytes_eq (map name_of rows)) (sym split) lawful.names.distinct

  pub empty : HasNoProfiles c.name classes
  empty = subst (HasNoProfiles c.name) (sym so_far) (next-empty c rest front (empty_like all) named distinct (no-profiles all))

  pub profiles : AreProfiles (kind_in c.name) c.profiles
  profiles = of_next (λ (r : ClassRow). AreProfiles (kind_in r.name) r.profiles) front c rest (subst (AllByRecursion (λ (r : ClassRow). AreProfiles (kind_in r.name) r.profiles)) (sym split) lawful.lawful)

  pub few_profiles : profile_count all ≤ most_profiles → profile_count classes + length c.profiles ≤ most_profiles
  few_profiles few =
      omega (arith, ap profile_count so_far, next-weighs (λ (r : ClassRow). length r.profiles) all front c rest (empty_like all) most_profiles (no-profile_count all) split few)

  pub few_entries : entry_count all ≤ most_entries_in_all → entry_count classes + sum_by entries_in c.profiles ≤ most_entries_in_all
  few_entries few =
      omega (arith, ap entry_count so_far, next-weighs (λ (r : ClassRow). sum_by entries_in r.profiles) all front c rest (empty_like all) most_entries_in_all (no-entry_count all) split few)

  pub so_far-next : (now : List ClassRow) → now ≡ at_class c.name (λ r. c) classes → now ≡ filled (front ++ c ∷ []) (empty_like all)
  so_far-next now put = put ∙ ap (at_class c.name (λ r. c)) so_far ∙ next-filled c rest front (empty_like all) named distinct

-- in the end
pub all-are : (all front : List ClassRow) → AreClasses all → front ≡ all → (classes : List ClassRow) → classes ≡ filled front (empty_like all) → classes ≡ all
all-are all front lawful is classes so_far = so_far ∙ ap (λ cs. filled cs (empty_like all)) is ∙ all-filled all (empty_like all) (empty-names all lawful.names)
