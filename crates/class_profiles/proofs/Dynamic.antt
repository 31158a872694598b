-- A class that is added behind the others, and one that is taken away.
use Rattle.std.proofs.Common.{◌≡◌, ℕ, zero, suc, ◌≤◌, Bool, true, false, cond, not, List, [], ◌∷◌, ◌++◌, map, take, length, remove, Option, Some, is_some, refl, sym, ap, subst, ◌∙◌, arith}
use Rattle.std.specs.List.{find, filter, sum_by, slice_get, AllByRecursion, IsDistinct}
use Rattle.std.specs.Prelude.{IfSome}
use Rattle.std.specs.Str.{bytes_eq}
use Rattle.std.proofs.lemmas.List.Sums.{sum_by-cons, sum_by_push}
use Rattle.std.proofs.lemmas.Map.Keys.{IsDistinct-head, IsDistinct-tail, IsDistinct-cons}
use Rattle.racf_profiles.specs.declared.profiles.Profile.{Profile}
use Rattle.racf_profiles.specs.declared.class_rows.ClassRow.{ClassRow}
use Rattle.racf_profiles.specs.declared.fixed_classes.FixedClass.{FixedClass}
use Rattle.racf_profiles.specs.ClassTable.{class_name, fixed_classes}
use Rattle.racf_profiles.specs.DynamicClasses.{is_fixed}
use Rattle.racf_profiles.specs.Lookup.{is_class}
use Rattle.racf_profiles.specs.Edits.{added_class, without_class}
use Rattle.racf_profiles.specs.LawfulProfiles.{AreClassNames, AreClasses, AreProfiles, names_of, kind_in}
use Rattle.racf_profiles.proofs.Named.{same, turned}
use Rattle.racf_profiles.proofs.Places.{IsAt}
use Rattle.class_profiles.specs.Classes.{ClassWithRoom, room_among}
use Rattle.class_profiles.specs.Summed.{rows_in}
use Rattle.class_profiles.proofs.Places.{of_name, spares}

-- ---- a class more
all-more : {X : Type 0} (P : X → Type 0) (xs : List X) (x : X) → AllByRecursion P xs → P x → AllByRecursion P (xs ++ x ∷ [])
all-more P [] x all holds = (holds, tt)
all-more P (y ∷ ys) x all holds = (all.0, all-more P ys x all.1 holds)

pub rows-more : (cs : List ClassWithRoom) (more : ClassWithRoom) → rows_in (cs ++ more ∷ []) ≡ rows_in cs ++ more.row ∷ []
rows-more [] more = refl
rows-more (c ∷ cs) more = ap (λ rows. c.row ∷ rows) (rows-more cs more)

-- the new class has no room, and every other one has what it had
pub room-more : (name : List ℕ) (cs : List ClassWithRoom) (more : ClassWithRoom) → more.spare ≡ 0 → room_among name (rows_in (cs ++ more ∷ [])) (spares (cs ++ more ∷ [])) ≡ room_among name (rows_in cs) (spares cs)
room-more name [] more none = by (is_class name more.row)
  where
    by : (b : Bool) → cond b more.spare 0 ≡ 0
    by true = none
    by false = refl
room-more name (c ∷ cs) more none = ap (λ n. cond (is_class name c.row) c.spare n) (room-more name cs more none)

pub lawful-more : (name : List ℕ) (classes : List ClassRow) → AreClassNames (names_of (classes ++ added_class name ∷ [])) → AreClasses classes → AreClasses (classes ++ added_class name ∷ [])
lawful-more name classes names lawful = record {
  names = names;
  lawful = all-more (λ (c : ClassRow). AreProfiles (kind_in c.name) c.profiles) classes (added_class name) lawful.lawful (record { named = tt; ordered = refl; few = omega arith });
}

-- it counts nothing
pub counted-more : (m : List Profile → ℕ) → m [] ≡ 0 → (name : List ℕ) (classes : List ClassRow) → sum_by (λ (c : ClassRow). m c.profiles) (classes ++ added_class name ∷ []) ≡ sum_by (λ (c : ClassRow). m c.profiles) classes
counted-more m none name classes = omega (arith, sum_by_push (λ (c : ClassRow). m c.profiles) classes (added_class name), none)

-- ---- a class less
-- where no other class has its name
without-none : (name : List ℕ) (classes : List ClassRow) → AllByRecursion (λ y. bytes_eq name y ≡ false) (names_of classes) → without_class name classes ≡ classes
without-none name [] others = refl
without-none name (c ∷ cs) others = ap (λ b. cond (not b) (c ∷ without_class name cs) (without_class name cs)) (turned c.name name ∙ others.0) ∙ ap (λ rest. c ∷ rest) (without-none name cs others.1)

pub rows-less : (name : List ℕ) (cs : List ClassWithRoom) (k : ℕ) → IsAt (of_name name) cs k → IsDistinct bytes_eq (names_of (rows_in cs)) → rows_in (remove cs k) ≡ without_class name (rows_in cs)
rows-less name [] k at distinct = absurd at
rows-less name (d ∷ ds) zero at distinct =
    let others : AllByRecursion (λ y. bytes_eq name y ≡ false) (names_of (rows_in ds)) =
    subst (λ n. AllByRecursion (λ y. bytes_eq n y ≡ false) (names_of (rows_in ds))) (same d.row.name name at) (IsDistinct-head bytes_eq d.row.name (names_of (rows_in ds)) distinct) in
    sym (ap (λ b. cond (not b) (d.row ∷ without_class name (rows_in ds)) (without_class name (rows_in ds))) at ∙ without-none name (rows_in ds) others)
rows-less name (d ∷ ds) (suc k) at distinct =
    ap (λ rows. d.row ∷ rows) (rows-less name ds k at.1 (IsDistinct-tail bytes_eq d.row.name (names_of (rows_in ds)) distinct))
    ∙ ap (λ b. cond (not b) (d.row ∷ without_class name (rows_in ds)) (without_class name (rows_in ds))) (sym at.0)

-- the room of a class of another name stays
pub room-less : (name other : List ℕ) (cs : List ClassWithRoom) (k : ℕ) → IsAt (of_name name) cs k → bytes_eq name other ≡ false → room_among other (rows_in (remove cs k)) (spares (remove cs k)) ≡ room_among other (rows_in cs) (spares cs)
room-less name other [] k at differs = absurd at
room-less name other (d ∷ ds) zero at differs =
    ap (λ b. cond b d.spare (room_among other (rows_in ds) (spares ds))) (sym (ap (λ n. bytes_eq n other) (same d.row.name name at) ∙ differs))
room-less name other (d ∷ ds) (suc k) at differs = ap (λ n. cond (is_class other d.row) d.spare n) (room-less name other ds k at.1 differs)

-- one without profiles counts nothing
pub counted-less : (m : List Profile → ℕ) (name : List ℕ) (cs : List ClassWithRoom) (k : ℕ) (c : ClassWithRoom) → IsAt (of_name name) cs k → slice_get cs k ≡ Some c → m c.row.profiles ≡ 0
    → sum_by (λ (r : ClassRow). m r.profiles) (rows_in (remove cs k)) ≡ sum_by (λ (r : ClassRow). m r.profiles) (rows_in cs)
counted-less m name [] k c at got none = absurd at
counted-less m name (d ∷ ds) zero c at got none =
    let here : d ≡ c = cc in
    let nothing : m d.row.profiles ≡ 0 = ap (λ (r : ClassWithRoom). m r.row.profiles) here ∙ none in
    let whole = sum_by-cons (λ (r : ClassRow). m r.profiles) d.row (rows_in ds) in
    let now : sum_by (λ (r : ClassRow). m r.profiles) (rows_in ds) ≡ sum_by (λ (r : ClassRow). m r.profiles) (d.row ∷ rows_in ds) = omega (arith, whole, nothing) in now
counted-less m name (d ∷ ds) (suc k) c at got none =
    let rest = counted-less m name ds k c at.1 got none in
    let before = sum_by-cons (λ (r : ClassRow). m r.profiles) d.row (rows_in ds) in
    let after = sum_by-cons (λ (r : ClassRow). m r.profiles) d.row (rows_in (remove ds k)) in
    let now : sum_by (λ (r : ClassRow). m r.profiles) (d.row ∷ rows_in (remove ds k)) ≡ sum_by (λ (r : ClassRow). m r.profiles) (d.row ∷ rows_in ds) = omega (arith, rest, before, after) in now

-- ---- the names that are left
abbrev isnt : List ℕ → List ℕ → Bool
isnt name other = not (bytes_eq other name)

names-without : (name : List ℕ) (classes : List ClassRow) → names_of (without_class name classes) ≡ filter (isnt name) (names_of classes)
names-without name [] = refl
names-without name (c ∷ cs) = by (is_class name c) (names-without name cs)
  where
    by : (b : Bool) → names_of (without_class name cs) ≡ filter (isnt name) (names_of cs)
        → names_of (cond (not b) (c ∷ without_class name cs) (without_class name cs)) ≡ cond (not b) (c.name ∷ filter (isnt name) (names_of cs)) (filter (isnt name) (names_of cs))
    by true rest = rest
    by false rest = ap (λ ns. c.name ∷ ns) rest

all-filter : {X : Type 0} (P : X → Type 0) (test : X → Bool) (xs : List X) → AllByRecursion P xs → AllByRecursion P (filter test xs)
all-filter P test [] all = tt
all-filter P test (x ∷ xs) all = by (test x) (all-filter P test xs all.1)
  where
    by : (b : Bool) → AllByRecursion P (filter test xs) → AllByRecursion P (cond b (x ∷ filter test xs) (filter test xs))
    by true rest = (all.0, rest)
    by false rest = rest

distinct-filter : (test : List ℕ → Bool) (ns : List (List ℕ)) → IsDistinct bytes_eq ns → IsDistinct bytes_eq (filter test ns)
distinct-filter test [] distinct = distinct
distinct-filter test (n ∷ ns) distinct = by (test n) (distinct-filter test ns (IsDistinct-tail bytes_eq n ns distinct))
  where
    by : (b : Bool) → IsDistinct bytes_eq (filter test ns) → IsDistinct bytes_eq (cond b (n ∷ filter test ns) (filter test ns))
    by true rest = IsDistinct-cons bytes_eq n (filter test ns) (all-filter (λ y. bytes_eq n y ≡ false) test ns (IsDistinct-head bytes_eq n ns distinct)) rest
    by false rest = rest

few-filter : {X : Type 0} (test : X → Bool) (xs : List X) → length (filter test xs) ≤ length xs
few-filter test [] = omega arith
few-filter test (x ∷ xs) = by (test x) (few-filter test xs)
  where
    by : (b : Bool) → length (filter test xs) ≤ length xs → length (cond b (x ∷ filter test xs) (filter test xs)) ≤ length (x ∷ xs)
    by true rest = omega (arith, rest)
    by false rest = omega (arith, rest)

-- the fixed classes in front stay where the one that goes is none of them
fixed-stay : (name : List ℕ) (fixed : List FixedClass) (ns : List (List ℕ)) → take (length fixed) ns ≡ map class_name fixed → is_some (find (λ class. bytes_eq (class_name class) name) fixed) ≡ false
    → take (length fixed) (filter (isnt name) ns) ≡ map class_name fixed
fixed-stay name [] ns front none = refl
fixed-stay name (f ∷ fs) [] front none = cc
fixed-stay name (f ∷ fs) (n ∷ ns) front none = by (bytes_eq (class_name f) name) refl none (fixed-stay name fs ns)
  where
    first : n ≡ class_name f
    first = cc

    rest : take (length fs) ns ≡ map class_name fs
    rest = cc

    by : (b : Bool) → bytes_eq (class_name f) name ≡ b → is_some (cond b (Some f) (find (λ class. bytes_eq (class_name class) name) fs)) ≡ false
        → (take (length fs) ns ≡ map class_name fs → is_some (find (λ class. bytes_eq (class_name class) name) fs) ≡ false → take (length fs) (filter (isnt name) ns) ≡ map class_name fs)
        → take (length (f ∷ fs)) (filter (isnt name) (n ∷ ns)) ≡ class_name f ∷ map class_name fs
    by true is there more = let never : true ≡ false = there in cc
    by false is there more =
        let kept : bytes_eq n name ≡ false = ap (λ m. bytes_eq m name) first ∙ is in
        ap (λ b. take (length (f ∷ fs)) (cond (not b) (n ∷ filter (isnt name) ns) (filter (isnt name) ns))) kept
        ∙ ap (λ m. m ∷ take (length fs) (filter (isnt name) ns)) first ∙ ap (λ ms. class_name f ∷ ms) (more rest there)

pub lawful-less : (name : List ℕ) (classes : List ClassRow) → is_fixed name ≡ false → AreClasses classes → AreClasses (without_class name classes)
lawful-less name classes dynamic lawful = record {
  names = subst AreClassNames (sym (names-without name classes)) (record {
    fixed = fixed-stay name fixed_classes (names_of classes) lawful.names.fixed dynamic;
    distinct = distinct-filter (isnt name) (names_of classes) lawful.names.distinct;
    few = let fewer = few-filter (isnt name) (names_of classes) in omega (arith, fewer, lawful.names.few);
  });
  lawful = all-filter (λ (c : ClassRow). AreProfiles (kind_in c.name) c.profiles) (λ (c : ClassRow). not (is_class name c)) classes lawful.lawful;
}

pub if-some : {X : Type 0} {o : Option X} (x : X) (P : X → Type 0) → o ≡ Some x → IfSome o P → P x
if-some x P is holds = subst (λ q. IfSome q P) is holds
