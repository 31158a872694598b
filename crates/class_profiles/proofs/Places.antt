-- The place of a class among the classes, and what a change there makes of all.
use Rattle.std.proofs.Common.{◌≡◌, ℕ, zero, suc, ◌≤◌, Bool, true, false, cond, List, [], ◌∷◌, map, set, get_or, Option, Some, None, Result, Ok, Err, refl, sym, ap, subst, ◌∙◌, arith}
use Rattle.std.specs.List.{find, position, slice_get, AllByRecursion}
use Rattle.std.specs.Prelude.{OnOk, IsSome}
use Rattle.std.specs.Str.{bytes_eq}
use Rattle.std.proofs.lemmas.Slice.Eq.{bytes_eq-Decides}
use Rattle.racf_profiles.specs.declared.class_rows.ClassRow.{ClassRow}
use Rattle.racf_profiles.specs.Lookup.{is_class}
use Rattle.racf_profiles.specs.Edits.{at_class}
use Rattle.racf_profiles.specs.LawfulProfiles.{AreClassNames, AreClasses, AreProfiles, kind_in}
use Rattle.racf_profiles.proofs.States.{same_class}
use Rattle.racf_profiles.proofs.Places.{IsAt, at-is, none-is}
use Rattle.class_profiles.specs.Classes.{ClassWithRoom, room_among}
use Rattle.class_profiles.specs.Summed.{rows_in}

abbrev pub spares : List ClassWithRoom → List ℕ
spares classes = map (λ (class : ClassWithRoom). class.spare) classes

-- the class with its room has that name
abbrev pub of_name : List ℕ → ClassWithRoom → Bool
of_name name class = is_class name class.row

rows-none : (name : List ℕ) (cs : List ClassWithRoom) → find (of_name name) cs ≡ None → find (is_class name) (rows_in cs) ≡ None
rows-none name [] none = refl
rows-none name (c ∷ cs) none = by (is_class name c.row) none (rows-none name cs)
  where
    by : (b : Bool) → cond b (Some c) (find (of_name name) cs) ≡ None → (find (of_name name) cs ≡ None → find (is_class name) (rows_in cs) ≡ None) → cond b (Some c.row) (find (is_class name) (rows_in cs)) ≡ None
    by true f rest = cc
    by false f rest = rest f

module _ (name : List ℕ) where
  pub found-at : (cs : List ClassWithRoom) (k : ℕ) (c : ClassWithRoom) → IsAt (of_name name) cs k → slice_get cs k ≡ Some c → find (is_class name) (rows_in cs) ≡ Some c.row
  found-at [] k c at got = absurd at
  found-at (d ∷ ds) zero c at got = let same : d ≡ c = cc in ap (λ b. cond b (Some d.row) (find (is_class name) (rows_in ds))) at ∙ ap (λ (r : ClassWithRoom). Some r.row) same
  found-at (d ∷ ds) (suc k) c at got = ap (λ b. cond b (Some d.row) (find (is_class name) (rows_in ds))) at.0 ∙ found-at ds k c at.1 got

  pub name-at : (cs : List ClassWithRoom) (k : ℕ) (c : ClassWithRoom) → IsAt (of_name name) cs k → slice_get cs k ≡ Some c → c.row.name ≡ name
  name-at [] k c at got = absurd at
  name-at (d ∷ ds) zero c at got = let same : d ≡ c = cc in (bytes_eq-Decides c.row.name name).0 (subst (λ (r : ClassWithRoom). is_class name r.row ≡ true) same at)
  name-at (d ∷ ds) (suc k) c at got = name-at ds k c at.1 got

  pub room-at : (cs : List ClassWithRoom) (k : ℕ) (c : ClassWithRoom) → IsAt (of_name name) cs k → slice_get cs k ≡ Some c → room_among name (rows_in cs) (spares cs) ≡ c.spare
  room-at [] k c at got = absurd at
  room-at (d ∷ ds) zero c at got = let same : d ≡ c = cc in ap (λ b. cond b d.spare (room_among name (rows_in ds) (spares ds))) at ∙ ap (λ (r : ClassWithRoom). r.spare) same
  room-at (d ∷ ds) (suc k) c at got = ap (λ b. cond b d.spare (room_among name (rows_in ds) (spares ds))) at.0 ∙ room-at ds k c at.1 got

  -- a new row at the place is a change of the class of that name
  pub set-at : (change : ClassRow → ClassRow) (cs : List ClassWithRoom) (k : ℕ) (c y : ClassWithRoom) → IsAt (of_name name) cs k → slice_get cs k ≡ Some c → y.row ≡ change c.row → rows_in (set cs k y) ≡ at_class name change (rows_in cs)
  set-at change [] k c y at got is = absurd at
  set-at change (d ∷ ds) zero c y at got is =
      let same : d ≡ c = cc in
      ap (λ r. r ∷ rows_in ds) (is ∙ ap (λ (r : ClassWithRoom). change r.row) (sym same)) ∙ ap (λ b. cond b (change d.row ∷ rows_in ds) (d.row ∷ at_class name change (rows_in ds))) (sym at)
  set-at change (d ∷ ds) (suc k) c y at got is =
      ap (λ rs. d.row ∷ rs) (set-at change ds k c y at.1 got is) ∙ ap (λ b. cond b (change d.row ∷ rows_in ds) (d.row ∷ at_class name change (rows_in ds))) (sym at.0)

-- where the class at a place keeps its name and no room is lost, none is lost anywhere
pub room-kept : (other : List ℕ) (cs : List ClassWithRoom) (k : ℕ) (c y : ClassWithRoom) → slice_get cs k ≡ Some c → y.row.name ≡ c.row.name → c.spare ≤ y.spare
    → room_among other (rows_in cs) (spares cs) ≤ room_among other (rows_in (set cs k y)) (spares (set cs k y))
room-kept other [] k c y got named more = cc
room-kept other (d ∷ ds) zero c y got named more =
    let same : d ≡ c = cc in
    let name : is_class other y.row ≡ is_class other d.row = ap (λ n. bytes_eq n other) (named ∙ ap (λ (r : ClassWithRoom). r.row.name) (sym same)) in
    let spare : d.spare ≤ y.spare = omega (arith, ap (λ (r : ClassWithRoom). r.spare) same) in
    subst (λ b. cond (is_class other d.row) d.spare (room_among other (rows_in ds) (spares ds)) ≤ cond b y.spare (room_among other (rows_in ds) (spares ds))) (sym name) (by (is_class other d.row) spare)
  where
    by : (b : Bool) → d.spare ≤ y.spare → cond b d.spare (room_among other (rows_in ds) (spares ds)) ≤ cond b y.spare (room_among other (rows_in ds) (spares ds))
    by true less = less
    by false less = omega arith
room-kept other (d ∷ ds) (suc k) c y got named more = by (is_class other d.row) (room-kept other ds k c y got named more)
  where
    by : (b : Bool) → room_among other (rows_in ds) (spares ds) ≤ room_among other (rows_in (set ds k y)) (spares (set ds k y))
        → cond b d.spare (room_among other (rows_in ds) (spares ds)) ≤ cond b d.spare (room_among other (rows_in (set ds k y)) (spares (set ds k y)))
    by true rest = omega arith
    by false rest = rest

-- and the room of a class of another name stays
pub room-other : (other : List ℕ) (cs : List ClassWithRoom) (k : ℕ) (c y : ClassWithRoom) → slice_get cs k ≡ Some c → y.row.name ≡ c.row.name → bytes_eq c.row.name other ≡ false
    → room_among other (rows_in (set cs k y)) (spares (set cs k y)) ≡ room_among other (rows_in cs) (spares cs)
room-other other [] k c y got named differs = cc
room-other other (d ∷ ds) zero c y got named differs =
    let same : d ≡ c = cc in
    let new : is_class other y.row ≡ false = ap (λ n. bytes_eq n other) named ∙ differs in
    let old : is_class other d.row ≡ false = ap (λ (r : ClassWithRoom). is_class other r.row) same ∙ differs in
    ap (λ b. cond b y.spare (room_among other (rows_in ds) (spares ds))) new ∙ ap (λ b. cond b d.spare (room_among other (rows_in ds) (spares ds))) (sym old)
room-other other (d ∷ ds) (suc k) c y got named differs = ap (λ n. cond (is_class other d.row) d.spare n) (room-other other ds k c y got named differs)

-- the classes stay lawful, where the one that is changed keeps its name and has lawful profiles
module _ (name : List ℕ) (change : ClassRow → ClassRow) where
  names-kept : ((row : ClassRow) → (change row).name ≡ row.name) → (classes : List ClassRow) → map (λ (c : ClassRow). c.name) (at_class name change classes) ≡ map (λ (c : ClassRow). c.name) classes
  names-kept keeps [] = refl
  names-kept keeps (c ∷ cs) = by (is_class name c) (names-kept keeps cs)
    where
      by : (b : Bool) → map (λ (d : ClassRow). d.name) (at_class name change cs) ≡ map (λ (d : ClassRow). d.name) cs
          → map (λ (d : ClassRow). d.name) (cond b (change c ∷ cs) (c ∷ at_class name change cs)) ≡ c.name ∷ map (λ (d : ClassRow). d.name) cs
      by true rest = ap (λ n. n ∷ map (λ (d : ClassRow). d.name) cs) (keeps c)
      by false rest = ap (λ ns. c.name ∷ ns) rest

  all-changed : (P : ClassRow → Type 0) (row : ClassRow) (classes : List ClassRow) → find (is_class name) classes ≡ Some row → P (change row) → AllByRecursion P classes → AllByRecursion P (at_class name change classes)
  all-changed P row [] found holds all = cc
  all-changed P row (c ∷ cs) found holds all = by (is_class name c) found (λ rest. all-changed P row cs rest holds all.1)
    where
      by : (b : Bool) → cond b (Some c) (find (is_class name) cs) ≡ Some row → (find (is_class name) cs ≡ Some row → AllByRecursion P (at_class name change cs)) → AllByRecursion P (cond b (change c ∷ cs) (c ∷ at_class name change cs))
      by true here rest = let same : c ≡ row = cc in (subst (λ (r : ClassRow). P (change r)) (sym same) holds, all.1)
      by false here rest = (all.0, rest here)

  pub lawful-at_class : ((row : ClassRow) → (change row).name ≡ row.name) → (row : ClassRow) (classes : List ClassRow) → find (is_class name) classes ≡ Some row → AreProfiles (kind_in (change row).name) (change row).profiles
      → AreClasses classes → AreClasses (at_class name change classes)
  lawful-at_class keeps row classes found holds lawful = record {
    names = subst AreClassNames (sym (names-kept keeps classes)) lawful.names;
    lawful = all-changed (λ (c : ClassRow). AreProfiles (kind_in c.name) c.profiles) row classes found holds lawful.lawful;
  }

-- the profiles of the class that is found are lawful
pub lawful-found : (name : List ℕ) (row : ClassRow) (classes : List ClassRow) → find (is_class name) classes ≡ Some row → AreClasses classes → AreProfiles (kind_in row.name) row.profiles
lawful-found name row classes found lawful = from classes found lawful.lawful
  where
    from : (cs : List ClassRow) → find (is_class name) cs ≡ Some row → AllByRecursion (λ (c : ClassRow). AreProfiles (kind_in c.name) c.profiles) cs → AreProfiles (kind_in row.name) row.profiles
    from [] f all = cc
    from (c ∷ cs) f all = by (is_class name c) f (λ rest. from cs rest all.1)
      where
        by : (b : Bool) → cond b (Some c) (find (is_class name) cs) ≡ Some row → (find (is_class name) cs ≡ Some row → AreProfiles (kind_in row.name) row.profiles) → AreProfiles (kind_in row.name) row.profiles
        by true here rest = let same : c ≡ row = cc in subst (λ (r : ClassRow). AreProfiles (kind_in r.name) r.profiles) same all.0
        by false here rest = rest here

pub placed : (name : List ℕ) (cs shown : List ClassWithRoom) (k : ℕ) → shown ≡ cs → Some k ≡ position (of_name name) shown → IsAt (of_name name) cs k
placed name cs shown k same is = at-is (of_name name) cs k (is ∙ ap (position (of_name name)) same)

pub unplaced : (name : List ℕ) (cs shown : List ClassWithRoom) → shown ≡ cs → None ≡ position (of_name name) shown → find (is_class name) (rows_in cs) ≡ None
unplaced name cs shown same is = rows-none name cs (none-is (of_name name) cs (is ∙ ap (position (of_name name)) same))

pub read-at : (name : List ℕ) (cs : List ClassWithRoom) (k : ℕ) (c : ClassWithRoom) → IsAt (of_name name) cs k → c ≡ get_or cs k c → slice_get cs k ≡ Some c
read-at name [] k c at read = absurd at
read-at name (d ∷ ds) zero c at read = ap (λ (r : ClassWithRoom). Some r) (sym read)
read-at name (d ∷ ds) (suc k) c at read = read-at name ds k c at.1 read

-- the place stays that of the class, where this keeps its name
pub at-set : (name : List ℕ) (cs : List ClassWithRoom) (k : ℕ) (c y : ClassWithRoom) → IsAt (of_name name) cs k → slice_get cs k ≡ Some c → y.row.name ≡ c.row.name → IsAt (of_name name) (set cs k y) k
at-set name [] k c y at got named = at
at-set name (d ∷ ds) zero c y at got named = let same : d ≡ c = cc in ap (λ n. bytes_eq n name) (named ∙ ap (λ (r : ClassWithRoom). r.row.name) (sym same)) ∙ at
at-set name (d ∷ ds) (suc k) c y at got named = (at.0, at-set name ds k c y at.1 got named)

pub get-set : (name : List ℕ) (cs : List ClassWithRoom) (k : ℕ) (y : ClassWithRoom) → IsAt (of_name name) cs k → slice_get (set cs k y) k ≡ Some y
get-set name [] k y at = absurd at
get-set name (d ∷ ds) zero y at = refl
get-set name (d ∷ ds) (suc k) y at = get-set name ds k y at.1

-- where the row stays, all rows stay
pub rows-kept : (cs : List ClassWithRoom) (k : ℕ) (c y : ClassWithRoom) → slice_get cs k ≡ Some c → y.row ≡ c.row → rows_in (set cs k y) ≡ rows_in cs
rows-kept [] k c y got is = refl
rows-kept (d ∷ ds) zero c y got is = let same : d ≡ c = cc in ap (λ r. r ∷ rows_in ds) (is ∙ ap (λ (r : ClassWithRoom). r.row) (sym same))
rows-kept (d ∷ ds) (suc k) c y got is = ap (λ rs. d.row ∷ rs) (rows-kept ds k c y got is)

-- the room of the class at the place is what its new row has
pub room-set : (name : List ℕ) (cs : List ClassWithRoom) (k : ℕ) (c y : ClassWithRoom) → IsAt (of_name name) cs k → slice_get cs k ≡ Some c → y.row.name ≡ c.row.name → room_among name (rows_in (set cs k y)) (spares (set cs k y)) ≡ y.spare
room-set name cs k c y at got named = room-at name (set cs k y) k y (at-set name cs k c y at got named) (get-set name cs k y at)

pub on_ok : {T E P Q : Type 0} (r : Result T E) → OnOk r P → (P → Q) → OnOk r Q
on_ok (Ok x) holds more = more holds
on_ok (Err e) holds more = tt

pub none-some : {X : Type 0} {o : Option X} → o ≡ None → IsSome o → ⊥
none-some {X = X} {o = o} none some = let never : false ≡ true = subst (λ (p : Option X). IsSome p) none some in cc

-- there is a class at the place
pub got-at : (name : List ℕ) (cs : List ClassWithRoom) (k : ℕ) → IsAt (of_name name) cs k → (c : ClassWithRoom) × (slice_get cs k ≡ Some c)
got-at name [] k at = absurd at
got-at name (d ∷ ds) zero at = (d, refl)
got-at name (d ∷ ds) (suc k) at = got-at name ds k at.1

pub lawful-found_by : (name : List ℕ) (row : ClassRow) (classes : List ClassRow) → find (is_class name) classes ≡ Some row → AreClasses classes → AreProfiles (kind_in name) row.profiles
lawful-found_by name row classes found lawful = subst (λ (n : List ℕ). AreProfiles (kind_in n) row.profiles) (same_class name row classes found) (lawful-found name row classes found lawful)
