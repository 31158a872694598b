-- What edits leave, by induction on the rows.
use Rattle.std.proofs.Common.{◌≡◌, ℕ, ◌≤◌, Bool, true, false, cond, not, List, [], ◌∷◌, length, Some, None, option_and_then, refl, sym, ◌∙◌, ap, arith, ⊎_elim}
use Rattle.std.specs.List.{find, AllByRecursion}
use Rattle.std.specs.Str.{bytes_eq}
use Rattle.std.proofs.lemmas.Bool.{cases_Bool}
use Rattle.std.proofs.lemmas.Slice.Eq.{bytes_eq-Decides}
use Rattle.generic_names.specs.Spelled.{Spelled}
use Rattle.racf_profiles.specs.declared.class_rows.ClassRow.{ClassRow}
use Rattle.racf_profiles.specs.Lookup.{is_class, is_profile}
use Rattle.racf_profiles.specs.Edits.{put_row, drop_row, at_class, without_profile, without_class}
use Rattle.racf_profiles.proofs.Found.{find-hit, find-miss}

-- A row that isn't there isn't dropped.
pub drop_row-absent : {X : Type 0} (p : X → Bool) (xs : List X) → find p xs ≡ None → drop_row p xs ≡ xs
drop_row-absent p [] absent = refl
drop_row-absent p (x ∷ xs) absent = ⊎_elim
    (λ (hit : p x ≡ true). let found : Some x ≡ None = sym (find-hit p x xs hit) ∙ absent in cc)
    (λ (miss : p x ≡ false). ap (λ b. cond b xs (x ∷ drop_row p xs)) miss ∙ ap (λ rows. x ∷ rows) (drop_row-absent p xs (sym (find-miss p x xs miss) ∙ absent)))
    (cases_Bool (p x))

-- What is so of each row is so where one goes.
pub all-drop_row : {X : Type 0} (P : X → Type 0) (goes : X → Bool) (xs : List X) → AllByRecursion P xs → AllByRecursion P (drop_row goes xs)
all-drop_row P goes [] all = tt
all-drop_row P goes (x ∷ xs) all = by (goes x) (all-drop_row P goes xs all.1)
  where
    by : (b : Bool) → AllByRecursion P (drop_row goes xs) → AllByRecursion P (cond b xs (x ∷ drop_row goes xs))
    by true rest = all.1
    by false rest = (all.0, rest)

pub length-drop_row : {X : Type 0} (goes : X → Bool) (xs : List X) → length (drop_row goes xs) ≤ length xs
length-drop_row goes [] = omega arith
length-drop_row goes (x ∷ xs) = by (goes x) (length-drop_row goes xs)
  where
    by : (b : Bool) → length (drop_row goes xs) ≤ length xs → length (cond b xs (x ∷ drop_row goes xs)) ≤ length (x ∷ xs)
    by true rest = omega arith
    by false rest = omega (arith, rest)

-- A class that isn't there isn't changed.
pub at_class-absent : (name : List ℕ) (change : ClassRow → ClassRow) (classes : List ClassRow) → find (is_class name) classes ≡ None → at_class name change classes ≡ classes
at_class-absent name change [] absent = refl
at_class-absent name change (class ∷ classes) absent = ⊎_elim
    (λ (hit : is_class name class ≡ true). let found : Some class ≡ None = sym (find-hit (is_class name) class classes hit) ∙ absent in cc)
    (λ (miss : is_class name class ≡ false). ap (λ b. cond b (change class ∷ classes) (class ∷ at_class name change classes)) miss
    ∙ ap (λ rest. class ∷ rest) (at_class-absent name change classes (sym (find-miss (is_class name) class classes miss) ∙ absent)))
    (cases_Bool (is_class name class))

pub at_class-without_absent : (class : List ℕ) (name : Spelled) (classes : List ClassRow)
    → option_and_then (λ (row : ClassRow). find (is_profile name) row.profiles) (find (is_class class) classes) ≡ None → at_class class (without_profile name) classes ≡ classes
at_class-without_absent class name [] absent = refl
at_class-without_absent class name (row ∷ classes) absent = ⊎_elim
    (λ (hit : is_class class row ≡ true).
    let none : find (is_profile name) row.profiles ≡ None = sym (ap (λ o. option_and_then (λ (r : ClassRow). find (is_profile name) r.profiles) o) (find-hit (is_class class) row classes hit)) ∙ absent in
    ap (λ b. cond b (without_profile name row ∷ classes) (row ∷ at_class class (without_profile name) classes)) hit
    ∙ ap (λ profiles. record row { profiles = profiles } ∷ classes) (drop_row-absent (is_profile name) row.profiles none))
    (λ (miss : is_class class row ≡ false). ap (λ b. cond b (without_profile name row ∷ classes) (row ∷ at_class class (without_profile name) classes)) miss
    ∙ ap (λ rest. row ∷ rest) (at_class-without_absent class name classes (sym (ap (λ o. option_and_then (λ (r : ClassRow). find (is_profile name) r.profiles) o) (find-miss (is_class class) row classes miss)) ∙ absent)))
    (cases_Bool (is_class class row))

-- What is put is found.
pub put_row-found : {X : Type 0} (p : X → Bool) (x : X) (xs : List X) → p x ≡ true → find p (put_row p x xs) ≡ Some x
put_row-found p x [] is = find-hit p x [] is
put_row-found p x (y ∷ ys) is = ⊎_elim
    (λ (hit : p y ≡ true). ap (λ b. find p (cond b (x ∷ ys) (y ∷ put_row p x ys))) hit ∙ find-hit p x ys is)
    (λ (miss : p y ≡ false). ap (λ b. find p (cond b (x ∷ ys) (y ∷ put_row p x ys))) miss ∙ find-miss p y (put_row p x ys) miss ∙ put_row-found p x ys is)
    (cases_Bool (p y))

-- And what is sought by a test that neither it nor what it replaces passes is found as before.
pub put_row-others : {X : Type 0} (p q : X → Bool) (x : X) (xs : List X) → q x ≡ false → ((y : X) → p y ≡ true → q y ≡ false) → find q (put_row p x xs) ≡ find q xs
put_row-others p q x [] isnt apart = find-miss q x [] isnt
put_row-others p q x (y ∷ ys) isnt apart = ⊎_elim
    (λ (hit : p y ≡ true). ap (λ b. find q (cond b (x ∷ ys) (y ∷ put_row p x ys))) hit ∙ find-miss q x ys isnt ∙ sym (find-miss q y ys (apart y hit)))
    (λ (miss : p y ≡ false). ap (λ b. find q (cond b (x ∷ ys) (y ∷ put_row p x ys))) miss ∙ ap (λ o. cond (q y) (Some y) o) (put_row-others p q x ys isnt apart))
    (cases_Bool (p y))

-- Who has the one name hasn't the other.
pub other_name : (name one other : List ℕ) → bytes_eq one other ≡ false → bytes_eq name one ≡ true → bytes_eq name other ≡ false
other_name name one other differ same = ap (λ n. bytes_eq n other) ((bytes_eq-Decides name one).0 same) ∙ differ

-- ---- a class that goes
-- No class of the name is left.
pub without_class-own : (name : List ℕ) (classes : List ClassRow) → find (is_class name) (without_class name classes) ≡ None
without_class-own name [] = refl
without_class-own name (class ∷ classes) = ⊎_elim
    (λ (hit : is_class name class ≡ true). ap (λ b. find (is_class name) (cond (not b) (class ∷ without_class name classes) (without_class name classes))) hit ∙ without_class-own name classes)
    (λ (miss : is_class name class ≡ false).
    ap (λ b. find (is_class name) (cond (not b) (class ∷ without_class name classes) (without_class name classes))) miss
    ∙ find-miss (is_class name) class (without_class name classes) miss ∙ without_class-own name classes)
    (cases_Bool (is_class name class))

-- Those of other names are found as before.
pub without_class-others : (gone name : List ℕ) (classes : List ClassRow) → bytes_eq gone name ≡ false → find (is_class name) (without_class gone classes) ≡ find (is_class name) classes
without_class-others gone name [] differ = refl
without_class-others gone name (class ∷ classes) differ = ⊎_elim
    (λ (hit : is_class gone class ≡ true).
    ap (λ b. find (is_class name) (cond (not b) (class ∷ without_class gone classes) (without_class gone classes))) hit
    ∙ without_class-others gone name classes differ ∙ sym (find-miss (is_class name) class classes (other_name class.name gone name differ hit)))
    (λ (miss : is_class gone class ≡ false).
    ap (λ b. find (is_class name) (cond (not b) (class ∷ without_class gone classes) (without_class gone classes))) miss
    ∙ ap (λ o. cond (is_class name class) (Some class) o) (without_class-others gone name classes differ))
    (cases_Bool (is_class gone class))

-- A class that isn't there doesn't go.
pub without_class-absent : (name : List ℕ) (classes : List ClassRow) → find (is_class name) classes ≡ None → without_class name classes ≡ classes
without_class-absent name [] absent = refl
without_class-absent name (class ∷ classes) absent = ⊎_elim
    (λ (hit : is_class name class ≡ true). let found : Some class ≡ None = sym (find-hit (is_class name) class classes hit) ∙ absent in cc)
    (λ (miss : is_class name class ≡ false). ap (λ b. cond (not b) (class ∷ without_class name classes) (without_class name classes)) miss
    ∙ ap (λ rest. class ∷ rest) (without_class-absent name classes (sym (find-miss (is_class name) class classes miss) ∙ absent)))
    (cases_Bool (is_class name class))
