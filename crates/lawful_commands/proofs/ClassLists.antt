-- Lists of classes with one more, or without one.
use Rattle.std.proofs.Common.{◌≡◌, ℕ, zero, suc, ◌+◌, ◌≤◌, Bool, true, false, cond, ◌||◌, not, List, [], ◌∷◌, ◌++◌, length, map, take, None, Some, is_some, bytes_eq, refl, sym, ap, subst, ◌∙◌, true≢false, arith, length-append}
use Rattle.std.specs.Prelude.{find, sum_by}
use Rattle.std.specs.List.{AllByRecursion, IsDistinct, filter, list_any}
use Rattle.std.proofs.lemmas.List.Sums.{sum_by-cons}
use Rattle.racf_profiles.specs.declared.class_rows.ClassRow.{ClassRow}
use Rattle.racf_profiles.specs.declared.fixed_classes.FixedClass.{FixedClass}
use Rattle.racf_profiles.specs.ClassTable.{class_name, fixed_classes, fixed_class}
use Rattle.racf_profiles.specs.DynamicClasses.{is_fixed}
use Rattle.racf_profiles.specs.Edits.{added_class, without_class}
use Rattle.racf_profiles.specs.Lookup.{is_class}
use Rattle.racf_profiles.specs.LawfulProfiles.{AreClassNames, names_of}
use Rattle.group_tree.proofs.Rows.{itself}
use Rattle.lawful_commands.proofs.RowLists.{all-filter, all-unmap, distinct-push, distinct-filter}

-- ---- one more
pub find-push : {X : Type 0} (p : X → Bool) (x y : X) (xs : List X) → find p xs ≡ Some x → find p (xs ++ y ∷ []) ≡ Some x
find-push p x y [] found = cc
find-push p x y (z ∷ zs) found = by (p z) found (find-push p x y zs)
  where
    by : (b : Bool) → cond b (Some z) (find p zs) ≡ Some x → (find p zs ≡ Some x → find p (zs ++ y ∷ []) ≡ Some x) → cond b (Some z) (find p (zs ++ y ∷ [])) ≡ Some x
    by true f rest = f
    by false f rest = rest f

pub map-push : {X Y : Type 0} (f : X → Y) (y : X) (xs : List X) → map f (xs ++ y ∷ []) ≡ map f xs ++ f y ∷ []
map-push f y [] = refl
map-push f y (x ∷ xs) = ap (λ rest. f x ∷ rest) (map-push f y xs)

pub sum-push : {X : Type 0} (weight : X → ℕ) (y : X) (xs : List X) → sum_by weight (xs ++ y ∷ []) ≡ sum_by weight xs + weight y
sum-push weight y [] = let one : sum_by weight (y ∷ []) ≡ weight y + sum_by weight [] = sum_by-cons weight y [] in omega (arith, one)
sum-push weight y (x ∷ xs) = omega (arith, sum_by-cons weight x (xs ++ y ∷ []), sum_by-cons weight x xs, sum-push weight y xs)

take-push : {X : Type 0} (n : ℕ) (xs front ys : List X) → take n xs ≡ front → length front ≡ n → take n (xs ++ ys) ≡ front
take-push zero xs front ys is long = is
take-push (suc n) [] [] ys is long = let no : 0 ≡ suc n = long in cc
take-push (suc n) [] (f ∷ fs) ys is long = cc
take-push (suc n) (x ∷ xs) [] ys is long = cc
take-push {X = X} (suc n) (x ∷ xs) (f ∷ fs) ys is long =
    let head : x ≡ f = cc in
    let tail : take n xs ≡ fs = cc in
    ap (λ z. z ∷ take n (xs ++ ys)) head ∙ ap (λ rest. f ∷ rest) (take-push n xs fs ys tail (omega (arith, long)))

any-take : {X : Type 0} (p : X → Bool) (n : ℕ) (xs : List X) → list_any p (take n xs) ≡ true → list_any p xs ≡ true
any-take p zero xs h = absurd (true≢false (sym h))
any-take p (suc n) [] h = absurd (true≢false (sym h))
any-take p (suc n) (x ∷ xs) h = by (p x) h (any-take p n xs)
  where
    by : (b : Bool) → (b || list_any p (take n xs)) ≡ true → (list_any p (take n xs) ≡ true → list_any p xs ≡ true) → (b || list_any p xs) ≡ true
    by true k rest = refl
    by false k rest = rest k

pub any-last : (name : List ℕ) (names : List (List ℕ)) → list_any (λ other. bytes_eq other name) (names ++ name ∷ []) ≡ true
any-last name [] = ap (λ b. b || false) (itself name)
any-last name (other ∷ names) = by (bytes_eq other name) (any-last name names)
  where
    by : (b : Bool) → list_any (λ o. bytes_eq o name) (names ++ name ∷ []) ≡ true → (b || list_any (λ o. bytes_eq o name) (names ++ name ∷ [])) ≡ true
    by true rest = refl
    by false rest = rest

-- ---- the fixed classes are there
found-any : {X : Type 0} (key : X → List ℕ) (name : List ℕ) (xs : List X) → is_some (find (λ x. bytes_eq (key x) name) xs) ≡ list_any (λ other. bytes_eq other name) (map key xs)
found-any key name [] = refl
found-any key name (x ∷ xs) = by (bytes_eq (key x) name) (found-any key name xs)
  where
    by : (b : Bool) → is_some (find (λ y. bytes_eq (key y) name) xs) ≡ list_any (λ other. bytes_eq other name) (map key xs)
        → is_some (cond b (Some x) (find (λ y. bytes_eq (key y) name) xs)) ≡ (b || list_any (λ other. bytes_eq other name) (map key xs))
    by true rest = refl
    by false rest = rest

pub fixed-there : (name : List ℕ) (names : List (List ℕ)) → AreClassNames names → is_fixed name ≡ true → list_any (λ other. bytes_eq other name) names ≡ true
fixed-there name names are fixed =
    any-take (λ other. bytes_eq other name) (length fixed_classes) names
    (ap (list_any (λ other. bytes_eq other name)) are.fixed ∙ sym (found-any class_name name fixed_classes) ∙ fixed)

-- ---- a class more is a class table, where its name is new and there aren't too many
pub names-added : (classes : List ClassRow) (row : ClassRow) → AreClassNames (names_of classes) → AllByRecursion (λ (class : ClassRow). bytes_eq class.name row.name ≡ false) classes → length (names_of (classes ++ row ∷ [])) ≤ 47
    → AreClassNames (names_of (classes ++ row ∷ []))
names-added classes row are apart few = record {
  fixed = ap (take (length fixed_classes)) (map-push (λ (class : ClassRow). class.name) row classes) ∙ take-push (length fixed_classes) (names_of classes) (map class_name fixed_classes) (row.name ∷ []) are.fixed refl;
  distinct = distinct-push bytes_eq (λ (class : ClassRow). class.name) classes row are.distinct apart;
  few = few;
}

-- ---- a class less is one, where it isn't a fixed one
abbrev without : List ℕ → List (List ℕ) → List (List ℕ)
without gone names = filter (λ name. not (bytes_eq name gone)) names

pub names-without : (gone : List ℕ) (classes : List ClassRow) → names_of (without_class gone classes) ≡ without gone (names_of classes)
names-without gone [] = refl
names-without gone (class ∷ classes) = by (bytes_eq class.name gone) (names-without gone classes)
  where
    by : (b : Bool) → names_of (without_class gone classes) ≡ without gone (names_of classes)
        → names_of (cond (not b) (class ∷ without_class gone classes) (without_class gone classes)) ≡ cond (not b) (class.name ∷ without gone (names_of classes)) (without gone (names_of classes))
    by true rest = rest
    by false rest = ap (λ names. class.name ∷ names) rest

-- the names in front stay, where none of them is the one that goes
take-without : (gone : List ℕ) (n : ℕ) (names front : List (List ℕ)) → take n names ≡ front → list_any (λ other. bytes_eq other gone) front ≡ false → length front ≡ n → take n (without gone names) ≡ front
take-without gone zero names front is none long = is
take-without gone (suc n) [] front is none long = is
take-without gone (suc n) (name ∷ names) [] is none long = cc
take-without gone (suc n) (name ∷ names) (f ∷ fs) is none long =
    let head : name ≡ f = cc in
    let tail : take n names ≡ fs = cc in
    by (bytes_eq f gone) (ap (λ m. bytes_eq m gone) head) none head (take-without gone n names fs tail)
  where
    by : (b : Bool) → bytes_eq name gone ≡ b → (b || list_any (λ other. bytes_eq other gone) fs) ≡ false → name ≡ f → (list_any (λ other. bytes_eq other gone) fs ≡ false → length fs ≡ n → take n (without gone names) ≡ fs)
        → take (suc n) (cond (not (bytes_eq name gone)) (name ∷ without gone names) (without gone names)) ≡ f ∷ fs
    by true e k head rest = absurd (true≢false k)
    by false e k head rest = ap (λ b. take (suc n) (cond (not b) (name ∷ without gone names) (without gone names))) e ∙ ap (λ z. z ∷ take n (without gone names)) head ∙ ap (λ zs. f ∷ zs) (rest k (omega (arith, long)))

length-filter : {X : Type 0} (p : X → Bool) (xs : List X) → length (filter p xs) ≤ length xs
length-filter p [] = omega arith
length-filter p (x ∷ xs) = by (p x) (length-filter p xs)
  where
    by : (b : Bool) → length (filter p xs) ≤ length xs → length (cond b (x ∷ filter p xs) (filter p xs)) ≤ length (x ∷ xs)
    by true rest = omega (arith, rest)
    by false rest = omega (arith, rest)

pub names-dropped : (gone : List ℕ) (classes : List ClassRow) → AreClassNames (names_of classes) → is_fixed gone ≡ false → AreClassNames (names_of (without_class gone classes))
names-dropped gone classes are dynamic = record {
  fixed = ap (take (length fixed_classes)) (names-without gone classes)
      ∙ take-without gone (length fixed_classes) (names_of classes) (map class_name fixed_classes) are.fixed (sym (found-any class_name gone fixed_classes) ∙ dynamic) refl;
  distinct = distinct-filter bytes_eq (λ (class : ClassRow). class.name) (λ class. not (is_class gone class)) classes are.distinct;
  few = let less : length (without gone (names_of classes)) ≤ length (names_of classes) = length-filter (λ name. not (bytes_eq name gone)) (names_of classes) in
      omega (arith, ap (λ (names : List (List ℕ)). length names) (names-without gone classes), less, are.few);
}

pub sum-filter-le : {X : Type 0} (weight : X → ℕ) (p : X → Bool) (xs : List X) → sum_by weight (filter p xs) ≤ sum_by weight xs
sum-filter-le weight p [] = omega arith
sum-filter-le weight p (x ∷ xs) = by (p x) (sum-filter-le weight p xs)
  where
    by : (b : Bool) → sum_by weight (filter p xs) ≤ sum_by weight xs → sum_by weight (cond b (x ∷ filter p xs) (filter p xs)) ≤ sum_by weight (x ∷ xs)
    by true rest = let now : sum_by weight (x ∷ filter p xs) ≤ sum_by weight (x ∷ xs) = omega (arith, rest, sum_by-cons weight x (filter p xs), sum_by-cons weight x xs) in now
    by false rest = let now : sum_by weight (filter p xs) ≤ sum_by weight (x ∷ xs) = omega (arith, rest, sum_by-cons weight x xs) in now
