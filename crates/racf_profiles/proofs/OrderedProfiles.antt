-- A profile that is put goes to its place in the order.
use Rattle.std.proofs.Common.{◌≡◌, ◌⊎◌, ℕ, Bool, true, false, cond, ◌&&◌, List, [], ◌∷◌, Some, option_and_then, refl, sym, ◌∙◌, ap, ⊎_elim}
use Rattle.std.specs.List.{find, AllByRecursion}
use Rattle.std.specs.Str.{bytes_eq}
use Rattle.std.proofs.lemmas.Bool.{cases_Bool, both_ways, and_from, and_parts}
use Rattle.std.proofs.lemmas.Slice.Eq.{bytes_eq-Decides}
use Rattle.generic_names.specs.Spelled.{Spelled}
use Rattle.generic_names.specs.Before.{before}
use Rattle.generic_names.specs.Laws.{IsPattern, OneIsBefore, PassedOn}
use Rattle.generic_names.specs.declared.kind.NameKind.{NameKind}
use Rattle.racf_profiles.specs.declared.profiles.Profile.{Profile}
use Rattle.racf_profiles.specs.declared.class_rows.ClassRow.{ClassRow}
use Rattle.racf_profiles.specs.Lookup.{is_profile, is_class}
use Rattle.racf_profiles.specs.Edits.{put_profile, drop_row, comes_first, is_in_order, AreNamed, at_class, with_profile}
use Rattle.racf_profiles.proofs.Found.{find-hit, find-miss}
use Rattle.racf_profiles.proofs.EditLaws.{all-drop_row}
use Rattle.racf_profiles.proofs.Named.{itself}

-- The three places of a profile that is put before y and ys.
put-same : (x y : Profile) (ys : List Profile) → is_profile x.name y ≡ true → put_profile x (y ∷ ys) ≡ x ∷ ys
put-same x y ys same = ap (λ b. cond b (x ∷ ys) (cond (before x.name y.name) (x ∷ y ∷ ys) (y ∷ put_profile x ys))) same

put-before : (x y : Profile) (ys : List Profile) → is_profile x.name y ≡ false → before x.name y.name ≡ true → put_profile x (y ∷ ys) ≡ x ∷ y ∷ ys
put-before x y ys other first = ap (λ b. cond b (x ∷ ys) (cond (before x.name y.name) (x ∷ y ∷ ys) (y ∷ put_profile x ys))) other
    ∙ ap (λ b. cond b (x ∷ y ∷ ys) (y ∷ put_profile x ys)) first

put-behind : (x y : Profile) (ys : List Profile) → is_profile x.name y ≡ false → before x.name y.name ≡ false → put_profile x (y ∷ ys) ≡ y ∷ put_profile x ys
put-behind x y ys other later = ap (λ b. cond b (x ∷ ys) (cond (before x.name y.name) (x ∷ y ∷ ys) (y ∷ put_profile x ys))) other
    ∙ ap (λ b. cond b (x ∷ y ∷ ys) (y ∷ put_profile x ys)) later

-- What is put is found by its name.
pub put_profile-found : (x : Profile) (ys : List Profile) → find (is_profile x.name) (put_profile x ys) ≡ Some x
put_profile-found x [] = find-hit (is_profile x.name) x [] (itself x.name.text)
put_profile-found x (y ∷ ys) = ⊎_elim
    (λ (same : is_profile x.name y ≡ true). ap (find (is_profile x.name)) (put-same x y ys same) ∙ find-hit (is_profile x.name) x ys (itself x.name.text))
    (λ (other : is_profile x.name y ≡ false). ⊎_elim
    (λ (first : before x.name y.name ≡ true). ap (find (is_profile x.name)) (put-before x y ys other first) ∙ find-hit (is_profile x.name) x (y ∷ ys) (itself x.name.text))
    (λ (later : before x.name y.name ≡ false). ap (find (is_profile x.name)) (put-behind x y ys other later) ∙ find-miss (is_profile x.name) y (put_profile x ys) other ∙ put_profile-found x ys)
    (cases_Bool (before x.name y.name)))
    (cases_Bool (is_profile x.name y))

-- What holds of a profile and of each of others holds of each where it is put among them.
pub all-put_profile : (P : Profile → Type 0) (x : Profile) (ys : List Profile) → P x → AllByRecursion P ys → AllByRecursion P (put_profile x ys)
all-put_profile P x [] here all = (here, tt)
all-put_profile P x (y ∷ ys) here all = by (is_profile x.name y) (before x.name y.name) (all-put_profile P x ys here all.1)
  where
    by : (same first : Bool) → AllByRecursion P (put_profile x ys) → AllByRecursion P (cond same (x ∷ ys) (cond first (x ∷ y ∷ ys) (y ∷ put_profile x ys)))
    by true first rest = (here, all.1)
    by false true rest = (here, all)
    by false false rest = (all.0, rest)

-- A name that is before what is put and before the others is before what there is then.
comes_first-put : (name : Spelled) (x : Profile) (ys : List Profile) → before name x.name ≡ true → comes_first name ys ≡ true → comes_first name (put_profile x ys) ≡ true
comes_first-put name x [] first others = first
comes_first-put name x (y ∷ ys) first others = ⊎_elim
    (λ (same : is_profile x.name y ≡ true). ap (comes_first name) (put-same x y ys same) ∙ first)
    (λ (other : is_profile x.name y ≡ false). ⊎_elim
    (λ (above : before x.name y.name ≡ true). ap (comes_first name) (put-before x y ys other above) ∙ first)
    (λ (later : before x.name y.name ≡ false). ap (comes_first name) (put-behind x y ys other later) ∙ others)
    (cases_Bool (before x.name y.name)))
    (cases_Bool (is_profile x.name y))

-- Names of one kind and one text are the same name.
pub same_spelled : (a b : Spelled) → a.kind ≡ b.kind → bytes_eq a.text b.text ≡ true → a ≡ b
same_spelled a b kind text =
    ap (λ (k : NameKind). let name : Spelled = record { kind = k; text = a.text } in name) kind
    ∙ ap (λ (t : List ℕ). let name : Spelled = record { kind = b.kind; text = t } in name) ((bytes_eq-Decides a.text b.text).0 text)

-- Of two names of which neither is the other's and the first isn't before the second, the second is before the first.
pub the_other_way : OneIsBefore → (x y : Spelled) → IsPattern x → IsPattern y → x.kind ≡ y.kind → bytes_eq y.text x.text ≡ false → before x y ≡ false → before y x ≡ true
the_other_way total x y lawful_x lawful_y kind other later = ⊎_elim
    (λ (same : x ≡ y). absurd (both_ways _ other (ap (λ (n : Spelled). bytes_eq n.text x.text) (sym same) ∙ itself x.text)))
    (λ (one : (before x y ≡ true) ⊎ (before y x ≡ true)). ⊎_elim (λ (first : before x y ≡ true). absurd (both_ways _ later first)) (λ (second : before y x ≡ true). second) one)
    (total x y lawful_x lawful_y kind)

pub put_profile-in_order : OneIsBefore → (kind : NameKind) (x : Profile) (ys : List Profile) → IsPattern x.name → x.name.kind ≡ kind → AreNamed kind ys → is_in_order ys ≡ true → is_in_order (put_profile x ys) ≡ true
put_profile-in_order total kind x [] lawful is named ordered = refl
put_profile-in_order total kind x (y ∷ ys) lawful is named ordered = ⊎_elim
    (λ (same : is_profile x.name y ≡ true).
    let name : y.name ≡ x.name = same_spelled y.name x.name (named.0.1 ∙ sym is) same in
    ap is_in_order (put-same x y ys same) ∙ ap (λ (n : Spelled). comes_first n ys && is_in_order ys) (sym name) ∙ ordered)
    (λ (other : is_profile x.name y ≡ false). ⊎_elim
    (λ (first : before x.name y.name ≡ true). ap is_in_order (put-before x y ys other first) ∙ and_from _ _ first ordered)
    (λ (later : before x.name y.name ≡ false). ap is_in_order (put-behind x y ys other later)
    ∙ and_from _ _ (comes_first-put y.name x ys (the_other_way total x.name y.name lawful named.0.0 (is ∙ sym named.0.1) other later) (and_parts _ _ ordered).0)
    (put_profile-in_order total kind x ys lawful is named.1 (and_parts _ _ ordered).1))
    (cases_Bool (before x.name y.name)))
    (cases_Bool (is_profile x.name y))

-- A profile that is put into a class is found there.
pub profile-put : (class : List ℕ) (x : Profile) (row : ClassRow) (classes : List ClassRow) → find (is_class class) classes ≡ Some row
    → option_and_then (λ (r : ClassRow). find (is_profile x.name) r.profiles) (find (is_class class) (at_class class (with_profile x) classes)) ≡ Some x
profile-put class x row [] found = cc
profile-put class x row (first ∷ classes) found = ⊎_elim
    (λ (hit : is_class class first ≡ true).
    ap (λ b. option_and_then (λ (r : ClassRow). find (is_profile x.name) r.profiles) (find (is_class class) (cond b (with_profile x first ∷ classes) (first ∷ at_class class (with_profile x) classes)))) hit
    ∙ ap (λ o. option_and_then (λ (r : ClassRow). find (is_profile x.name) r.profiles) o) (find-hit (is_class class) (with_profile x first) classes hit) ∙ put_profile-found x first.profiles)
    (λ (miss : is_class class first ≡ false).
    ap (λ b. option_and_then (λ (r : ClassRow). find (is_profile x.name) r.profiles) (find (is_class class) (cond b (with_profile x first ∷ classes) (first ∷ at_class class (with_profile x) classes)))) miss
    ∙ ap (λ o. option_and_then (λ (r : ClassRow). find (is_profile x.name) r.profiles) o) (find-miss (is_class class) first (at_class class (with_profile x) classes) miss)
    ∙ profile-put class x row classes (sym (find-miss (is_class class) first classes miss) ∙ found))
    (cases_Bool (is_class class first))

-- ---- a list in order: its first profile, and the rest
pub ordered-head : (y : Profile) (ys : List Profile) → is_in_order (y ∷ ys) ≡ true → comes_first y.name ys ≡ true
ordered-head y ys ordered = (and_parts (comes_first y.name ys) (is_in_order ys) ordered).0

pub ordered-tail : (y : Profile) (ys : List Profile) → is_in_order (y ∷ ys) ≡ true → is_in_order ys ≡ true
ordered-tail y ys ordered = (and_parts (comes_first y.name ys) (is_in_order ys) ordered).1

pub first-of_all : (n : Spelled) (ps : List Profile) → AllByRecursion (λ (z : Profile). before n z.name ≡ true) ps → comes_first n ps ≡ true
first-of_all n [] all = refl
first-of_all n (z ∷ zs) all = all.0

module _ (passed_on : PassedOn) where
  -- what comes before a list in order comes before each of it
  pub all-behind : (n : Spelled) (ps : List Profile) → comes_first n ps ≡ true → is_in_order ps ≡ true → AllByRecursion (λ (z : Profile). before n z.name ≡ true) ps
  all-behind n [] first ordered = tt
  all-behind n (z ∷ zs) first ordered = (first, all-behind n zs (next zs (ordered-head z zs ordered)) (ordered-tail z zs ordered))
    where
      next : (ws : List Profile) → comes_first z.name ws ≡ true → comes_first n ws ≡ true
      next [] h = refl
      next (w ∷ ws) h = passed_on n z.name w.name first h

  pub rest-behind : (y : Profile) (ys : List Profile) → is_in_order (y ∷ ys) ≡ true → AllByRecursion (λ (z : Profile). before y.name z.name ≡ true) ys
  rest-behind y ys ordered = all-behind y.name ys (ordered-head y ys ordered) (ordered-tail y ys ordered)

  pub order-drop_row : (goes : Profile → Bool) (ps : List Profile) → is_in_order ps ≡ true → is_in_order (drop_row goes ps) ≡ true
  order-drop_row goes [] ordered = refl
  order-drop_row goes (y ∷ ys) ordered = by (goes y) (order-drop_row goes ys (ordered-tail y ys ordered))
    where
      by : (b : Bool) → is_in_order (drop_row goes ys) ≡ true → is_in_order (cond b ys (y ∷ drop_row goes ys)) ≡ true
      by true rest = ordered-tail y ys ordered
      by false rest =
          and_from (comes_first y.name (drop_row goes ys)) (is_in_order (drop_row goes ys))
          (first-of_all y.name (drop_row goes ys) (all-drop_row (λ (z : Profile). before y.name z.name ≡ true) goes ys (rest-behind y ys ordered))) rest
