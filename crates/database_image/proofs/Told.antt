-- Facts told of items that stand one behind another, from the first to the last.
use Rattle.std.proofs.Common.{◌≡◌, ℕ, ◌+◌, ◌<◌, ◌≤◌, Bool, true, false, List, ◌∷◌, ◌++◌, length, drop, get_or, Option, Some, None, is_some, refl, sym, ap, subst, ◌∙◌, arith}
use Rattle.std.specs.Prelude.{not, find}
use Rattle.std.specs.List.{sum_by}
use Rattle.std.specs.Option.{option_or, option_map}
use Rattle.std.proofs.lemmas.List.{at_drop_more, drop_all}
use Rattle.std.proofs.lemmas.List.Folds.{find-append}
use Rattle.std.proofs.lemmas.List.Sums.{sum_by-drop_more}
use Rattle.database_image.specs.Facts.{Fact, told, told_of_each, first_broken}

map-or : (a b : Option Fact) → option_map (λ (fact : Fact). fact.place) (option_or a b) ≡ option_or (option_map (λ (fact : Fact). fact.place) a) (option_map (λ (fact : Fact). fact.place) b)
map-or None b = refl
map-or (Some x) b = refl

pub first-append : (xs ys : List Fact) → first_broken (xs ++ ys) ≡ option_or (first_broken xs) (first_broken ys)
first-append xs ys = ap (option_map (λ (fact : Fact). fact.place)) (find-append (λ (fact : Fact). not fact.holds) xs ys) ∙ map-or (find (λ (fact : Fact). not fact.holds) xs) (find (λ (fact : Fact). not fact.holds) ys)

pub or-append : (o p : Option ℕ) (xs ys : List Fact) → o ≡ first_broken xs → p ≡ first_broken ys → option_or o p ≡ first_broken (xs ++ ys)
or-append o p xs ys h k = rw (h, k) (sym (first-append xs ys))

pub none-first : (xs ys : List Fact) → first_broken xs ≡ None → first_broken (xs ++ ys) ≡ first_broken ys
none-first xs ys h = first-append xs ys ∙ ap (λ o. option_or o (first_broken ys)) h

kept : (a b : Option ℕ) → is_some a ≡ true → a ≡ option_or a b
kept None b h = absurd cc
kept (Some x) b h = refl

pub some-first : (xs ys : List Fact) → is_some (first_broken xs) ≡ true → first_broken xs ≡ first_broken (xs ++ ys)
some-first xs ys h = kept (first_broken xs) (first_broken ys) h ∙ sym (first-append xs ys)

pub is_none : (o : Option ℕ) → is_some o ≡ false → o ≡ None
is_none None h = refl
is_none (Some x) h = absurd cc

pub one-broken : (place : ℕ) (holds : Bool) (ys : List Fact) → holds ≡ false → first_broken (told place holds ∷ ys) ≡ Some place
one-broken place true ys h = absurd cc
one-broken place false ys h = refl

pub one-holds : (place : ℕ) (holds : Bool) (ys : List Fact) → holds ≡ true → first_broken (told place holds ∷ ys) ≡ first_broken ys
one-holds place true ys h = refl
one-holds place false ys h = absurd cc

module _ {A : Type 0} (width : A → ℕ) (facts : ℕ → A → List Fact) (items : List A) (i : ℕ) (place : ℕ) where
  next : (x : A) → i < length items → x ≡ get_or items i x
      → first_broken (told_of_each width facts place (drop i items)) ≡ first_broken (facts place x ++ told_of_each width facts (place + width x) (drop (i + 1) items))
  next x lt is =
      let n = at_drop_more (λ xs. first_broken (told_of_each width facts place xs)) items i x lt in
      subst (λ y. first_broken (told_of_each width facts place (drop i items)) ≡ first_broken (facts place y ++ told_of_each width facts (place + width y) (drop (i + 1) items))) (sym is) n

  pub goes_on : (x : A) (total : Option ℕ) → i < length items → x ≡ get_or items i x → first_broken (facts place x) ≡ None
      → first_broken (told_of_each width facts place (drop i items)) ≡ total → first_broken (told_of_each width facts (place + width x) (drop (i + 1) items)) ≡ total
  goes_on x total lt is none so_far = sym (none-first (facts place x) (told_of_each width facts (place + width x) (drop (i + 1) items)) none) ∙ sym (next x lt is) ∙ so_far

  pub stops : (x : A) (total : Option ℕ) → i < length items → x ≡ get_or items i x → is_some (first_broken (facts place x)) ≡ true
      → first_broken (told_of_each width facts place (drop i items)) ≡ total → first_broken (facts place x) ≡ total
  stops x total lt is some so_far = some-first (facts place x) (told_of_each width facts (place + width x) (drop (i + 1) items)) some ∙ sym (next x lt is) ∙ so_far

  pub ends : (total : Option ℕ) → length items ≤ i → first_broken (told_of_each width facts place (drop i items)) ≡ total → None ≡ total
  ends total le so_far = sym (ap (λ xs. first_broken (told_of_each width facts place xs)) (drop_all i items le)) ∙ so_far

  pub room_on : (x : A) (limit : ℕ) → i < length items → x ≡ get_or items i x → place + sum_by width (drop i items) < limit → place + width x + sum_by width (drop (i + 1) items) < limit
  room_on x limit lt is room =
      let n = sum_by-drop_more width items i x lt in
      let e : width (get_or items i x) ≡ width x = ap width (sym is) in
      omega (arith, n, e, room)

  pub room_here : (x : A) (limit : ℕ) → i < length items → x ≡ get_or items i x → place + sum_by width (drop i items) < limit → place + width x < limit
  room_here x limit lt is room = let n = room_on x limit lt is room in omega (arith, n)
