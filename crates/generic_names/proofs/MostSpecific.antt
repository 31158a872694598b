-- The best of profiles is the most specific of those that cover a name.
use Rattle.std.proofs.Common.{◌≡◌, Bool, true, false, cond, List, [], ◌∷◌, Option, Some, None, refl, sym, ◌∙◌, subst, ⊎_elim, ◌⊎◌, inl, inr, find, filter}
use Rattle.std.specs.Prelude.{MatchOption}
use Rattle.std.specs.Option.{option_or}
use Rattle.std.specs.List.{AllByRecursion}
use Rattle.std.specs.Str.{bytes_eq}
use Rattle.std.proofs.lemmas.Slice.Eq.{bytes_eq-Decides}
use Rattle.generic_names.specs.declared.kind.NameKind.{NameKind}
use Rattle.generic_names.specs.Spelled.{Spelled}
use Rattle.generic_names.specs.Covers.{covers}
use Rattle.generic_names.specs.Before.{before}
use Rattle.generic_names.specs.Laws.{IsResource, IsPattern}
use Rattle.generic_names.specs.Best.{more_specific, most_specific, best, AreNamed, AreOfKind, IsAmong, IsMostSpecific}
use Rattle.generic_names.proofs.OrderLaws.{one_is_before, not_both, passed_on, same_spelled, irreflexive}
use Rattle.generic_names.proofs.FirstLaws.{very_name_first}
use Rattle.generic_names.proofs.BestLaws.{covers-itself}

-- what isn't before one isn't before what that one isn't after
not_passed : (y w x : Spelled) → IsPattern y → IsPattern w → y.kind ≡ w.kind → before y w ≡ false → before w x ≡ false → before y x ≡ false
not_passed y w x lawful_y lawful_w kind not_yw not_wx = settled (before y x) refl
  where
    settled : (t : Bool) → before y x ≡ t → t ≡ false
    settled false is = refl
    settled true is = ⊎_elim
        (λ (e : y ≡ w). let back : before w x ≡ true = subst (λ (n : Spelled). before n x ≡ true) e is in cc (back, not_wx))
        (λ (h : (before y w ≡ true) ⊎ (before w y ≡ true)). ⊎_elim
        (λ (e : before y w ≡ true). cc (e, not_yw))
        (λ (e : before w y ≡ true). let on : before w x ≡ true = passed_on w y x e is in cc (on, not_wx))
        h)
        (one_is_before y w lawful_y lawful_w kind)

module _ {A : Type 0} (name_of : A → Spelled) (kind : NameKind) where
  abbrev IsOfKind : A → Type 0
  IsOfKind x = IsPattern (name_of x) × ((name_of x).kind ≡ kind)

  abbrev NoneBefore : A → List A → Type 0
  NoneBefore x xs = AllByRecursion (λ y. before (name_of y) (name_of x) ≡ false) xs

  of-among : (x : A) (xs : List A) → AllByRecursion IsOfKind xs → IsAmong name_of x xs → IsOfKind x
  of-among x [] all among = absurd among
  of-among x (y ∷ ys) all among = ⊎_elim (λ (e : x ≡ y). subst IsOfKind (sym e) all.0) (λ (h : IsAmong name_of x ys). of-among x ys all.1 h) among

  -- none is before one that isn't after the one that none is before
  none-passed : (w x : A) (ys : List A) → IsOfKind w → AllByRecursion IsOfKind ys → NoneBefore w ys → before (name_of w) (name_of x) ≡ false → NoneBefore x ys
  none-passed w x [] lawful all none not_wx = tt
  none-passed w x (y ∷ ys) lawful all none not_wx =
      (not_passed (name_of y) (name_of w) (name_of x) all.0.0 lawful.0 (all.0.1 ∙ sym lawful.1) none.0 not_wx, none-passed w x ys lawful all.1 none.1 not_wx)

  most : (xs : List A) → AllByRecursion IsOfKind xs → MatchOption (most_specific name_of xs) (xs ≡ []) (λ x. IsAmong name_of x xs × NoneBefore x xs)
  most [] all = refl
  most (x ∷ xs) all = settled (most_specific name_of xs) (most xs all.1)
    where
      settled : (o : Option A) → MatchOption o (xs ≡ []) (λ w. IsAmong name_of w xs × NoneBefore w xs) → IsAmong name_of (more_specific name_of x o) (x ∷ xs) × NoneBefore (more_specific name_of x o) (x ∷ xs)
      settled None none = (inl refl, (irreflexive (name_of x), subst (λ (ys : List A). NoneBefore x ys) (sym none) tt))
      settled (Some w) h = chosen (before (name_of w) (name_of x)) refl
        where
          chosen : (t : Bool) → before (name_of w) (name_of x) ≡ t → IsAmong name_of (cond t w x) (x ∷ xs) × NoneBefore (cond t w x) (x ∷ xs)
          chosen true is = (inr h.0, (not_both (name_of w) (name_of x) is, h.1))
          chosen false is = (inl refl, (irreflexive (name_of x), none-passed w x xs (of-among w xs all.1 h.0) all.1 h.1 is))

module _ {A : Type 0} (name_of : A → Spelled) (name : Spelled) (resource : IsResource name) where
  covering : A → Bool
  covering = λ y. covers (name_of y) name

  both-all : (xs : List A) → AreNamed name_of xs → AreOfKind name_of name.kind xs → AllByRecursion (IsOfKind name_of name.kind) xs
  both-all [] named kinds = tt
  both-all (x ∷ xs) named kinds = ((named.0, kinds.0), both-all xs named.1 kinds.1)

  all-covering : (P : A → Type 0) (xs : List A) → AllByRecursion P xs → AllByRecursion P (filter (λ y. covers (name_of y) name) xs)
  all-covering P [] all = tt
  all-covering P (x ∷ xs) all = settled (all-covering P xs all.1) (covers (name_of x) name)
    where
      settled : AllByRecursion P (filter (λ y. covers (name_of y) name) xs) → (t : Bool) → AllByRecursion P (cond t (x ∷ filter (λ y. covers (name_of y) name) xs) (filter (λ y. covers (name_of y) name) xs))
      settled rest true = (all.0, rest)
      settled rest false = rest

  none-covering : (xs : List A) → filter (λ y. covers (name_of y) name) xs ≡ [] → AllByRecursion (λ y. covers (name_of y) name ≡ false) xs
  none-covering [] none = tt
  none-covering (x ∷ xs) none = settled (λ e. none-covering xs e) (covers (name_of x) name) refl none
    where
      settled : (filter (λ y. covers (name_of y) name) xs ≡ [] → AllByRecursion (λ y. covers (name_of y) name ≡ false) xs) → (t : Bool) → covers (name_of x) name ≡ t → cond t (x ∷ filter (λ y. covers (name_of y) name) xs) (filter (λ y. covers (name_of y) name) xs) ≡ [] → (covers (name_of x) name ≡ false) × AllByRecursion (λ y. covers (name_of y) name ≡ false) xs
      settled again true is e = absurd (cc e)
      settled again false is e = (is, again e)

  -- of those that cover the name one is among all, and what holds of each that covers it holds of those
  among-all : (x : A) (xs : List A) → IsAmong name_of x (filter (λ y. covers (name_of y) name) xs) → IsAmong name_of x xs × (covers (name_of x) name ≡ true)
  among-all x [] among = absurd among
  among-all x (y ∷ ys) among = settled (λ h. among-all x ys h) (covers (name_of y) name) refl among
    where
      settled : (IsAmong name_of x (filter (λ z. covers (name_of z) name) ys) → IsAmong name_of x ys × (covers (name_of x) name ≡ true)) → (t : Bool) → covers (name_of y) name ≡ t → IsAmong name_of x (cond t (y ∷ filter (λ z. covers (name_of z) name) ys) (filter (λ z. covers (name_of z) name) ys)) → IsAmong name_of x (y ∷ ys) × (covers (name_of x) name ≡ true)
      settled again true is h = ⊎_elim
          (λ (e : x ≡ y). (inl e, subst (λ (z : A). covers (name_of z) name ≡ true) (sym e) is))
          (λ (r : IsAmong name_of x (filter (λ z. covers (name_of z) name) ys)). let rest = again r in (inr rest.0, rest.1))
          h
      settled again false is h = let rest = again h in (inr rest.0, rest.1)

  each-covering : (P : A → Type 0) (xs : List A) → AllByRecursion P (filter (λ y. covers (name_of y) name) xs) → AllByRecursion (λ y. covers (name_of y) name ≡ true → P y) xs
  each-covering P [] all = tt
  each-covering P (x ∷ xs) all = settled (λ h. each-covering P xs h) (covers (name_of x) name) refl all
    where
      settled : (AllByRecursion P (filter (λ y. covers (name_of y) name) xs) → AllByRecursion (λ y. covers (name_of y) name ≡ true → P y) xs) → (t : Bool) → covers (name_of x) name ≡ t → AllByRecursion P (cond t (x ∷ filter (λ y. covers (name_of y) name) xs) (filter (λ y. covers (name_of y) name) xs)) → (covers (name_of x) name ≡ true → P x) × AllByRecursion (λ y. covers (name_of y) name ≡ true → P y) xs
      settled again true is h = ((λ _. h.0), again h.1)
      settled again false is h = ((λ e. absurd (cc (e, is))), again h)

  -- the very name
  very-found : (xs : List A) (x : A) → find (λ p. bytes_eq (name_of p).text name.text) xs ≡ Some x → AreOfKind name_of name.kind xs → IsAmong name_of x xs × (name_of x ≡ name)
  very-found [] x found kinds = absurd (cc found)
  very-found (y ∷ ys) x found kinds = settled (λ e. very-found ys x e kinds.1) (bytes_eq (name_of y).text name.text) refl found
    where
      settled : (find (λ p. bytes_eq (name_of p).text name.text) ys ≡ Some x → IsAmong name_of x ys × (name_of x ≡ name)) → (t : Bool) → bytes_eq (name_of y).text name.text ≡ t → cond t (Some y) (find (λ p. bytes_eq (name_of p).text name.text) ys) ≡ Some x → IsAmong name_of x (y ∷ ys) × (name_of x ≡ name)
      settled again true is e =
          let same : y ≡ x = cc e in
          (inl (sym same), subst (λ (z : A). name_of z ≡ name) same (same_spelled (name_of y) name kinds.0 ((bytes_eq-Decides (name_of y).text name.text).0 is)))
      settled again false is e = let rest = again e in (inr rest.0, rest.1)

  none-before-name : (xs : List A) → AreOfKind name_of name.kind xs → AllByRecursion (λ y. covers (name_of y) name ≡ true → before (name_of y) name ≡ false) xs
  none-before-name [] kinds = tt
  none-before-name (y ∷ ys) kinds = (
    (λ covered. ⊎_elim
        (λ (e : name_of y ≡ name). subst (λ (n : Spelled). before n name ≡ false) (sym e) (irreflexive name))
        (λ (e : before name (name_of y) ≡ true). not_both name (name_of y) e)
        (very_name_first (name_of y) name resource kinds.0 covered)),
    none-before-name ys kinds.1,
  )

  pub best-at : (xs : List A) → AreNamed name_of xs → AreOfKind name_of name.kind xs → MatchOption (best name_of xs name) (AllByRecursion (λ y. covers (name_of y) name ≡ false) xs) (IsMostSpecific name_of xs name)
  best-at xs named kinds = settled (find (λ p. bytes_eq (name_of p).text name.text) xs) refl
    where
      by_order : (o : Option A) → MatchOption o (filter (λ y. covers (name_of y) name) xs ≡ []) (λ x. IsAmong name_of x (filter (λ y. covers (name_of y) name) xs) × NoneBefore name_of name.kind x (filter (λ y. covers (name_of y) name) xs))
          → MatchOption o (AllByRecursion (λ y. covers (name_of y) name ≡ false) xs) (IsMostSpecific name_of xs name)
      by_order None none = none-covering xs none
      by_order (Some x) h =
          let there = among-all x xs h.0 in
          record { among = there.0; covering = there.1; first = each-covering (λ y. before (name_of y) (name_of x) ≡ false) xs h.1 }

      settled : (o : Option A) → find (λ p. bytes_eq (name_of p).text name.text) xs ≡ o → MatchOption (option_or o (most_specific name_of (filter (λ y. covers (name_of y) name) xs))) (AllByRecursion (λ y. covers (name_of y) name ≡ false) xs) (IsMostSpecific name_of xs name)
      settled None is = by_order (most_specific name_of (filter (λ y. covers (name_of y) name) xs)) (most name_of name.kind (filter (λ y. covers (name_of y) name) xs) (all-covering (IsOfKind name_of name.kind) xs (both-all xs named kinds)))
      settled (Some x) is =
          let there = very-found xs x is kinds in
          record {
            among = there.0;
            covering = subst (λ (n : Spelled). covers n name ≡ true) (sym there.1) (covers-itself name resource);
            first = subst (λ (n : Spelled). AllByRecursion (λ y. covers (name_of y) name ≡ true → before (name_of y) n ≡ false) xs) (sym there.1) (none-before-name xs kinds);
          }

pub best-most-specific : {A : Type 0} (name_of : A → Spelled) (profiles : List A) (name : Spelled) → IsResource name → AreNamed name_of profiles → AreOfKind name_of name.kind profiles
    → MatchOption (best name_of profiles name) (AllByRecursion (λ y. covers (name_of y) name ≡ false) profiles) (IsMostSpecific name_of profiles name)
best-most-specific name_of profiles name resource named kinds = best-at name_of name resource profiles named kinds
