-- The search for the most specific entry that covers a name, by entries: none that was passed covers it.
use Rattle.std.proofs.Common.{◌≡◌, ℕ, ◌<◌, ◌≤◌, Bool, true, false, not, List, length, get_or, Option, Some, None, refl, ap, sym, ◌∙◌, subst, arith, find, ⊎_elim}
use Rattle.std.specs.List.{AllWithin, slice_get}
use Rattle.std.proofs.lemmas.Bool.{cases_lt}
use Rattle.std.proofs.lemmas.Option.{slice_get_within}
use Rattle.generic_names.specs.Spelled.{Spelled}
use Rattle.generic_names.specs.Covers.{covers}
use Rattle.generic_names.specs.Gap.{is_below, NoneCovers}
use Rattle.generic_names.specs.Laws.{IsResource}
use Rattle.generic_names.specs.Best.{best, IsInOrder, AreNamed}
use Rattle.generic_names.specs.OrderKey.{order_key, is_lower}
use Rattle.generic_names.proofs.BestLaws.{best-first}
use Rattle.generic_names.proofs.Lawful.{resource-pattern}
use Rattle.profile_index.specs.declared.entry.Entry.{Entry}
use Rattle.profile_index.specs.Indexed.{name_of, AreOf}
use Rattle.profile_index.specs.Places.{IsFirst, IsFirstBehind}
use Rattle.profile_index.proofs.KeyLaws.{before-within}
use Rattle.profile_index.proofs.OrderedLaws.{all-at, before-covers, none-in-gap}
use Rattle.profile_index.proofs.PlaceLaws.{find-at, find-none, place-from-first, slice_get-at}

fails : (b : Bool) → not b ≡ true → b ≡ false
fails true h = absurd (cc (h))
fails false h = refl

here : {A : Type 0} (xs : List A) (place : ℕ) (e : A) → Some e ≡ slice_get xs place → get_or xs place e ≡ e
here xs place e at = let there = slice_get-at xs place e (slice_get_within xs place e (sym at)) in cc (there, at)

-- none that was passed covers the name, and this one is left next, if there is one
module _ {T : Type 0} (name : Spelled) (xs : List (Entry T)) where
  abbrev pub Passed : Option (Entry T) → Type 0
  Passed first = IsFirstBehind (λ e. not (covers e.name name)) xs first

  -- it has the name's kind
  pub kind-passed : AreOf name.kind xs → (e : Entry T) → Passed (Some e) → e.name.kind ≡ name.kind
  kind-passed kinds e h =
      let within = slice_get_within xs h.0 e (sym h.1.1.1) in
      subst (λ (x : Entry T). x.name.kind ≡ name.kind) (here xs h.0 e h.1.1.1) (all-at (λ x. x.name.kind ≡ name.kind) xs kinds h.0 e within)

module _ {T : Type 0} (name : Spelled) (xs : List (Entry T)) (lawful : IsResource name) (ordered : IsInOrder name_of xs) (named : AreNamed name_of xs) (kinds : AreOf name.kind xs) where
  best-is : best name_of xs name ≡ find (λ e. covers e.name name) xs
  best-is = best-first name_of xs name lawful named kinds ordered

  -- those with a lower key than the name's
  pub passed-before : (key : List ℕ) (first : Option (Entry T)) → key ≡ order_key name.text → IsFirstBehind (λ e. is_lower e.name key) xs first → Passed name xs first
  passed-before key first is h =
      let before_it = before-within name_of xs named key true 0 h.0 h.1.0 h.1.1.0 name (resource-pattern name lawful) is in
      (h.0, (h.1.0, ((λ k d low high. ap not (before-covers (get_or xs k d).name name lawful (all-at (λ e. e.name.kind ≡ name.kind) xs kinds k d (let within = h.1.0 in omega (arith, within, high))) (before_it k d low high))), h.1.1.1)))

  -- and those before the end of a gap
  pub passed-gap : (e : Entry T) (gap : List ℕ) (next : Option (Entry T)) → Passed name xs (Some e) → NoneCovers e.name gap name → IsFirstBehind (λ x. is_below x.name gap) xs next → Passed name xs next
  passed-gap e gap next h none behind =
      let within = slice_get_within xs h.0 e (sym h.1.1.1) in
      let none_there = subst (λ (x : Entry T). NoneCovers x.name gap name) (sym (here xs h.0 e h.1.1.1)) none in
      let passed = none-in-gap name_of xs ordered h.0 e within name gap behind.0 named kinds none_there behind.1.0
      (λ k d low high. behind.1.1.0 k d (omega arith) high) (λ k d low high. fails (covers (get_or xs k d).name name) (h.1.1.0 k d low high)) in
      (behind.0, (behind.1.0, ((λ k d low high. ap not (passed k d low high)), behind.1.1.1)))

  -- the first that is left covers the name, or none is left
  pub passed-found : (e : Entry T) → Passed name xs (Some e) → covers e.name name ≡ true → Some e ≡ best name_of xs name
  passed-found e h is =
      let within = slice_get_within xs h.0 e (sym h.1.1.1) in
      let same = here xs h.0 e h.1.1.1 in
      let found = find-at (λ x. covers x.name name) xs h.0 e within (λ k d low high. fails (covers (get_or xs k d).name name) (h.1.1.0 k d low high)) (ap (λ (x : Entry T). covers x.name name) same ∙ is) in
      sym (best-is ∙ found ∙ ap (λ (x : Entry T). Some x) same)

  pub passed-all : Passed name xs None → None ≡ best name_of xs name
  passed-all h = sym (best-is ∙ find-none (λ x. covers x.name name) xs none)
    where
      none : AllWithin (λ x. covers x.name name ≡ false) xs 0 (length xs)
      none k d low high = ⊎_elim
          (λ (left : h.0 < length xs). let there = slice_get-at xs h.0 d left in let at = h.1.1.1 in absurd (cc (there, at)))
          (λ (past : length xs ≤ h.0). fails (covers (get_or xs k d).name name) (h.1.1.0 k d low (omega (arith, past, high))))
          (cases_lt h.0 (length xs))

  -- the same by places
  pub place-found : (place : ℕ) (e : Entry T) → IsFirst (λ x. covers x.name name) xs (Some place) → slice_get xs place ≡ Some e → Some e ≡ best name_of xs name
  place-found place e first at = sym at ∙ (place-from-first (λ x. covers x.name name) xs (Some place) first).there ∙ sym best-is

  pub place-none : IsFirst (λ x. covers x.name name) xs None → None ≡ best name_of xs name
  place-none first = (place-from-first (λ x. covers x.name name) xs None first).there ∙ sym best-is
