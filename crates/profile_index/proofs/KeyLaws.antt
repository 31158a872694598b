-- What keys tell of the names that they belong to, among entries in order.
use Rattle.std.proofs.Common.{◌≡◌, ℕ, ◌<◌, ◌≤◌, Bool, List, length, map, get_or, Ordering, ap, sym, ◌∙◌, arith}
use Rattle.std.specs.List.{AllWithin}
use Rattle.std.specs.Ordering.{nat_cmp}
use Rattle.std.specs.Cmp.Lexicographic.{slice_cmp}
use Rattle.generic_names.specs.Spelled.{Spelled}
use Rattle.generic_names.specs.Before.{before, order}
use Rattle.generic_names.specs.Gap.{is_below}
use Rattle.generic_names.specs.Laws.{IsPattern}
use Rattle.generic_names.specs.Best.{AreNamed}
use Rattle.generic_names.specs.OrderKey.{order_key, squeezed, is_lower, AreRanks}
use Rattle.generic_names.proofs.KeyLaws.{keys-compare, lower-before, lower-below}
use Rattle.profile_index.proofs.OrderedLaws.{all-at}

module _ {A : Type 0} (name_of : A → Spelled) (xs : List A) (named : AreNamed name_of xs) (key : List ℕ) (answer : Bool) (from to : ℕ) (within : to ≤ length xs)
    (lower : AllWithin (λ x. is_lower (name_of x) key ≡ answer) xs from to) where
  -- a lower key than a name's is that of a name before it
  pub before-within : (name : Spelled) → IsPattern name → key ≡ order_key name.text → AllWithin (λ x. before (name_of x) name ≡ answer) xs from to
  before-within name lawful is k d low high =
      sym (ap (λ (bound : List ℕ). is_lower (name_of (get_or xs k d)) bound) is ∙ lower-before (name_of (get_or xs k d)) name (all-at (λ x. IsPattern (name_of x)) xs named k d (omega arith)) lawful)
      ∙ lower k d low high

  -- a lower key than that of a gap's end is that of a name before the end
  pub below-within : (gap : List ℕ) → AreRanks gap → key ≡ map squeezed gap → AllWithin (λ x. is_below (name_of x) gap ≡ answer) xs from to
  below-within gap ranked is k d low high =
      sym (ap (λ (bound : List ℕ). is_lower (name_of (get_or xs k d)) bound) is ∙ lower-below (name_of (get_or xs k d)) gap (all-at (λ x. IsPattern (name_of x)) xs named k d (omega arith)) ranked)
      ∙ lower k d low high

-- the entry at a place comes before a name, or behind it, as the keys of both compare
pub order-by-keys : {A : Type 0} (name_of : A → Spelled) (xs : List A) → AreNamed name_of xs → (name : Spelled) → IsPattern name → (key : List ℕ) → key ≡ order_key name.text
    → (place : ℕ) (e : A) → place < length xs → e ≡ get_or xs place e → (answer : Ordering) → answer ≡ slice_cmp nat_cmp (order_key (name_of e).text) key → order (name_of (get_or xs place e)) name ≡ answer
order-by-keys name_of xs named name lawful key key_is place e within is answer answer_is =
    sym (answer_is
    ∙ ap (λ (bound : List ℕ). slice_cmp nat_cmp (order_key (name_of e).text) bound) key_is
    ∙ ap (λ x. slice_cmp nat_cmp (order_key (name_of x).text) (order_key name.text)) is
    ∙ keys-compare (name_of (get_or xs place e)) name (all-at (λ x. IsPattern (name_of x)) xs named place e within) lawful)
