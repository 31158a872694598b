-- The order of keys.
use Rattle.std.proofs.Common.{◌≡◌, ℕ, true, false, List, ap, sym, ◌∙◌, refl}
use Rattle.std.specs.declared.cmp.Ordering.{Ordering}
use Rattle.std.specs.declared.cmp.Ordering.TheVariants.{Less, Equal, Greater}
use Rattle.std.specs.Ordering.{nat_cmp, is_lt, is_eq, ordering_reverse}
use Rattle.std.specs.Cmp.Lexicographic.{slice_cmp}
use Rattle.std.specs.Str.{bytes_eq}
use Rattle.std.proofs.lemmas.Cmp.{nat_list_cmp_total}
use Rattle.std.proofs.lemmas.Map.Text.{is_eq-slice_cmp}
use Rattle.sorted_rows.specs.Sorted.{is_before}

-- a key before another compares as less
as_less : (a b : List ℕ) → is_before a b ≡ true → slice_cmp nat_cmp a b ≡ Less
as_less a b p =
    elim (slice_cmp nat_cmp a b) as (λ r. is_lt r ≡ true → r ≡ Less) [
      | Less ↦ λ _. refl
      | Equal ↦ λ e. absurd (cc)
      | Greater ↦ λ e. absurd (cc)
    ] p

equal_is : (r : Ordering) → is_eq r ≡ true → r ≡ Equal
equal_is Less h = absurd (cc)
equal_is Equal h = refl
equal_is Greater h = absurd (cc)

turned : (a b : List ℕ) (r : Ordering) → slice_cmp nat_cmp a b ≡ r → slice_cmp nat_cmp b a ≡ ordering_reverse r
turned a b r e = nat_list_cmp_total.antisymm b a ∙ ap ordering_reverse e

pub before_trans : (a b d : List ℕ) → is_before a b ≡ true → is_before b d ≡ true → is_before a d ≡ true
before_trans a b d p q = ap is_lt (nat_list_cmp_total.trans a b d (as_less a b p) (as_less b d q))

pub before_not_behind : (a b : List ℕ) → is_before a b ≡ true → is_before b a ≡ false
before_not_behind a b p = ap is_lt (turned a b Less (as_less a b p))

-- what stands behind a key that isn't before k stands behind k
pub from_before : (k a b : List ℕ) → is_before a k ≡ false → is_before a b ≡ true → is_before k b ≡ true
from_before k a b p q =
    elim (slice_cmp nat_cmp a k) as (λ r. slice_cmp nat_cmp a k ≡ r → is_before k b ≡ true) [
      | Less ↦ λ e. (let before : is_before a k ≡ true = ap is_lt e in absurd (cc))
      | Equal ↦ λ e. sym (ap is_lt (nat_list_cmp_total.congr a k b e)) ∙ q
      | Greater ↦ λ e. before_trans k a b (ap is_lt (turned a k Greater e)) q
    ] refl

pub before_not_same : (a k : List ℕ) → is_before a k ≡ true → bytes_eq a k ≡ false
before_not_same a k p = sym (is_eq-slice_cmp a k) ∙ ap is_eq (as_less a k p)

pub behind_not_same : (a k : List ℕ) → is_before k a ≡ true → bytes_eq a k ≡ false
behind_not_same a k p = sym (is_eq-slice_cmp a k) ∙ ap is_eq (turned k a Less (as_less k a p))

same_is : (a k : List ℕ) → bytes_eq a k ≡ true → slice_cmp nat_cmp a k ≡ Equal
same_is a k h = equal_is (slice_cmp nat_cmp a k) (is_eq-slice_cmp a k ∙ h)

pub same_not_before : (a k : List ℕ) → bytes_eq a k ≡ true → is_before a k ≡ false
same_not_before a k h = ap is_lt (same_is a k h)

pub same_not_behind : (a k : List ℕ) → bytes_eq a k ≡ true → is_before k a ≡ false
same_not_behind a k h = ap is_lt (turned a k Equal (same_is a k h))

pub other_behind : (a k : List ℕ) → is_before a k ≡ false → bytes_eq a k ≡ false → is_before k a ≡ true
other_behind a k p h =
    elim (slice_cmp nat_cmp a k) as (λ r. slice_cmp nat_cmp a k ≡ r → is_before k a ≡ true) [
      | Less ↦ λ e. (let before : is_before a k ≡ true = ap is_lt e in absurd (cc))
      | Equal ↦ λ e. (let same : bytes_eq a k ≡ true = sym (is_eq-slice_cmp a k) ∙ ap is_eq e in absurd (cc))
      | Greater ↦ λ e. ap is_lt (turned a k Greater e)
    ] refl
