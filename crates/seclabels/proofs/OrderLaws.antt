-- Dominance is an order.
use Rattle.std.proofs.Common.{◌≡◌, ℕ, ◌<◌, ◌^◌, true, eqb, sym, ◌∙◌, ap, ⊎_elim, arith, true≢false}
use Rattle.std.proofs.lemmas.Bool.{cases_eq, eq-eqb, eqb-true}
use Rattle.std.proofs.lemmas.Nat.Bits.{bit_at-lt, bit_at-zero, bit_at_ones, same_from_bits_below}
use Rattle.seclabels.specs.Labels.{system_high, system_low}
use Rattle.seclabels.specs.Laws.{DominatesItself, DominancePassedOn, EachOtherAreOne, HighDominatesAll, AllDominateLow}
use Rattle.seclabels.proofs.Containing.{HasEach, dominates-each}

pub dominates_itself : DominatesItself
dominates_itself label = (dominates-each label label).1 (omega arith, λ n small has. has)

pub passed_on : DominancePassedOn
passed_on a b c over under =
    let first = (dominates-each a b).0 over in
    let second = (dominates-each b c).0 under in
    (dominates-each a c).1 (omega (arith, first.0, second.0), λ n small has. first.1 n small (second.1 n small has))

same_bit : (x y : ℕ) → x < 2 → y < 2 → (eqb x 1 ≡ true → eqb y 1 ≡ true) → (eqb y 1 ≡ true → eqb x 1 ≡ true) → x ≡ y
same_bit x y h k there back = ⊎_elim
    (λ (one : x ≡ 1). one ∙ sym (eqb-true y 1 (there (eq-eqb x 1 one))))
    (λ (other : x ≡ 1 → ⊥).
    let none : y ≡ 1 → ⊥ = λ one. other (eqb-true x 1 (back (eq-eqb y 1 one))) in
    omega (arith, h, k, other, none))
    (cases_eq x 1)

-- Sets that contain each other are one set.
same_set : (set other : ℕ) → set < 2 ^ 256 → other < 2 ^ 256 → HasEach set other → HasEach other set → set ≡ other
same_set set other h k there back = same_from_bits_below 256 set other h k (λ i small. same_bit _ _ (bit_at-lt set i) (bit_at-lt other i) (back i small) (there i small))

pub each_other : EachOtherAreOne
each_other a b h k over under =
    let first = (dominates-each a b).0 over in
    let second = (dominates-each b a).0 under in
    let level : a.level ≡ b.level = omega (arith, first.0, second.0) in
    let set : a.categories ≡ b.categories = same_set a.categories b.categories h.1 k.1 first.1 second.1 in
    let lifted : a ≡ record a { level = b.level } = ap (λ n. record a { level = n }) level in
    lifted ∙ ap (λ s. record b { categories = s }) set

pub high_dominates : HighDominatesAll
high_dominates label h = (dominates-each system_high label).1 (h.0, λ n small has. ap (λ bit. eqb bit 1) (bit_at_ones 256 n small))

pub dominates_low : AllDominateLow
dominates_low label = (dominates-each label system_low).1 (omega arith, λ n small has. absurd (true≢false (sym has ∙ ap (λ bit. eqb bit 1) (bit_at-zero n))))
