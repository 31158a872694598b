use Rattle.std.proofs.Common.{◌≡◌, ◌∙◌, ◌<◌, ◌+◌, inl, inr, List, ℕ, true, false, get_or, length, eqb, sym, ap, subst, arith, ⊎_elim}
use Rattle.std.proofs.lemmas.Bool.{cases_eq}
use Rattle.std.proofs.lemmas.Bool.Decides.{nat_tests}
use Rattle.generic_names.specs.Spelled.{qualifiers}
use Rattle.generic_names.specs.Covers.{covers_all}
use Rattle.generic_names.proofs.Lawful.{EachQualifier, IsPlain, resource-plain}
use Rattle.generic_names.proofs.CompareLaws.{next-head}
use Rattle.generic_names.proofs.GapLaws.{met-first, met-byte, met-end, met-gap, met-onward, met-room, plain-rest}
use Rattle.generic_names.specs.Gap.{begin_apart}
use Rattle.generic_names.proofs.Apart.{apart-first}
use Rattle.generic_names.proofs.KeyLaws.{plain-byte}
use Rattle.generic_names.proofs.gap.Gap.behind.Goals as goal

pub invariant_of-result : goal.invariant_of-result
invariant_of-result c =
    let text = c.text-text.result.now in
    let least = c.least_that_follows-least.result in
    let head = next-head c.loop-count.these c.next-rank.new.self c.next-rank.result c.next-rank.ensures.next c.next-rank.ensures.end in
    let plain = subst (λ (xs : List ℕ). EachQualifier IsPlain (qualifiers xs)) (sym c.text-text.ensures.text) (resource-plain c.args.name.now c.text-text.ensures.name) in
    record {
      room = met-room c.loop-count.invariant.0 c.next-rank.result head.0 head.1;
      fits = c.requires.fits;
      ranked = c.requires.ranked;
      last = ⊎_elim
          (λ (b : (c.loop-count.count < length text) × (least ≡ get_or text c.loop-count.count 0)).
          let low = plain-byte text c.loop-count.count plain b.0 in
          inl (omega (arith, low, b.1)))
          (λ (s : (255 < least) × (least < 261)). inr s)
          c.least_that_follows-least.ensures.least;
    }

pub returns-then-rank-least-clause-none : goal.returns-then-rank-least-clause-none
returns-then-rank-least-clause-none c p lawful kind not_before below =
    let text = c.text-text.result.now in
    let head = next-head c.loop-count.these c.next-rank.new.self c.next-rank.result c.next-rank.ensures.next c.next-rank.ensures.end in
    let plain = subst (λ (xs : List ℕ). EachQualifier IsPlain (qualifiers xs)) (sym c.text-text.ensures.text) (resource-plain c.args.name.now c.text-text.ensures.name) in
    ap (λ (xs : List ℕ). covers_all p.kind (qualifiers p.text) (qualifiers xs)) (sym c.text-text.ensures.text)
    ∙ met-gap c.loop-count.invariant.0 c.next-rank.result head.0 head.1 c.least_that_follows-least.result c.if-rank-least.true c.least_that_follows-least.ensures.none (plain-rest text c.loop-count.count plain) p lawful not_before below

pub returns-then-rank-least-clause-onward : goal.returns-then-rank-least-clause-onward
returns-then-rank-least-clause-onward c =
    let head = next-head c.loop-count.these c.next-rank.new.self c.next-rank.result c.next-rank.ensures.next c.next-rank.ensures.end in
    met-onward c.loop-count.invariant.0 c.next-rank.result head.0 head.1 c.least_that_follows-least.result c.if-rank-least.true

pub loop-count-preserved : goal.loop-count-preserved
loop-count-preserved c =
    let rank = c.next-rank.result in
    let low = c.if-rank-gt257.false in
    let next = c.next-rank.ensures.next (λ e. omega arith) in
    let same : c.least_that_follows-least.result ≡ rank = omega (arith, c.least_that_follows-least.ensures.from, c.if-rank-least.false) in
    let head = next-head c.loop-count.these c.next-rank.new.self rank c.next-rank.ensures.next c.next-rank.ensures.end in
    let apart : begin_apart c.args.pattern.now c.text-text.result.now ≡ true → c.loop-count.count + 1 ≡ 0 = λ a.
    let none = c.loop-count.invariant.1 a in
    let first = apart-first c.args.pattern.now c.text-text.result.now rank head.0 a (met-first c.loop-count.invariant.0 none rank head.0 head.1) in
    let small : rank < 256 = omega (arith, first.0, c.type_inv.pattern 0) in
    let met = c.least_that_follows-least.ensures.same same small in
    let at : rank ≡ get_or c.text-text.result.now 0 0 = sym met.1 ∙ ap (λ (n : ℕ). get_or c.text-text.result.now n 0) none in
    absurd (first.2 at) in (
      ⊎_elim
          (λ (e : rank ≡ 257).
          let test : eqb rank 257 ≡ true = grind (arith, nat_tests) in
          let ends = c.least_that_follows-least.ensures.end same e in
          rw test (met-end c.loop-count.invariant.0 rank c.next-rank.new.self next e ends.0 ends.1))
          (λ (n : rank ≡ 257 → ⊥).
          let test : eqb rank 257 ≡ false = grind (arith, nat_tests) in
          let met = c.least_that_follows-least.ensures.byte same (omega arith) in
          rw test (met-byte c.loop-count.invariant.0 rank c.next-rank.new.self next (omega arith) met.0 met.1))
          (cases_eq rank 257),
      apart,
    )

pub returns-then-rank-gt257-clause-comes : goal.returns-then-rank-gt257-clause-comes
returns-then-rank-gt257-clause-comes c apart =
    let a = subst (λ (xs : List ℕ). begin_apart c.args.pattern.now xs ≡ true) (sym c.text-text.ensures.text) apart in
    let rank = c.next-rank.result in
    let none = c.loop-count.invariant.1 a in
    let head = next-head c.loop-count.these c.next-rank.new.self rank c.next-rank.ensures.next c.next-rank.ensures.end in
    let first = apart-first c.args.pattern.now c.text-text.result.now rank head.0 a (met-first c.loop-count.invariant.0 none rank head.0 head.1) in
    let small : rank < 256 = omega (arith, first.0, c.type_inv.pattern 0) in
    absurd (omega (arith, small, c.if-rank-gt257.true))

pub returns-clause-comes : goal.returns-clause-comes
returns-clause-comes c apart =
    let a = subst (λ (xs : List ℕ). begin_apart c.args.pattern.now xs ≡ true) (sym c.text-text.ensures.text) apart in
    let none = c.loop-count.invariant.1 a in
    absurd (omega (arith, none, c.loop-count-test.false, c.loop-count.auto.count-end))
