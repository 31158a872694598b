use Rattle.std.proofs.Common.{◌≡◌, ◌∙◌, ℕ, ◌+◌, ◌-◌, ◌++◌, List, length, map, take, ap, sym, arith}
use Rattle.std.proofs.lemmas.List.{length_push}
use Rattle.generic_names.specs.Spelled.{qualifiers}
use Rattle.generic_names.specs.Before.{ranks}
use Rattle.generic_names.specs.OrderKey.{squeezed}
use Rattle.generic_names.proofs.KeyLaws.{key-step}
use Rattle.generic_names.proofs.order_key.OrderKey.of_first.Goals as goal

pub loop-at-preserved : goal.loop-at-preserved
loop-at-preserved c =
    let k = c.args.count - c.loop-at._at in
    let rank = c.next-rank.result in
    let all : List ℕ = map squeezed (take c.args.count (ranks (qualifiers c.args.text.now))) in
    let step : k - 1 ≡ c.args.count - (c.loop-at._at + 1) = omega arith in
    let size : length c.push.new.self ≡ length c.loop-at.key + 1 = ap length c.push.ensures ∙ length_push c.loop-at.key (squeezed rank) in
    let next = c.next-rank.ensures.next c.if-rank-eq-END_OF_NAME.false in
    record {
      room = omega (arith, size, c.loop-at.invariant.room);
      same = key-step all c.loop-at.key k rank c.loop-at.these c.next-rank.new.self (omega arith) next c.loop-at.invariant.same
          ∙ ap (λ (key : List ℕ). key ++ map squeezed (take (k - 1) c.next-rank.new.self)) (sym c.push.ensures)
          ∙ ap (λ (n : ℕ). c.push.new.self ++ map squeezed (take n c.next-rank.new.self)) step;
    }
