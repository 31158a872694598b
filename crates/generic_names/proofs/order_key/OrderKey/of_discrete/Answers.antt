use Rattle.std.proofs.Common.{◌≡◌, ◌∙◌, set, ◌+◌, length, refl, arith}
use Rattle.std.proofs.lemmas.List.{length-set}
use Rattle.generic_names.proofs.DiscreteKeys.{front-step, behind-step, front-end, behind-end}
use Rattle.generic_names.proofs.order_key.OrderKey.of_discrete.Goals as goal

pub loop-at-preserved : goal.loop-at-preserved
loop-at-preserved c =
    let at = c.loop-at.at in
    let room : length c.loop-at.bytes ≡ 248 = c.loop-at.invariant.room in
    record {
      room = length-set c.loop-at.bytes at c.discrete_byte.result ∙ room;
      front = front-step c.loop-at.bytes c.args.text.now at c.discrete_byte.result (omega (arith, room)) c.loop-at-test.true c.discrete_byte.ensures c.loop-at.invariant.front;
      behind = behind-step c.loop-at.bytes at c.discrete_byte.result c.loop-at.invariant.behind;
    }

pub invariant_of-result : goal.invariant_of-result
invariant_of-result c =
    let all : c.loop-at.at ≡ length c.args.text.now = omega arith in
    let bytes = c.loop-at.bytes in
    let n = length c.args.text.now in
    let size : length (set (set bytes n 252) (n + 1) 254) ≡ 248 = length-set (set bytes n 252) (n + 1) 254 ∙ length-set bytes n 252 ∙ c.loop-at.invariant.room in
    (omega (arith, size), behind-end c.loop-at.bytes (length c.args.text.now) (rw all at c.loop-at.invariant.behind))

pub returns : goal.returns
returns c =
    let all : c.loop-at.at ≡ length c.args.text.now = omega arith in
    front-end c.loop-at.bytes c.args.text.now (length c.args.text.now) refl (omega (arith, c.loop-at.invariant.room)) c.requires.discrete (rw all at c.loop-at.invariant.front)
