use Rattle.std.proofs.Common.{◌+◌, ◌*◌, add-one, ap, sym, ◌∙◌, arith}
use Rattle.pages.specs.KeyBegin.{first_bytes}
use Rattle.pages.proofs.KeyBeginLaws.{first_bytes-room, first_bytes-more, are-bytes}
use Rattle.pages.proofs.search_key.begin_of.Goals as goal

pub overflow_mul-begin : goal.overflow_mul-begin
overflow_mul-begin c =
    let bytes = c.args.key.now in
    let room = first_bytes-room c.loop-place.place bytes (are-bytes bytes (λ i. omega (arith, c.type_inv.key i))) c.loop-place-test.true in
    omega (arith, room, c.loop-place.invariant.begin)

pub overflow_add-begin : goal.overflow_add-begin
overflow_add-begin c =
    let bytes = c.args.key.now in
    let room = first_bytes-room c.loop-place.place bytes (are-bytes bytes (λ i. omega (arith, c.type_inv.key i))) c.loop-place-test.true in
    omega (arith, room, c.loop-place.invariant.begin, c.byte_at.ensures, c.type_inv.key c.loop-place.place)

pub loop-place-preserved : goal.loop-place-preserved
loop-place-preserved c =
    let bytes = c.args.key.now in
    let more = first_bytes-more c.loop-place.place bytes in
    record {
      begin = rw add-one (ap (λ n. n * 256 + c.byte_at.result) c.loop-place.invariant.begin ∙ ap (λ n. first_bytes c.loop-place.place bytes * 256 + n) c.byte_at.ensures ∙ sym more);
      bytes = λ _. are-bytes bytes (λ i. omega (arith, c.type_inv.key i));
    }

pub returns-clause-bytes : goal.returns-clause-bytes
returns-clause-bytes c = c.loop-place.invariant.bytes (omega (arith, c.loop-place-test.false))
