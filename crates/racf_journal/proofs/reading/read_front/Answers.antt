-- One block more, as far as the front goes.
use Rattle.std.proofs.Common.{◌+◌, ◌≡◌, ◌++◌, ◌∙◌, length, take, drop, ap, arith, rules, length-append}
use Rattle.std.proofs.lemmas.List.{length-take-le, take_at}
use Rattle.racf_journal.proofs.Scans.{read_more, front_whole}
use Rattle.racf_journal.proofs.reading.read_front.Goals as goal

pub returns-then-count-eq0-clause-bytes : goal.returns-then-count-eq0-clause-bytes
returns-then-count-eq0-clause-bytes g c h e =
    let i = c.block.invariant in
    let found = (c.in_ok-count.ensures.found h (i.told ∙ e)).0 in
    let size : length c.read_part.new.into ≡ c.block.block.len = search rules in
    front_whole c.block.bytes.items h.now.bytes c.args.most (length c.read_part.new.into) (i.read h e) i.most (omega (arith, size, i.size)) (omega (arith, found, c.if-count-eq0.true, c.len.ensures, c.len-in-block.ensures))

pub block-preserved : goal.block-preserved
block-preserved g c =
    let i = c.block.invariant in
    let count = c.in_ok-count.count in
    let piece = take count c.read_part.new.into in
    let size : length c.read_part.new.into ≡ c.block.block.len = search rules in
    let shown : c.deref.result.now ≡ c.read_part.new.into = c.deref.ensures.value ∙ take_at c.read_part.new.into _ c.block.block.len size in
    let pushed : c.extend_from_slice.new.self.items ≡ c.block.bytes.items ++ piece = c.in_ok-extend_from_slice.ensures.items ∙ ap (λ bytes. c.block.bytes.items ++ take count bytes) shown in
    let place : c.len.result ≡ 0 + length c.block.bytes.items = omega (arith, c.len.ensures) in
    let few : length piece ≡ count = length-take-le count c.read_part.new.into c.in_ok-count.ensures.count.0 in
    record {
      told = search rules;
      no_fewer = omega arith;
      size = i.size;
      most = omega (arith, ap length pushed, length-append c.block.bytes.items piece, few, c.in_ok-count.ensures.count.1, i.most);
      read = λ h e. read_more c.block.bytes.items piece c.extend_from_slice.new.self.items h.now.bytes 0 count (i.read h e) few ((c.in_ok-count.ensures.found h (i.told ∙ e)).1 ∙ ap (λ n. take count (drop n h.now.bytes)) place) pushed;
    }
