-- One block more.
use Rattle.std.proofs.Common.{◌+◌, ◌≡◌, ◌++◌, ◌∙◌, length, take, drop, ap, arith, rules}
use Rattle.std.proofs.lemmas.List.{length-take-le, take_at}
use Rattle.racf_journal.proofs.Scans.{read_more}
use Rattle.racf_journal.proofs.reading.read_from.Goals as goal

pub block-preserved : goal.block-preserved
block-preserved g c =
    let i = c.block.invariant in
    let count = c.in_ok-count.count in
    let piece = take count c.read.new.into in
    let place : c.in-Some.place ≡ c.args.start + length c.block.bytes.items = search rules in
    let size : length c.read.new.into ≡ c.block.block.len = search rules in
    let shown : c.deref.result.now ≡ c.read.new.into = c.deref.ensures.value ∙ take_at c.read.new.into _ c.block.block.len size in
    let pushed : c.extend_from_slice.new.self.items ≡ c.block.bytes.items ++ piece = c.in_ok-extend_from_slice.ensures.items ∙ ap (λ bytes. c.block.bytes.items ++ take count bytes) shown in
    record {
      told = search rules;
      no_fewer = omega arith;
      size = i.size;
      read = λ h e. read_more c.block.bytes.items piece c.extend_from_slice.new.self.items h.now.bytes c.args.start count (i.read h e) (length-take-le count c.read.new.into c.in_ok-count.ensures.count) ((c.in_ok-count.ensures.found h (i.told ∙ e)).1 ∙ ap (λ n. take count (drop n h.now.bytes)) place) pushed;
    }
