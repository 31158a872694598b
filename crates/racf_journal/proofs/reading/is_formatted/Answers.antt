-- The file is asked about its first eight bytes.
use Rattle.std.proofs.Common.{◌≡◌, length, arith, rules}
use Rattle.racf_journal.proofs.Scans.{formatted_read}
use Rattle.racf_journal.proofs.reading.is_formatted.Goals as goal

pub returns-clause-value : goal.returns-clause-value
returns-clause-value g c h e =
    let found = c.in_ok-count.ensures.found h e in
    let size : length c.read.new.into ≡ 8 = search rules in
    formatted_read c.args.start c.in_ok-count.count c.read.new.into h.now.bytes c.eq.result (omega arith) size found.0 found.1 c.eq.ensures
