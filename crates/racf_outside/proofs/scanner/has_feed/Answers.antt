use Rattle.std.proofs.Common.{◌∙◌}
use Rattle.racf_outside.proofs.HeldLaws.{found_feed}
use Rattle.racf_outside.proofs.scanner.has_feed.Goals as goal

pub returns : goal.returns
returns c = c.is_some.ensures ∙ found_feed c.args.bytes.now c.find_feed.result c.find_feed.ensures.none c.find_feed.ensures.some
