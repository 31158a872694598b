use Rattle.request_files.proofs.FeedlessLines.{issuer-feedless}
use Rattle.request_files.proofs.laws.a_named_issuer_has_no_line_feed.Goals as goal

pub returns : goal.returns
returns c = issuer-feedless
