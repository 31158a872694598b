use Rattle.request_files.proofs.FeedlessWorked.{prints-read}
use Rattle.request_files.proofs.laws.a_request_prints_its_lines.Goals as goal

pub returns : goal.returns
returns c = prints-read c.an_audit_line_is_one_line.ensures
