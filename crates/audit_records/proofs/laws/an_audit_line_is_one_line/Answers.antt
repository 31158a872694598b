use Rattle.audit_records.proofs.FeedlessLine.{audit-line}
use Rattle.audit_records.proofs.laws.an_audit_line_is_one_line.Goals as goal

pub returns : goal.returns
returns c = audit-line
