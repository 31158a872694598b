use Rattle.statements.proofs.OneLineLaws.{reply-line, issue-feedless}
use Rattle.statements.proofs.laws.a_reply_is_one_line.Goals as goal

pub returns-clause-reply : goal.returns-clause-reply
returns-clause-reply c = reply-line

pub returns-clause-issuer : goal.returns-clause-issuer
returns-clause-issuer c = issue-feedless c.a_named_issuer_has_no_line_feed.ensures
