-- A reply stands on one line: no line feed is in its words, nor in whom the line of an issuer names.
use Rattle.std.specs.Prelude.{Result, Ok, Err}
use Rattle.audit_records.specs.Feedless.{IsFeedless}
use Rattle.request_files.specs.declared.issuer_line.NamedIssuer.{NamedIssuer}
use Rattle.request_files.specs.OneLine.{IsFeedlessNamed}
use Rattle.statements.specs.declared.reply.Refusal.{Refusal}
use Rattle.statements.specs.declared.reply.Reply.{Reply}
use Rattle.statements.specs.declared.reply.Reply.TheVariants.{Accepted, Refused, DiskFault, Halted}
use Rattle.statements.specs.Replies.{refusal_words}

-- No line feed stands in the words of the refusal that a reply tells.
abbrev pub IsFeedlessReply : Reply → Type 0
IsFeedlessReply (Refused why) = IsFeedless (refusal_words why)
IsFeedlessReply Accepted = Unit {0}
IsFeedlessReply DiskFault = Unit {0}
IsFeedlessReply Halted = Unit {0}

-- None stands in whom a line names, nor in the words of its refusal.
abbrev pub IsFeedlessIssue : Result NamedIssuer Refusal → Type 0
IsFeedlessIssue (Ok issuer) = IsFeedlessNamed issuer
IsFeedlessIssue (Err why) = IsFeedless (refusal_words why)
