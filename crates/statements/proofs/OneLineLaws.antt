-- A reply is one line, and no line feed is in whom the line of an issuer names.
use Rattle.std.proofs.Common.{ℕ, List, Result, Ok, Err, refl}
use Rattle.std.specs.Prelude.{IfOk}
use Rattle.audit_records.specs.Feedless.{IsFeedless}
use Rattle.audit_records.proofs.Feedless.{decimal-feedless}
use Rattle.request_files.specs.declared.issuer_line.NamedIssuer.{NamedIssuer}
use Rattle.request_files.specs.declared.line.LineRefusal.{LineRefusal}
use Rattle.request_files.specs.declared.line.LineRefusal.TheVariants.{BadLine}
use Rattle.request_files.specs.IssuerLines.{issuer_of_line}
use Rattle.request_files.specs.OneLine.{IsFeedlessNamed, IsNumbered}
use Rattle.statements.specs.declared.issuer.Issuing.{Issuing}
use Rattle.statements.specs.declared.issuer.Issuing.TheVariants.{Free, Fixed}
use Rattle.statements.specs.declared.reply.Reply.{Reply}
use Rattle.statements.specs.declared.reply.Reply.TheVariants.{Accepted, Refused, DiskFault, Halted}
use Rattle.statements.specs.Replies.{refusal_words, reply_words, reply_line}
use Rattle.statements.specs.IssuerLines.{issuer_refusal, named_or_refused, issuer_named}
use Rattle.statements.specs.OneLine.{IsFeedlessReply, IsFeedlessIssue}

words-feedless : (reply : Reply) → IsFeedlessReply reply → IsFeedless (reply_words reply)
words-feedless Accepted h = refl
words-feedless DiskFault h = refl
words-feedless Halted h = refl
words-feedless (Refused why) h = h

pub reply-line : (number : ℕ) (reply : Reply) → IsFeedlessReply reply → IsNumbered number (reply_line number reply)
unfolding reply_line
reply-line number reply h = record { words = reply_words reply; no_feed = words-feedless reply h; is_line = refl }

-- ---- the lines of issuers
issuer_refusal-words : (why : LineRefusal) → IsFeedless (refusal_words (issuer_refusal why))
issuer_refusal-words (BadLine place) = decimal-feedless place
issuer_refusal-words other = refl

issued-feedless : (read : Result NamedIssuer LineRefusal) → IfOk read IsFeedlessNamed → IsFeedlessIssue (named_or_refused read)
issued-feedless (Ok issuer) h = h
issued-feedless (Err why) h = issuer_refusal-words why

pub issue-feedless : ((bytes : List ℕ) → IfOk (issuer_of_line bytes) IsFeedlessNamed) → (issuing : Issuing) (line : List ℕ) → IsFeedlessIssue (issuer_named issuing line)
issue-feedless named Free line = issued-feedless (issuer_of_line line) (named line)
issue-feedless named (Fixed id) line = refl
