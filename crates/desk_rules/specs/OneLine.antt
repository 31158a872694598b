-- What an outcome prints and leaves stands on one line: its texts hold no line feed.
use Rattle.std.specs.Prelude.{Result, Ok, Err}
use Rattle.command_fields.specs.declared.issuer.Issuer.{Issuer}
use Rattle.command_fields.specs.LawfulFields.{AreLawfulFields}
use Rattle.journal_records.specs.declared.record.CommandRecord.{CommandRecord}
use Rattle.audit_records.specs.Feedless.{IsFeedless}
use Rattle.desk_rules.specs.declared.refusal.Refusal.{Refusal}
use Rattle.desk_rules.specs.Words.{refusal_words}

-- the words of a refusal
abbrev pub IsFeedlessReply : Refusal → Type 0
IsFeedlessReply why = IsFeedless (refusal_words why)

-- an issuer, and a command that he gave, as it is kept
pub record IsFeedlessIssuer (issuer : Issuer) : Type 0 where
  pub id : IsFeedless issuer.id
  pub group : IsFeedless issuer.group

pub record IsFeedlessAccepted (given : CommandRecord) : Type 0 where
  pub issuer : IsFeedlessIssuer given.issuer
  pub fields : AreLawfulFields given.command

abbrev pub IsFeedlessOutcome : Result CommandRecord Refusal → Type 0
IsFeedlessOutcome (Ok given) = IsFeedlessAccepted given
IsFeedlessOutcome (Err why) = IsFeedlessReply why
