-- Who gives the commands: IBMUSER, until a line `*ISSUER id [GROUP(g)]` that fits names another; or, where he is fixed,
-- one alone, whatever the lines say.
use Rattle.std.specs.Prelude.{ℕ, List, None, Result, Ok, Err, codes}
use Rattle.command_values.specs.declared.faults.Syntax.TheVariants.{BadValue}
use Rattle.desk_rules.specs.declared.refusal.Refusal.TheVariants as of_command
use Rattle.request_files.specs.declared.issuer_line.NamedIssuer.{NamedIssuer}
use Rattle.request_files.specs.declared.line.LineRefusal.{LineRefusal}
use Rattle.request_files.specs.declared.line.LineRefusal.TheVariants.{BadLine}
use Rattle.request_files.specs.IssuerLines.{issuer_of_line}
use Rattle.statements.specs.declared.issuer.Issuing.{Issuing}
use Rattle.statements.specs.declared.issuer.Issuing.TheVariants.{Free, Fixed}
use Rattle.statements.specs.declared.reply.Refusal.{Refusal}
use Rattle.statements.specs.declared.reply.Refusal.TheVariants as refusal

-- With no group named, the default group that he has at each command is his current one.
abbrev pub first_issuer : Issuing → NamedIssuer
first_issuer Free = record { id = codes "IBMUSER"; group = None }
first_issuer (Fixed id) = record { id = id; group = None }

-- The word that doesn't fit is told as a value that is bad at its place. Of the other faults of a line one alone can
-- come, that it is too long.
abbrev pub issuer_refusal : LineRefusal → Refusal
issuer_refusal (BadLine place) = refusal.Command (of_command.Syntax (BadValue place))
issuer_refusal other = refusal.LineTooLong

abbrev pub named_or_refused : Result NamedIssuer LineRefusal → Result NamedIssuer Refusal
named_or_refused (Ok issuer) = Ok issuer
named_or_refused (Err why) = Err (issuer_refusal why)

-- Whom the line of an issuer names, or why it is refused: where the issuer is fixed each such line is, whatever follows
-- its first word.
abbrev pub issuer_named : Issuing → List ℕ → Result NamedIssuer Refusal
issuer_named Free line = named_or_refused (issuer_of_line line)
issuer_named (Fixed id) line = Err refusal.IssuerFixed
