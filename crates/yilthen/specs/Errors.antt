-- What each error stands for, in the definitions of the calls below, and its words.
use Rattle.std.specs.Prelude.{ℕ, List, ◌++◌, codes, decimal, Result, Ok, Err}
use Rattle.acee.specs.declared.acee.Acee.{Acee}
use Rattle.acee.specs.declared.request.VerifyFault.{VerifyFault}
use Rattle.acee.specs.declared.request.VerifyFault.TheVariants as verify
use Rattle.racf_checkpoint.specs.declared.fault.StoreFault.{StoreFault}
use Rattle.racf_checkpoint.specs.declared.fault.StoreFault.TheVariants as fault
use Rattle.desk_rules.specs.declared.answers.Reply.{Reply}
use Rattle.desk_rules.specs.declared.answers.Reply.TheVariants as reply
use Rattle.desk_rules.specs.Words.{refusal_words}
use Rattle.request_files.specs.Answers.{verify_fault_words}
use Rattle.yilthen.specs.declared.error.Error.{Error}
use Rattle.yilthen.specs.declared.error.Error.TheVariants as error

-- The fault of the store that this error stands for has P.
abbrev pub OfStore : Error → (P : StoreFault → Type 0) → Type 0
OfStore error.DiskFault P = P fault.DiskFault
OfStore error.NotFormatted P = P fault.NotFormatted
OfStore (error.Damaged place) P = P (fault.Damaged place)
OfStore error.NoMemory P = P fault.NoMemory
OfStore why P = ⊥

-- The reply that this answer to a command stands for has P.
abbrev pub AsReply : Result ℕ Error → (P : Reply → Type 0) → Type 0
AsReply (Ok number) P = P (reply.Accepted number)
AsReply (Err (error.Refused refused)) P = P (reply.Refused refused.number refused.refusal)
AsReply (Err error.Halted) P = (number : ℕ) × P (reply.Halted number)
AsReply (Err error.DiskFault) P = (number : ℕ) × P (reply.DiskFault number)
AsReply (Err error.NoMemory) P = P reply.NoMemory
AsReply (Err why) P = ⊥

-- The answer of VERIFY that this one stands for has P.
abbrev pub AsVerified : Result Acee Error → (P : Result Acee VerifyFault → Type 0) → Type 0
AsVerified (Ok acee) P = P (Ok acee)
AsVerified (Err (error.NotVerified why)) P = P (Err why)
AsVerified (Err error.NoMemory) P = P (Err verify.NoMemory)
AsVerified (Err why) P = ⊥

-- how it is shown
abbrev pub error_words : Error → List ℕ
error_words (error.Refused refused) = codes "REFUSED " ++ refusal_words refused.refusal
error_words error.Halted = codes "HALTED"
error_words error.DiskFault = codes "DISK FAULT"
error_words error.NotFormatted = codes "NOT FORMATTED"
error_words (error.Damaged place) = codes "DAMAGED AT " ++ decimal place
error_words (error.NotVerified why) = verify_fault_words why
error_words error.NoMemory = codes "NO MEMORY"
