-- What was made, and the command that it was made of.
use Rattle.std.proofs.Common.{◌≡◌, Result, Ok, Err, refl}
use Rattle.raclist_image.specs.Imaged.{Imaged}
use Rattle.journal_records.specs.declared.record.CommandRecord.{CommandRecord}
use Rattle.desk_rules.specs.declared.refusal.Refusal.{Refusal}
use Rattle.desk_rules.specs.Made.{Made, made_at, made_of_outcome}

-- What was made of a command that is accepted is made of that command.
pub record IsMadeOf (image : Imaged) (o : Result CommandRecord Refusal) (made : Made) : Type 0 where
  pub command : CommandRecord
  pub accepted : o ≡ Ok command
  pub made_is : made_at image command ≡ made

pub made_of : (image : Imaged) (o : Result CommandRecord Refusal) (made : Made) → made_of_outcome image o ≡ Ok made → IsMadeOf image o made
made_of image (Ok command) made e = record { command = command; accepted = refl; made_is = cc e }
made_of image (Err why) made e = absurd (cc e)
