-- What `judge` makes of an accepted command, for `commit` and `install`; what contracts see of a desk; and what its
-- answers mean.
use Rattle.std.specs.Prelude.{◌≡◌, ℕ, ◌+◌, ◌≤◌, Bool, true, false, List, length, Option, None, Result, Ok, Err, IsOk}
use Rattle.std.specs.Arc.{arc_value}
use Rattle.racf_profiles.specs.declared.edits.Change.{Change}
use Rattle.raclist_image.specs.Imaged.{Imaged}
use Rattle.command_fields.specs.declared.issuer.Issuer.{Issuer}
use Rattle.command_parser.specs.Canonical.{canonical}
use Rattle.command_rules.specs.Edits.{edits_of}
use Rattle.journal_records.specs.declared.record.CommandRecord.{CommandRecord}
use Rattle.journal_records.specs.Spelling.{spelled}
use Rattle.journal_records.specs.Reading.{record_of}
use Rattle.racf_journal.specs.Reading.{IsRecord}
use Rattle.racf_checkpoint.specs.Stored.{StoreOn}
use Rattle.desk_rules.specs.declared.refusal.Refusal.{Refusal}
use Rattle.desk_rules.specs.declared.answers.Ready.{Ready}
use Rattle.desk_rules.specs.declared.answers.Reply.{Reply}
use Rattle.desk_rules.specs.declared.answers.Reply.TheVariants as reply
use Rattle.desk_rules.specs.Position.{Position, image_behind, position_after}

-- What is made of a command: its number, who gave it with which current group, its canonical text, its record in the
-- journal, its edits of the rows, and the image behind it.
pub record Made : Type 0 where
  pub number : ℕ
  pub issuer : Issuer
  pub text : List ℕ
  pub entry : List ℕ
  pub change : Change
  pub behind : Imaged

-- A command's record is one of the journal, is short, and is read as the command.
pub record IsRecorded (given : CommandRecord) : Type 0 where
  pub read : record_of (spelled given) ≡ Ok given
  pub whole : IsRecord (spelled given)
  pub short : length (spelled given) ≤ 30020

-- This is made of a command that is accepted at a position,
abbrev pub made_at : Imaged → CommandRecord → Made
made_at image given = record {
  number = image.generation + 1;
  issuer = given.issuer;
  text = canonical given.command;
  entry = spelled given;
  change = record { edits = edits_of given.issuer given.command image.state.rows };
  behind = image_behind image given;
}

abbrev pub made_of_outcome : Imaged → Result CommandRecord Refusal → Result Made Refusal
made_of_outcome image (Ok given) = Ok (made_at image given)
made_of_outcome image (Err why) = Err why

-- and this is what it is to whoever holds it.
abbrev pub made_in : Ready → Made
made_in ready = record { number = ready.number; issuer = ready.issuer; text = ready.text; entry = ready.entry; change = ready.change; behind = arc_value ready.image }

-- The position where it is installed.
abbrev pub installed : Position → Made → Position
installed position made = record { image = made.behind; gate = position.gate + 1 + length made.entry }

-- What contracts see of a desk: its position; its disks, with the store on them; whether a disk failed a command; what
-- `judge` made last and isn't installed, which each judgement ends; and whether that stands on the disks.
pub record DeskOn (D : Type 0) : Type 0 where
  pub position : Position
  pub store : StoreOn D
  pub halted : Bool
  pub made : Option Made
  pub committed : Bool

-- A desk of which nothing waits: nothing is made, and no disk has failed.
abbrev pub is_fresh : {D : Type 0} → Position → StoreOn D → DeskOn D
is_fresh position store = record { position = position; store = store; halted = false; made = None; committed = false }

-- the number of the commands that were accepted at a position
abbrev pub number_at : Position → ℕ
number_at position = position.image.generation

-- A command with this outcome was refused, memory was wanting, or a disk had failed before, and this was answered. Want
-- of memory may be told in place of any outcome: no clause says when there is enough, and tests alone show that it isn't
-- told then.
abbrev pub IsRefusal : (halted : Bool) → Position → Result CommandRecord Refusal → Reply → Type 0
IsRefusal halted position outcome (reply.Accepted number) = ⊥
IsRefusal halted position outcome (reply.Refused number why) = (halted ≡ false) × (number ≡ number_at position) × (outcome ≡ Err why)
IsRefusal halted position outcome (reply.Halted number) = (halted ≡ true) × (number ≡ number_at position)
IsRefusal halted position outcome (reply.DiskFault number) = ⊥
IsRefusal halted position outcome reply.NoMemory = halted ≡ false

-- The reply to a command with this outcome where no disk fails: an accepted one has the number behind it.
abbrev pub reply_to : Position → Result CommandRecord Refusal → Reply
reply_to position (Ok given) = reply.Accepted (number_at position + 1)
reply_to position (Err why) = reply.Refused (number_at position) why

-- The desk, which was halted or not, stood there, answered this to a command with this outcome, and stands and is
-- halted so now.
pub record Answers (position : Position) (outcome : Result CommandRecord Refusal) (told : Reply) (now : Position) (halts : Bool) : Type 0 where
  pub reply : told ≡ reply_to position outcome
  pub left : now ≡ position_after position outcome
  pub runs : halts ≡ false

pub record Stops (position now : Position) (number : ℕ) (halts : Bool) : Type 0 where
  pub counts : number ≡ number_at position
  pub left : now ≡ position
  pub stops : halts ≡ true

-- It is halted already, exactly where it says so; or it isn't, and the disk failed a command that is accepted; or
-- memory was wanting, and nothing has changed; tests alone show that it isn't told where there is enough.
abbrev pub IsAnswer : (halted : Bool) → Position → Result CommandRecord Refusal → Reply → (now : Position) → (halts : Bool) → Type 0
IsAnswer halted position outcome (reply.Accepted number) now halts = (halted ≡ false) × Answers position outcome (reply.Accepted number) now halts
IsAnswer halted position outcome (reply.Refused number why) now halts = (halted ≡ false) × Answers position outcome (reply.Refused number why) now halts
IsAnswer halted position outcome (reply.Halted number) now halts = (halted ≡ true) × Stops position now number halts
IsAnswer halted position outcome (reply.DiskFault number) now halts = (halted ≡ false) × IsOk outcome × Stops position now number halts
IsAnswer halted position outcome reply.NoMemory now halts = (halted ≡ false) × (now ≡ position) × (halts ≡ false)
