-- What two disks say together, by what was possible of each.
use Rattle.std.proofs.Common.{◌≡◌, ℕ, List, Option, None}
use Rattle.racf_outside.specs.Disk.{History}
use Rattle.racf_outside.specs.Moments.{Moment, IsImage}
use Rattle.checkpoint_disks.specs.Counting.{said}
use Rattle.racf_checkpoint.specs.Stored.{WasPossible, StaysPossible}
use Rattle.racf_checkpoint.proofs.Syncing.{left_last}
use Rattle.desk_rules.specs.declared.answers.Reply.{Reply}
use Rattle.desk_rules.specs.declared.answers.Reply.TheVariants as reply
use Rattle.desk_rules.specs.Made.{DeskOn}
use Rattle.desk_rules.specs.Executing.{KeepsDesk, SayWhatWasPossible}

-- what was possible of each is said together: the law of the crate below
abbrev PossibleIsSaid : Type 0
PossibleIsSaid = (one two : Moment) (first second : List ℕ) → WasPossible one first → WasPossible two second
    → (before : List ℕ) × (after : List ℕ) × IsImage one before × IsImage two after × (said first second ≡ said before after)

pub joint : PossibleIsSaid → (first second next_first next_second : Option History) → StaysPossible first next_first → StaysPossible second next_second → SayWhatWasPossible first second next_first next_second
joint law first second next_first next_second p q one two was_one was_two h e = record {
  each = λ file i. λ k f. record {
    each = λ other j.
        law one two file other ((left_last (WasPossible one) first next_first (p one was_one) h e).each file i) ((left_last (WasPossible two) second next_second (q two was_two) k f).each other j);
  };
}

-- where what was made doesn't stand any longer, and nothing else is changed
pub keeps : {D : Type 0} (old new : DeskOn D) (answer : Reply) → new ≡ record old { made = None } → KeepsDesk old new answer
keeps old new (reply.Accepted number) same = tt
keeps old new (reply.Refused number why) same = same
keeps old new (reply.Halted number) same = same
keeps old new (reply.DiskFault number) same = tt
keeps old new reply.NoMemory same = same
