-- What stays as it was where a command isn't put on the disks, and what two disks say behind an opening.
use Rattle.std.specs.Prelude.{ℕ, ◌≡◌, List, Option, None}
use Rattle.racf_outside.specs.Disk.{History, Now}
use Rattle.racf_outside.specs.Moments.{Moment, IsImage}
use Rattle.checkpoint_disks.specs.Counting.{said}
use Rattle.desk_rules.specs.declared.answers.Reply.{Reply}
use Rattle.desk_rules.specs.declared.answers.Reply.TheVariants as reply
use Rattle.desk_rules.specs.Made.{DeskOn}
use Rattle.desk_rules.specs.Durable.{LeavesBoth}

-- Behind a refusal, at a desk that takes no more, and for want of memory a desk is as it was but for what was made last:
-- its store and its disks too.
abbrev pub KeepsDesk : {D : Type 0} → (old new : DeskOn D) → Reply → Type 0
KeepsDesk old new (reply.Accepted number) = Unit {0}
KeepsDesk old new (reply.Refused number why) = new ≡ record old { made = None }
KeepsDesk old new (reply.Halted number) = new ≡ record old { made = None }
KeepsDesk old new (reply.DiskFault number) = Unit {0}
KeepsDesk old new reply.NoMemory = new ≡ record old { made = None }

-- Whatever crashes now leave of both disks say together what some files said that crashes might have left of both
-- before.
abbrev pub SayWhatWasPossible : (first second next_first next_second : Option History) → Type 0
SayWhatWasPossible first second next_first next_second =
    (one two : Moment) → Now first (λ m. m ≡ one) → Now second (λ m. m ≡ two)
    → LeavesBoth next_first next_second (λ file other. (before : List ℕ) × (after : List ℕ) × IsImage one before × IsImage two after × (said file other ≡ said before after))
