-- The exit status of each way to end, and what is said of it on standard error.
use Rattle.std.specs.Prelude.{ℕ, Bool, true, false, List, Option, Some, None, codes}
use Rattle.statements.specs.declared.status.Status.{Status}
use Rattle.statements.specs.declared.status.Status.TheVariants.{Done, Refusals, Usage, ReadFault, WriteFault, DiskFault, NotFormatted, Damaged, NoMemory, InputTooLong}

abbrev pub code_of : Status → ℕ
code_of Done = 0
code_of Refusals = 4
code_of Usage = 8
code_of ReadFault = 12
code_of WriteFault = 16
code_of DiskFault = 20
code_of NotFormatted = 24
code_of (Damaged place) = 24
code_of NoMemory = 28
code_of InputTooLong = 36

-- from the code 8 on one line
abbrev pub message_of : Status → Option (List ℕ)
message_of Done = None
message_of Refusals = None
message_of Usage = Some (codes "USAGE")
message_of ReadFault = Some (codes "READ FAULT")
message_of WriteFault = Some (codes "WRITE FAULT")
message_of DiskFault = Some (codes "DISK FAULT")
message_of NotFormatted = Some (codes "NOT FORMATTED")
message_of (Damaged place) = Some (codes "DAMAGED AT")
message_of NoMemory = Some (codes "NO MEMORY")
message_of InputTooLong = Some (codes "INPUT TOO LONG")

-- where what can't be read begins
abbrev pub place_of : Status → Option ℕ
place_of (Damaged place) = Some place
place_of others = None

-- an input was read to its end, and no disk failed
abbrev pub is_whole : Status → Bool
is_whole Done = true
is_whole Refusals = true
is_whole others = false
