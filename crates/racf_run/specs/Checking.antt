-- The words `check IN OUT`, and what the program does for them: it tries a stream, and keeps nothing of it.
use Rattle.std.specs.Prelude.{◌≡◌, ◌≢◌, ◌⊎◌, ◌≤◌, ◌<◌, ℕ, Bool, false, Option, IfSome, IsTrue, Result, List, length, codes}
use Rattle.racf_outside.specs.declared.streams.Failed.{Failed}
use Rattle.racf_outside.specs.Disk.{History}
use Rattle.racf_journal.specs.Opening.{OnlySynced}
use Rattle.racf_checkpoint.specs.Stored.{StaysPossible}
use Rattle.desk_rules.specs.Executing.{SayWhatWasPossible}
use Rattle.desk_rules.specs.Position.{Position}
use Rattle.statements.specs.declared.status.Status.{Status}
use Rattle.statements.specs.declared.status.Status.TheVariants.{DiskFault, InputTooLong}
use Rattle.statements.specs.Runs.{longest_input}
use Rattle.statements.specs.Status.{is_whole}
use Rattle.racf_stream.specs.Stream.{State}
use Rattle.racf_run.specs.Racf.{Files, stream_files, OpensNoDatabase, OpensDatabase, RunsOnShelf, IsWholeOutput}

-- `check IN OUT`, or `check --issuer ID IN OUT`, with the names and the issuer of `script`.
abbrev pub check_files : List (List ℕ) → Option Files
check_files = stream_files (codes "check")

-- No disk failed a command of the stream.
abbrev pub NeverFailed : State → Type 0
NeverFailed s = s.halted ≡ false

-- The database was looked at, or why not; then the stream was worked as `script` works it, from the position on that
-- the disks stood for, but that no disk fails: and where its input was read to its end, exactly that was written.
-- Unless a disk failed the disks were only synced: each holds the bytes that it held. Either way a crash leaves of
-- them, at every moment and behind it, what it might have left before. They told `first` and `second` before, and tell
-- the next ones now; the calls are those of RunsOnShelf.
module _ {S I O : Type 0} (source : S → List ℕ → Result I Failed → S → Type 0) (sink : S → List ℕ → Result O Failed → S → Type 0) (take_back : S → List ℕ → I → S → Type 0) (give_back : S → List ℕ → O → S → Type 0) (tells : Bool) (output : S → List ℕ → Option (List ℕ)) (read_failed write_failed : Type 0) where
  pub record Checks (first second next_first next_second : Option History) (status : Status) (input : Option (List ℕ)) (files : Files) (old new : S) : Type 0 where
    pub runs : OpensNoDatabase first second next_first next_second status old new
        ⊎ OpensDatabase first second (λ base. RunsOnShelf source sink take_back give_back tells output read_failed write_failed NeverFailed base status input files old new)
    pub whole : IsTrue (is_whole status) → OpensDatabase first second (λ base. IsWholeOutput files.issuing base tells status input (output new files.output))
    pub only_synced : status ≢ DiskFault → OnlySynced first next_first × OnlySynced second next_second
    pub first_moments : StaysPossible first next_first
    pub second_moments : StaysPossible second next_second
    pub joint : SayWhatWasPossible first second next_first next_second
    pub too_long : status ≡ InputTooLong → IfSome input (λ bytes. longest_input < length bytes)
    pub not_too_long : IsTrue (is_whole status) → IfSome input (λ bytes. length bytes ≤ longest_input)
