-- The words `ask IN OUT`, and what the program does for them: it answers questions, and nothing can change.
use Rattle.std.specs.Prelude.{◌≡◌, ◌≢◌, ◌⊎◌, ◌≤◌, ◌<◌, ◌||◌, ℕ, Bool, true, false, not, Option, Some, None, IfSome, IsTrue, Result, Ok, Err, List, [], ◌∷◌, length, codes, if◌then◌else◌}
use Rattle.std.specs.Str.{bytes_eq}
use Rattle.racf_outside.specs.declared.streams.Failed.{Failed}
use Rattle.racf_outside.specs.Disk.{History}
use Rattle.racf_outside.specs.Shelf.{told, SameBytes, SameOthers}
use Rattle.racf_journal.specs.Opening.{OnlySynced}
use Rattle.racf_checkpoint.specs.Stored.{StaysPossible}
use Rattle.desk_rules.specs.Executing.{SayWhatWasPossible}
use Rattle.desk_rules.specs.Position.{Position}
use Rattle.statements.specs.declared.status.Status.{Status}
use Rattle.statements.specs.declared.status.Status.TheVariants.{ReadFault, WriteFault, DiskFault, InputTooLong}
use Rattle.statements.specs.Runs.{Ran, longest_input}
use Rattle.statements.specs.Status.{is_whole}
use Rattle.racf_ask.specs.Asking.{AskState, asking, ask_output, ask_status}
use Rattle.racf_run.specs.Racf.{OpensNoDatabase, OpensDatabase}

-- whether lines are numbered, and the names of the input and of the output
pub record AskFiles : Type 0 where
  pub numbered : Bool
  pub input : List ℕ
  pub output : List ℕ

-- IN isn't `-n`, and IN and OUT differ or are both `-`, which names standard input and standard output.
abbrev pub asked_files : Bool → (input output : List ℕ) → Option AskFiles
asked_files numbered input output =
    if bytes_eq input (codes "-n") then None
    else if not (bytes_eq input output) || bytes_eq input (codes "-") then Some (record { numbered = numbered; input = input; output = output })
    else None

-- `ask IN OUT`, or `ask -n IN OUT`, which numbers the lines. The forms go by the count of words.
abbrev pub ask_files : List (List ℕ) → Option AskFiles
ask_files (verb ∷ input ∷ output ∷ []) = if bytes_eq verb (codes "ask") then asked_files false input output else None
ask_files (verb ∷ word ∷ input ∷ output ∷ []) =
    if bytes_eq verb (codes "ask") then (if bytes_eq word (codes "-n") then asked_files true input output else None) else None
ask_files others = None

-- Questions were answered at a position, from the input `input` of a shelf to its output of the name `name`, which was
-- new and empty, and is given back: the outputs told `old` before, and tell `new` now. `read_failed` and `write_failed`
-- say that an input, or an output, of the shelf failed.
pub record AskedTo (read_failed write_failed : Type 0) (numbered : Bool) (base : Position) (tells : Bool) (status : Status) (input : Option (List ℕ)) (name : List ℕ) (old new : List ℕ → Option (List ℕ)) : Type 0 where
  pub left : Option (List ℕ)
  pub ran : Ran (asking numbered base) (λ (s : AskState). Unit {0}) read_failed write_failed status input left (told tells []) (new name)
  pub others : SameOthers name old new

-- The output is the whole output of the input's bytes, where the shelf tells both, and the status is theirs.
pub record IsWholeAnswer (numbered : Bool) (base : Position) (tells : Bool) (status : Status) (input output : Option (List ℕ)) : Type 0 where
  pub written : IfSome input (λ bytes. output ≡ told tells (ask_output numbered base bytes))
  pub ended : IfSome input (λ bytes. status ≡ ask_status numbered base bytes)

-- The calls that the program makes of a shelf of the kind S, whose inputs are of the kind I and whose outputs of the
-- kind O: `source` and the other three say that a call was made. `output` is what the outputs of a shelf tell, and
-- `read_failed` and `write_failed` say that its inputs or outputs failed.
module _ {S I O : Type 0} (source : S → List ℕ → Result I Failed → S → Type 0) (sink : S → List ℕ → Result O Failed → S → Type 0) (take_back : S → List ℕ → I → S → Type 0) (give_back : S → List ℕ → O → S → Type 0) (tells : Bool) (output : S → List ℕ → Option (List ℕ)) (read_failed write_failed : Type 0) where
  -- The input couldn't be opened, and nothing else was called.
  pub record AsksNothing (status : Status) (files : AskFiles) (old new : S) : Type 0 where
    pub is_status : status ≡ ReadFault
    pub failed : Failed
    pub input_asked : source old files.input (Err failed) new
    pub outputs : SameBytes (output old) (output new)

  -- The input was opened, the output then couldn't be, and the input was taken back.
  pub record AsksNoOutput (status : Status) (files : AskFiles) (old new : S) : Type 0 where
    pub is_status : status ≡ WriteFault
    pub opened : I
    pub failed : Failed
    pub first : S
    pub second : S
    pub input_asked : source old files.input (Ok opened) first
    pub output_asked : sink first files.output (Err failed) second
    pub input_back : take_back second files.input opened new
    pub others : SameOthers files.output (output old) (output new)

  -- The input was opened, and then the output; the questions of the one were answered on the other, and both were
  -- handed back.
  pub record AsksBoth (base : Position) (status : Status) (bytes : Option (List ℕ)) (files : AskFiles) (old new : S) : Type 0 where
    pub opened : I
    pub opened_output : O
    pub first : S
    pub second : S
    pub third : S
    pub worked : I
    pub worked_output : O
    pub input_asked : source old files.input (Ok opened) first
    pub output_asked : sink first files.output (Ok opened_output) second
    pub input_back : take_back second files.input worked third
    pub output_back : give_back third files.output worked_output new
    pub ran : AskedTo read_failed write_failed files.numbered base tells status bytes files.output (output old) (output new)

  abbrev pub AsksOnShelf : Position → Status → Option (List ℕ) → AskFiles → S → S → Type 0
  AsksOnShelf base status bytes files old new =
      AsksNothing status files old new ⊎ (AsksNoOutput status files old new ⊎ AsksBoth base status bytes files old new)

  -- The database was looked at, or why not; then the questions were answered at the position that the disks stood for,
  -- and where the input was read to its end, exactly that was written. Unless a disk failed the disks were only synced:
  -- each holds the bytes that it held. Either way a crash leaves of them, at every moment and behind it, what it might
  -- have left before. They told `first` and `second` before, and tell the next ones now.
  pub record Asks (first second next_first next_second : Option History) (status : Status) (input : Option (List ℕ)) (files : AskFiles) (old new : S) : Type 0 where
    pub runs : OpensNoDatabase first second next_first next_second status old new
        ⊎ OpensDatabase first second (λ base. AsksOnShelf base status input files old new)
    pub whole : IsTrue (is_whole status) → OpensDatabase first second (λ base. IsWholeAnswer files.numbered base tells status input (output new files.output))
    pub only_synced : status ≢ DiskFault → OnlySynced first next_first × OnlySynced second next_second
    pub first_moments : StaysPossible first next_first
    pub second_moments : StaysPossible second next_second
    pub joint : SayWhatWasPossible first second next_first next_second
    pub too_long : status ≡ InputTooLong → IfSome input (λ bytes. longest_input < length bytes)
    pub not_too_long : IsTrue (is_whole status) → IfSome input (λ bytes. length bytes ≤ longest_input)
