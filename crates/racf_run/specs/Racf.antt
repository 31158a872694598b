-- The words of the command line, and what the program does to the shelf and to the database on the disks.
use Rattle.std.specs.Prelude.{◌≡◌, ◌≢◌, ◌⊎◌, ◌≤◌, ℕ, Bool, true, false, ◌||◌, ◌&&◌, not, Option, Some, None, option_and_then, IfSome, Result, Ok, Err, List, [], ◌∷◌, codes, if◌then◌else◌}
use Rattle.std.specs.Str.{bytes_eq}
use Rattle.racf_outside.specs.Causes.{Rose}
use Rattle.racf_outside.specs.Crashes.{StaysIn}
use Rattle.racf_outside.specs.declared.streams.Failed.{Failed}
use Rattle.racf_outside.specs.Disk.{History}
use Rattle.racf_outside.specs.Shelf.{told, SameBytes, SameOthers}
use Rattle.racf_journal.specs.Opening.{OnlySynced}
use Rattle.racf_checkpoint.specs.declared.fault.StoreFault.{StoreFault}
use Rattle.racf_checkpoint.specs.declared.fault.StoreFault.TheVariants as fault
use Rattle.racf_checkpoint.specs.Stored.{StoreOn, NowRead, StaysPossible, pick}
use Rattle.desk_rules.specs.Durable.{IdleDisk, idle_of, BesideIdle, LeavesBoth, LeavesIt}
use Rattle.desk_rules.specs.Executing.{SayWhatWasPossible}
use Rattle.desk_rules.specs.Made.{DeskOn}
use Rattle.desk_rules.specs.Position.{Position}
use Rattle.desk_rules.specs.Recovery.{standing, Refuses, StandsFor, StandsForEither}
use Rattle.statements.specs.declared.issuer.Issuing.{Issuing}
use Rattle.statements.specs.declared.issuer.Issuing.TheVariants.{Free}
use Rattle.statements.specs.declared.status.Status.{Status}
use Rattle.statements.specs.declared.status.Status.TheVariants.{ReadFault, WriteFault, DiskFault, NotFormatted, Damaged, NoMemory}
use Rattle.racf_stream.specs.Durable.{StandsForFront, StaysAlong, CommandInDoubt, LeavesInDoubt, most_left_of}
use Rattle.statements.specs.Runs.{Ran}
use Rattle.racf_stream.specs.Script.{stream, script_output, script_status, fault_at, StandsAt}
use Rattle.racf_stream.specs.Stream.{State, new_stream, number_of}
use Rattle.racf_run.specs.Issuers.{is_issuer_word, fixed_issuer}
use Rattle.racf_run.specs.Making.{MakeWords, make_text, WroteText}

-- who gives the commands of a stream, and the names of its input and of its output
pub record Files : Type 0 where
  pub issuing : Issuing
  pub input : List ℕ
  pub output : List ℕ

-- IN and OUT differ, or both are `-`, which names standard input and standard output.
abbrev pub files_of : Issuing → (input output : List ℕ) → Option Files
files_of issuing input output =
    if not (bytes_eq input output) || bytes_eq input (codes "-") then Some (record { issuing = issuing; input = input; output = output }) else None

-- The files behind a verb: `VERB IN OUT`, or `VERB --issuer ID IN OUT`. The forms go by the count of words.
abbrev pub stream_files : (verb : List ℕ) → List (List ℕ) → Option Files
stream_files verb (first ∷ input ∷ output ∷ []) =
    if bytes_eq first verb then files_of Free input output else None
stream_files verb (first ∷ word ∷ id ∷ input ∷ output ∷ []) =
    if bytes_eq first verb && is_issuer_word word then option_and_then (λ issuing. files_of issuing input output) (fixed_issuer id) else None
stream_files verb others = None

-- `script IN OUT`, or `script --issuer ID IN OUT`.
abbrev pub script_files : List (List ℕ) → Option Files
script_files = stream_files (codes "script")

-- The words `init`.
abbrev pub is_init : List (List ℕ) → Bool
is_init (verb ∷ []) = bytes_eq verb (codes "init")
is_init others = false

-- the status where a database couldn't be made or opened
abbrev pub opening_status : StoreFault → Status
opening_status fault.DiskFault = DiskFault
opening_status fault.NotFormatted = NotFormatted
opening_status (fault.Damaged place) = Damaged place
opening_status fault.Full = NoMemory
opening_status fault.NoMemory = NoMemory

-- The stream was worked from the input `input` of a shelf to its output of the name `name`, which was new and empty,
-- and is given back: the outputs told `old` before, and tell `new` now. It was worked from the position `base` on, by
-- this issuer, and what stands behind it has P. `read_failed` and `write_failed` say that an input, or an output, of the
-- shelf failed.
pub record RanTo (P : State → Type 0) (read_failed write_failed : Type 0) (issuing : Issuing) (base : Position) (tells : Bool) (status : Status) (input : Option (List ℕ)) (name : List ℕ) (old new : List ℕ → Option (List ℕ)) : Type 0 where
  pub fault : Option ℕ
  pub left : Option (List ℕ)
  pub ran : Ran (stream fault issuing base) (λ s. (fault ≡ fault_at s.halted (number_of s)) × P s) read_failed write_failed status input left (told tells []) (new name)
  pub others : SameOthers name old new

-- The calls that the program makes of a shelf of the kind S, whose inputs are of the kind I and whose outputs of the
-- kind O: `source` and the other three say that a call was made. `output` is what the outputs of a shelf tell, and
-- `read_failed` and `write_failed` say that its inputs or outputs failed.
module _ {S I O : Type 0} (source : S → List ℕ → Result I Failed → S → Type 0) (sink : S → List ℕ → Result O Failed → S → Type 0) (take_back : S → List ℕ → I → S → Type 0) (give_back : S → List ℕ → O → S → Type 0) (tells : Bool) (output : S → List ℕ → Option (List ℕ)) (read_failed write_failed : Type 0) (P : State → Type 0) (base : Position) where
  -- The input couldn't be opened, and nothing else was called.
  pub record OpensNothing (status : Status) (files : Files) (old new : S) : Type 0 where
    pub is_status : status ≡ ReadFault
    pub stands : P (new_stream files.issuing base)
    pub failed : Failed
    pub input_asked : source old files.input (Err failed) new
    pub outputs : SameBytes (output old) (output new)

  -- The input was opened, the output then couldn't be, and the input was taken back.
  pub record OpensNoOutput (status : Status) (files : Files) (old new : S) : Type 0 where
    pub is_status : status ≡ WriteFault
    pub stands : P (new_stream files.issuing base)
    pub opened : I
    pub failed : Failed
    pub first : S
    pub second : S
    pub input_asked : source old files.input (Ok opened) first
    pub output_asked : sink first files.output (Err failed) second
    pub input_back : take_back second files.input opened new
    pub others : SameOthers files.output (output old) (output new)

  -- The input was opened, and then the output; the stream was worked from the one to the other, and both were handed
  -- back.
  pub record OpensBoth (status : Status) (bytes : Option (List ℕ)) (files : Files) (old new : S) : Type 0 where
    pub opened : I
    pub opened_output : O
    pub first : S
    pub second : S
    pub input_asked : source old files.input (Ok opened) first
    pub output_asked : sink first files.output (Ok opened_output) second
    pub third : S
    pub worked : I
    pub worked_output : O
    pub input_back : take_back second files.input worked third
    pub output_back : give_back third files.output worked_output new
    pub ran : RanTo P read_failed write_failed files.issuing base tells status bytes files.output (output old) (output new)

  -- how the program ends, and what it leaves
  abbrev pub RunsOnShelf : Status → Option (List ℕ) → Files → S → S → Type 0
  RunsOnShelf status bytes files old new =
      OpensNothing status files old new ⊎ (OpensNoOutput status files old new ⊎ OpensBoth status bytes files old new)

-- The generated text was written to the output of the name `name`, which was new and empty, and is given back: the
-- outputs told `old` before, and tell `new` now.
pub record MadeIn (tells : Bool) (status : Status) (users : ℕ) (name : List ℕ) (old new : List ℕ → Option (List ℕ)) : Type 0 where
  pub wrote : WroteText status (make_text users) (told tells []) (new name)
  pub others : SameOthers name old new

-- The calls for `make N OUT`, of a shelf of the kind S, whose outputs are of the kind O: no input is opened.
module _ {S O : Type 0} (sink : S → List ℕ → Result O Failed → S → Type 0) (give_back : S → List ℕ → O → S → Type 0) (tells : Bool) (output : S → List ℕ → Option (List ℕ)) where
  -- The output couldn't be opened.
  pub record MakesNoOutput (status : Status) (words : MakeWords) (old new : S) : Type 0 where
    pub is_status : status ≡ WriteFault
    pub failed : Failed
    pub output_asked : sink old words.output (Err failed) new
    pub others : SameOthers words.output (output old) (output new)

  -- The output was opened, the text was written to it, and it was handed back.
  pub record MakesOutput (status : Status) (words : MakeWords) (old new : S) : Type 0 where
    pub opened : O
    pub first : S
    pub output_asked : sink old words.output (Ok opened) first
    pub worked : O
    pub output_back : give_back first words.output worked new
    pub made : MadeIn tells status words.users words.output (output old) (output new)

  abbrev pub MakesOnShelf : Status → MakeWords → S → S → Type 0
  MakesOnShelf status words old new = MakesNoOutput status words old new ⊎ MakesOutput status words old new

-- The output is the whole output of the input's bytes from this position on, where the shelf tells both, and the status
-- is theirs.
pub record IsWholeOutput (issuing : Issuing) (base : Position) (tells : Bool) (status : Status) (input output : Option (List ℕ)) : Type 0 where
  pub written : IfSome input (λ bytes. output ≡ told tells (script_output None issuing base bytes))
  pub ended : IfSome input (λ bytes. status ≡ script_status None issuing base bytes)

-- ---- the database
-- The disks stood for this position where they were opened, as far as they tell.
abbrev pub StoodFor : (first second : Option History) → Position → Type 0
StoodFor first second base = NowRead first second (λ one other. standing one other ≡ Ok base)

-- A disk failed the command of an input that was told DISKFAULT. Whatever a crash now leaves of the disks stands for the
-- position of the accepted commands, or for the one behind these and that command.
pub record StandsInDoubt (issuing : Issuing) (base : Position) (input : Option (List ℕ)) (first second : Option History) (position : Position) : Type 0 where
  pub next : Position
  pub in_doubt : CommandInDoubt issuing base input position next
  pub leaves : LeavesBoth first second (StandsForEither position next)

-- Two disks where a database was opened on them: what the one that counts told then, and what is told of the other.
pub record OpenedDisks : Type 0 where
  pub live : Option History
  pub idle : IdleDisk

abbrev pub opened_on : {D : Type 0} → (tells : D → Option History) → StoreOn D → OpenedDisks
opened_on tells store = record { live = tells store.journal.disk; idle = idle_of tells store }

-- What a crash now leaves of the disks, behind the stream of an input from a base on: it stands for the position of this
-- state, or is in doubt where a disk failed. Then a fault of a disk was counted (`rose`), whatever the status is. At every
-- moment since the database was opened a crash left what stands for the position behind some front of the accepted
-- commands, or of these and the one that a disk failed, and the disk that doesn't count stayed as it was.
pub record EndsOn (issuing : Issuing) (base : Position) (input : Option (List ℕ)) (opened : OpenedDisks) (first second : Option History) (rose : Type 0) (s : State) : Type 0 where
  pub leaves : s.halted ≡ false → LeavesBoth first second (StandsFor s.position)
  pub in_doubt : s.halted ≡ true → StandsInDoubt issuing base input first second s.position
  pub fault : s.halted ≡ true → rose
  pub moments : StaysIn (BesideIdle opened.idle (StandsForFront issuing base input (most_left_of s))) opened.live (pick opened.idle.side first second)
  pub idle : pick opened.idle.side second first ≡ opened.idle.told

-- Of one of two disks a fault was counted.
abbrev pub RoseEither : (first next_first second next_second : ℕ) → Type 0
RoseEither first next_first second next_second = Rose first next_first ⊎ Rose second next_second

-- How many faults were counted: of the inputs and the outputs of a shelf, and of two disks.
pub record FaultCounts : Type 0 where
  pub reads : ℕ
  pub writes : ℕ
  pub first : ℕ
  pub second : ℕ

abbrev pub fault_counts : (reads writes first second : ℕ) → FaultCounts
fault_counts reads writes first second = record { reads = reads; writes = writes; first = first; second = second }

-- None of these counts is greater than it is then.
pub record AreNoMore (before now : FaultCounts) : Type 0 where
  pub reads : before.reads ≤ now.reads
  pub writes : before.writes ≤ now.writes
  pub first : before.first ≤ now.first
  pub second : before.second ≤ now.second

-- The desk stands where the state says, and so do its disks, or they are in doubt. Since its store was `start` a
-- crash left what stands for a front of the accepted commands, or of these and the one that is in doubt.
pub record EndsAt {D : Type 0} (tells : D → Option History) (issuing : Issuing) (base : Position) (input : Option (List ℕ)) (start : StoreOn D) (desk : DeskOn D) (s : State) : Type 0 where
  pub stands : StandsAt desk s
  pub moments : StaysAlong tells issuing base input (most_left_of s) start desk.store
  pub leaves : s.halted ≡ false → LeavesIt tells desk.store s.position
  pub in_doubt : s.halted ≡ true → LeavesInDoubt tells issuing base input desk.store s.position

-- The disks hold no database, or one that is damaged.
abbrev pub IsUnsound : Status → Type 0
IsUnsound status = (status ≡ NotFormatted) ⊎ ((place : ℕ) × (status ≡ Damaged place))

-- The database couldn't be opened, for this fault. At every moment since a crash leaves of each disk what was possible
-- before, and both now say together what they might have said before; and unless a disk failed, both were only synced.
pub record StaysUnopened (first second next_first next_second : Option History) (status : Status) : Type 0 where
  pub why : StoreFault
  pub is_status : status ≡ opening_status why
  pub refused : NowRead first second (Refuses why)
  pub first_moments : StaysPossible first next_first
  pub second_moments : StaysPossible second next_second
  pub joint : SayWhatWasPossible first second next_first next_second
  pub only_synced : why ≢ fault.DiskFault → OnlySynced first next_first × OnlySynced second next_second

-- The database couldn't be opened, and nothing of the shelf was.
pub record OpensNoDatabase {S : Type 0} (first second next_first next_second : Option History) (status : Status) (old new : S) : Type 0 where
  pub unopened : StaysUnopened first second next_first next_second status
  pub kept : new ≡ old

-- The database was opened at a position, and then this was run from there on.
pub record OpensDatabase (first second : Option History) (runs : Position → Type 0) : Type 0 where
  pub base : Position
  pub stood : StoodFor first second base
  pub ran : runs base

-- Nothing was run on disks that told `opened`: they tell that still, and a crash leaves what stands for the position.
pub record StandsStill (opened : OpenedDisks) (first second : Option History) (base : Position) : Type 0 where
  pub stand : LeavesBoth first second (StandsFor base)
  pub first_is : first ≡ pick opened.idle.side opened.live opened.idle.told
  pub second_is : second ≡ pick opened.idle.side opened.idle.told opened.live

-- Until then a crash left of each disk what was possible before, and both said together what they might have said before.
pub record OpensOn (first second : Option History) (opened : OpenedDisks) : Type 0 where
  pub first_moments : StaysPossible first (pick opened.idle.side opened.live opened.idle.told)
  pub second_moments : StaysPossible second (pick opened.idle.side opened.idle.told opened.live)
  pub joint : SayWhatWasPossible first second (pick opened.idle.side opened.live opened.idle.told) (pick opened.idle.side opened.idle.told opened.live)

-- Each output that is open now was open before: what the call opened was given back.
abbrev pub OpensNone : (List ℕ → Bool) → (List ℕ → Bool) → Type 0
OpensNone old new = (name : List ℕ) → new name ≡ true → old name ≡ true
