-- The words `run K NAME..`, and what the program does to the shelf and to the database for them.
use Rattle.std.specs.Prelude.{◌≡◌, ◌⊎◌, ℕ, ◌+◌, ◌<◌, ◌≤◌, suc, nat_le, Bool, true, is_some, ◌&&◌, not, Option, Some, None, option_and_then, Result, List, [], ◌∷◌, ◌++◌, length, take, drop, map, codes, if◌then◌else◌}
use Rattle.std.specs.List.{All, sum_by}
use Rattle.std.specs.Str.{bytes_eq}
use Rattle.racf_outside.specs.Causes.{Rose}
use Rattle.racf_outside.specs.declared.streams.Failed.{Failed}
use Rattle.racf_outside.specs.Disk.{History}
use Rattle.racf_outside.specs.Shelf.{told}
use Rattle.racf_checkpoint.specs.Stored.{pick}
use Rattle.desk_rules.specs.Position.{Position}
use Rattle.command_history.specs.declared.events.Accepted.{Accepted}
use Rattle.command_history.specs.declared.events.Event.{Event}
use Rattle.command_history.specs.Events.{all_of}
use Rattle.command_history.specs.Reached.{reached, AreLegal}
use Rattle.racroute.specs.Disks.{StandAt, StaysAlong}
use Rattle.racroute.specs.Kept.{fault_count}
use Rattle.request_files.specs.Spellings.{number_word}
use Rattle.statements.specs.declared.issuer.Issuing.{Issuing}
use Rattle.statements.specs.declared.issuer.Issuing.TheVariants.{Free}
use Rattle.statements.specs.declared.status.Status.{Status}
use Rattle.statements.specs.declared.status.Status.TheVariants.{ReadFault, WriteFault, NoMemory}
use Rattle.statements.specs.Status.{code_of}
use Rattle.racf_threads.specs.Outputs.{DeckRan, FileRan, StopsFor}
use Rattle.racf_threads.specs.Together.{greatest}
use Rattle.racf_run.specs.declared.opening.Unopened.{Unopened}
use Rattle.racf_run.specs.declared.opening.Unopened.TheVariants.{Input, Output}
use Rattle.racf_run.specs.Issuers.{is_issuer_word, fixed_issuer}
use Rattle.racf_run.specs.Opening.{output_name, is_among, are_distinct, Opened, Returned, OpensNeither, OthersStay, AreEmpty}
use Rattle.racf_run.specs.Racf.{FaultCounts, OpenedDisks, RoseEither}

-- ---- the words

-- who gives the commands of the decks; how many of the names are decks; and the names: decks, then request files
pub record RunWords : Type 0 where
  pub issuing : Issuing
  pub decks : ℕ
  pub names : List (List ℕ)

abbrev pub deck_names : RunWords → List (List ℕ)
deck_names asked = take asked.decks asked.names

abbrev pub request_names : RunWords → List (List ℕ)
request_names asked = drop asked.decks asked.names

-- No output is among the names.
abbrev pub are_apart : (outputs names : List (List ℕ)) → Bool
are_apart [] names = true
are_apart (output ∷ outputs) names = not (is_among output names) && are_apart outputs names

-- From 1 to 4 decks, and at most 16 request files; no name stands twice, and none is the output of another.
abbrev pub are_run_words : ℕ → List (List ℕ) → Bool
are_run_words decks names =
    nat_le 1 decks && nat_le decks 4 && nat_le decks (length names) && nat_le (length names) (decks + 16)
    && are_distinct names && are_apart (map output_name names) names

abbrev pub if_run : Issuing → List (List ℕ) → ℕ → Option RunWords
if_run issuing names decks = if are_run_words decks names then Some (record { issuing = issuing; decks = decks; names = names }) else None

-- K NAME..
abbrev pub run_behind : Issuing → List (List ℕ) → Option RunWords
run_behind issuing (count ∷ names) = option_and_then (if_run issuing names) (number_word count)
run_behind issuing [] = None

-- what stands behind the verb: with `--issuer ID` in front that user alone gives the commands
abbrev pub run_issued : List (List ℕ) → Option RunWords
run_issued (word ∷ id ∷ words) =
    if is_issuer_word word then option_and_then (λ issuing. run_behind issuing words) (fixed_issuer id) else run_behind Free (word ∷ id ∷ words)
run_issued words = run_behind Free words

-- `run K NAME..`, or `run --issuer ID K NAME..`
abbrev pub run_words : List (List ℕ) → Option RunWords
run_words (verb ∷ words) = if bytes_eq verb (codes "run") then run_issued words else None
run_words [] = None

-- ---- the files

-- A worker's name, how it ended, for a deck how many of its commands a disk failed, and how many faults were counted of
-- its input and of its output.
pub record Named : Type 0 where
  pub name : List ℕ
  pub status : Status
  pub faults : ℕ
  pub reads : ℕ
  pub writes : ℕ

-- The run began at `base`, `issuing` says who gave the commands of its decks, and its history is `whole`; `input` is what
-- an input has to give, and `output` what the output that was given back under a name holds, which was new and empty. The
-- faults that were counted of the shelf were `before`, and are `now`.
module _ (base : Position) (issuing : Issuing) (whole : List Event) (before now : FaultCounts) (tells : Bool) (input output : List ℕ → Option (List ℕ)) where
  -- A worker stopped for one of its causes; where its input or its output failed, the shelf has counted it.
  pub record NamedStops (w : Named) : Type 0 where
    pub stops : StopsFor w.status (input w.name) 0 w.reads 0 w.writes
    pub reads_rose : 0 < w.reads → Rose before.reads now.reads
    pub writes_rose : 0 < w.writes → Rose before.writes now.writes

  -- the decks, which number from this one on
  abbrev pub DecksNamed : (deck : ℕ) → List Named → Type 0
  DecksNamed deck [] = Unit {0}
  DecksNamed deck (w ∷ workers) =
      ((left : Option (List ℕ)) × DeckRan base issuing whole deck w.faults (Rose 0 w.reads) (Rose 0 w.writes) w.status (input w.name) left (told tells []) (output (output_name w.name)))
      × NamedStops w × DecksNamed (suc deck) workers

  abbrev pub FilesNamed : List Named → Type 0
  FilesNamed [] = Unit {0}
  FilesNamed (w ∷ workers) =
      ((left : Option (List ℕ)) × FileRan base whole (Rose 0 w.reads) (Rose 0 w.writes) w.status (input w.name) left (told tells []) (output (output_name w.name)))
      × NamedStops w × FilesNamed workers

-- Decks and request files of these names were worked: the output of each is that of its worker, in one and the same
-- history, whose entries are those of these decks and legal from the base on. The status is the greatest of the
-- workers', and of all lines one says DISKFAULT where a disk failed a command, else none; then that command is the one in
-- doubt, with whose entry the history ends, the status tells it, or is greater, and the count of the disk's faults has
-- risen. Whatever a crash now leaves of both disks stands for the position behind that history, or for the one behind the
-- command in doubt too; and at every moment since the disks told `opened`, for where some beginning of the history leads,
-- or for that one command more; the disk that doesn't count stays as it is. `reads` are the faults that each of the
-- inputs counted which were handed back, in the order of the names, and `writes` those of the outputs. The outputs told
-- `old` before and tell `new` now, and those of other names are as they were.
pub record NamedRan (opened : OpenedDisks) (first second : Option History) (before now : FaultCounts) (base : Position) (tells : Bool) (status : Status) (asked : RunWords) (reads writes : List ℕ) (input old new : List ℕ → Option (List ℕ)) : Type 0 where
  pub entries : List Accepted
  pub doubt : Option Accepted
  pub decks : List Named
  pub files : List Named
  pub are_decks : DecksNamed base asked.issuing (all_of entries doubt) before now tells input new 0 decks
  pub are_files : FilesNamed base asked.issuing (all_of entries doubt) before now tells input new files
  pub of_decks : All (λ entry. entry.deck < asked.decks) entries
  pub deck_names_are : map (λ w. w.name) decks ≡ deck_names asked
  pub file_names_are : map (λ w. w.name) files ≡ request_names asked
  pub reads_are : map (λ w. w.reads) (decks ++ files) ≡ reads
  pub writes_are : map (λ w. w.writes) (decks ++ files) ≡ writes
  pub status_is : status ≡ greatest (map (λ w. w.status) (decks ++ files))
  pub one_fault : sum_by (λ w. w.faults) decks ≡ fault_count doubt
  pub halted_status : is_some doubt ≡ true → 20 ≤ code_of status
  pub rose : is_some doubt ≡ true → RoseEither before.first now.first before.second now.second
  pub legal : AreLegal base entries
  pub stand : StandAt doubt first second (reached base (all_of entries doubt))
  pub moments : StaysAlong base (all_of entries doubt) opened.idle opened.live (pick opened.idle.side first second)
  pub idle : pick opened.idle.side second first ≡ opened.idle.told
  pub others : OthersStay asked.names old new

-- ---- the calls of the shelf

-- the status where a file couldn't be opened
abbrev pub unopened_status : Unopened → Status
unopened_status Input = ReadFault
unopened_status Output = WriteFault

-- The calls that the program makes of a shelf of the kind S, whose inputs are of the kind I and whose outputs of the
-- kind O: `source` and the other three say that a call was made. `output` is what the outputs of a shelf tell.
module _ {S I O : Type 0} (source : S → List ℕ → Result I Failed → S → Type 0) (sink : S → List ℕ → Result O Failed → S → Type 0) (take_back : S → List ℕ → I → S → Type 0) (give_back : S → List ℕ → O → S → Type 0) (tells : Bool) (output : S → List ℕ → Option (List ℕ)) where
  -- There was no memory for the names of the outputs or for the list of files, and nothing was called. Q is what stands
  -- where nothing was run.
  pub record OpensNoFile (Q : Type 0) (status : Status) (old new : S) : Type 0 where
    pub stands : Q
    pub is_status : status ≡ NoMemory
    pub kept : new ≡ old

  -- The files of some names were opened, those of the next weren't, and the former were handed back, with nothing
  -- written.
  pub record OpensSome (Q : Type 0) (status : Status) (names : List (List ℕ)) (old new : S) : Type 0 where
    pub stands : Q
    pub why : Unopened
    pub is_status : status ≡ unopened_status why
    pub front : List (List ℕ)
    pub name : List ℕ
    pub rest : List (List ℕ)
    pub in_order : names ≡ front ++ name ∷ rest
    pub files : List (I × O)
    pub first : S
    pub second : S
    pub opened : Opened source sink take_back give_back front files old first
    pub failed : OpensNeither source sink take_back give_back why name first second
    pub returned : Returned source sink take_back give_back front files second new
    pub empty : AreEmpty tells (output new) front
    pub others : OthersStay names (output old) (output new)

  -- All were opened, worked, and handed back: P is what was run, of those that were handed back.
  pub record OpensAll (P : List (I × O) → Type 0) (names : List (List ℕ)) (old new : S) : Type 0 where
    pub files : List (I × O)
    pub worked : List (I × O)
    pub first : S
    pub opened : Opened source sink take_back give_back names files old first
    pub returned : Returned source sink take_back give_back names worked first new
    pub ran : P worked

  -- how the program ends, where P is what it ran, and Q what stands where it ran nothing
  abbrev pub RunsFiles : (P : List (I × O) → Type 0) → (Q : Type 0) → Status → (names : List (List ℕ)) → (old new : S) → Type 0
  RunsFiles P Q status names old new = OpensNoFile Q status old new ⊎ (OpensSome Q status names old new ⊎ OpensAll P names old new)
