-- A run of decks and request files: one history, of which each output tells a part.
use Rattle.std.specs.Prelude.{◌≡◌, ℕ, suc, ◌<◌, ◌≤◌, nat_lt, true, List, [], ◌∷◌, ◌++◌, length, map, Option, None, is_some, if◌then◌else◌}
use Rattle.std.specs.List.{All, sum_by}
use Rattle.racf_outside.specs.Causes.{Rose}
use Rattle.desk_rules.specs.Position.{Position}
use Rattle.command_history.specs.declared.events.Accepted.{Accepted}
use Rattle.command_history.specs.declared.events.Event.{Event}
use Rattle.command_history.specs.Events.{all_of}
use Rattle.racroute.specs.Kept.{fault_count}
use Rattle.statements.specs.declared.issuer.Issuing.{Issuing}
use Rattle.statements.specs.declared.status.Status.{Status}
use Rattle.statements.specs.declared.status.Status.TheVariants as statuses
use Rattle.statements.specs.Status.{code_of}
use Rattle.racf_threads.specs.Outputs.{DeckRan, FileRan, StopsFor}

-- ---- statuses

-- of two the one with the greater code, and of equal codes the first
abbrev pub greater : Status → Status → Status
greater one other = if nat_lt (code_of one) (code_of other) then other else one

abbrev pub greatest : List Status → Status
greatest [] = statuses.Done
greatest (status ∷ others) = greater status (greatest others)

-- ---- the workers

-- What a worker was given, a source and a sink, and what it gave back; how it ended; and for a deck, how many of its
-- commands a disk failed.
pub record Worked (I K : Type 0) : Type 0 where
  pub given : I × K
  pub back : I × K
  pub status : Status
  pub faults : ℕ

-- `left` is what a source has to give and `reads` the count of its faults; `taken` is what a sink holds and `writes`
-- the count of its faults. The run begins at `base`, `issuing` says who gives the commands of its decks, and its history
-- is `whole`.
module _ {I K : Type 0} (left : I → Option (List ℕ)) (reads : I → ℕ) (taken : K → Option (List ℕ)) (writes : K → ℕ) (base : Position) (issuing : Issuing) where
  -- The source failed while it was worked, or the sink did.
  abbrev pub ReadFailed : Worked I K → Type 0
  ReadFailed w = Rose (reads w.given.0) (reads w.back.0)

  abbrev pub WriteFailed : Worked I K → Type 0
  WriteFailed w = Rose (writes w.given.1) (writes w.back.1)

  -- A worker stopped for one of its causes.
  abbrev pub HasStopped : Worked I K → Type 0
  HasStopped w = StopsFor w.status (left w.given.0) (reads w.given.0) (reads w.back.0) (writes w.given.1) (writes w.back.1)

  abbrev pub IsDeck : (whole : List Event) → (deck : ℕ) → Worked I K → Type 0
  IsDeck whole deck w =
      DeckRan base issuing whole deck w.faults (ReadFailed w) (WriteFailed w) w.status (left w.given.0) (left w.back.0) (taken w.given.1) (taken w.back.1) × HasStopped w

  abbrev pub IsFile : (whole : List Event) → Worked I K → Type 0
  IsFile whole w = FileRan base whole (ReadFailed w) (WriteFailed w) w.status (left w.given.0) (left w.back.0) (taken w.given.1) (taken w.back.1) × HasStopped w

  -- the decks, which number from this one on
  abbrev pub AreDecks : (whole : List Event) → (deck : ℕ) → List (Worked I K) → Type 0
  AreDecks whole deck [] = Unit {0}
  AreDecks whole deck (w ∷ workers) = IsDeck whole deck w × AreDecks whole (suc deck) workers

  abbrev pub AreFiles : (whole : List Event) → List (Worked I K) → Type 0
  AreFiles whole [] = Unit {0}
  AreFiles whole (w ∷ workers) = IsFile whole w × AreFiles whole workers

  -- A run whose history is these entries, and then the mark that names the command in doubt, where a disk failed one: each
  -- output is that of its worker, in one and the same history, each entry of which is of one of these decks; all that was
  -- given is given back, in its order, decks before request files; the status is the greatest of the workers'; and of all
  -- lines one says DISKFAULT where a command is in doubt, else none, and then the status tells it, or is greater.
  pub record RunsTogether (entries : List Accepted) (doubt : Option Accepted) (status : Status) (decks requests outs : List (I × K)) : Type 0 where
    pub deck_workers : List (Worked I K)
    pub file_workers : List (Worked I K)
    pub are_decks : AreDecks (all_of entries doubt) 0 deck_workers
    pub are_files : AreFiles (all_of entries doubt) file_workers
    pub of_decks : All (λ entry. entry.deck < length decks) entries
    pub decks_are : map (λ w. w.given) deck_workers ≡ decks
    pub requests_are : map (λ w. w.given) file_workers ≡ requests
    pub outs_are : map (λ w. w.back) (deck_workers ++ file_workers) ≡ outs
    pub status_is : status ≡ greatest (map (λ w. w.status) (deck_workers ++ file_workers))
    pub one_fault : sum_by (λ w. w.faults) deck_workers ≡ fault_count doubt
    pub halted_status : is_some doubt ≡ true → 20 ≤ code_of status

-- There was no memory for the list of outputs: nothing was read, written or accepted, and no output is given back.
pub record HasNoRoom {I K : Type 0} (entries : List Accepted) (doubt : Option Accepted) (status : Status) (outs : List (I × K)) : Type 0 where
  pub is_status : status ≡ statuses.NoMemory
  pub no_outs : outs ≡ []
  pub no_entries : entries ≡ []
  pub runs : doubt ≡ None
