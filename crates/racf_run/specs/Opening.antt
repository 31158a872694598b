-- Files of a shelf, which are opened in the order of their names, each input before its output, and handed back.
use Rattle.std.specs.Prelude.{◌≡◌, ◌≤◌, ◌<◌, ℕ, Bool, true, false, Option, Result, Ok, Err, List, [], ◌∷◌, ◌++◌, map, not, ◌&&◌, codes}
use Rattle.std.specs.List.{list_any}
use Rattle.std.specs.Str.{bytes_eq}
use Rattle.racf_outside.specs.Causes.{Rose}
use Rattle.racf_outside.specs.declared.streams.Failed.{Failed}
use Rattle.racf_outside.specs.Shelf.{told, SameBytes, SameOpen}
use Rattle.racf_run.specs.declared.opening.Unopened.{Unopened}
use Rattle.racf_run.specs.declared.opening.Unopened.TheVariants.{Input, Output}

-- the output of a name
abbrev pub output_name : List ℕ → List ℕ
output_name name = name ++ codes ".out"

abbrev pub is_among : List ℕ → List (List ℕ) → Bool
is_among name names = list_any (bytes_eq name) names

-- No name stands twice.
abbrev pub are_distinct : List (List ℕ) → Bool
are_distinct [] = true
are_distinct (name ∷ names) = not (is_among name names) && are_distinct names

-- ---- the calls of the shelf

-- The calls that the program makes of a shelf of the kind S, whose inputs are of the kind I and whose outputs of the
-- kind O: `source` and the other three say that a call was made.
module _ {S I O : Type 0} (source : S → List ℕ → Result I Failed → S → Type 0) (sink : S → List ℕ → Result O Failed → S → Type 0) (take_back : S → List ℕ → I → S → Type 0) (give_back : S → List ℕ → O → S → Type 0) where
  -- Of each name in turn the input was opened, and then its output.
  abbrev pub Opened : (names : List (List ℕ)) → (files : List (I × O)) → (old new : S) → Type 0
  Opened [] [] old new = new ≡ old
  Opened (name ∷ names) (file ∷ files) old new =
      (first second : S) × source old name (Ok file.0) first × sink first (output_name name) (Ok file.1) second × Opened names files second new
  Opened [] (file ∷ files) old new = ⊥
  Opened (name ∷ names) [] old new = ⊥

  -- The files of the later names were handed back, and then of this one: the input was taken back, and its output given
  -- back.
  abbrev pub Returned : (names : List (List ℕ)) → (files : List (I × O)) → (old new : S) → Type 0
  Returned [] [] old new = new ≡ old
  Returned (name ∷ names) (file ∷ files) old new =
      (first second : S) × Returned names files old first × take_back first name file.0 second × give_back second (output_name name) file.1 new
  Returned [] (file ∷ files) old new = ⊥
  Returned (name ∷ names) [] old new = ⊥

  -- Some files were handed back under these names, and they have P.
  abbrev pub ReturnsSome : (names : List (List ℕ)) → (old new : S) → (P : List (I × O) → Type 0) → Type 0
  ReturnsSome names old new P = (files : List (I × O)) × Returned names files old new × P files

  -- An input couldn't be opened; or its output couldn't, and the input was taken back.
  abbrev pub OpensNeither : Unopened → (name : List ℕ) → (old new : S) → Type 0
  OpensNeither Input name old new = (failed : Failed) × source old name (Err failed) new
  OpensNeither Output name old new =
      (opened : I) × (failed : Failed) × (first second : S) × source old name (Ok opened) first × sink first (output_name name) (Err failed) second
      × take_back second name opened new

-- ---- what is told of files, and of a shelf between their opening and their return

-- A file is as it was opened under a name: the source has what the input tells, the sink is empty, and neither has
-- counted a fault.
pub record IsNew {I O : Type 0} (left : I → Option (List ℕ)) (reads : I → ℕ) (taken : O → Option (List ℕ)) (writes : O → ℕ) (tells : Bool) (input : Option (List ℕ)) (file : I × O) : Type 0 where
  pub bytes : left file.0 ≡ input
  pub no_reads : reads file.0 ≡ 0
  pub empty : taken file.1 ≡ told tells []
  pub no_writes : writes file.1 ≡ 0

-- each is, in the order of the names
abbrev pub AreNew : {I O : Type 0} → (left : I → Option (List ℕ)) → (reads : I → ℕ) → (taken : O → Option (List ℕ)) → (writes : O → ℕ) → (tells : Bool) → (input : List ℕ → Option (List ℕ)) → (names : List (List ℕ)) → (files : List (I × O)) → Type 0
AreNew left reads taken writes tells input [] [] = Unit {0}
AreNew left reads taken writes tells input (name ∷ names) (file ∷ files) =
    IsNew left reads taken writes tells (input name) file × AreNew left reads taken writes tells input names files
AreNew left reads taken writes tells input [] (file ∷ files) = ⊥
AreNew left reads taken writes tells input (name ∷ names) [] = ⊥

-- The outputs of these names are open.
abbrev pub AreOpen : (is_open : List ℕ → Bool) → (names : List (List ℕ)) → Type 0
AreOpen is_open [] = Unit {0}
AreOpen is_open (name ∷ names) = (is_open (output_name name) ≡ true) × AreOpen is_open names

-- Each output that is open now was open before, and is that of none of these names.
abbrev pub ClosesAll : (names : List (List ℕ)) → (old new : List ℕ → Bool) → Type 0
ClosesAll names old new = (other : List ℕ) → new other ≡ true → (old other ≡ true) × (is_among other (map output_name names) ≡ false)

-- Only outputs of these names were changed.
abbrev pub OthersStay : {A : Type 0} → (names : List (List ℕ)) → (old new : List ℕ → A) → Type 0
OthersStay names old new = (other : List ℕ) → is_among other (map output_name names) ≡ false → new other ≡ old other

-- Each output of these names holds what was taken by the sink that was given back under it.
abbrev pub AreKept : {I O : Type 0} → (taken : O → Option (List ℕ)) → (output : List ℕ → Option (List ℕ)) → (names : List (List ℕ)) → (files : List (I × O)) → Type 0
AreKept taken output [] [] = Unit {0}
AreKept taken output (name ∷ names) (file ∷ files) = (output (output_name name) ≡ taken file.1) × AreKept taken output names files
AreKept taken output [] (file ∷ files) = ⊥
AreKept taken output (name ∷ names) [] = ⊥

-- The outputs of these names are empty.
abbrev pub AreEmpty : (tells : Bool) → (output : List ℕ → Option (List ℕ)) → (names : List (List ℕ)) → Type 0
AreEmpty tells output [] = Unit {0}
AreEmpty tells output (name ∷ names) = (output (output_name name) ≡ told tells []) × AreEmpty tells output names

-- the faults that each input counted, and each output, in the order of the files
module _ {I O : Type 0} where
  abbrev pub reads_of : (reads : I → ℕ) → List (I × O) → List ℕ
  reads_of reads files = map (λ (file : I × O). reads file.0) files

  abbrev pub writes_of : (writes : O → ℕ) → List (I × O) → List ℕ
  writes_of writes files = map (λ (file : I × O). writes file.1) files

-- Where one of the files counted a fault, the count of what takes it back rose.
abbrev pub RoseFor : {A : Type 0} → (faults : A → ℕ) → (before now : ℕ) → List A → Type 0
RoseFor faults before now [] = Unit {0}
RoseFor faults before now (x ∷ items) = (0 < faults x → Rose before now) × RoseFor faults before now items

-- ---- all files

module _ {S I O : Type 0} (source : S → List ℕ → Result I Failed → S → Type 0) (sink : S → List ℕ → Result O Failed → S → Type 0) (take_back : S → List ℕ → I → S → Type 0) (give_back : S → List ℕ → O → S → Type 0)
    (left : I → Option (List ℕ)) (reads : I → ℕ) (taken : O → Option (List ℕ)) (writes : O → ℕ)
    (tells : Bool) (input output : S → List ℕ → Option (List ℕ)) (is_open : S → List ℕ → Bool) (source_faults sink_faults : S → ℕ) where
  -- The files of these names were opened, and this is what became of the shelf.
  pub record HasOpened (names : List (List ℕ)) (files : List (I × O)) (old new : S) : Type 0 where
    pub calls : Opened source sink take_back give_back names files old new
    pub new_files : AreNew left reads taken writes tells (input old) names files
    pub are_open : AreOpen (is_open new) names
    pub others_open : OthersStay names (is_open old) (is_open new)
    pub others : OthersStay names (output old) (output new)
    pub inputs : SameBytes (input old) (input new)
    pub no_fewer_reads : source_faults old ≤ source_faults new
    pub no_fewer_writes : sink_faults old ≤ sink_faults new

  -- Those of some names were opened, and those of the next weren't, for this fault.
  pub record HasStopped (why : Unopened) (names : List (List ℕ)) (files : List (I × O)) (old new : S) : Type 0 where
    pub front : List (List ℕ)
    pub name : List ℕ
    pub rest : List (List ℕ)
    pub in_order : names ≡ front ++ name ∷ rest
    pub before : S
    pub opened : HasOpened front files old before
    pub failed : OpensNeither source sink take_back give_back why name before new
    pub same_open : SameOpen (is_open before) (is_open new)
    pub others : OthersStay names (output old) (output new)
    pub inputs : SameBytes (input old) (input new)
    pub no_fewer_reads : source_faults old ≤ source_faults new
    pub no_fewer_writes : sink_faults old ≤ sink_faults new
    pub read_fault : why ≡ Input → Rose (source_faults old) (source_faults new)
    pub write_fault : why ≡ Output → Rose (sink_faults old) (sink_faults new)

  -- Files were handed back under these names.
  pub record HasReturned (names : List (List ℕ)) (files : List (I × O)) (old new : S) : Type 0 where
    pub calls : Returned source sink take_back give_back names files old new
    pub kept : AreKept taken (output new) names files
    pub others : OthersStay names (output old) (output new)
    pub closed : ClosesAll names (is_open old) (is_open new)
    pub inputs : SameBytes (input old) (input new)
    pub no_fewer_reads : source_faults old ≤ source_faults new
    pub no_fewer_writes : sink_faults old ≤ sink_faults new
    pub reads_rose : RoseFor (λ file. reads file.0) (source_faults old) (source_faults new) files
    pub writes_rose : RoseFor (λ file. writes file.1) (sink_faults old) (sink_faults new) files

  -- Those of some names were opened, those of the next weren't, for this fault, and the former were handed back, with
  -- nothing written.
  pub record HasUndone (why : Unopened) (names : List (List ℕ)) (old new : S) : Type 0 where
    pub front : List (List ℕ)
    pub name : List ℕ
    pub rest : List (List ℕ)
    pub in_order : names ≡ front ++ name ∷ rest
    pub files : List (I × O)
    pub before : S
    pub between : S
    pub opened : Opened source sink take_back give_back front files old before
    pub failed : OpensNeither source sink take_back give_back why name before between
    pub returned : Returned source sink take_back give_back front files between new
    pub empty : AreEmpty tells (output new) front
    pub others : OthersStay names (output old) (output new)
    pub closed : (other : List ℕ) → is_open new other ≡ true → is_open old other ≡ true
    pub inputs : SameBytes (input old) (input new)
    pub no_fewer_reads : source_faults old ≤ source_faults new
    pub no_fewer_writes : sink_faults old ≤ sink_faults new
    pub read_fault : why ≡ Input → Rose (source_faults old) (source_faults new)
    pub write_fault : why ≡ Output → Rose (sink_faults old) (sink_faults new)
