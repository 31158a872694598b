-- Replies are gathered before they are written.
use Rattle.std.specs.Prelude.{◌≡◌, ◌<◌, ◌⊎◌, ℕ, Option, List, [], length, take}
use Rattle.std.specs.Io.KnownBytes.{append_known}
use Rattle.racf_outside.specs.Reader.{Reader, KeepsSource}

-- What was gathered is gathered still, or all of it was written.
abbrev pub Settles : List ℕ → List ℕ → Option (List ℕ) → Option (List ℕ) → Type 0
Settles gathered rest before now =
    ((rest ≡ gathered) × (now ≡ before)) ⊎ ((rest ≡ []) × (now ≡ append_known before gathered))

-- Behind an item all that was gathered was written; or it is gathered still, and then no command was accepted.
abbrev pub Acknowledges : (none_accepted : Type 0) → List ℕ → List ℕ → Option (List ℕ) → Option (List ℕ) → Type 0
Acknowledges none_accepted gathered rest before now =
    (none_accepted × (rest ≡ gathered) × (now ≡ before)) ⊎ ((rest ≡ []) × (now ≡ append_known before gathered))

-- Either no reply waits any longer, or the source was not read.
abbrev pub IsPrompt : List ℕ → Reader → Reader → Type 0
IsPrompt rest old new = (rest ≡ []) ⊎ KeepsSource old new

-- A write failed behind a front of what was gathered.
pub record IsCutShort (gathered : List ℕ) (before now : Option (List ℕ)) : Type 0 where
  pub count : ℕ
  pub short : count < length gathered
  pub front : now ≡ append_known before (take count gathered)
