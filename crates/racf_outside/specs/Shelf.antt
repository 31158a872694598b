-- What the calls of a shelf leave as it was, and what they change: maps from names to what is told of each.
use Rattle.std.specs.Prelude.{ℕ, ◌≡◌, ◌≢◌, Bool, true, false, List, Option, None, Some}

-- what a shelf tells of an output that has these bytes: the bytes, where it tells any
abbrev pub told : Bool → List ℕ → Option (List ℕ)
told true bytes = Some bytes
told false bytes = None

-- every name tells what it told
abbrev pub SameBytes : (List ℕ → Option (List ℕ)) → (List ℕ → Option (List ℕ)) → Type 0
SameBytes old new = (name : List ℕ) → new name ≡ old name

-- every other name tells what it told
abbrev pub SameOthers : List ℕ → (List ℕ → Option (List ℕ)) → (List ℕ → Option (List ℕ)) → Type 0
SameOthers name old new = (other : List ℕ) → other ≢ name → new other ≡ old other

-- the outputs that are open stay so, and no more are
abbrev pub SameOpen : (List ℕ → Bool) → (List ℕ → Bool) → Type 0
SameOpen old new = (name : List ℕ) → new name ≡ old name

-- the output of this name is open now, and the others are as they were
pub record Opens (name : List ℕ) (old new : List ℕ → Bool) : Type 0 where
  pub here : new name ≡ true
  pub others : (other : List ℕ) → other ≢ name → new other ≡ old other

-- the output of this name is closed now, and the others are as they were
pub record Closes (name : List ℕ) (old new : List ℕ → Bool) : Type 0 where
  pub here : new name ≡ false
  pub others : (other : List ℕ) → other ≢ name → new other ≡ old other
