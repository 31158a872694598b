-- The outputs of a shelf by their names: the newest of a name counts.
use Rattle.std.specs.Prelude.{ℕ, Bool, false, List, Option, None, Some, if◌then◌else◌, find}
use Rattle.std.specs.Str.{bytes_eq}

pub record KeptOutput : Type 0 where
  pub name : List ℕ  -- the name that it was opened under
  pub lent : Bool  -- it is open, and not given back yet
  pub bytes : Option (List ℕ)  -- what was given back, where it is kept

-- the output has this name
abbrev pub is_named : List ℕ → KeptOutput → Bool
is_named name output = bytes_eq output.name name

-- what an output tells: nothing where it is lent, or keeps no bytes
abbrev pub told_of : Option KeptOutput → Option (List ℕ)
told_of None = None
told_of (Some output) = if output.lent then None else output.bytes

-- whether an output is lent
abbrev pub lent_of : Option KeptOutput → Bool
lent_of None = false
lent_of (Some output) = output.lent

-- the bytes that were given back under a name
abbrev pub output_of : List KeptOutput → List ℕ → Option (List ℕ)
output_of outputs name = told_of (find (is_named name) outputs)

-- the output of a name is lent
abbrev pub is_lent : List KeptOutput → List ℕ → Bool
is_lent outputs name = lent_of (find (is_named name) outputs)
