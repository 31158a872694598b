-- The inputs of a shelf in memory by their names: the newest of a name counts.
use Rattle.std.specs.Prelude.{ℕ, Bool, List, [], Option, None, Some, find, string_bytes}
use Rattle.std.specs.Option.{option_map}
use Rattle.std.specs.Str.{bytes_eq}
use Rattle.racf_outside.specs.declared.memory_shelf.Inputs.{Inputs}
use Rattle.racf_outside.specs.declared.memory_shelf.Stored.{Stored}

-- the input has this name
abbrev pub is_stored_as : List ℕ → Stored → Bool
is_stored_as name stored = bytes_eq (string_bytes stored.name) name

-- the bytes of the input of a name
abbrev pub input_of : Inputs → List ℕ → Option (List ℕ)
input_of inputs name = option_map (λ stored. stored.bytes.items) (find (is_stored_as name) inputs.stored.items)

-- which reads of it are to fail
abbrev pub failing_in : Option Stored → List ℕ
failing_in None = []
failing_in (Some stored) = stored.failing.items

abbrev pub failing_of : Inputs → List ℕ → List ℕ
failing_of inputs name = failing_in (find (is_stored_as name) inputs.stored.items)
