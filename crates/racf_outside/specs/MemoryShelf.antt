-- A shelf in memory, as its callers see it, and what each call of it does.
use Rattle.std.specs.Prelude.{ℕ, ◌≡◌, false, List, is_none, is_err, IfOk, Result}
use Rattle.racf_outside.specs.Calls.{CallsMade, no_calls, FailsAsTold}
use Rattle.racf_outside.specs.Memory.{MemoryInput, MemoryOutput}
use Rattle.racf_outside.specs.Slots.{KeptOutput}
use Rattle.racf_outside.specs.Stored.{input_of, failing_of}
use Rattle.racf_outside.specs.declared.memory_shelf.Inputs.{Inputs}
use Rattle.racf_outside.specs.declared.streams.Failed.{Failed}

pub record ShelfInMemory : Type 0 where
  pub inputs : Inputs
  pub outputs : List KeptOutput
  pub failing_writes : List ℕ  -- the numbers, from 1, of the writes to each output that are to fail
  pub sources : CallsMade  -- the openings of inputs
  pub sinks : CallsMade  -- the openings of outputs

-- An input was asked for: it is opened from its front, where it is there and the opening isn't to fail, and its reads
-- fail as told when it was put. Nothing else changes.
pub record OpensInput (old : ShelfInMemory) (name : List ℕ) (result : Result MemoryInput Failed) (new : ShelfInMemory) : Type 0 where
  pub failed : FailsAsTold (is_none (input_of old.inputs name)) old.sources new.sources (is_err result)
  pub calls : IfOk result (λ source. source.calls ≡ no_calls (failing_of old.inputs name))
  pub inputs : new.inputs ≡ old.inputs
  pub outputs : new.outputs ≡ old.outputs
  pub failing_writes : new.failing_writes ≡ old.failing_writes
  pub sinks : new.sinks ≡ old.sinks

-- An output was asked for: it is opened where the opening isn't to fail, and its writes fail as the shelf was told.
pub record OpensOutput (old : ShelfInMemory) (name : List ℕ) (result : Result MemoryOutput Failed) (new : ShelfInMemory) : Type 0 where
  pub failed : FailsAsTold false old.sinks new.sinks (is_err result)
  pub calls : IfOk result (λ sink. sink.calls ≡ no_calls old.failing_writes)
  pub inputs : new.inputs ≡ old.inputs
  pub failing_writes : new.failing_writes ≡ old.failing_writes
  pub sources : new.sources ≡ old.sources

-- An output was given back, or an input taken back: no opening is counted.
pub record GivesBack (old new : ShelfInMemory) : Type 0 where
  pub inputs : new.inputs ≡ old.inputs
  pub failing_writes : new.failing_writes ≡ old.failing_writes
  pub sources : new.sources ≡ old.sources
  pub made : new.sinks.made ≡ old.sinks.made
  pub failing : new.sinks.failing ≡ old.sinks.failing

pub record TakesBack (old new : ShelfInMemory) : Type 0 where
  pub inputs : new.inputs ≡ old.inputs
  pub outputs : new.outputs ≡ old.outputs
  pub failing_writes : new.failing_writes ≡ old.failing_writes
  pub made : new.sources.made ≡ old.sources.made
  pub failing : new.sources.failing ≡ old.sources.failing
  pub sinks : new.sinks ≡ old.sinks
