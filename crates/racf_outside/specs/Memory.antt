-- Sources and sinks in memory, as their callers see them.
use Rattle.std.specs.Prelude.{ℕ, List}
use Rattle.racf_outside.specs.Calls.{CallsMade}

pub record MemoryInput : Type 0 where
  pub left : List ℕ  -- the bytes that are left
  pub calls : CallsMade  -- its reads

pub record MemoryOutput : Type 0 where
  pub taken : List ℕ  -- the bytes that it took
  pub calls : CallsMade  -- its writes
