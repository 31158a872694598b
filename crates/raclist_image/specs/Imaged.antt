-- What contracts see of images: the state that decisions read, with its number.
use Rattle.std.specs.Prelude.{ℕ}
use Rattle.racf_profiles.specs.State.{State}

-- The state, and the number of commands that were accepted before it.
pub record Imaged : Type 0 where
  pub state : State
  pub generation : ℕ
