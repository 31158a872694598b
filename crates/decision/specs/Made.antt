-- A request of these parts.
use Rattle.std.specs.Prelude.{◌≡◌, ℕ, List}
use Rattle.access_levels.specs.declared.levels.Level.{Level}
use Rattle.generic_names.specs.Spelled.{Spelled}
use Rattle.decision.specs.declared.request.Request.{Request}

pub record IsRequest (of_class : List ℕ) (of_name : Spelled) (level : Level) (request : Request) : Type 0 where
  pub class : request.class ≡ of_class
  pub name : request.name ≡ of_name
  pub asked : request.asked ≡ level
