-- The front of a command whose lines go on.
use Rattle.std.specs.Prelude.{ℕ, List, ◌∷◌}
use Rattle.statements.specs.declared.mark.Mark.{Mark}

-- its text without the mark, and the mark
pub record Front : Type 0 where
  pub text : List ℕ
  pub mark : Mark

abbrev pub marked : List ℕ → Mark → Front
marked text mark = record { text = text; mark = mark }

-- with one more byte in front
abbrev pub behind : ℕ → Front → Front
behind byte front = marked (byte ∷ front.text) front.mark
