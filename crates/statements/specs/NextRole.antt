-- What the reading of the next line does, behind the front of a command or anew.
use Rattle.std.specs.Prelude.{◌≡◌, ◌⊎◌, ℕ, Option, None, Some, Result, Ok, Err, List}
use Rattle.racf_outside.specs.Lines.{Text, line_of}
use Rattle.racf_outside.specs.Next.{TakesLine, TakesEnd, TakesFront, TakesTooMuch}
use Rattle.racf_outside.specs.Reader.{Reader}
use Rattle.statements.specs.declared.joining.LineRole.{LineRole}
use Rattle.statements.specs.declared.joining.LineRole.TheVariants.{Whole}
use Rattle.statements.specs.declared.statement.Kind.{Kind}
use Rattle.statements.specs.declared.stopping.Stop.{Stop}
use Rattle.statements.specs.declared.stopping.Stop.TheVariants.{End, ReadFault, InputTooLong, NoMemory}
use Rattle.statements.specs.Fronts.{Front}
use Rattle.statements.specs.declared.statement.Statement.TheVariants.{Command}
use Rattle.statements.specs.Joining.{role_of}

-- The end of the input ends the command that is begun.
pub record EndsCommand (begun : Option Front) (role : LineRole) (old new : Reader) : Type 0 where
  pub front : Front
  pub is_begun : begun ≡ Some front
  pub command : role ≡ Whole (Some (Command front.text))
  pub at_end : TakesEnd old new

-- A line was taken, and has that role.
pub record GivesRole (kind : Kind) (begun : Option Front) (role : LineRole) (old new : Reader) : Type 0 where
  pub raw : List ℕ
  pub line : TakesLine raw old new
  pub is_role : role_of kind begun (line_of raw) ≡ role

-- What the next line is behind what is begun, or why no line comes.
abbrev pub NextsRole : Kind → Result LineRole Stop → Option Front → Reader → Reader → Type 0
NextsRole kind (Ok role) begun old new = GivesRole kind begun role old new ⊎ EndsCommand begun role old new
NextsRole kind (Err End) begun old new = (begun ≡ None) × TakesEnd old new
NextsRole kind (Err ReadFault) begun old new = (raw : List ℕ) × TakesFront raw old new
NextsRole kind (Err InputTooLong) begun old new = (raw : List ℕ) × (next : ℕ) × TakesTooMuch raw next old new
NextsRole kind (Err NoMemory) begun old new = Unit {0}

-- The role of a line of text, unless memory ran out.
abbrev pub ReadsRole : Kind → Result LineRole Stop → Option Front → List ℕ → Type 0
ReadsRole kind (Ok role) begun text = role ≡ role_of kind begun (Text text)
ReadsRole kind (Err End) begun text = ⊥
ReadsRole kind (Err ReadFault) begun text = ⊥
ReadsRole kind (Err InputTooLong) begun text = ⊥
ReadsRole kind (Err NoMemory) begun text = Unit {0}

-- The command that the end of the input ends, where one is begun: this takes no memory.
abbrev pub ReadsEnd : Result LineRole Stop → Option Front → Type 0
ReadsEnd (Ok role) begun = (front : Front) × (begun ≡ Some front) × (role ≡ Whole (Some (Command front.text)))
ReadsEnd (Err End) begun = begun ≡ None
ReadsEnd (Err ReadFault) begun = ⊥
ReadsEnd (Err InputTooLong) begun = ⊥
ReadsEnd (Err NoMemory) begun = ⊥
