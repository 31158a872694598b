-- Which commands a text can spell.
use Rattle.std.specs.Prelude.{◌≡◌, ℕ, List, [], ◌∷◌, Option, None, Some, if◌then◌else◌}
use Rattle.command_grammar.specs.declared.table.Position.{Position}
use Rattle.command_grammar.specs.declared.table.Operand.{Operand}
use Rattle.command_grammar.specs.declared.table.Verb.{Verb}
use Rattle.command_values.specs.declared.values.Content.{Content}
use Rattle.command_values.specs.declared.values.Content.TheVariants as contents
use Rattle.command_grammar.specs.CommandTable.{in_class, named_as}
use Rattle.command_values.specs.declared.values.Known.{Known}
use Rattle.command_values.specs.LawfulValues.{Fits, Suits}
use Rattle.command_grammar.specs.Table.{positions_of, operands_of}
use Rattle.command_grammar.specs.Reading.{Generic, Slots, clash, known_behind, is_late, class_in, completed, lacking}

-- a value for each positional word
abbrev pub FitsPositions : List Position → List Content → Type 0
FitsPositions [] [] = Unit {0}
FitsPositions (pos ∷ more) (v ∷ vs) = Fits pos.kind v × FitsPositions more vs
FitsPositions ps vs = ⊥

-- a slot for each row, with a value of its kind where the operand was given
abbrev pub FitsAll : List Operand → Slots → Type 0
FitsAll [] [] = Unit {0}
FitsAll (o ∷ os) (None ∷ ss) = FitsAll os ss
FitsAll (o ∷ os) (Some v ∷ ss) = Fits o.kind v × FitsAll os ss
FitsAll os ss = ⊥

abbrev pub SuitsPositions : Known → List Position → List Content → Type 0
SuitsPositions known [] vs = Unit {0}
SuitsPositions known (pos ∷ more) [] = Unit {0}
SuitsPositions known (pos ∷ more) (v ∷ vs) = Suits known pos.kind v × SuitsPositions (known_behind known pos.kind v) more vs

-- what is known behind the positional words
abbrev pub known_last : Known → List Position → List Content → Known
known_last known [] vs = known
known_last known (pos ∷ more) [] = known
known_last known (pos ∷ more) (v ∷ vs) = known_last (known_behind known pos.kind v) more vs

abbrev pub SuitsAll : Known → List Operand → Slots → Type 0
SuitsAll known [] ss = Unit {0}
SuitsAll known (o ∷ os) [] = Unit {0}
SuitsAll known (o ∷ os) (None ∷ ss) = SuitsAll known os ss
SuitsAll known (o ∷ os) (Some v ∷ ss) = Suits known o.kind v × SuitsAll known os ss

-- what is known of a command before its first positional word: nothing, or in PERMIT the class
abbrev pub class_known : Option (List ℕ) → Known
class_known class = record { class = class; profile = None }

abbrev pub first_known : Verb → Slots → Known
first_known v slots = class_known (if is_late (positions_of v) then class_in slots else None)

-- the class that the first positional word is, if it is one
abbrev pub class_in_front : List Content → Option (List ℕ)
class_in_front (contents.Id class ∷ vs) = Some class
class_in_front vs = None

-- What a text can spell. Which of two commands of one name it is, the class says.
pub record IsLawful (g : Generic) : Type 0 where
  pub chosen : in_class (named_as g.verb) (class_in_front g.positions) ≡ g.verb
  pub fits_positions : FitsPositions (positions_of g.verb) g.positions
  pub fits_operands : FitsAll (operands_of g.verb) g.slots
  pub suits_positions : SuitsPositions (first_known g.verb g.slots) (positions_of g.verb) g.positions
  pub suits_operands : SuitsAll (known_last (first_known g.verb g.slots) (positions_of g.verb) g.positions) (operands_of g.verb) g.slots
  pub needed : lacking g.verb g.slots ≡ None
  pub complete : completed g.verb g.slots ≡ g.slots
  pub apart : clash g.verb g.slots ≡ None
