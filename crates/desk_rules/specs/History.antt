-- Histories: the commands that were accepted, each as its record, in their order.
use Rattle.std.specs.Prelude.{◌≡◌, List, [], ◌∷◌, None, Ok}
use Rattle.journal_records.specs.declared.record.CommandRecord.{CommandRecord}
use Rattle.desk_rules.specs.Outcome.{journal_full}
use Rattle.desk_rules.specs.Position.{Position, position_behind}
use Rattle.desk_rules.specs.Recovery.{outcome_again}

-- the position behind a history, from a base on
abbrev pub at : Position → List CommandRecord → Position
at base [] = base
at base (given ∷ history) = at (position_behind base given) history

-- It is legal from a base where each of its commands is accepted at the position behind those before it.
abbrev pub IsLegal : Position → List CommandRecord → Type 0
IsLegal base [] = Unit {0}
IsLegal base (given ∷ history) = (outcome_again base given ≡ Ok given) × IsLegal (position_behind base given) history

-- The journal had room for the record of each of its commands, at the position behind those before it.
abbrev pub HadRoom : Position → List CommandRecord → Type 0
HadRoom base [] = Unit {0}
HadRoom base (given ∷ history) = (journal_full base.gate given ≡ None) × HadRoom (position_behind base given) history
