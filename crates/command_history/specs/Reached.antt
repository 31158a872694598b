-- Where a list of events leads.
use Rattle.std.specs.Prelude.{◌≡◌, List, [], ◌∷◌, Option, Some, None, Ok}
use Rattle.std.specs.Option.{option_map}
use Rattle.command_fields.specs.declared.fields.CommandFields.{CommandFields}
use Rattle.journal_records.specs.declared.record.CommandRecord.{CommandRecord}
use Rattle.journal_records.specs.Reading.{canonical_command}
use Rattle.desk_rules.specs.Outcome.{journal_full}
use Rattle.desk_rules.specs.Position.{Position, position_behind}
use Rattle.desk_rules.specs.History.{at}
use Rattle.desk_rules.specs.Recovery.{outcome_again}
use Rattle.command_history.specs.declared.events.Accepted.{Accepted}
use Rattle.command_history.specs.declared.events.Event.{Event}
use Rattle.command_history.specs.Events.{entries_of}

-- The record of an entry: the command of which its text is the canonical one, where its issuer gives it.
abbrev pub record_of : Accepted → Option CommandRecord
record_of entry =
    option_map (λ (command : CommandFields). record { issuer = entry.issuer; command = command })
    (canonical_command entry.issuer.id entry.text)

-- An entry whose text is no command's leads nowhere.
abbrev pub with_record : Option CommandRecord → List CommandRecord → List CommandRecord
with_record None history = history
with_record (Some given) history = given ∷ history

abbrev pub records_of : List Accepted → List CommandRecord
records_of [] = []
records_of (entry ∷ entries) = with_record (record_of entry) (records_of entries)

-- the position behind the commands of the entries, from a base on
unfoldable pub reached : Position → List Event → Position
reached base events = at base (records_of (entries_of events))

-- Entries are legal from a base where each has a record, whose command is accepted at the position behind those before
-- it, and for which the journal has room there.
abbrev pub AreLegal : Position → List Accepted → Type 0
AreLegal base [] = Unit {0}
AreLegal base (entry ∷ entries) =
    (given : CommandRecord) × (record_of entry ≡ Some given) × (outcome_again base given ≡ Ok given)
    × (journal_full base.gate given ≡ None) × AreLegal (position_behind base given) entries
