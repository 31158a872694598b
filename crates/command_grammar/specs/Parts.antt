-- What the code holds of a command and of operands that it needs, as the table sees them.
use Rattle.std.specs.Prelude.{option_map}
use Rattle.command_grammar.specs.declared.reading.Parts.{Parts}
use Rattle.command_grammar.specs.declared.table.Needed.{Needed as NeededRow}
use Rattle.command_grammar.specs.CommandTable.{Needed}
use Rattle.command_grammar.specs.Reading.{Generic}

abbrev pub generic : Parts → Generic
generic c = record { verb = c.verb; positions = c.positions.items; slots = c.slots.items }

abbrev pub needed : NeededRow → Needed
needed n = record { asked_by = option_map (λ words. words.now) n.asked_by; one_of = n.one_of.now; missing = n.missing }
