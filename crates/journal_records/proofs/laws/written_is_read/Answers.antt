use Rattle.std.proofs.Common.{refl}
use Rattle.journal_records.proofs.laws.written_is_read.Goals as goal

pub returns-clause-read : goal.returns-clause-read
returns-clause-read c = c.records_are_their_spelling.ensures.only _ (record { issuer = c.is_spelled.ensures; command = record { canonic = refl; spells = c.printed_is_read.ensures } })
