-- A text that spells a name has at most eight bytes.
use Rattle.access_levels.proofs.SpelledIds.{id_of-short}
use Rattle.access_levels.proofs.ids.Id.known.Goals as goal

pub spelled_by-requires-clause-short : goal.spelled_by-requires-clause-short
spelled_by-requires-clause-short c = id_of-short c.args.text.now c.args.text.now c.requires
