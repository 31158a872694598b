use Rattle.profile_index.proofs.KeyBeginLaws.{begin-decides}
use Rattle.profile_index.proofs.entry_slots.is_lower.Goals as goal

pub returns : goal.returns
returns g c e _ own lawful = begin-decides e.name c.args.key.now c.args.slot.begin c.args.begin lawful c.requires.bytes own c.requires.begin c.if-slot-begin.false
