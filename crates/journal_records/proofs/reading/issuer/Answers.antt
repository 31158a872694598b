use Rattle.journal_records.proofs.RecordLaws.{issuer_with-is}
use Rattle.journal_records.proofs.reading.issuer.Goals as goal

pub returns-in-Some-new : goal.returns-in-Some-new
returns-in-Some-new c = rw (← c.in-Some.ensures, ← c.in-Some-id_in.ensures) (issuer_with-is c.in-Some-new.issuer c.in-Some.id c.in-Some-id_in.group c.in-Some-new.ensures.0 c.in-Some-new.ensures.1)
