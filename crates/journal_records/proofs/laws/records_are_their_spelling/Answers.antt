use Rattle.journal_records.proofs.RecordLaws.{read-spelled, spelled-again}
use Rattle.journal_records.proofs.laws.records_are_their_spelling.Goals as goal

pub returns-clause-found : goal.returns-clause-found
returns-clause-found c =
    let canonical = c.canonical_texts_are_of_commands.ensures in
    read-spelled canonical.one canonical.least canonical.most

pub returns-clause-only : goal.returns-clause-only
returns-clause-only c =
    let canonical = c.canonical_texts_are_of_commands.ensures in
    spelled-again canonical.one canonical.least canonical.most
