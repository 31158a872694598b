use Rattle.std.proofs.Common.{arith}
use Rattle.journal_records.proofs.RecordLaws.{length-spelled, first-spelled}
use Rattle.journal_records.proofs.laws.lengths_are_those_of_the_texts.Goals as goal

pub returns-clause-whole : goal.returns-clause-whole
returns-clause-whole c = length-spelled

pub returns-clause-most : goal.returns-clause-most
returns-clause-most c = λ item lawful. let short = c.canonical_texts_are_of_commands.ensures.most _ item.command lawful.command in omega (arith, short, length-spelled item lawful)

pub returns-clause-first : goal.returns-clause-first
returns-clause-first c =
    let canonical = c.canonical_texts_are_of_commands.ensures in
    first-spelled canonical.one canonical.least canonical.most
