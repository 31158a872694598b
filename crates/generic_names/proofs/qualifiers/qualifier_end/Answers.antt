use Rattle.std.proofs.lemmas.List.{take_rest}
use Rattle.generic_names.proofs.QualifierLaws.{rest_at-first}
use Rattle.generic_names.proofs.qualifiers.qualifier_end.Goals as goal

pub returns-clause-first : goal.returns-clause-first
returns-clause-first c =
    let text = c.args.text.now in
    let found = rw (take_rest text c.args.at) at c.until_period.ensures in
    rest_at-first text c.args.at c.until_period.result c.requires found.within found.before found.period
