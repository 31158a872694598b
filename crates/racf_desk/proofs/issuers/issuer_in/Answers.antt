use Rattle.desk_rules.proofs.IssuerLaws.{issuer_in_spelled, issuer_in_unspelled}
use Rattle.racf_desk.proofs.issuers.issuer_in.Goals as goal

pub returns-in-Some : goal.returns-in-Some
returns-in-Some c = issuer_in_spelled c.in-Some.issuer c.args.id c.args.group c.in-Some.ensures.0 c.in-Some.ensures.1

pub returns-in-None : goal.returns-in-None
returns-in-None c = issuer_in_unspelled c.args.id c.args.group c.in-None.ensures
