use Rattle.racf_stream.proofs.IssuingLaws.{fixed_stays, fixed_refuses}
use Rattle.racf_stream.proofs.laws.a_fixed_issuer_stays.Goals as goal

pub returns-clause-stays : goal.returns-clause-stays
returns-clause-stays c = fixed_stays

pub returns-clause-refuses : goal.returns-clause-refuses
returns-clause-refuses c = fixed_refuses
