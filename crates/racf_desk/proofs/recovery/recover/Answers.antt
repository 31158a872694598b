use Rattle.std.proofs.Common.{◌≡◌, Err, rules}
use Rattle.std.specs.Arc.{arc_value}
use Rattle.desk_rules.specs.Position.{at_checkpoint}
use Rattle.racf_desk.proofs.RepeatLaws.{recovered_there, recovered_fault}
use Rattle.racf_desk.proofs.recovery.recover.Goals as goal

-- the records lead nowhere
pub returns-in_err-repeat_all-clause-fault : goal.returns-in_err-repeat_all-clause-fault
returns-in_err-repeat_all-clause-fault c =
    let why = c.in_err-repeat_all.field-0.0 in
    let fault = recovered_fault c.in_ok-recovery.recovery (at_checkpoint c.args.rows c.args.number c.args.start) c.args.records.now why c.in_ok-recovery.ensures.at c.in_err-repeat_all.ensures.fault in
    let fails : c.from_residual-in_err-repeat_all.result ≡ Err why = search rules in
    rw fails fault

-- they lead to a position
pub imaged-requires : goal.imaged-requires
imaged-requires c = record { within = (c.in_ok-repeat_all.ensures.leads (at_checkpoint c.args.rows c.args.number c.args.start) c.in_ok-recovery.ensures.at).1.within }

pub returns-in-Ok-clause-position : goal.returns-in-Ok-clause-position
returns-in-Ok-clause-position c =
    let base = at_checkpoint c.args.rows c.args.number c.args.start in
    recovered_there base c.args.records.now c.repeat_all.new.self (arc_value c.in-Ok.found.image) c.in-Ok.found.gate (c.in_ok-repeat_all.ensures.leads base c.in_ok-recovery.ensures.at) c.in-Ok.ensures.image c.in-Ok.ensures.gate
