use Rattle.std.proofs.Common.{◌≡◌, Err, rules}
use Rattle.racf_desk.proofs.RepeatLaws.{none_led, item_at, fits, led_on, led_to_damage, all_led}
use Rattle.racf_desk.proofs.recovery.Recovery.repeat_all.Goals as goal

-- no record led it on
pub loop-record-init : goal.loop-record-init
loop-record-init c = none_led c.args.self.now

-- there is room for each record
pub repeat-requires : goal.repeat-requires
repeat-requires c =
    let is = item_at c.args.records.now c.loop-record.record-index c.record-item.result c.bytes.result.now c.record-item.is c.bytes.ensures in
    record { room = fits c.args.records.now c.loop-record.record-index c.bytes.result.now c.args.self.now c.loop-record.self c.loop-record-test.true is c.requires.room c.loop-record.invariant }

-- one more is damage
pub returns-in_err-repeat-clause-fault : goal.returns-in_err-repeat-clause-fault
returns-in_err-repeat-clause-fault c =
    let why = c.in_err-repeat.field-0.0 in
    let is = item_at c.args.records.now c.loop-record.record-index c.record-item.result c.bytes.result.now c.record-item.is c.bytes.ensures in
    let damage = led_to_damage c.args.records.now c.loop-record.record-index c.bytes.result.now c.args.self.now c.loop-record.self why c.loop-record-test.true is c.loop-record.invariant c.in_err-repeat.ensures.fault in
    let fails : c.from_residual.result ≡ Err why = search rules in
    rw fails damage

-- or leads on
pub loop-record-preserved : goal.loop-record-preserved
loop-record-preserved c =
    let is = item_at c.args.records.now c.loop-record.record-index c.record-item.result c.bytes.result.now c.record-item.is c.bytes.ensures in
    led_on c.args.records.now c.loop-record.record-index c.bytes.result.now c.args.self.now c.loop-record.self c.repeat.new.self c.loop-record-test.true is c.loop-record.invariant c.in_ok-repeat.ensures.leads c.in_ok-repeat.ensures.gate

-- and all led there
pub returns-clause-leads : goal.returns-clause-leads
returns-clause-leads c = (all_led c.args.records.now c.loop-record.record-index c.args.self.now c.loop-record.self c.loop-record-test.false c.loop-record.invariant).leads

pub returns-clause-gate : goal.returns-clause-gate
returns-clause-gate c = (all_led c.args.records.now c.loop-record.record-index c.args.self.now c.loop-record.self c.loop-record-test.false c.loop-record.invariant).gate
