use Rattle.std.proofs.Common.{take}
use Rattle.racf_desk.proofs.RepeatLaws.{HasLed}
use Rattle.racf_desk.proofs.recovery.Recovery.repeat_all.Given as goal

-- The records so far led there.
abbrev pub invariant-loop-record : goal.invariant-loop-record
invariant-loop-record l = HasLed (take l.record-index l.records) l.fn.self l.self
