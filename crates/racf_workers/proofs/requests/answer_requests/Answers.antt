use Rattle.std.proofs.Common.{ap}
use Rattle.racf_outside.specs.Reader.{Reader}
use Rattle.racf_workers.proofs.FileWalk.{none_answered, too_long}
use Rattle.racf_workers.proofs.requests.answer_requests.Goals as goal

-- there was no memory for the reader
pub returns-in-Err-clause-answers : goal.returns-in-Err-clause-answers
returns-in-Err-clause-answers g c = none_answered g.J.Naming.base c.args.caller.now.events _ _ _ _ _

-- nor for the ACEEs
pub returns-in-Err-new-clause-answers : goal.returns-in-Err-new-clause-answers
returns-in-Err-new-clause-answers g c = none_answered g.J.Naming.base c.args.caller.now.events _ _ _ _ _

pub returns-in-Ok-new-clause-too_long : goal.returns-in-Ok-new-clause-too_long
returns-in-Ok-new-clause-too_long g c =
    too_long g.J.Naming.base c.args.caller.now.events c.run-status.new.caller.events _ _ c.run-status.result c.in-Ok.lines.left _ c.run-status.new.lines.left _ _ c.run-status.ensures.answers (ap (λ (r : Reader). r.left) c.in-Ok.ensures.start)
