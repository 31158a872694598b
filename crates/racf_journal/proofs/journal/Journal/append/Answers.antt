-- A record that has no room leaves all as it was; else the call is that of `write_record`.
use Rattle.std.proofs.Common.{◌+◌, length, arith}
use Rattle.racf_outside.proofs.Runs.{StaysIn-none}
use Rattle.racf_journal.specs.Kept.{IsAppended}
use Rattle.racf_journal.proofs.Rests.{rest_leaves_either, resting_then}
use Rattle.racf_journal.proofs.journal.Journal.append.Goals as goal

pub returns-then-not-fits-clause-moments : goal.returns-then-not-fits-clause-moments
returns-then-not-fits-clause-moments g c front records keeps =
    StaysIn-none (IsAppended front records c.args.bytes.now c.args.self.now.gate) _ (λ h e. rest_leaves_either front c.args.self.now.start c.args.self.now.gate records c.args.bytes.now h.now (keeps h e))

pub returns-in_err-write_record-clause-moments : goal.returns-in_err-write_record-clause-moments
returns-in_err-write_record-clause-moments g c = rw (← c.self.view_is) (c.write_record.ensures.moments c.self.inside.start)

pub returns-clause-moments : goal.returns-clause-moments
returns-clause-moments g c = rw (← c.self.view_is) (c.write_record.ensures.moments c.self.inside.start)

pub returns-clause-acknowledged : goal.returns-clause-acknowledged
returns-clause-acknowledged g c = rw (← c.self.view_is) (c.in_ok-write_record.ensures.acknowledged c.self.inside.start)

pub returns-clause-resting : goal.returns-clause-resting
returns-clause-resting g c =
    resting_then c.self.inside.start c.self.inside.gate (c.self.inside.gate + (1 + length c.args.bytes.now)) c.args.bytes.now _ _ (omega arith) (c.in_ok-write_record.ensures.acknowledged c.self.inside.start) (c.write_record.ensures.moments c.self.inside.start) (rw (← c.self.view_is) at c.requires.rest)
