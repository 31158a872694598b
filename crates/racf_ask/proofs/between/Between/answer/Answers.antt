use Rattle.std.proofs.Common.{sym}
use Rattle.racf_ask.proofs.Skipping.{skipped}
use Rattle.racf_ask.proofs.between.Between.answer.Goals as goal

pub returns-in-None-clause-ok : goal.returns-in-None-clause-ok
returns-in-None-clause-ok c =
    skipped c.args.numbered c.args.image.now c.args.told.now c.self.inside.acees c.self.inside.has_refused c.self.inside.lines c.args.self.now c.args.replies.now c.in-None.is (sym c.self.view_is)
