-- The gate is closed, all behind it is written, and it is opened.
use Rattle.std.proofs.Common.{◌++◌}
use Rattle.racf_outside.proofs.Runs.{StaysIn-joined}
use Rattle.checkpoint_disks.specs.Compacting.{with_head}
use Rattle.checkpoint_disks.proofs.Compacts.{closing_is, closed_is, opening_is}
use Rattle.checkpoint_disks.proofs.writing.write_behind.Goals as goal

pub open_head-requires : goal.open_head-requires
open_head-requires g c = record { closed = λ h e. (c.in_ok-write_body.ensures.done h e).held }

pub returns-in_err-close_head-clause-files : goal.returns-in_err-close_head-clause-files
returns-in_err-close_head-clause-files g c before holds =
    closing_is before (with_head 1 (c.args.fields.now ++ c.args.rest.now)) _ _ (c.in_err-close_head.ensures.moments before holds)

pub returns-in_err-write_body-clause-files : goal.returns-in_err-write_body-clause-files
returns-in_err-write_body-clause-files g c before holds =
    let made = with_head 1 (c.args.fields.now ++ c.args.rest.now) in
    StaysIn-joined (closing_is before made _ _ (c.in_ok-close_head.ensures.moments before holds)) (closed_is before made _ _ c.in_err-write_body.ensures.moments)

pub returns-in_err-open_head-clause-files : goal.returns-in_err-open_head-clause-files
returns-in_err-open_head-clause-files g c before holds =
    let made = with_head 1 (c.args.fields.now ++ c.args.rest.now) in
    StaysIn-joined (StaysIn-joined (closing_is before made _ _ (c.in_ok-close_head.ensures.moments before holds)) (closed_is before made _ _ c.in_ok-write_body.ensures.moments))
    (opening_is before (c.args.fields.now ++ c.args.rest.now) _ _ (c.in_err-open_head.ensures.moments (c.args.fields.now ++ c.args.rest.now) c.in_ok-write_body.ensures.done))

pub returns-clause-files : goal.returns-clause-files
returns-clause-files g c before holds =
    let made = with_head 1 (c.args.fields.now ++ c.args.rest.now) in
    StaysIn-joined (StaysIn-joined (closing_is before made _ _ (c.in_ok-close_head.ensures.moments before holds)) (closed_is before made _ _ c.in_ok-write_body.ensures.moments))
    (opening_is before (c.args.fields.now ++ c.args.rest.now) _ _ (c.in_ok-open_head.ensures.moments (c.args.fields.now ++ c.args.rest.now) c.in_ok-write_body.ensures.done))

pub returns-clause-done : goal.returns-clause-done
returns-clause-done g c = c.in_ok-open_head.ensures.done (c.args.fields.now ++ c.args.rest.now) c.in_ok-write_body.ensures.done
