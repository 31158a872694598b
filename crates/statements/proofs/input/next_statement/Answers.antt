use Rattle.std.proofs.Common.{inr, refl, Ok, ◌∙◌, ap, arith}
use Rattle.racf_outside.proofs.Rises.{Rose-later}
use Rattle.statements.proofs.Settling.{Settles-none, Settles-then, prompt_then, cut_later, kept_later, at_fault}
use Rattle.statements.proofs.StatementLaws.{Taken-none, ends_item, goes_on, passes_more, stops}
use Rattle.statements.proofs.input.next_statement.Goals as goal

pub line-init : goal.line-init
line-init g c =
    record {
      taken = Taken-none c.args.kind c.args.lines.now;
      faults = omega arith;
      settled = Settles-none c.args.replies.now _;
      prompt = inr (record { left = refl; faults = refl });
      sink_faults = omega arith;
    }

pub returns-in-Ok-Whole-clause-item : goal.returns-in-Ok-Whole-clause-item
returns-in-Ok-Whole-clause-item g c =
    ends_item c.args.kind c.next_role.result c.line.begun c.in-Ok-Whole.item _ c.line.lines c.next_role.new.lines
    c.line.invariant.taken c.next_role.ensures.role (c.in-Ok-Whole.is ∙ ap Ok c.in-Ok-Whole.field-0-is)

pub returns-in-Ok-Whole-clause-settled : goal.returns-in-Ok-Whole-clause-settled
returns-in-Ok-Whole-clause-settled g c =
    Settles-then c.args.replies.now c.line.replies c.write_before_read.new.replies _ _ _ c.line.invariant.settled c.in_ok-write_before_read.ensures.settled

pub returns-in-Ok-Whole-clause-prompt : goal.returns-in-Ok-Whole-clause-prompt
returns-in-Ok-Whole-clause-prompt g c =
    prompt_then c.line.replies c.write_before_read.new.replies _ _ c.args.lines.now c.line.lines c.next_role.new.lines
    c.line.invariant.prompt c.in_ok-write_before_read.ensures.settled c.in_ok-write_before_read.ensures.prompt c.next_role.ensures.held

pub line-preserved : goal.line-preserved
line-preserved g c =
    record {
      taken =
          goes_on c.args.kind c.next_role.result c.line.begun c.in-Ok-GoesOn.front _ c.line.lines c.next_role.new.lines
          c.line.invariant.taken c.next_role.ensures.role (c.in-Ok-GoesOn.is ∙ ap Ok c.in-Ok-GoesOn.field-0-is);
      faults = omega (arith, c.line.invariant.faults, c.next_role.ensures.faults);
      settled = Settles-then c.args.replies.now c.line.replies c.write_before_read.new.replies _ _ _ c.line.invariant.settled c.in_ok-write_before_read.ensures.settled;
      prompt =
          prompt_then c.line.replies c.write_before_read.new.replies _ _ c.args.lines.now c.line.lines c.next_role.new.lines
          c.line.invariant.prompt c.in_ok-write_before_read.ensures.settled c.in_ok-write_before_read.ensures.prompt c.next_role.ensures.held;
      sink_faults = omega (arith, c.line.invariant.sink_faults, c.in_ok-write_before_read.ensures.cause.no_fewer);
    }

pub line-smaller : goal.line-smaller
line-smaller g c =
    let more = passes_more c.args.kind c.next_role.result c.line.begun c.in-Ok-GoesOn.front c.line.lines c.next_role.new.lines c.next_role.ensures.role (c.in-Ok-GoesOn.is ∙ ap Ok c.in-Ok-GoesOn.field-0-is) in
    omega (arith, more, c.next_role.ensures.limit)

pub returns-in-Err-clause-item : goal.returns-in-Err-clause-item
returns-in-Err-clause-item g c =
    stops c.args.kind c.next_role.result c.in-Err.stop c.line.begun _ c.line.lines c.next_role.new.lines
    c.line.invariant.taken c.line.invariant.faults c.next_role.ensures.role c.in-Err.is

pub returns-in-Err-clause-settled : goal.returns-in-Err-clause-settled
returns-in-Err-clause-settled g c =
    Settles-then c.args.replies.now c.line.replies c.write_before_read.new.replies _ _ _ c.line.invariant.settled c.in_ok-write_before_read.ensures.settled

pub returns-in-Err-clause-prompt : goal.returns-in-Err-clause-prompt
returns-in-Err-clause-prompt g c =
    prompt_then c.line.replies c.write_before_read.new.replies _ _ c.args.lines.now c.line.lines c.next_role.new.lines
    c.line.invariant.prompt c.in_ok-write_before_read.ensures.settled c.in_ok-write_before_read.ensures.prompt c.next_role.ensures.held

-- what is gathered couldn't be written
pub returns-in_err-write_before_read-clause-front : goal.returns-in_err-write_before_read-clause-front
returns-in_err-write_before_read-clause-front g c =
    at_fault c.from_residual.result (cut_later c.args.replies.now c.line.replies _ _ _ c.line.invariant.settled c.in_err-write_before_read.ensures.front)

pub returns-in_err-write_before_read-clause-kept : goal.returns-in_err-write_before_read-clause-kept
returns-in_err-write_before_read-clause-kept g c =
    at_fault c.from_residual.result (kept_later c.args.replies.now c.line.replies c.write_before_read.new.replies _ _ _ c.line.invariant.settled c.in_err-write_before_read.ensures.front c.in_err-write_before_read.ensures.kept)

pub returns-in_err-write_before_read-clause-cause : goal.returns-in_err-write_before_read-clause-cause
returns-in_err-write_before_read-clause-cause g c =
    record {
      no_fewer = omega (arith, c.line.invariant.sink_faults, c.in_err-write_before_read.ensures.cause.no_fewer);
      cause = at_fault c.from_residual.result (Rose-later _ _ _ c.line.invariant.sink_faults c.in_err-write_before_read.ensures.cause.cause);
    }
