use Rattle.std.proofs.Common.{Ok, Err, ◌∙◌, ap}
use Rattle.statements.proofs.StatementLaws.{from_text, from_too_long, from_end, from_read_fault, from_too_much}
use Rattle.statements.proofs.input.next_role.Goals as goal

pub returns-in-Ok-Text-clause-role : goal.returns-in-Ok-Text-clause-role
returns-in-Ok-Text-clause-role g c =
    from_text c.args.kind c.next.result c.in-Ok-Text.text c.args.begun c.read_role.result _ _ c.next.follows.holds-at-none.0 (c.in-Ok-Text.is ∙ ap Ok c.in-Ok-Text.field-0-is) c.read_role.ensures

pub returns-in-Ok-TooLong-clause-role : goal.returns-in-Ok-TooLong-clause-role
returns-in-Ok-TooLong-clause-role g c =
    from_too_long c.args.kind c.next.result c.args.begun _ _ c.next.follows.holds-at-none.0 (c.in-Ok-TooLong.is ∙ ap Ok c.in-Ok-TooLong.field-0-is)

pub returns-in-Ok-End-clause-role : goal.returns-in-Ok-End-clause-role
returns-in-Ok-End-clause-role g c =
    from_end c.args.kind c.next.result c.args.begun c.read_end.result _ _ c.next.follows.holds-at-none.0 (c.in-Ok-End.is ∙ ap Ok c.in-Ok-End.field-0-is) c.read_end.ensures

pub returns-in-Err-ReadFault-clause-role : goal.returns-in-Err-ReadFault-clause-role
returns-in-Err-ReadFault-clause-role g c =
    from_read_fault c.args.kind c.next.result c.args.begun _ _ c.next.follows.holds-at-none.0 (c.in-Err-ReadFault.is ∙ ap Err c.in-Err-ReadFault.field-0-is)

pub returns-clause-role : goal.returns-clause-role
returns-clause-role g c =
    from_too_much c.args.kind c.next.result c.args.begun _ _ c.next.follows.holds-at-none.0 (c.in-Err-InputTooLong.is ∙ ap Err c.in-Err-InputTooLong.field-0-is)
