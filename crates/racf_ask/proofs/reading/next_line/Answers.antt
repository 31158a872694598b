use Rattle.std.proofs.Common.{Ok, Err, ◌∙◌, ap}
use Rattle.racf_ask.proofs.LineLaws.{from_text, from_too_long, from_end, from_read_fault, from_too_much}
use Rattle.racf_ask.proofs.reading.next_line.Goals as goal

pub returns-in-Ok-Text-clause-nexts : goal.returns-in-Ok-Text-clause-nexts
returns-in-Ok-Text-clause-nexts g c =
    from_text c.next.result c.in-Ok-Text.text c.read_unskipped.result _ _ c.next.follows.holds-at-none.0 (c.in-Ok-Text.is ∙ ap Ok c.in-Ok-Text.field-0-is) c.read_unskipped.ensures

pub returns-in-Ok-TooLong-clause-nexts : goal.returns-in-Ok-TooLong-clause-nexts
returns-in-Ok-TooLong-clause-nexts g c =
    from_too_long c.next.result _ _ c.next.follows.holds-at-none.0 (c.in-Ok-TooLong.is ∙ ap Ok c.in-Ok-TooLong.field-0-is)

pub returns-in-Ok-End-clause-nexts : goal.returns-in-Ok-End-clause-nexts
returns-in-Ok-End-clause-nexts g c =
    from_end c.next.result _ _ c.next.follows.holds-at-none.0 (c.in-Ok-End.is ∙ ap Ok c.in-Ok-End.field-0-is)

pub returns-in-Err-ReadFault-clause-nexts : goal.returns-in-Err-ReadFault-clause-nexts
returns-in-Err-ReadFault-clause-nexts g c =
    from_read_fault c.next.result _ _ c.next.follows.holds-at-none.0 (c.in-Err-ReadFault.is ∙ ap Err c.in-Err-ReadFault.field-0-is)

pub returns-in-Err-InputTooLong-clause-nexts : goal.returns-in-Err-InputTooLong-clause-nexts
returns-in-Err-InputTooLong-clause-nexts g c =
    from_too_much c.next.result _ _ c.next.follows.holds-at-none.0 (c.in-Err-InputTooLong.is ∙ ap Err c.in-Err-InputTooLong.field-0-is)
