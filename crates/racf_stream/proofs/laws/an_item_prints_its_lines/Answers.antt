use Rattle.std.proofs.Common.{◌∷◌, ◌∙◌, ap}
use Rattle.statements.specs.Inputs.{statements}
use Rattle.racf_stream.specs.Stream.{new_stream}
use Rattle.racf_stream.specs.Printed.{turns, input_turns, split_lines}
use Rattle.racf_stream.proofs.OutputLaws.{output_of_turns, turns-append}
use Rattle.racf_stream.proofs.OutputLines.{lines_of_turns}
use Rattle.racf_stream.proofs.TurnLines.{each_line}
use Rattle.racf_stream.proofs.laws.an_item_prints_its_lines.Goals as goal

pub returns-clause-whole : goal.returns-clause-whole
returns-clause-whole c = λ fault issuing base bytes. output_of_turns fault issuing base (statements.items bytes) (new_stream issuing base)

-- The position that two files stand for holds no line feed, and then none is printed within a line.
pub returns-clause-line : goal.returns-clause-line
returns-clause-line c =
    λ fault issuing base bytes reached spelled.
    each_line fault c.a_reply_is_one_line.ensures.reply c.a_reply_is_one_line.ensures.issuer c.a_request_prints_its_lines.ensures c.no_line_feed_is_told.ensures.outcome c.no_line_feed_is_told.ensures.behind issuing base bytes spelled
    (c.no_line_feed_is_told.ensures.reached reached.0 reached.1 base reached.2)

pub returns-clause-lines : goal.returns-clause-lines
returns-clause-lines c = λ fault issuing base bytes reached spelled. ap split_lines (returns-clause-whole c fault issuing base bytes) ∙ lines_of_turns (input_turns fault issuing base bytes) (returns-clause-line c fault issuing base bytes reached spelled)

pub returns-clause-state : goal.returns-clause-state
returns-clause-state c =
    λ fault issuing base bytes done more item e. ap (λ items. turns fault items (new_stream issuing base)) e ∙ turns-append fault issuing base done (item ∷ more) (new_stream issuing base)
