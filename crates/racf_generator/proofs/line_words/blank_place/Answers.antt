use Rattle.std.proofs.Common.{sym}
use Rattle.racf_generator.specs.Tally.{is_blank}
use Rattle.racf_generator.proofs.WordLaws.{position-Some_is, position-None_is}
use Rattle.racf_generator.proofs.line_words.blank_place.Goals as goal

pub returns-in-Some-clause-place : goal.returns-in-Some-clause-place
returns-in-Some-clause-place c = position-Some_is is_blank c.args.line.now c.in-Some.place (sym c.in-Some.ensures)

pub returns-in-None-clause-place : goal.returns-in-None-clause-place
returns-in-None-clause-place c = position-None_is is_blank c.args.line.now (sym c.in-None.ensures)
