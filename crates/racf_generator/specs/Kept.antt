-- How a sink that counts is kept: the lines that ended, as contracts alone see them, and the line under way.
use Rattle.std.specs.Prelude.{ℕ, ◌<◌, ◌≡◌, List, ◌++◌, length, map, Some, None}
use Rattle.std.specs.List.{AllByRecursion, last_or}
use Rattle.racf_outside.specs.Lines.{NoFeed}
use Rattle.racf_generator.specs.declared.answer_tally.AnswerTally.TheInside.{Inside}
use Rattle.racf_generator.specs.Counting.{TalliedOutput, counted}
use Rattle.racf_generator.specs.MadeText.{text_of}

-- the lines that ended
abbrev pub lines_of : Inside → List (List ℕ)
lines_of tally = map (λ line. line.value.items) tally.ended.items

abbrev pub contents_of : Inside → TalliedOutput
contents_of tally = record { taken = text_of (lines_of tally) ++ tally.line.items; faults = tally.faults }

-- The counts are those of the lines that ended, and the last of these is kept. No line feed is in any line.
pub record IsKept (tally : Inside) : Type 0 where
  pub counts : tally.counts ≡ counted (lines_of tally)
  pub ended : AllByRecursion NoFeed (lines_of tally)
  pub begun : NoFeed tally.line.items
  pub last : 0 < length (lines_of tally) → last_or None (lines_of tally) ≡ Some tally.last.items
