use Rattle.std.proofs.Common.{sym, ◌∙◌}
use Rattle.command_words.specs.FrontWords.{ends}
use Rattle.command_words.proofs.BeforeFirst.{before_first-some, before_first-none}
use Rattle.command_words.proofs.front_words.Parting.up_to_end.Goals as goal

pub returns-in-Some : goal.returns-in-Some
returns-in-Some c = before_first-some (ends c.args.self) c.args.text.now c.in-Some.end (sym c.first_end.ensures ∙ c.in-Some.is)

pub returns-in-None : goal.returns-in-None
returns-in-None c = before_first-none (ends c.args.self) c.args.text.now (sym c.first_end.ensures ∙ c.in-None.is)
