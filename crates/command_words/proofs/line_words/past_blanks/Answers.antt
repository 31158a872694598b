use Rattle.std.proofs.Common.{arith}
use Rattle.std.proofs.lemmas.Grind.{common_steps}
use Rattle.command_words.proofs.LineWordLaws.{words_at-blank}
use Rattle.command_words.proofs.line_words.past_blanks.Goals as goal

pub loop-byte-preserved : goal.loop-byte-preserved
loop-byte-preserved c =
    let step = words_at-blank c.loop-byte.place c.in-Some.byte.now c.in-Some.rest.now in
    grind (arith, common_steps, step)
