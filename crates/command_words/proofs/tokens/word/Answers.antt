use Rattle.command_words.proofs.Skips.{worded-at}
use Rattle.command_words.specs.Tokens.{tokens}
use Rattle.command_words.proofs.tokens.word.Goals as goal

pub returns-clause-tokens : goal.returns-clause-tokens
unfolding tokens
returns-clause-tokens c =
    rw (c.front.ensures, c.behind.ensures, c.next_word.ensures, c.requires.same)
    (worded-at c.args.quoting c.args.byte c.args.place c.word_len-letters.result c.args.rest.now (rw (← c.after.ensures) c.word_len-letters.ensures.value))
