use Rattle.std.proofs.Common.{add-one}
use Rattle.command_words.proofs.Skips.{grouped-ok}
use Rattle.command_words.specs.Tokens.{tokens}
use Rattle.command_words.proofs.tokens.group.Goals as goal

pub returns-in-Ok-clause-tokens : goal.returns-in-Ok-clause-tokens
unfolding tokens
returns-in-Ok-clause-tokens c =
    rw (c.front.ensures, c.behind.ensures, c.next_word.ensures, add-one c.args.place)
    (grouped-ok c.args.quoting c.args.tied c.args.place c.in-Ok.end c.args.rest.now c.in-Ok.ensures.value c.in-Ok.ensures.within.0)
