use Rattle.std.proofs.Common.{sym, ap, ◌∙◌}
use Rattle.command_words.proofs.Openings.{opens-front}
use Rattle.command_words.specs.Tokens.{tokens}
use Rattle.command_words.specs.ValuedWords.{opens_value}
use Rattle.command_words.proofs.tokens.Tokens.opens_value.Goals as goal

pub returns : goal.returns
unfolding tokens
returns c =
    c.opens_at.ensures
    ∙ sym (opens-front c.self.inside.quoting c.past_gaps-tied.result.0 c.past_gaps-tied.result.1 c.past_gaps-tied.result.2.now c.past_gaps-tied.ensures.front)
    ∙ ap opens_value c.past_gaps-tied.ensures.same
    ∙ ap (λ t. opens_value (tokens t)) c.self.view_is
