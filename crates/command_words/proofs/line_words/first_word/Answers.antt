use Rattle.std.proofs.Common.{◌≡◌, ◌+◌, ◌<◌, ◌∷◌, sym, ◌∙◌, ap, arith, take, drop, length, subst}
use Rattle.std.proofs.lemmas.Grind.{common_steps}
use Rattle.command_words.specs.LineWords.{words_at}
use Rattle.command_words.specs.TakingWords.{seen}
use Rattle.command_words.proofs.LineWordLaws.{words_at-empty, words_at-word, word-some}
use Rattle.command_words.proofs.line_words.first_word.Goals as goal

pub returns-then-is_empty : goal.returns-then-is_empty
returns-then-is_empty c = grind (arith, common_steps, words_at-empty)

pub returns : goal.returns
returns c =
    let bytes = c.args.bytes.now in
    let count = c.word_length-length.ensures.value in
    let some = word-some bytes c.requires.front (sym c.is_empty.ensures ∙ c.if-is_empty.false) in
    let long : length c.split_at.result.0.now ≡ c.word_length-length.result = c.split_at.ensures.front_len in
    let first = words_at-word c.args.place bytes c.split_at.result.0.now c.split_at.result.1.now (c.split_at.ensures.front ∙ ap (λ n. take n bytes) count) (c.split_at.ensures.back ∙ ap (λ n. drop n bytes) count) (subst (λ n. 0 < n) (sym (long ∙ count)) some) in
    (subst (λ n. words_at c.args.place bytes ≡ seen record { place = c.args.place; text = c.split_at.result.0 } ∷ words_at (c.args.place + n) c.split_at.result.1.now) long first, omega arith)
