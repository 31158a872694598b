-- Tokens behind what already belongs to the token in front.
use Rattle.std.proofs.Common.{◌≡◌, ℕ, zero, suc, ◌+◌, ◌-◌, ◌<◌, List, [], ◌∷◌, take, drop, Bool, true, false, Ok, refl, sym, ap, ◌∙◌, add-zero, add-one, arith}
use Rattle.command_words.specs.declared.quoting.Quoting.{Quoting}
use Rattle.command_words.specs.declared.quoting.Quoting.TheVariants.{Outside}
use Rattle.command_words.specs.Quotes.{after, next_word, word_len}
use Rattle.command_words.specs.Tokens.{Word, Group, within, group_end, grouped, tokens_from, worded, word_then}

pub tokens_from-skip : (q : Quoting) (tied : Bool) (k p : ℕ) (bs : List ℕ) → tokens_from q tied k p bs ≡ tokens_from q tied 0 (p + k) (drop k bs)
tokens_from-skip q tied zero p [] = refl
tokens_from-skip q tied zero p (b ∷ bs) = rw add-zero refl
tokens_from-skip q tied (suc k) p [] = refl
tokens_from-skip q tied (suc k) p (b ∷ bs) =
    let same : suc p + k ≡ p + suc k = omega arith in
    tokens_from-skip q tied k (suc p) bs ∙ ap (λ n. tokens_from q tied 0 n (drop k bs)) same

-- a value that is bounded at the place end
pub grouped-ok : (q : Quoting) (tied : Bool) (p end : ℕ) (rest : List ℕ) → Ok end ≡ group_end p Outside 0 (p + 1) rest → p < end
    → tokens_from q tied 0 p (40 ∷ rest) ≡ Group tied p (within p (take (end - p - 1) rest)) ∷ tokens_from (next_word q) false 0 (end + 1) (drop (end - p) rest)
grouped-ok q tied p end rest closed above =
    let closed' : group_end p Outside 0 (suc p) rest ≡ Ok end = rw (← add-one) (sym closed) in
    let less : end - suc p ≡ end - p - 1 = omega arith in
    let next : suc p + (end - p) ≡ end + 1 = omega arith in
    ap (λ r. grouped r tied p rest (λ k. tokens_from (next_word q) false k (suc p) rest)) closed'
    ∙ ap (λ n. Group tied p (within p (take n rest)) ∷ tokens_from (next_word q) false (end - p) (suc p) rest) less
    ∙ ap (λ ts. Group tied p (within p (take (end - p - 1) rest)) ∷ ts)
    (tokens_from-skip (next_word q) false (end - p) (suc p) rest ∙ ap (λ n. tokens_from (next_word q) false 0 n (drop (end - p) rest)) next)

-- a word of one byte and k more
pub worded-at : (q : Quoting) (b p k : ℕ) (rest : List ℕ) → k ≡ word_len (after q p b) (p + 1) rest
    → word_then q b p rest ≡ Word p (take (k + 1) (b ∷ rest)) ∷ tokens_from (next_word q) true 0 (p + 1 + k) (drop k rest)
worded-at q b p k rest measured =
    let k' : word_len (after q p b) (suc p) rest ≡ k = rw (← add-one) (sym measured) in
    ap (λ n. worded n b p rest (λ k. tokens_from (next_word q) true k (suc p) rest)) k'
    ∙ ap (λ ts. Word p (b ∷ take k rest) ∷ ts) (tokens_from-skip (next_word q) true k (suc p) rest)
    ∙ rw (add-one p, add-one k) refl
