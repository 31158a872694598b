-- The items that words are, alone and with a value of their own.
use Rattle.std.proofs.Common.{◌≡◌, ℕ, suc, ◌+◌, List, [], ◌∷◌, ◌++◌, length, Bool, true, false, refl, ap, ◌∙◌}
use Rattle.std.specs.List.{list_all}
use Rattle.command_words.specs.declared.quoting.Quoting.TheVariants.{Outside}
use Rattle.command_words.specs.Tokens.{Token, Word, Group, Open, Close, within, tokens_from}
use Rattle.command_words.specs.ValuedWords.{Alone, Valued, valued_words, opens_value}
use Rattle.command_words.proofs.Letters.{is_letter, Outside-steady}
use Rattle.command_words.proofs.Spelled.{is_calm, word_token, group_token, group_end-calm}
use Rattle.command_values.proofs.Patterns.{IsSome}

-- the item of a word of letters, whatever follows it that is no value of its own
pub word_items : (ts : List Token) (p : ℕ) (w : List ℕ) → opens_value ts ≡ false → valued_words (Word p w ∷ ts) ≡ Alone p w ∷ valued_words ts
word_items [] p w h = refl
word_items (Word q v ∷ ts) p w h = refl
word_items (Group true q t ∷ ts) p w h = cc
word_items (Group false q t ∷ ts) p w h = refl
word_items (Open true q place ∷ ts) p w h = cc
word_items (Open false q place ∷ ts) p w h = refl
word_items (Close q ∷ ts) p w h = refl

-- a word of letters and its value, in which neither quotes nor parentheses stand
pub valued_items : (tied : Bool) (p : ℕ) (w inside rest : List ℕ) → IsSome w → list_all is_letter w ≡ true → list_all is_calm inside ≡ true
    → valued_words (tokens_from Outside tied 0 p (w ++ (40 ∷ (inside ++ 41 ∷ rest)))) ≡ Valued p w (within (p + length w) inside) ∷ valued_words (tokens_from Outside false 0 (p + length w + length inside + 2) rest)
valued_items tied p [] inside rest some letters calm = absurd some
valued_items tied p (b ∷ w) inside rest some letters calm =
    ap valued_words (word_token Outside Outside-steady tied p b w (40 ∷ (inside ++ 41 ∷ rest)) letters refl
    ∙ ap (λ ts. Word p (b ∷ w) ∷ ts) (group_token Outside true (p + length (b ∷ w)) inside rest
    (group_end-calm (p + length (b ∷ w)) (suc (p + length (b ∷ w))) inside rest calm)))
