-- Where the value of a word comes next.
use Rattle.std.proofs.Common.{◌≡◌, ℕ, suc, List, [], ◌∷◌, Bool, true, false, cond, Ok, Err, Result, refl, arith}
use Rattle.std.specs.Prelude.{◌==◌, ◌&&◌}
use Rattle.std.proofs.lemmas.Bool.Decides.{nat_tests}
use Rattle.command_words.specs.declared.quoting.Quoting.{Quoting}
use Rattle.command_words.specs.declared.quoting.Quoting.TheVariants.{Outside}
use Rattle.command_words.specs.Quotes.{next_word}
use Rattle.command_words.specs.Tokens.{Token, Word, Group, Open, Close, tokens_from, group_end, grouped, word_then, BeginsWithNoGap}
use Rattle.command_words.specs.ValuedWords.{valued_words, Alone, opens_value, opens_at}

-- a word before which no value opens stands alone
pub alone_before : (p : ℕ) (w : List ℕ) (ts : List Token) → opens_value ts ≡ false → valued_words (Word p w ∷ ts) ≡ Alone p w ∷ valued_words ts
alone_before p w [] h = refl
alone_before p w (Word q v ∷ ts) h = refl
alone_before p w (Group true q t ∷ ts) h = cc
alone_before p w (Group false q t ∷ ts) h = refl
alone_before p w (Open true q place ∷ ts) h = cc
alone_before p w (Open false q place ∷ ts) h = refl
alone_before p w (Close q ∷ ts) h = refl

-- a value is tied as its parenthesis is
opens-grouped : (r : Result ℕ ℕ) (tied : Bool) (p : ℕ) (bs : List ℕ) (rest : ℕ → List Token) → opens_value (grouped r tied p bs rest) ≡ tied
opens-grouped (Ok end) tied p bs rest = refl
opens-grouped (Err place) tied p bs rest = refl

opens-chosen : (c d tied : Bool) (ts us vs : List Token) → (c ≡ true → d ≡ false) → opens_value ts ≡ false → opens_value us ≡ tied → opens_value vs ≡ false → opens_value (cond c ts (cond d us vs)) ≡ (tied && d)
opens-chosen true true tied ts us vs h i j k = cc (h refl)
opens-chosen true false true ts us vs h i j k = i
opens-chosen true false false ts us vs h i j k = i
opens-chosen false true true ts us vs h i j k = j
opens-chosen false true false ts us vs h i j k = j
opens-chosen false false true ts us vs h i j k = k
opens-chosen false false false ts us vs h i j k = k

not-both : (b : ℕ) → (b == 41) ≡ true → (b == 40) ≡ false
not-both b h = grind (arith, nat_tests)

-- the byte in front tells
pub opens-front : (q : Quoting) (tied : Bool) (p : ℕ) (bs : List ℕ) → BeginsWithNoGap bs → opens_value (tokens_from q tied 0 p bs) ≡ opens_at tied bs
opens-front q tied p [] h = refl
opens-front q tied p (b ∷ bs) h = rw h (opens-chosen (b == 41) (b == 40) tied (Close p ∷ tokens_from (next_word q) false 0 (suc p) bs) (grouped (group_end p Outside 0 (suc p) bs) tied p bs (λ k. tokens_from (next_word q) false k (suc p) bs)) (word_then q b p bs) (not-both b) refl (opens-grouped (group_end p Outside 0 (suc p) bs) tied p bs (λ k. tokens_from (next_word q) false k (suc p) bs)) refl)
