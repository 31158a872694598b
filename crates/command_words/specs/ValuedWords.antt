-- Words together with the values behind them.
use Rattle.std.specs.Prelude.{ℕ, suc, List, [], ◌∷◌, Bool, true, false, ◌&&◌, not, ◌==◌, if◌then◌else◌, Option, None, Some, length, ◌+◌, ◌<◌, ◌^◌}
use Rattle.command_words.specs.declared.quoting.Quoting.{Quoting}
use Rattle.command_words.specs.Bytes.{is_faulty_byte}
use Rattle.command_words.specs.Quotes.{after, hides}
use Rattle.command_words.specs.Tokens.{Unread, Token, Word, Group, Open, Close}

-- A word alone. A word and its value: where the word begins, its bytes, and what the value holds. A word whose value
-- nothing closes, with the place of what isn't closed. A parenthesis where a word should stand.
pub data ValuedWord : Type 0 where
  Alone : ℕ → List ℕ → ValuedWord
  Valued : ℕ → List ℕ → Unread → ValuedWord
  Unclosed : ℕ → List ℕ → ℕ → ValuedWord
  Parenthesis : ℕ → ValuedWord

-- The valued_words of a text. A value is that of the word in front where it is tied to it.
abbrev pub valued_words : List Token → List ValuedWord
valued_words [] = []
valued_words (Group tied p t ∷ ts) = Parenthesis p ∷ valued_words ts
valued_words (Open tied p place ∷ ts) = Parenthesis p ∷ valued_words ts
valued_words (Close p ∷ ts) = Parenthesis p ∷ valued_words ts
valued_words (Word p w ∷ []) = Alone p w ∷ []
valued_words (Word p w ∷ Group true q t ∷ ts) = Valued p w t ∷ valued_words ts
valued_words (Word p w ∷ Open true q place ∷ ts) = Unclosed p w place ∷ valued_words ts
valued_words (Word p w ∷ Group false q t ∷ ts) = Alone p w ∷ valued_words (Group false q t ∷ ts)
valued_words (Word p w ∷ Open false q place ∷ ts) = Alone p w ∷ valued_words (Open false q place ∷ ts)
valued_words (Word p w ∷ Close q ∷ ts) = Alone p w ∷ valued_words (Close q ∷ ts)
valued_words (Word p w ∷ Word q v ∷ ts) = Alone p w ∷ valued_words (Word q v ∷ ts)

-- whether a value of the word in front comes next
abbrev pub opens_value : List Token → Bool
opens_value [] = false
opens_value (Word p w ∷ ts) = false
opens_value (Group tied p t ∷ ts) = tied
opens_value (Open tied p place ∷ ts) = tied
opens_value (Close p ∷ ts) = false

-- the same of bytes in front of which nothing parts words
abbrev pub opens_at : Bool → List ℕ → Bool
opens_at tied [] = false
opens_at tied (b ∷ bs) = tied && b == 40

-- The place of the first faulty byte of a word that begins at p. Where quotes count, those inside them are not looked
-- at.
abbrev pub faulty_at : Quoting → ℕ → List ℕ → Option ℕ
faulty_at q p [] = None
faulty_at q p (b ∷ bs) = if not (hides q) && is_faulty_byte b then Some p else faulty_at (after q p b) (suc p) bs

-- a word ends within the places that the code counts
abbrev pub IsValuedInReach : ValuedWord → Type 0
IsValuedInReach (Alone p w) = p + length w < 2 ^ 30
IsValuedInReach (Valued p w t) = p + length w < 2 ^ 30
IsValuedInReach (Unclosed p w place) = p + length w < 2 ^ 30
IsValuedInReach (Parenthesis p) = Unit {0}

-- there is a list, and nothing in it
abbrev pub is_nothing : Option (List ℕ) → Bool
is_nothing None = false
is_nothing (Some []) = true
is_nothing (Some (b ∷ bs)) = false
