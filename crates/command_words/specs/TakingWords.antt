-- How the code takes the words of a line, one by one.
use Rattle.std.specs.Prelude.{◌≡◌, ℕ, false, List, [], ◌∷◌, Option, MatchOption}
use Rattle.command_words.specs.Bytes.{is_blank_byte}
use Rattle.command_words.specs.declared.line_words.LineWord as code
use Rattle.command_words.specs.LineWords.{LineWord, UnreadLine, line_at}

abbrev pub BeginsWithNoBlank : List ℕ → Type 0
BeginsWithNoBlank [] = Unit {0}
BeginsWithNoBlank (byte ∷ bytes) = is_blank_byte byte ≡ false

abbrev pub seen : code.LineWord → LineWord
seen word = record { place = word.place; text = word.text.now }

-- the first word and those behind it; none where no word is left
abbrev pub SplitsFirst : UnreadLine → Option (code.LineWord × UnreadLine) → Type 0
SplitsFirst unread found = MatchOption found (unread.words ≡ []) (λ t. (unread.words ≡ seen t.0 ∷ t.1.words) × (t.1.end ≡ unread.end))

-- the same of bytes at a place
abbrev pub IsFirstWord : ℕ → List ℕ → Option (code.LineWord × UnreadLine) → Type 0
IsFirstWord place bytes found = SplitsFirst (line_at place bytes) found
