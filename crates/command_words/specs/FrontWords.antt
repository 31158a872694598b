-- The word that a text begins with, by what parts words and what ends them.
use Rattle.std.specs.Prelude.{ℕ, Bool, not, List, [], ◌∷◌, if◌then◌else◌}
use Rattle.std.specs.List.{before_first}
use Rattle.command_words.specs.declared.front_words.Parting.{Parting}
use Rattle.command_words.specs.declared.front_words.Parting.TheVariants.{Line, Command}
use Rattle.command_words.specs.Bytes.{is_blank_byte, is_gap_byte, is_word_byte}

-- In a line blanks and tabs part words; in the text of a command commas too.
abbrev pub parts : Parting → ℕ → Bool
parts Line byte = is_blank_byte byte
parts Command byte = is_gap_byte byte

-- What ends a word: what parts words, and in the text of a command a parenthesis.
abbrev pub ends : Parting → ℕ → Bool
ends Line byte = is_blank_byte byte
ends Command byte = not (is_word_byte byte)

-- a text without what parts words in front
abbrev pub past : Parting → List ℕ → List ℕ
past parting [] = []
past parting (byte ∷ bytes) = if parts parting byte then past parting bytes else byte ∷ bytes

-- the word that a text begins with, as it is written
abbrev pub first_word : Parting → List ℕ → List ℕ
first_word parting text = before_first (ends parting) (past parting text)
