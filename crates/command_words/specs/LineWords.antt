-- The words of a line, which blanks and tabs part.
use Rattle.std.specs.Prelude.{ℕ, ◌+◌, Bool, nat_lt, List, [], ◌∷◌, length, filter}
use Rattle.std.specs.List.{slice_split}
use Rattle.command_words.specs.Bytes.{is_blank_byte}

-- A word: the place of its first byte in the line, counted from 1, and its bytes as they were written.
pub record LineWord : Type 0 where
  pub place : ℕ
  pub text : List ℕ

-- What is left of a line: its words, and the place behind the line's last byte.
pub record UnreadLine : Type 0 where
  pub words : List LineWord
  pub end : ℕ

-- Pieces with their places, where the first begins at that place and one byte parts two of them.
abbrev pub placed : ℕ → List (List ℕ) → List LineWord
placed place [] = []
placed place (piece ∷ pieces) = record { place = place; text = piece } ∷ placed (place + length piece + 1) pieces

abbrev pub is_word : LineWord → Bool
is_word piece = nat_lt 0 (length piece.text)

-- The words of bytes that begin at a place: what stands between their blanks and tabs, where anything does.
unfoldable pub words_at : ℕ → List ℕ → List LineWord
words_at place bytes = filter is_word (placed place (slice_split is_blank_byte bytes))

abbrev pub line_at : ℕ → List ℕ → UnreadLine
line_at place bytes = record { words = words_at place bytes; end = place + length bytes }
