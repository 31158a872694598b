-- The lines of an input.
use Rattle.std.specs.Prelude.{ℕ, ◌==◌, ◌≢◌, nat_lt, if◌then◌else◌, List, [], ◌∷◌, ◌++◌, ◌≡◌, length, All}
use Rattle.std.specs.List.{slice_split}
use Rattle.std.specs.Io.BufRead.{strip_last}

-- a line: its text, or that it is too long
pub data Line : Type 0 where
  Text : List ℕ → Line
  TooLong : Line

-- The line whose bytes, without its line feed, are these: over 4,096 of them are too long; else one carriage return
-- (13) at their end is no part of the text.
abbrev pub line_of : List ℕ → Line
line_of raw = if nat_lt 4096 (length raw) then TooLong else Text (strip_last 13 raw)

-- the bytes before the first line feed (10), between each two, and behind the last
abbrev pub parts : List ℕ → List (List ℕ)
parts bytes = slice_split (λ b. b == 10) bytes

-- the lines of all parts but the last, which no line feed ended
abbrev pub whole_of : List (List ℕ) → List Line
whole_of [] = []
whole_of (last ∷ []) = []
whole_of (part ∷ next ∷ more) = line_of part ∷ whole_of (next ∷ more)

-- the lines of all parts, but of the last only where it isn't empty
abbrev pub all_of : List (List ℕ) → List Line
all_of [] = []
all_of ([] ∷ []) = []
all_of ((b ∷ bs) ∷ []) = line_of (b ∷ bs) ∷ []
all_of (part ∷ next ∷ more) = line_of part ∷ all_of (next ∷ more)

-- the lines that a line feed ended: those of an input of which more may come
abbrev pub whole_lines : List ℕ → List Line
whole_lines bytes = whole_of (parts bytes)

-- the lines of a whole input: its end too ends a line, and behind the last line feed an empty rest is none
abbrev pub lines : List ℕ → List Line
lines bytes = all_of (parts bytes)

-- no line feed is among the bytes
abbrev pub NoFeed : List ℕ → Type 0
NoFeed bytes = All (λ b. b ≢ 10) bytes

-- The bytes `read` of an input are exactly its lines `walked`: whatever comes next, its lines come next.
pub record IsWalked (read : List ℕ) (walked : List Line) : Type 0 where
  pub whole : (more : List ℕ) → whole_lines (read ++ more) ≡ walked ++ whole_lines more
  pub all : (more : List ℕ) → lines (read ++ more) ≡ walked ++ lines more
