-- What the lines of a stream's output say, counted, and the line that tells the counts.
use Rattle.std.specs.Prelude.{ℕ, ◌-◌, ◌==◌, Bool, not, ◌&&◌, List, ◌++◌, length, take, count_by, option_map, unwrap_or, None, codes, decimal, bytes_eq}
use Rattle.std.specs.List.{before_first, after_first, last_or, list_all}
use Rattle.generic_names.specs.Spelled.{is_empty}
use Rattle.generic_names.specs.Faults.{is_digit}
use Rattle.racf_outside.specs.Lines.{parts}

-- The lines of an output: the parts of it that a line feed ended.
unfoldable pub ended_lines : List ℕ → List (List ℕ)
ended_lines output = take (length (parts output) - 1) (parts output)

-- ---- the words of a line, which blanks (32) part
abbrev pub is_blank : ℕ → Bool
is_blank byte = byte == 32

abbrev pub first_word : List ℕ → List ℕ
first_word line = before_first is_blank line

abbrev pub second_word : List ℕ → List ℕ
second_word line = before_first is_blank (after_first is_blank line)

abbrev pub is_number : List ℕ → Bool
is_number word = not (is_empty word) && list_all is_digit word

-- ---- what a line says: its first word is the number of the commands accepted so far. Behind it stand ACCEPTED or
-- REFUSED, or the return code of a request that is answered. That access is denied has the return code 8.
abbrev pub says_accepted : List ℕ → Bool
says_accepted line = bytes_eq (second_word line) (codes "ACCEPTED")

abbrev pub says_refused : List ℕ → Bool
says_refused line = bytes_eq (second_word line) (codes "REFUSED")

abbrev pub says_answered : List ℕ → Bool
says_answered line = is_number (first_word line) && is_number (second_word line)

abbrev pub says_denied : List ℕ → Bool
says_denied line = says_answered line && bytes_eq (second_word line) (codes "8")

-- ---- the counts, and the number that the last line has
pub record Tally : Type 0 where
  pub accepted : ℕ
  pub refused : ℕ
  pub answered : ℕ
  pub denied : ℕ
  pub number : List ℕ

unfoldable pub tally : List (List ℕ) → Tally
tally lines = record {
  accepted = count_by says_accepted lines;
  refused = count_by says_refused lines;
  answered = count_by says_answered lines;
  denied = count_by says_denied lines;
  number = unwrap_or (option_map first_word (last_or None lines)) (codes "0");
}

-- The line that tells them, of a stream of so many lines.
abbrev pub summary : ℕ → Tally → List ℕ
summary lines counts =
    codes "/* LINES " ++ decimal lines ++ codes " ACCEPTED " ++ decimal counts.accepted ++ codes " REFUSED " ++ decimal counts.refused
    ++ codes " ANSWERED " ++ decimal counts.answered ++ codes " DENIED " ++ decimal counts.denied ++ codes " NUMBER " ++ counts.number ++ codes "\n"
