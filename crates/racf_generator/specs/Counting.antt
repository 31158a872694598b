-- The counts of what lines say, line by line.
use Rattle.std.specs.Prelude.{ℕ, ◌+◌, List, ◌++◌, length, count_by, codes, decimal, if◌then◌else◌}
use Rattle.racf_generator.specs.Tally.{says_accepted, says_refused, says_answered, says_denied}

-- a sink that counts, as its callers see it
pub record TalliedOutput : Type 0 where
  pub taken : List ℕ  -- the bytes that it took
  pub faults : ℕ  -- its count of faults, at most 2^64 - 1

-- how many lines there are, and how many say what
pub record Counted : Type 0 where
  pub lines : ℕ
  pub accepted : ℕ
  pub refused : ℕ
  pub answered : ℕ
  pub denied : ℕ

-- the counts of these lines
unfoldable pub counted : List (List ℕ) → Counted
counted lines = record {
  lines = length lines;
  accepted = count_by says_accepted lines;
  refused = count_by says_refused lines;
  answered = count_by says_answered lines;
  denied = count_by says_denied lines;
}

-- the counts with one more line
abbrev pub counted_next : Counted → List ℕ → Counted
counted_next counts line = record {
  lines = counts.lines + 1;
  accepted = counts.accepted + (if says_accepted line then 1 else 0);
  refused = counts.refused + (if says_refused line then 1 else 0);
  answered = counts.answered + (if says_answered line then 1 else 0);
  denied = counts.denied + (if says_denied line then 1 else 0);
}

-- how many lines said what, as text
abbrev pub counts_text : Counted → List ℕ
counts_text counts =
    (codes " ACCEPTED " ++ decimal counts.accepted) ++ (codes " REFUSED " ++ decimal counts.refused)
    ++ (codes " ANSWERED " ++ decimal counts.answered) ++ (codes " DENIED " ++ decimal counts.denied)
