-- Rows in the order of their keys, which are compared byte by byte.
use Rattle.std.specs.Prelude.{◌≡◌, ℕ, Bool, true, not, List, [], ◌∷◌, ◌++◌, filter}
use Rattle.std.specs.List.{list_all}
use Rattle.std.specs.Ordering.{nat_cmp, is_lt}
use Rattle.std.specs.Cmp.Lexicographic.{slice_cmp}
use Rattle.std.specs.Str.{bytes_eq}

-- whether a key stands before another
abbrev pub is_before : List ℕ → List ℕ → Bool
is_before a b = is_lt (slice_cmp nat_cmp a b)

module _ {R : Type 0} (key : R → List ℕ) where
  -- each row stands before all behind it, so no key comes twice
  abbrev pub IsInOrder : List R → Type 0
  IsInOrder [] = Unit {0}
  IsInOrder (row ∷ rows) = (list_all (λ other. is_before (key row) (key other)) rows ≡ true) × IsInOrder rows

  -- whether a row has this key
  abbrev pub has_key : List ℕ → R → Bool
  has_key k row = bytes_eq (key row) k

  -- the rows before a row, the row itself, and the rows behind it
  abbrev pub with_row : R → List R → List R
  with_row row rows = filter (λ other. is_before (key other) (key row)) rows ++ row ∷ filter (λ other. is_before (key row) (key other)) rows

  -- the rows of other keys
  abbrev pub without_row : List ℕ → List R → List R
  without_row k rows = filter (λ row. not (has_key k row)) rows
