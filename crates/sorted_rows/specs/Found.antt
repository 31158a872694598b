-- Words of the crate's own search.
use Rattle.std.specs.Prelude.{◌≡◌, ℕ, ◌<◌, ◌≤◌, Bool, true, false, not, List, length, Some}
use Rattle.std.specs.List.{slice_get, position_or_len}
use Rattle.sorted_rows.specs.Sorted.{is_before, has_key}

module _ {R : Type 0} (key : R → List ℕ) (k : List ℕ) where
  -- whether a row has this key, or stands behind it
  abbrev pub is_from : R → Bool
  is_from row = not (is_before (key row) k)

  -- the key is there at this place
  pub record IsFoundAt (rows : List R) (place : ℕ) : Type 0 where
    pub first : place ≡ position_or_len is_from rows
    pub within : place < length rows
    pub there : (row : R) → slice_get rows place ≡ Some row → has_key key k row ≡ true

  -- the key isn't there, and its place would be this
  pub record IsMissingAt (rows : List R) (place : ℕ) : Type 0 where
    pub first : place ≡ position_or_len is_from rows
    pub within : place ≤ length rows
    pub other : (row : R) → slice_get rows place ≡ Some row → has_key key k row ≡ false
