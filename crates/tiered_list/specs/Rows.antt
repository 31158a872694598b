-- How a list is kept: in rows of 256 items, of which all are full before one that has an item.
use Rattle.std.specs.Prelude.{◌≡◌, ℕ, ◌-◌, ◌*◌, ◌^◌, ◌<◌, ◌≤◌, List, length, get_or, min, vec_len}
use Rattle.std.specs.List.{flat_map}
use Rattle.std.specs.VecDeque.{deque_len, deque_capacity}
use Rattle.std.specs.declared.collections.VecDeque.{VecDeque}
use Rattle.tiered_list.specs.declared.list.TieredList.TheInside.{Inside}
use Rattle.tiered_list.specs.Tiered.{Tiered}

-- the items of rows, one row behind another
abbrev pub row_items : {T A : Type 0} → List (VecDeque T A) → List T
row_items rows = flat_map (λ row. row.items) rows

-- a row has so many items, and room for 256
pub record IsRow {T A : Type 0} (row : VecDeque T A) (count : ℕ) : Type 0 where
  pub len : deque_len row ≡ count
  pub room : 256 ≤ deque_capacity row

-- Of n items the first row has 256 or all, and so each row of those that are left.
abbrev pub AreTiered : {T A : Type 0} → List (VecDeque T A) → ℕ → Type 0
AreTiered {T} {A} rows n = (k : ℕ) (other : VecDeque T A) → k < length rows → IsRow (get_or rows k other) (min 256 (n - 256 * k))

-- The rows have `len` items, and there are at most 2^24 rows.
pub record IsKept {T : Type 0} (list : Inside T) : Type 0 where
  pub tiered : AreTiered list.rows.items list.len
  pub len : length (row_items list.rows.items) ≡ list.len
  pub room : list.len ≤ 256 * vec_len list.rows
  pub few : vec_len list.rows ≤ 2 ^ 24

-- what contracts see of a list
abbrev pub seen : {T : Type 0} → Inside T → Tiered T
seen list = record { items = row_items list.rows.items; spare = 256 * vec_len list.rows - list.len }
