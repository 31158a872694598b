-- How a region is kept: the bytes of its texts, and for each text where it ends.
use Rattle.std.specs.Prelude.{◌≡◌, ℕ, ◌+◌, ◌^◌, ◌<◌, ◌≤◌, Bool, ◌==◌, ◌&&◌, ◌||◌, nat_lt, List, [], ◌∷◌, length, slice_index, slice_range, vec_len}
use Rattle.std.specs.Vec.{vec_capacity}
use Rattle.dataspace.specs.declared.spot.Spot.{Spot}
use Rattle.dataspace.specs.declared.region.Region.TheInside.{Inside}
use Rattle.dataspace.specs.Placed.{Placed}

-- The texts that end at these places: the first starts here, and each other where the one before it ends.
abbrev pub texts_from : List ℕ → ℕ → List ℕ → List (List ℕ)
texts_from bytes start [] = []
texts_from bytes start (end ∷ ends) = slice_range bytes start end ∷ texts_from bytes end ends

abbrev pub texts_of : List ℕ → List ℕ → List (List ℕ)
texts_of bytes ends = texts_from bytes 0 ends

-- no text ends before it starts
abbrev pub AreRising : ℕ → List ℕ → Type 0
AreRising start [] = Unit {0}
AreRising start (end ∷ ends) = (start ≤ end) × AreRising end ends

-- where the last text ends
abbrev pub end_of : ℕ → List ℕ → ℕ
end_of start [] = start
end_of start (end ∷ ends) = end_of end ends

-- where the text of a row starts
abbrev pub start_of : List ℕ → ℕ → ℕ
start_of ends row = slice_index (0 ∷ ends) row

-- the row starts or ends before the spot does
abbrev pub is_before : List ℕ → ℕ → Spot → Bool
is_before ends row spot = nat_lt (start_of ends row) spot.start || nat_lt (slice_index ends row) (spot.start + spot.length)

-- the row starts and ends where the spot does
abbrev pub is_row : List ℕ → ℕ → Spot → Bool
is_row ends row spot = start_of ends row == spot.start && slice_index ends row == spot.start + spot.length

-- The last text ends where the bytes do, and there is room.
pub record IsKept (region : Inside) : Type 0 where
  pub rising : AreRising 0 region.ends.items
  pub whole : end_of 0 region.ends.items ≡ length region.bytes.items
  pub bytes : vec_len region.bytes ≤ region.byte_room
  pub rows : vec_len region.ends ≤ region.row_room
  pub byte_capacity : region.byte_room ≤ vec_capacity region.bytes
  pub row_capacity : region.row_room ≤ vec_capacity region.ends
  pub byte_room : region.byte_room < 2 ^ 32
  pub row_room : region.row_room < 2 ^ 32

-- what contracts see of a region
abbrev pub seen : Inside → Placed
seen region = record { texts = texts_of region.bytes.items region.ends.items; bytes = region.byte_room; rows = region.row_room }
