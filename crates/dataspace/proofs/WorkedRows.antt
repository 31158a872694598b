-- Texts in a region, computed by the definitions.
use Rattle.std.proofs.Common.{◌≡◌, ℕ, true, false, List, [], ◌∷◌, map, None, Some, codes, refl}
use Rattle.dataspace.specs.declared.spot.Spot.{Spot}
use Rattle.dataspace.specs.declared.room.Room.{Room}
use Rattle.dataspace.specs.Placed.{Placed, used, fits, spot_behind, text_at, has}
use Rattle.dataspace.specs.Rooms.{none, plus, room_for, spare, placed_in}

abbrev spot : (start length : ℕ) → Spot
spot start length = record { start = start; length = length }

-- A region with room for 6 bytes and 2 rows.
abbrev region : List (List ℕ) → Placed
region texts = record { texts = texts; bytes = 6; rows = 2 }

abbrev both : List (List ℕ)
both = codes "AB" ∷ codes "CDE" ∷ []

first_spot : spot_behind [] (codes "AB") ≡ spot 0 2
first_spot = refl

second_spot : spot_behind (codes "AB" ∷ []) (codes "CDE") ≡ spot 2 3
second_spot = refl

both_read : map (text_at both) (spot 0 2 ∷ spot 2 3 ∷ []) ≡ Some (codes "AB") ∷ Some (codes "CDE") ∷ []
both_read = refl

five_used : used both ≡ 5
five_used = refl

-- One byte is free, but no row.
full : map (fits (region both)) (1 ∷ 0 ∷ []) ≡ false ∷ false ∷ []
full = refl

cleared : used [] ≡ 0
cleared = refl

none_had : has [] (spot 0 2) ≡ false
none_had = refl

all_free : map (fits (region [])) (6 ∷ 7 ∷ []) ≡ true ∷ false ∷ []
all_free = refl

-- No part of a text and no two texts have a spot of their own.
parts : map (has both) (spot 0 1 ∷ spot 1 1 ∷ spot 0 5 ∷ spot 5 0 ∷ []) ≡ false ∷ false ∷ false ∷ false ∷ []
parts = refl

-- An empty text stands where the next one starts, and each is read by its own spot.
empties : map (text_at ([] ∷ codes "A" ∷ [] ∷ [])) (spot 0 0 ∷ spot 0 1 ∷ spot 1 0 ∷ spot 0 2 ∷ []) ≡ Some [] ∷ Some (codes "A") ∷ Some [] ∷ None ∷ []
empties = refl

abbrev room : (bytes rows : ℕ) → Room
room bytes rows = record { bytes = bytes; rows = rows }

-- The room that two texts take, and a third one, which may be empty.
sums : map room_for (both ∷ [] ∷ []) ≡ room 5 2 ∷ none ∷ []
sums = refl

thirds : map (plus (room_for both)) (4 ∷ 0 ∷ []) ≡ room 9 3 ∷ room 5 3 ∷ []
thirds = refl

spares : map spare (region [] ∷ region (codes "AB" ∷ []) ∷ region both ∷ placed_in (room 5 2) both ∷ []) ≡ room 6 2 ∷ room 4 1 ∷ room 1 0 ∷ none ∷ []
spares = refl
