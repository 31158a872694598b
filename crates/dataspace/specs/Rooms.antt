-- Room for texts: so many bytes, and a row for each text.
use Rattle.std.specs.Prelude.{ℕ, ◌+◌, ◌-◌, List, length}
use Rattle.dataspace.specs.declared.room.Room.{Room}
use Rattle.dataspace.specs.Placed.{Placed, used}

-- no room
abbrev pub none : Room
none = record { bytes = 0; rows = 0 }

-- a text more takes its bytes and one row
abbrev pub plus : Room → ℕ → Room
plus room size = record { bytes = room.bytes + size; rows = room.rows + 1 }

-- the room that texts take: their lengths, summed, and their number
abbrev pub room_for : List (List ℕ) → Room
room_for texts = record { bytes = used texts; rows = length texts }

-- what is free of a region's room
abbrev pub spare : Placed → Room
spare region = record { bytes = region.bytes - used region.texts; rows = region.rows - length region.texts }

-- a region of this room, in which these texts were placed
abbrev pub placed_in : Room → List (List ℕ) → Placed
placed_in room texts = record { texts = texts; bytes = room.bytes; rows = room.rows }
