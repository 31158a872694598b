-- Words of buckets: the keys of entries, the regions in which these lie, and the lengths of the names.
use Rattle.std.specs.Prelude.{◌≡◌, ℕ, ◌+◌, ◌-◌, ◌<◌, ◌≤◌, List, ◌++◌, length, map, slice_get, sum_by, IsSomeAnd}
use Rattle.dataspace.specs.declared.room.Room.{Room}
use Rattle.dataspace.specs.Placed.{Placed}
use Rattle.dataspace.specs.Rooms.{room_for, placed_in}
use Rattle.generic_names.specs.OrderKey.{order_key}
use Rattle.pages.specs.KeyBegin.{begin_of, AreBytes}
use Rattle.pages.specs.PartAt.{IsPartAt}
use Rattle.profile_index.specs.declared.entry.Entry.{Entry}

-- both rooms together
abbrev pub both : Room → Room → Room
both one other = record { bytes = one.bytes + other.bytes; rows = one.rows + other.rows }

-- the region of these keys: of just their room, in which they were placed in their order
abbrev pub region_of : List (List ℕ) → Placed
region_of keys = placed_in (room_for keys) keys

-- Of keys that lie in regions, one region behind another, the key of this place lies in this region, as the text of this
-- row. The region has just the room of the keys that lie in it.
pub record IsRegionAt (keys : List (List ℕ)) (place : ℕ) (region : Placed) (row : ℕ) : Type 0 where
  pub part : IsPartAt keys place region.texts row
  pub just : region ≡ region_of region.texts

-- Entries with which a bucket is filled, and the room for the keys of all that are to come.
pub record Filled (T : Type 0) : Type 0 where
  pub entries : List (Entry T)
  pub room : Room

module _ {T : Type 0} where
  -- the key of an entry's name
  abbrev pub key_of : Entry T → List ℕ
  key_of e = order_key e.name.text

  -- the lengths of the names of entries, summed
  abbrev pub names_length : List (Entry T) → ℕ
  names_length entries = sum_by (λ e. length e.name.text) entries

  -- the room that the keys of entries take
  abbrev pub keys_room : List (Entry T) → Room
  keys_room entries = room_for (map key_of entries)

  -- with these entries behind the others
  abbrev pub with_entries : Filled T → List (Entry T) → Filled T
  with_entries filled entries = record { entries = filled.entries ++ entries; room = filled.room }

  -- there is room for the keys of the entries
  pub record HasRoom (filled : Filled T) : Type 0 where
    pub bytes : (keys_room filled.entries).bytes ≤ filled.room.bytes
    pub rows : length filled.entries ≤ filled.room.rows

  -- the keys are those of the entries, and there is space for as many entries as keys
  pub record IsFilling (keys : Placed) (entries : List (Entry T)) (size : ℕ) : Type 0 where
    pub texts : keys.texts ≡ map key_of entries
    pub space : keys.rows ≤ size

  -- the key of the last entry has this begin
  abbrev pub EndsWith : List (Entry T) → ℕ → Type 0
  EndsWith entries begin = IsSomeAnd (slice_get (map key_of entries) (length entries - 1)) (λ key. (begin ≡ begin_of key) × AreBytes key)

  -- a bucket counts its entries, of which there is one at least, and 16 at most, and keeps the begin of the last one's
  -- key
  pub record IsBucket (entries : List (Entry T)) (count begin : ℕ) : Type 0 where
    pub counted : count ≡ length entries
    pub some : 0 < count
    pub most : count ≤ 16
    pub ends : EndsWith entries begin

-- The most bytes of names that lie in the buckets which one change makes anew: those of a full one, and of the new
-- name.
abbrev pub most_placed : ℕ
most_placed = 4182
