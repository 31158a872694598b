-- A region is the list of the texts that were placed in it, in order, and its room.
use Rattle.std.specs.Prelude.{◌≡◌, ℕ, ◌+◌, ◌^◌, ◌<◌, ◌≤◌, Bool, ◌==◌, ◌&&◌, nat_le, nat_lt, if◌then◌else◌, List, [], ◌∷◌, ◌++◌, length, sum_by, Option, None, Some, is_some}
use Rattle.dataspace.specs.declared.spot.Spot.{Spot}

pub record Placed : Type 0 where
  pub texts : List (List ℕ)
  -- the bytes and the rows of its room, free or not
  pub bytes : ℕ
  pub rows : ℕ

-- how many bytes these texts take
abbrev pub used : List (List ℕ) → ℕ
used texts = sum_by (λ text. length text) texts

-- A text of this length fits where its bytes and one row are free.
abbrev pub fits : Placed → ℕ → Bool
fits region size = nat_le (used region.texts + size) region.bytes && nat_lt (length region.texts) region.rows

-- The texts take no more than the room, which is counted in 32 bits.
pub record IsWithinRoom (region : Placed) : Type 0 where
  pub bytes : used region.texts ≤ region.bytes
  pub rows : length region.texts ≤ region.rows
  pub byte_room : region.bytes < 2 ^ 32
  pub row_room : region.rows < 2 ^ 32

-- The spot of a text that is placed behind these: it starts where they end.
abbrev pub spot_behind : List (List ℕ) → List ℕ → Spot
spot_behind texts text = record { start = used texts; length = length text }

-- This text is one of these, and the spot is the one that it got behind those before it.
pub record IsSpotOf (texts : List (List ℕ)) (text : List ℕ) (spot : Spot) : Type 0 where
  pub before : List (List ℕ)
  pub after : List (List ℕ)
  pub among : texts ≡ before ++ text ∷ after
  pub placed : spot ≡ spot_behind before text

-- The text at a spot: the one that starts where the spot does and is as long. These texts stand behind so many bytes.
abbrev pub text_from : ℕ → List (List ℕ) → Spot → Option (List ℕ)
text_from start [] spot = None
text_from start (text ∷ texts) spot = if spot.start == start && spot.length == length text then Some text else text_from (start + length text) texts spot

abbrev pub text_at : List (List ℕ) → Spot → Option (List ℕ)
text_at texts spot = text_from 0 texts spot

-- A spot is had where a text stands at it.
abbrev pub has : List (List ℕ) → Spot → Bool
has texts spot = is_some (text_at texts spot)
