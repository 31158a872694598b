-- A disk at one moment: what a read gives, and what a crash may leave.
use Rattle.std.specs.Prelude.{ℕ, ◌+◌, ◌<◌, ◌≤◌, ◌≡◌, min, max, Bool, false, not, ◌&&◌, nat_lt, List, [], ◌∷◌, ◌++◌, length, take, drop, get_or}
use Rattle.std.specs.List.{list_any}

pub record Moment : Type 0 where
  pub bytes : List ℕ  -- what a read gives
  pub written : List (ℕ × ℕ)  -- the ranges written since the last sync that succeeded: first place, place behind
  pub shortest : ℕ  -- the shortest end that the file has had since that sync
  pub longest : ℕ  -- the longest

-- a place lies in one of these ranges
abbrev pub is_written : List (ℕ × ℕ) → ℕ → Bool
is_written ranges place = list_any (λ range. not (nat_lt place range.0) && nat_lt place range.1) ranges

-- What a crash may leave: the end lies anywhere from the shortest to the longest. What was written since the last sync,
-- and what lies past the shortest end, may be any bytes; every other byte stays.
pub record IsImage (moment : Moment) (image : List ℕ) : Type 0 where
  pub no_shorter : moment.shortest ≤ length image
  pub no_longer : length image ≤ moment.longest
  pub stays : (place : ℕ) → place < moment.shortest → is_written moment.written place ≡ false → get_or image place 0 ≡ get_or moment.bytes place 0

-- Nothing is in doubt: a crash leaves what a read gives.
abbrev pub durable : List ℕ → Moment
durable bytes = record { bytes = bytes; written = []; shortest = length bytes; longest = length bytes }

-- behind a write of these bytes at a place: that range is in doubt now, and so is an end that grew
abbrev pub written : ℕ → List ℕ → Moment → Moment
written place bytes moment =
    record {
      bytes = take place moment.bytes ++ (bytes ++ drop (place + length bytes) moment.bytes);
      written = (place, place + length bytes) ∷ moment.written;
      shortest = moment.shortest;
      longest = max moment.longest (place + length bytes);
    }

-- behind a cut to a length: the file may end there, and what was cut off may come back
abbrev pub cut_to : ℕ → Moment → Moment
cut_to end moment =
    record { bytes = take end moment.bytes; written = moment.written; shortest = min moment.shortest end; longest = moment.longest }

-- behind a sync: nothing is in doubt any more
abbrev pub synced : Moment → Moment
synced moment = durable moment.bytes

-- a read gives these bytes, and a crash may leave what it might have left
abbrev pub reads_as : List ℕ → Moment → Moment
reads_as bytes moment = record { bytes = bytes; written = moment.written; shortest = moment.shortest; longest = moment.longest }
