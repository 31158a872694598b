-- The first eight bytes of a key as a number. Where those of two keys differ, the numbers compare as the keys do.
use Rattle.std.specs.Prelude.{ℕ, zero, suc, ◌+◌, ◌*◌, ◌^◌, ◌<◌, List, [], ◌∷◌}
use Rattle.std.specs.List.{AllByRecursion}

-- so many of the first bytes as a number, the first of them as the highest, and zeros behind a shorter key
abbrev pub first_bytes : ℕ → List ℕ → ℕ
first_bytes zero key = 0
first_bytes (suc count) [] = 0
first_bytes (suc count) (byte ∷ key) = byte * 256 ^ count + first_bytes count key

-- the begin of a key
abbrev pub begin_of : List ℕ → ℕ
begin_of key = first_bytes 8 key

abbrev pub AreBytes : List ℕ → Type 0
AreBytes key = AllByRecursion (λ byte. byte < 256) key
