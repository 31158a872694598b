-- The test of whether a crash may leave an image, down both lists.
use Rattle.std.specs.Prelude.{ℕ, zero, suc, Bool, true, false, ◌&&◌, ◌||◌, ◌==◌, nat_le, List, [], ◌∷◌, length}
use Rattle.racf_outside.specs.Moments.{Moment, is_written}

-- the first `count` bytes of both, which stand from a place on, agree but for those that were written
abbrev pub agree : List (ℕ × ℕ) → ℕ → ℕ → List ℕ → List ℕ → Bool
agree ranges zero place bytes image = true
agree ranges (suc count) place [] image = false
agree ranges (suc count) place (b ∷ bytes) [] = false
agree ranges (suc count) place (b ∷ bytes) (c ∷ image) =
    (is_written ranges place || c == b) && agree ranges count (suc place) bytes image

-- a crash at this moment may leave this image
abbrev pub is_image : Moment → List ℕ → Bool
is_image moment image =
    nat_le moment.shortest (length image) && (nat_le (length image) moment.longest && agree moment.written moment.shortest 0 moment.bytes image)
