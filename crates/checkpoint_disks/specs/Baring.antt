-- How a file is made one without a checkpoint, and in which order two are.
use Rattle.std.specs.Prelude.{ℕ, ◌≤◌, ◌≡◌, ◌⊎◌, ◌&&◌, false, List, length, Option, None, Some, if◌then◌else◌}
use Rattle.checkpoint_disks.specs.declared.counting.Side.{Side}
use Rattle.checkpoint_disks.specs.declared.counting.Side.TheVariants.{First, Second}
use Rattle.checkpoint_disks.specs.Counting.{which}
use Rattle.checkpoint_disks.specs.Files.{is_formatted, head_is_open}

-- A file that says nothing: its head gate is closed, or it ends with that, and has no epoch.
abbrev pub SaysNothing : (file : List ℕ) → Type 0
SaysNothing file = (head_is_open file ≡ false) ⊎ (length file ≤ 9)

-- What a crash leaves meanwhile: the file as it was, or one that says nothing.
abbrev pub IsBaring : (before file : List ℕ) → Type 0
IsBaring before file = (file ≡ before) ⊎ SaysNothing file

-- the other side than that which counts
abbrev pub not_counting : Option Side → Side
not_counting (Some First) = Second
not_counting (Some Second) = First
not_counting None = First

-- The file that is made bare first: the one that doesn't count. Where one doesn't begin as it has to, nothing is said,
-- and the other is first, so that it doesn't come to be said.
abbrev pub first_to_go : (first second : List ℕ) → Side
first_to_go first second =
    if is_formatted first && is_formatted second then not_counting (which first second)
    else (if is_formatted first then First else Second)
