-- From which place on a group is looked for among the groups of a user. This is how the place is found, and says
-- nothing of which place it is.
use Rattle.std.specs.Prelude.{◌≡◌, ◌≢◌, ℕ, ◌+◌, ◌*◌, ◌%◌, ◌<◌, ◌≤◌, List, [], length, get_or, fold}

-- The slot of a group, one of 2,048, by its spelling.
abbrev pub slot_of : List ℕ → ℕ
slot_of text = fold (λ slot byte. (slot * 31 + byte) % 2048) 0 text

-- A group of this slot has its place at the start or behind it.
abbrev pub IsStart : List (List ℕ) → ℕ → ℕ → Type 0
IsStart groups slot start = (start ≤ length groups) × ((place : ℕ) → place < start → slot_of (get_or groups place []) ≢ slot)

abbrev pub AreStarts : List (List ℕ) → List ℕ → Type 0
AreStarts groups starts = (length starts ≡ 2048) × ((slot : ℕ) → slot < 2048 → IsStart groups slot (get_or starts slot 0))
