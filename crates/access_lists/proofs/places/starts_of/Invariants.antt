use Rattle.std.proofs.Common.{◌≡◌, ◌≢◌, ℕ, ◌<◌, ◌≤◌, [], length, get_or}
use Rattle.access_lists.specs.Places.{slot_of}
use Rattle.access_lists.proofs.places.starts_of.Given as goal

abbrev pub invariant-loop-place : goal.invariant-loop-place
invariant-loop-place l = (length l.starts ≡ 2048) × ((slot : ℕ) → slot < 2048 → (get_or l.starts slot 0 ≤ length l.groups) × ((k : ℕ) → k < l.place → k < get_or l.starts slot 0 → slot_of (get_or l.groups k []) ≢ slot))
