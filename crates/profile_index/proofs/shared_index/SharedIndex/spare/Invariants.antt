use Rattle.std.proofs.Common.{◌≡◌, ◌-◌, length}
use Rattle.dataspace.specs.Rooms.{none}
use Rattle.profile_index.proofs.shared_index.SharedIndex.spare.Given as goal

abbrev pub invariant-loop-place : goal.invariant-loop-place
invariant-loop-place g l = l.sum ≡ none

abbrev pub decreases-loop-place : goal.decreases-loop-place
decreases-loop-place g l = length l.self - l.place
