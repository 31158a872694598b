use Rattle.std.proofs.Common.{◌≡◌, ◌*◌, ◌≤◌, take}
use Rattle.dataspace.specs.Rooms.{room_for}
use Rattle.raclist_image.specs.PlacedNames.{keys_of}
use Rattle.raclist_image.proofs.class_image.ClassImage.room.Given as goal

abbrev pub invariant-loop-profile : goal.invariant-loop-profile
invariant-loop-profile l = record {
  room : l.room ≡ room_for (keys_of (take l.profile-index l.profiles));
  rows : l.room.rows ≡ l.profile-index;
  bytes : l.room.bytes ≤ 248 * l.profile-index;
}
