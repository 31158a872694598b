use Rattle.std.proofs.Common.{◌≡◌, ◌<◌, take}
use Rattle.access_lists.specs.Places.{slot_of}
use Rattle.access_lists.proofs.places.slot_of.Given as goal

abbrev pub invariant-loop-byte : goal.invariant-loop-byte
invariant-loop-byte l = (l.slot ≡ slot_of (take l.byte-index l.byte-items)) × (l.slot < 2048)
