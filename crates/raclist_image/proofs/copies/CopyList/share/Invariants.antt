use Rattle.std.proofs.Common.{◌≡◌, take}
use Rattle.raclist_image.proofs.copies.CopyList.share.Given as goal

-- the copies so far
abbrev pub invariant-loop-copy : goal.invariant-loop-copy
invariant-loop-copy l = l.copies.items ≡ take l.copy-index l.self
