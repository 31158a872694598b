use Rattle.std.proofs.Common.{◌≡◌, take}
use Rattle.std.specs.List.{sum_by}
use Rattle.database_image.specs.Facts.{member_width}
use Rattle.database_image.proofs.widths.members_width.Given as goal

abbrev pub invariant-loop-member : goal.invariant-loop-member
invariant-loop-member l = l.width ≡ sum_by member_width (take l.member-index l.members)
