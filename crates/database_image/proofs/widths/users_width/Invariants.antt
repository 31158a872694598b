use Rattle.std.proofs.Common.{◌≡◌, take}
use Rattle.std.specs.List.{sum_by}
use Rattle.database_image.specs.Facts.{user_width}
use Rattle.database_image.proofs.widths.users_width.Given as goal

abbrev pub invariant-loop-user : goal.invariant-loop-user
invariant-loop-user l = l.width ≡ sum_by user_width (take l.user-index l.users)
