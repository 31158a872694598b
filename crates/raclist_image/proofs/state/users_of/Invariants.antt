use Rattle.std.proofs.Common.{◌≡◌, take}
use Rattle.raclist_image.proofs.state.users_of.Given as goal

-- the users so far
abbrev pub invariant-loop-user : goal.invariant-loop-user
invariant-loop-user l = l.items.items ≡ take l.user-index l.users
