use Rattle.raclist_image.proofs.Places.{copies-more}
use Rattle.raclist_image.proofs.copies.CopyList.of.Goals as goal

-- one class more
pub loop-place-preserved : goal.loop-place-preserved
loop-place-preserved c = copies-more c.args.classes.now c.loop-place.place c.at.result.now c.loop-place.copies.items c.push_if_listed.new.copies.items c.at.ensures c.loop-place.invariant c.in_ok-push_if_listed.ensures
