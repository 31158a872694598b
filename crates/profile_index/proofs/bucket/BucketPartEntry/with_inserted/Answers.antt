use Rattle.std.proofs.Common.{◌≤◌, length, ap, length-append, arith}
use Rattle.std.specs.Arc.{arc_value}
use Rattle.profile_index.proofs.BucketLaws.{length-around}
use Rattle.profile_index.proofs.bucket.BucketPartEntry.with_inserted.Goals as goal

pub returns-clause-placed : goal.returns-clause-placed
returns-clause-placed g c =
    let xs = c.args.self.now in
    let whole = ap length c.in_ok-front.ensures in
    let sum = length-append c.in_ok-front.front c.in_ok-front.back in
    let around = length-around xs c.args.place c.args.place (arc_value c.args.item) c.requires.place in
    let most : length xs ≤ 16 = omega (arith, c.self.invariant.most, c.self.invariant.counted, ap length c.self.view_is) in
    omega (arith, c.two-2.ensures.placed, c.names_length.ensures, c.names_length-2.ensures, whole, sum, around, most)
