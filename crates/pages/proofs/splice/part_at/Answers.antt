use Rattle.std.proofs.Common.{◌+◌, ◌<◌, sym, subst, length, take, drop}
use Rattle.std.specs.List.{flat_map}
use Rattle.pages.proofs.Seams.{split_at_part}
use Rattle.pages.proofs.splice.part_at.Goals as goal

pub returns : goal.returns
returns g c =
    let f = g.P.Part.items in
    let ps = c.args.parts.now in
    let k = c.locate-k.result.0 in
    let p = c.index-parts-k.result in
    record {
      front = flat_map f (take k ps);
      back = flat_map f (drop (k + 1) ps);
      among = split_at_part f ps k p c.index-parts-k.is c.locate-k.ensures.part;
      start = c.locate-k.ensures.start;
      within = subst (λ r. c.locate-k.result.1 < length (f r)) (sym c.index-parts-k.is) (c.locate-k.ensures.within p);
    }
