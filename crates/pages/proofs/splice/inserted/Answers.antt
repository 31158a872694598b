use Rattle.std.proofs.Common.{◌+◌, ◌≤◌, ◌++◌, ◌∙◌, ap, sym, subst, length, take, drop, arith}
use Rattle.std.specs.List.{flat_map}
use Rattle.std.specs.Arc.{arc_value}
use Rattle.pages.proofs.Seams.{insert_within, length_within}
use Rattle.pages.proofs.splice.inserted.Goals as goal

pub with_inserted-requires-clause-room : goal.with_inserted-requires-clause-room
with_inserted-requires-clause-room g c =
    let f = g.P.Part.items in
    let ps = c.args.parts.now in
    omega (
      arith,
      length_within f ps c.gap_at-k.result.0 c.gap_at-k.result.1 c.args.place c.index-parts-k.result c.index-parts-k.is c.gap_at-k.ensures.part c.gap_at-k.ensures.start,
      c.requires.room,
    )

pub returns-clause-items : goal.returns-clause-items
returns-clause-items g c =
    let f = g.P.Part.items in
    let ps = c.args.parts.now in
    let k = c.gap_at-k.result.0 in
    let j = c.gap_at-k.result.1 in
    let p = c.index-parts-k.result in
    let within = subst (λ r. j ≤ length (f r)) (sym c.index-parts-k.is) (c.gap_at-k.ensures.within p) in
    c.in_ok-what.ensures.items
    ∙ ap (λ ys. flat_map f (take k ps) ++ (ys ++ flat_map f (drop (k + 1) ps))) c.in_ok-made.ensures.items
    ∙ sym (insert_within f ps k j c.args.place p c.index-parts-k.is c.gap_at-k.ensures.part c.gap_at-k.ensures.start (arc_value c.args.item) within)
