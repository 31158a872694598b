use Rattle.std.proofs.Common.{◌≤◌, ◌+◌, ◌++◌, ◌∙◌, ◌∷◌, [], length, map, drop, sym, ap, arith}
use Rattle.std.specs.List.{flat_map}
use Rattle.std.specs.Arc.{arc_value}
use Rattle.pages.proofs.Singles.{length-singles, drop_singles}
use Rattle.pages.proofs.part.ArcOpenPart.run.Goals as goal

pub split_at-requires : goal.split_at-requires
split_at-requires g c = omega (arith, length-singles arc_value c.args.parts.now, c.requires)

pub returns-clause-items : goal.returns-clause-items
returns-clause-items g c =
    let size = length-singles arc_value c.args.parts.now in
    let at : c.args.place ≤ length c.args.parts.now = omega (arith, size, c.requires) in
    drop_singles arc_value c.args.parts.now c.args.place at
    ∙ ap (λ l. map arc_value l ++ drop (c.args.place + length l) (flat_map (λ item. arc_value item ∷ []) c.args.parts.now)) (sym c.split_at.ensures.back)

pub returns-clause-some : goal.returns-clause-some
returns-clause-some g c = omega (arith, length-singles arc_value c.args.parts.now, c.requires, c.split_at.ensures.back_len)

pub returns-clause-within : goal.returns-clause-within
returns-clause-within g c = omega (arith, length-singles arc_value c.args.parts.now, c.requires, c.split_at.ensures.back_len)
