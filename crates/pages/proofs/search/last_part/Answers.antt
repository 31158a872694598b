use Rattle.std.proofs.Common.{◌≡◌, ◌<◌, ◌+◌, ◌-◌, ◌++◌, ◌∙◌, length, take, drop, ap, arith, length-append}
use Rattle.std.specs.List.{flat_map}
use Rattle.std.proofs.lemmas.List.{drop_all}
use Rattle.pages.proofs.Seams.{some_part, get_within, split_at_part}
use Rattle.pages.proofs.search.last_part.Goals as goal

pub returns : goal.returns
returns g c =
    let f = g.P.Part.items in
    let ps = c.args.parts.now in
    let k = length ps - 1 in
    let p = c.index-parts-end.result in
    let some : 0 < length (f p) = c.has_an_item.ensures in
    let at : k < length ps = omega (arith, some_part f ps c.requires) in
    let whole = ap length (split_at_part f ps k p c.index-parts-end.is at) in
    let sum = length-append (flat_map f (take k ps)) (f p ++ flat_map f (drop (k + 1) ps)) in
    let nothing : length (f p ++ flat_map f (drop (k + 1) ps)) ≡ length (f p) + 0 =
    length-append (f p) (flat_map f (drop (k + 1) ps)) ∙ ap (λ l. length (f p) + length (flat_map f l)) (drop_all (k + 1) ps (omega arith)) in
    let start : length (flat_map f (take k ps)) + (length (f p) - 1) ≡ length (flat_map f ps) - 1 = omega (arith, whole, sum, nothing, some) in
    get_within f ps k (length (f p) - 1) (length (flat_map f ps) - 1) p c.index-parts-end.is at start (omega (arith, some))
