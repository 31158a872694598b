use Rattle.std.proofs.Common.{◌++◌, ◌∙◌, [], length, take, drop, ap, unwrap_or, length-append, arith}
use Rattle.std.specs.List.{flat_map}
use Rattle.pages.proofs.Seams.{flat_map_halves}
use Rattle.pages.proofs.shared_page.SharedPage.one_or_two.Goals as goal

pub holding-requires-2-clause-room : goal.holding-requires-2-clause-room
holding-requires-2-clause-room g c =
    let f = g.P.Part.items in
    let ps = c.args.parts.items in
    let whole = ap length (flat_map_halves f ps 16) in
    let sum = length-append (flat_map f (take 16 ps)) (flat_map f (drop 16 ps)) in
    let is = ap (λ l. length (flat_map f l)) c.in_ok-back.ensures.items in
    omega (arith, whole, sum, is, c.requires.room)

pub holding-requires-3-clause-room : goal.holding-requires-3-clause-room
holding-requires-3-clause-room g c =
    let f = g.P.Part.items in
    let ps = c.args.parts.items in
    let whole = ap length (flat_map_halves f ps 16) in
    let sum = length-append (flat_map f (take 16 ps)) (flat_map f (drop 16 ps)) in
    let is = ap (λ l. length (flat_map f l)) c.in_ok-back.ensures.tail in
    omega (arith, whole, sum, is, c.requires.room)

pub returns : goal.returns
returns g c =
    let f = g.P.Part.items in
    c.change_of-2.ensures
    ∙ ap (λ l. l ++ unwrap_or c.in_ok-holding-3.field-0 []) (c.in_ok-holding-2.ensures ∙ ap (λ l. flat_map f l) c.in_ok-back.ensures.items)
    ∙ ap (λ l. flat_map f (take 16 c.args.parts.items) ++ l) (c.in_ok-holding-3.ensures ∙ ap (λ l. flat_map f l) c.in_ok-back.ensures.tail)
    ∙ flat_map_halves f c.args.parts.items 16
