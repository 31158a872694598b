use Rattle.std.proofs.Common.{◌≡◌, ◌<◌, ◌+◌, ◌∙◌, length, take, drop, ap, sym, subst, refl, true, not, length-append, arith}
use Rattle.std.specs.List.{flat_map, list_any, position_or_len}
use Rattle.std.proofs.lemmas.List.{take_all}
use Rattle.std.proofs.lemmas.List.Sums.{prefix_len-le-length}
use Rattle.pages.proofs.Seams.{flat_map_halves, length_up_to}
use Rattle.pages.proofs.RisingLaws.{rises_part, position_of_none, found_in_part}
use Rattle.pages.proofs.search.first_of.Goals as goal

pub total-before-requires : goal.total-before-requires
total-before-requires g c =
    let f = g.P.Part.items in
    let ps = c.args.parts.now in
    let k = c.first_part-k.result in
    omega (arith, ap length (flat_map_halves f ps k), length-append (flat_map f (take k ps)) (flat_map f (drop k ps)), c.requires.room)

pub returns-then-k-parts : goal.returns-then-k-parts
returns-then-k-parts g c =
    let passes = g.Q.Probe.passes c.args.probe.now in
    let f = g.P.Part.items in
    let ps = c.args.parts.now in
    let k = c.first_part-k.result in
    c.total-before.ensures
    ∙ sym (position_of_none passes (flat_map f (take k ps)) c.first_part-k.ensures.none)
    ∙ ap (λ l. position_or_len passes (flat_map f l)) (take_all k ps (omega arith))

pub first_in-requires : goal.first_in-requires
first_in-requires g c = rises_part (g.Q.Probe.passes c.args.probe.now) g.P.Part.items c.args.parts.now c.first_part-k.result c.index-parts-k.result c.index-parts-k.is (omega arith) c.requires.rises

pub overflow_add-result : goal.overflow_add-result
overflow_add-result g c =
    let f = g.P.Part.items in
    let ps = c.args.parts.now in
    let p = c.index-parts-k.result in
    let k = c.first_part-k.result in
    let up_to = length_up_to f ps k 0 (length (flat_map f (take k ps)) + 0) p c.index-parts-k.is (omega arith) refl in
    let size = prefix_len-le-length (λ x. not (g.Q.Probe.passes c.args.probe.now x)) (f p) in
    omega (arith, up_to, size, c.total-before.ensures, c.first_in.ensures, c.requires.room)

pub returns : goal.returns
returns g c =
    let passes = g.Q.Probe.passes c.args.probe.now in
    let f = g.P.Part.items in
    let ps = c.args.parts.now in
    let k = c.first_part-k.result in
    let p = c.index-parts-k.result in
    let at : k < length ps = omega arith in
    let some = subst (λ r. list_any passes (f r) ≡ true) (sym c.index-parts-k.is) (c.first_part-k.ensures.some p at) in
    let found = found_in_part passes f ps k p c.index-parts-k.is at c.first_part-k.ensures.none some in
    omega (arith, found, c.total-before.ensures, c.first_in.ensures)
