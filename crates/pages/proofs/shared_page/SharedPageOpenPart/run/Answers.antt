use Rattle.std.proofs.Common.{◌≡◌, ◌≤◌, ◌+◌, ◌++◌, ◌∙◌, length, map, drop, take, subst, sym, ap, append_assoc, arith}
use Rattle.std.specs.List.{flat_map}
use Rattle.std.specs.Arc.{arc_value}
use Rattle.pages.proofs.Seams.{drop_within, length_up_to}
use Rattle.pages.proofs.shared_page.SharedPageOpenPart.run.Goals as goal

pub returns-clause-within : goal.returns-clause-within
returns-clause-within g c =
    let ps = c.args.parts.now in
    let up_to = length_up_to (λ page. page) ps c.locate-k.result.0 c.locate-k.result.1 c.args.place c.index-parts-k.result c.index-parts-k.is c.locate-k.ensures.part c.locate-k.ensures.start in
    omega (arith, up_to, c.locate-k.ensures.start, ap length c.parts.ensures.items, c.run.ensures.within)

pub returns-clause-items : goal.returns-clause-items
returns-clause-items g c =
    let ps = c.args.parts.now in
    let k = c.locate-k.result.0 in
    let j = c.locate-k.result.1 in
    let p = c.index-parts-k.result in
    let n = length c.run.result.now in
    let rows = map arc_value c.run.result.now in
    let back = flat_map (λ page. page) (drop (k + 1) ps) in
    let end : j + n ≤ length p = omega (arith, ap length c.parts.ensures.items, c.run.ensures.within) in
    let start : j ≤ length p = omega (arith, end) in
    let sum : length (flat_map (λ page. page) (take k ps)) + (j + n) ≡ c.args.place + n = omega (arith, c.locate-k.ensures.start) in
    let within = drop_within (λ page. page) ps k j c.args.place p c.index-parts-k.is c.locate-k.ensures.part c.locate-k.ensures.start in
    let run = subst (λ items. drop j items ≡ rows ++ drop (j + n) items) c.parts.ensures.items c.run.ensures.items in
    within c.args.place j c.locate-k.ensures.start start
    ∙ ap (λ l. l ++ back) run
    ∙ append_assoc rows (drop (j + n) p) back
    ∙ ap (λ l. rows ++ l) (sym (within (c.args.place + n) (j + n) sum end))
