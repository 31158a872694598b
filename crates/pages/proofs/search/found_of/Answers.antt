use Rattle.std.proofs.Common.{◌≡◌, ◌<◌, ◌∙◌, true, false, length, ap, sym, subst, slice_get, arith}
use Rattle.std.specs.List.{flat_map, list_any, position_or_len}
use Rattle.std.proofs.lemmas.List.{take_all}
use Rattle.pages.specs.Rising.{reaches}
use Rattle.pages.proofs.Seams.{get_within, get_past}
use Rattle.pages.proofs.RisingLaws.{rises_part, position_of_none, position_within, found_in_part}
use Rattle.pages.proofs.search.found_of.Goals as goal

pub returns-then-k-parts : goal.returns-then-k-parts
returns-then-k-parts g c =
    let passes = reaches g.P.KeyedPart.key_of c.args.key.now in
    let f = g.P.Part.items in
    let ps = c.args.parts.now in
    let k = c.first_part-k.result in
    let none = subst (λ l. list_any passes (flat_map f l) ≡ false) (take_all k ps (omega arith)) c.first_part-k.ensures.none in
    sym (ap (λ n. slice_get (flat_map f ps) n) (position_of_none passes (flat_map f ps) none) ∙ get_past (flat_map f ps))

pub found_by_key-requires : goal.found_by_key-requires
found_by_key-requires g c = rises_part (reaches g.P.KeyedPart.key_of c.args.key.now) g.P.Part.items c.args.parts.now c.first_part-k.result c.index-parts-k.result c.index-parts-k.is (omega arith) c.requires

pub returns : goal.returns
returns g c =
    let passes = reaches g.P.KeyedPart.key_of c.args.key.now in
    let f = g.P.Part.items in
    let ps = c.args.parts.now in
    let p = c.index-parts-k.result in
    let k = c.first_part-k.result in
    let at : k < length ps = omega arith in
    let some = subst (λ r. list_any passes (f r) ≡ true) (sym c.index-parts-k.is) (c.first_part-k.ensures.some p at) in
    let found = found_in_part passes f ps k p c.index-parts-k.is at c.first_part-k.ensures.none some in
    c.found_by_key.ensures
    ∙ sym (get_within f ps k (position_or_len passes (f p)) (position_or_len passes (flat_map f ps)) p c.index-parts-k.is at (sym found) (position_within passes (f p) some))
