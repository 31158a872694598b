use Rattle.std.proofs.Common.{◌∙◌, ◌+◌, ◌≤◌, Some, length, sym, ap, subst}
use Rattle.std.specs.Prelude.{IsTrue, slice_range}
use Rattle.std.proofs.lemmas.Option.{same_Some}
use Rattle.dataspace.specs.Placed.{text_at, has}
use Rattle.dataspace.proofs.SpotLaws.{text-stays, placed-text}
use Rattle.dataspace.proofs.KeptLaws.{had-seen}
use Rattle.dataspace.proofs.region.Region.text.Goals as goal

pub slice_bounds-result-end : goal.slice_bounds-result-end
slice_bounds-result-end c =
    let spot = c.args.spot in
    let had = had-seen c.self.inside c.self.invariant spot (subst (λ r. IsTrue (has r.texts spot)) (sym c.self.view_is) c.requires) in
    let within : spot.start + spot.length ≤ length c.deref.result.now = subst (λ xs. spot.start + spot.length ≤ length xs) (sym c.deref.ensures.value) had.0 in
    within

pub returns-clause-text : goal.returns-clause-text
returns-clause-text c =
    let spot = c.args.spot in
    let had = had-seen c.self.inside c.self.invariant spot (subst (λ r. IsTrue (has r.texts spot)) (sym c.self.view_is) c.requires) in
    sym (ap (λ r. text_at r.texts spot) c.self.view_is) ∙ had.1 ∙ ap (λ xs. Some (slice_range xs spot.start (spot.start + spot.length))) (sym c.deref.ensures.value)

pub returns-clause-own : goal.returns-clause-own
returns-clause-own c text h = same_Some _ text (sym (returns-clause-text c) ∙ placed-text c.args.self.now.texts text c.args.spot h)

pub returns-clause-stays : goal.returns-clause-stays
returns-clause-stays c later = text-stays 0 c.args.self.now.texts later c.args.spot _ (returns-clause-text c)
