use Rattle.std.proofs.Common.{◌≡◌, ◌+◌, ◌-◌, ◌/◌, ◌∙◌, true, length, sym, subst, arith}
use Rattle.std.specs.List.{list_any}
use Rattle.std.proofs.lemmas.List.{get_or_default}
use Rattle.pages.proofs.RisingLaws.{any_at, none_through}
use Rattle.pages.proofs.search.first_part.Goals as goal

pub loop-low-preserved-then-last_passes : goal.loop-low-preserved-then-last_passes
loop-low-preserved-then-last_passes g c =
    let passes = g.Q.Probe.passes c.args.probe.now in
    let f = g.P.Part.items in
    let part = c.index-parts-middle.result in
    let middle = c.loop-low.low + (c.loop-low.high - c.loop-low.low) / 2 in
    let last = c.last_passes.ensures in
    let found = any_at passes (f part) (length (f part) - 1) last.0 last.1 (sym last.2 ∙ c.if-last_passes.true) in
    record {
      ordered = omega arith;
      within = omega arith;
      none = c.loop-low.invariant.none;
      some = λ d h. subst (λ r. list_any passes (f r) ≡ true) (c.index-parts-middle.is ∙ get_or_default c.args.parts.now middle part d h) found;
    }

pub loop-low-preserved : goal.loop-low-preserved
loop-low-preserved g c =
    let passes = g.Q.Probe.passes c.args.probe.now in
    let f = g.P.Part.items in
    let part = c.index-parts-middle.result in
    let middle = c.loop-low.low + (c.loop-low.high - c.loop-low.low) / 2 in
    let last = c.last_passes.ensures in
    record {
      ordered = omega arith;
      within = c.loop-low.invariant.within;
      none = none_through passes f c.args.parts.now middle part c.index-parts-middle.is (omega arith) last.0 c.requires last.1 (sym last.2 ∙ c.if-last_passes.false);
      some = c.loop-low.invariant.some;
    }
