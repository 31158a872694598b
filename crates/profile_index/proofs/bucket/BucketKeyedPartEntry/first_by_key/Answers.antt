use Rattle.std.proofs.Common.{◌≡◌, ◌+◌, ◌-◌, ◌/◌, ◌∙◌, false, not, Some, ap, sym, subst, arith}
use Rattle.std.specs.List.{slice_get, position_or_len}
use Rattle.std.specs.Ordering.{nat_cmp, is_lt}
use Rattle.std.specs.Cmp.Lexicographic.{slice_cmp}
use Rattle.pages.specs.Rising.{Rises, reaches}
use Rattle.profile_index.specs.Buckets.{key_of}
use Rattle.profile_index.proofs.BucketLaws.{get-mapped, mapped-some, none-through, found-at}
use Rattle.profile_index.proofs.bucket.BucketKeyedPartEntry.first_by_key.Goals as goal

pub loop-low-preserved-then-is_lower : goal.loop-low-preserved-then-is_lower
loop-low-preserved-then-is_lower g c =
    let key = key_of {T = g.row.T.Denot} in
    let sought = c.args.key.now in
    let xs = c.rows-rows.result.now in
    let middle = c.loop-low.low + (c.loop-low.high - c.loop-low.low) / 2 in
    let found = mapped-some key xs middle c.key.result.now c.key.ensures in
    let fails : reaches key sought found.0 ≡ false =
    ap (λ k. not (is_lt (slice_cmp nat_cmp k sought))) (sym found.2) ∙ ap not (sym c.is_lower.ensures ∙ c.if-is_lower.true) in
    let rises = subst (λ l. Rises (reaches key sought) l) (sym c.rows-rows.ensures.rows) c.requires in
    record {
      middle = omega arith;
      within = c.loop-low.invariant.within;
      none = none-through (reaches key sought) xs middle found.0 rises found.1 fails;
      some = c.loop-low.invariant.some;
    }

pub loop-low-preserved : goal.loop-low-preserved
loop-low-preserved g c =
    let key = key_of {T = g.row.T.Denot} in
    let sought = c.args.key.now in
    let xs = c.rows-rows.result.now in
    let middle = c.loop-low.low + (c.loop-low.high - c.loop-low.low) / 2 in
    record {
      middle = omega arith;
      within = omega (arith, c.loop-low.invariant.within);
      none = c.loop-low.invariant.none;
      some = λ e is.
          ap (λ k. not (is_lt (slice_cmp nat_cmp k sought))) (sym (get-mapped key xs middle e c.key.result.now is c.key.ensures))
          ∙ ap not (sym c.is_lower.ensures ∙ c.if-is_lower.false);
    }

pub returns : goal.returns
returns g c =
    let key = key_of {T = g.row.T.Denot} in
    let sought = c.args.key.now in
    let xs = c.rows-rows.result.now in
    let inv = c.loop-low.invariant in
    let same : c.loop-low.low ≡ c.loop-low.high = omega (arith, inv.middle, c.loop-low-test.false) in
    let first = found-at (reaches key sought) xs c.loop-low.low (omega (arith, inv.middle, inv.within)) inv.none
    (λ e is. inv.some e (subst (λ n. slice_get xs n ≡ Some e) same is)) in
    sym first ∙ ap (λ l. position_or_len (reaches key sought) l) c.rows-rows.ensures.rows
