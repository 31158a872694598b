use Rattle.std.proofs.Common.{◌≡◌, ◌∙◌, ◌<◌, ◌≤◌, ℕ, List, Some, length, get_or, sym, ap, arith}
use Rattle.std.specs.Prelude.{slice_get, slice_range}
use Rattle.dataspace.specs.Kept.{start_of}
use Rattle.dataspace.proofs.KeptLaws.{row-seen, rows-seen}
use Rattle.dataspace.proofs.region.Region.row.Goals as goal

-- The row is one of those that are kept.
pub start_of-start-requires : goal.start_of-start-requires
start_of-start-requires c =
    omega (arith, ap length c.deref.ensures.value, ap (λ r. length r.texts) c.self.view_is, rows-seen c.self.inside, c.requires)

pub end_of-end-requires : goal.end_of-end-requires
end_of-end-requires c =
    omega (arith, ap length c.deref-2.ensures.value, ap (λ r. length r.texts) c.self.view_is, rows-seen c.self.inside, c.requires)

-- Its text starts and ends within the bytes.
below : (c : goal.After-deref-3) → c.args.row < length c.self.inside.ends.items
below c = omega (arith, ap (λ r. length r.texts) c.self.view_is, rows-seen c.self.inside, c.requires)

start : (c : goal.After-deref-3) → c.start_of-start.result ≡ start_of c.self.inside.ends.items c.args.row
start c = c.start_of-start.ensures ∙ ap (λ (ends : List ℕ). start_of ends c.args.row) c.deref.ensures.value

end : (c : goal.After-deref-3) → c.end_of-end.result ≡ get_or c.self.inside.ends.items c.args.row 0
end c = c.end_of-end.ensures ∙ ap (λ (ends : List ℕ). get_or ends c.args.row 0) c.deref-2.ensures.value

pub slice_bounds-result-count : goal.slice_bounds-result-count
slice_bounds-result-count c =
    let seen = row-seen c.self.inside c.self.invariant c.args.row (below c) in
    omega (arith, seen.0, start c, end c)

pub slice_bounds-result-start : goal.slice_bounds-result-start
slice_bounds-result-start c =
    let seen = row-seen c.self.inside c.self.invariant c.args.row (below c) in
    let within : c.start_of-start.result ≤ c.end_of-end.result = omega (arith, seen.0, start c, end c) in
    within

pub slice_bounds-result-end : goal.slice_bounds-result-end
slice_bounds-result-end c =
    let seen = row-seen c.self.inside c.self.invariant c.args.row (below c) in
    let within : c.end_of-end.result ≤ length c.deref-3.result.now = omega (arith, seen.1, end c, ap length c.deref-3.ensures.value) in
    within

pub returns : goal.returns
returns c =
    let bytes = c.self.inside.bytes.items in
    let ends = c.self.inside.ends.items in
    let below : c.args.row < length ends = omega (arith, ap (λ r. length r.texts) c.self.view_is, rows-seen c.self.inside, c.requires) in
    let seen = row-seen c.self.inside c.self.invariant c.args.row below in
    let start : c.start_of-start.result ≡ start_of ends c.args.row = c.start_of-start.ensures ∙ ap (λ (e : List ℕ). start_of e c.args.row) c.deref.ensures.value in
    let end : c.end_of-end.result ≡ get_or ends c.args.row 0 = c.end_of-end.ensures ∙ ap (λ (e : List ℕ). get_or e c.args.row 0) c.deref-2.ensures.value in
    sym (ap (λ r. slice_get r.texts c.args.row) c.self.view_is)
    ∙ seen.2
    ∙ ap (λ n. Some (slice_range bytes n (get_or ends c.args.row 0))) (sym start)
    ∙ ap (λ n. Some (slice_range bytes c.start_of-start.result n)) (sym end)
    ∙ ap (λ xs. Some (slice_range xs c.start_of-start.result c.end_of-end.result)) (sym c.deref-3.ensures.value)
