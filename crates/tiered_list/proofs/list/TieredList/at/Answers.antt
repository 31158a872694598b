use Rattle.std.proofs.Common.{◌∙◌, ap, sym, arith, length}
use Rattle.std.specs.List.{slice_get}
use Rattle.std.proofs.lemmas.Option.{get_or_from_slice_get}
use Rattle.tiered_list.proofs.RowLaws.{get_at}
use Rattle.tiered_list.proofs.list.TieredList.at.Goals as goal

pub returns-clause-there : goal.returns-clause-there
returns-clause-there g c =
    let list = c.self.inside in
    let ok = list.rows.ok.0 in
    let seen = ap (λ v. length v.items) c.self.view_is in
    let kept = c.self.invariant in
    ap (λ v. slice_get v.items c.args.place) (sym c.self.view_is)
    ∙ get_at list.rows.items list.len c.args.place c.index.result.now kept.tiered (omega (arith, seen, kept.len, c.requires)) (omega (arith, ok, kept.room)) c.index.ensures c.index-2.result.now c.index-2.ensures

pub returns-clause-value : goal.returns-clause-value
returns-clause-value g c = sym (get_or_from_slice_get c.args.self.now.items c.args.place c.index-2.result.now c.index-2.result.now (returns-clause-there g c))
