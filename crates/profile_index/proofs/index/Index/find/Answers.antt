use Rattle.std.proofs.Common.{ap, sym, subst}
use Rattle.generic_names.specs.Covers.{covers}
use Rattle.generic_names.specs.Best.{best}
use Rattle.generic_names.proofs.BestLaws.{best-first}
use Rattle.profile_index.specs.Indexed.{name_of, AreOf, IsPlaceOf}
use Rattle.profile_index.proofs.PlaceLaws.{place-from-first}
use Rattle.profile_index.proofs.index.Index.find.Goals as goal

pub returns : goal.returns
returns g c =
    let name = c.args.name.now in
    let items = c.self.inside.slots.entries in
    let view = ap (λ x. x.entries) c.self.view_is in
    let kinds = subst (λ xs. AreOf name.kind xs) (sym view) c.requires in
    let placed = place-from-first (λ e. covers e.name name) items c.first_that_covers.result c.first_that_covers.ensures.first in
    let best_is = best-first name_of items name c.first_that_covers.ensures.resource c.self.invariant.1 kinds c.self.invariant.0 in
    subst (λ xs. IsPlaceOf xs (best name_of xs name) c.first_that_covers.result) view (subst (λ o. IsPlaceOf items o c.first_that_covers.result) (sym best_is) placed)
