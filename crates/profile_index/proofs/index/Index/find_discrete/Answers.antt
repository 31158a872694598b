use Rattle.std.proofs.Common.{ap, subst, find}
use Rattle.profile_index.specs.Indexed.{has_name, IsPlaceOf}
use Rattle.profile_index.proofs.PlaceLaws.{place-from-first}
use Rattle.profile_index.proofs.index.Index.find_discrete.Goals as goal

pub returns-clause-place : goal.returns-clause-place
returns-clause-place g c =
    let view = ap (λ x. x.entries) c.self.view_is in
    subst (λ xs. IsPlaceOf xs (find (has_name c.args.name.now) xs) c.place_of.result) view (place-from-first (has_name c.args.name.now) c.self.inside.slots.entries c.place_of.result c.place_of.ensures.first)
