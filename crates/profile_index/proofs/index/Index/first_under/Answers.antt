use Rattle.std.proofs.Common.{ap, subst, find}
use Rattle.profile_index.specs.Indexed.{is_under, IsPlaceOf}
use Rattle.profile_index.proofs.PlaceLaws.{place-from-first}
use Rattle.profile_index.proofs.index.Index.first_under.Goals as goal

pub returns : goal.returns
returns g c =
    subst (λ xs. IsPlaceOf xs (find (is_under c.args.qualifier.now) xs) c.first_under.result) (ap (λ x. x.entries) c.self.view_is)
    (place-from-first (is_under c.args.qualifier.now) c.self.inside.slots.entries c.first_under.result c.first_under.ensures)
