use Rattle.std.proofs.Common.{Some, None, subst, find}
use Rattle.profile_index.specs.Indexed.{has_name, IsPlaceOf}
use Rattle.profile_index.proofs.NamedLaws.{place-there, place-missing}
use Rattle.profile_index.proofs.shared_index.SharedIndex.find_named.Goals as goal

pub returns-in-Ok : goal.returns-in-Ok
returns-in-Ok g c =
    subst (λ xs. IsPlaceOf xs (find (has_name c.args.name.now) xs) (Some c.in-Ok.place)) c.self.view_is
    (place-there c.args.name.now c.self.inside.entries c.in-Ok.place c.in-Ok.ensures.there)

pub returns-in-Err : goal.returns-in-Err
returns-in-Err g c =
    subst (λ xs. IsPlaceOf xs (find (has_name c.args.name.now) xs) None) c.self.view_is
    (place-missing c.args.name.now c.self.inside.entries c.in-Err.field-0 c.in-Err.ensures.missing)
