use Rattle.std.proofs.Common.{Some, None, ap, subst, find}
use Rattle.profile_index.specs.Indexed.{has_name, IsPlaceOf}
use Rattle.profile_index.proofs.NamedLaws.{place-there, place-missing}
use Rattle.profile_index.proofs.index.Index.find_named.Goals as goal

pub returns-in-Ok : goal.returns-in-Ok
returns-in-Ok g c =
    subst (λ xs. IsPlaceOf xs (find (has_name c.args.name.now) xs) (Some c.in-Ok.place)) (ap (λ x. x.entries) c.self.view_is)
    (place-there c.args.name.now c.self.inside.slots.entries c.in-Ok.place c.in-Ok.ensures.there)

pub returns-in-Err : goal.returns-in-Err
returns-in-Err g c =
    subst (λ xs. IsPlaceOf xs (find (has_name c.args.name.now) xs) None) (ap (λ x. x.entries) c.self.view_is)
    (place-missing c.args.name.now c.self.inside.slots.entries c.in-Err.field-0 c.in-Err.ensures.missing)
