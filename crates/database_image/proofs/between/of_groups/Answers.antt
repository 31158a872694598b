use Rattle.std.proofs.Common.{◌≡◌, Some, subst, arith}
use Rattle.racf_profiles.specs.declared.groups.Group.{Group}
use Rattle.std.proofs.Common.{List}
use Rattle.racf_profiles.specs.Lookup.{find_group}
use Rattle.database_image.proofs.BetweenLaws.{found-itself}
use Rattle.database_image.proofs.between.of_groups.Goals as goal

pub of_group-broken-requires-clause-found : goal.of_group-broken-requires-clause-found
of_group-broken-requires-clause-found c =
    subst (λ (groups : List Group). find_group groups c.group-item.result.id ≡ Some c.group-item.result) c.requires.whole
    (found-itself c.args.groups.now c.loop-group.group-index c.group-item.result c.requires.distinct (omega arith) c.group-item.is)
