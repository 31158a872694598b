use Rattle.std.proofs.Common.{◌≡◌, ◌≤◌, length, Some, is_some, ◌∙◌, arith}
use Rattle.std.specs.Prelude.{not, ◌&&◌}
use Rattle.racf_profiles.specs.Lookup.{find_group}
use Rattle.database_image.specs.Ways.{is_reached}
use Rattle.database_image.proofs.BetweenLaws.{there-by, superior-holds, some-superior}
use Rattle.database_image.proofs.between.of_group.Goals as goal

pub returns : goal.returns
returns c =
    let groups = c.args.rows.now.groups in
    let group = c.args.group.now in
    let superior = c.in_ok-superior.superior in
    let up : group.superior ≡ Some superior = c.in_ok-superior.was in
    let there : c.is_there-there.result ≡ is_some (find_group groups superior) = c.is_there-there.ensures ∙ there-by groups superior _ (c.requires.index superior) in
    let below : c.contains-below_itself.result ≡ is_reached 8192 groups group.id = c.contains-below_itself.ensures ∙ c.requires.ends group.id in
    let few : length groups ≤ 8192 = omega (arith, c.requires.few) in
    c.unless.ensures
    ∙ some-superior c.args.rows.now c.args.place group superior (c.is_there-there.result && not c.contains-below_itself.result) up
    (superior-holds groups group superior c.is_there-there.result c.contains-below_itself.result few c.requires.found up there below)
