-- One profile more than before, at most.
use Rattle.std.proofs.Common.{◌∙◌, ap, arith}
use Rattle.generic_names.specs.Spelled.{Spelled}
use Rattle.row_tests.proofs.class_tests.with_name.Goals as goal

pub with_profile-requires-clause-few : goal.with_profile-requires-clause-few
with_profile-requires-clause-few c =
    let old = c.args.table.now in
    let p = c.in_ok-profile.profile in
    let kind = ap (λ (n : Spelled). n.kind) c.in_ok-profile.ensures.name ∙ c.in-Ok.ensures.kind ∙ c.kind.ensures in
    let step = c.puts_are_counted.ensures.length old.kind p old.profiles c.len.ensures.lawful kind in
    omega (arith, step, c.len.ensures.count)
