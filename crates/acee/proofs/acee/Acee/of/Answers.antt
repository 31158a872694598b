use Rattle.std.proofs.Common.{sym, ◌∙◌, ap}
use Rattle.acee.specs.Verify.{acee_for, acee_of, acee_of_user, acee_unless}
use Rattle.acee.proofs.acee.Acee.of.Goals as goal

pub returns-in-Err : goal.returns-in-Err
unfolding acee_of
returns-in-Err c =
    let rows = c.args.image.now.state.rows in
    let generation = c.args.image.now.generation in
    let request = c.args.request.now in
    let acee = acee_for rows generation request c.in-Some.user.now in
    (acee, ap (λ user. acee_of_user rows generation request user) (sym c.in-Some.ensures) ∙ ap (λ fault. acee_unless fault acee) (sym c.in_default-first_fault.ensures))
