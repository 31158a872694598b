use Rattle.std.proofs.Common.{◌∙◌, ap, sym, cond, Err}
use Rattle.desk_rules.specs.declared.refusal.Refusal.TheVariants.{IssuerRevoked}
use Rattle.desk_rules.specs.Issuers.{current_group, unless_not_connected}
use Rattle.racf_desk.proofs.issuers.unless_revoked.Goals as goal

pub returns : goal.returns
returns c =
    let user = c.args.user.now in
    c.unless_not_connected.ensures ∙ ap (unless_not_connected user c.args.id) c.unwrap_or.ensures
    ∙ sym (ap (λ b. cond b (Err (IssuerRevoked c.args.id)) (unless_not_connected user c.args.id (current_group user c.args.group))) c.if-user.false)
