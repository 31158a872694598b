use Rattle.std.proofs.Common.{◌∙◌, ap, arith}
use Rattle.std.specs.List.{insert}
use Rattle.command_values.proofs.ClausePlaces.{put-place}
use Rattle.command_values.proofs.log_options.put_clause.Goals as goal

pub returns : goal.returns
returns c =
    c.in_ok-insert.ensures.items ∙ ap (λ n. insert c.args.clauses.now.items n c.args.clause) (grind (arith, c.first_behind.ensures, c.unwrap_or-place.ensures, c.len.ensures))
    ∙ put-place c.args.clause c.args.clauses.now.items
