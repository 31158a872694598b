use Rattle.std.proofs.Common.{◌≡◌, ◌∙◌, ◌∷◌, ◌<◌, ◌+◌, ap, sym, get_or, length, arith}
use Rattle.generic_names.specs.Reading.{rest_at}
use Rattle.generic_names.specs.Ranked.{ranks_within}
use Rattle.generic_names.proofs.RankLaws.{ranks_at-past, ranks_at-end, ranks_at-byte}
use Rattle.generic_names.proofs.order.step_at.Goals as goal
use Rattle.generic_names.proofs.order.step_at.Goals.{then-at-text-2-via-then-at-text-2, then-at-text-2-via-else-at-text-2+then-text-at-eq46}

pub returns-then-at-text-clause-end : goal.returns-then-at-text-clause-end
returns-then-at-text-clause-end c _ = ranks_at-past c.args.text.now c.args.begins c.args.at c.if-at-text.true

pub returns-then-at-text-2-clause-next : goal.returns-then-at-text-2-clause-next
returns-then-at-text-2-clause-next c _ =
    let ends : c.args.at < length c.args.text.now → get_or c.args.text.now c.args.at 0 ≡ 46 = λ l.
    elim c.then-at-text-2.branch [
      | then-at-text-2-via-then-at-text-2 w ↦ absurd (omega arith)
      | then-at-text-2-via-else-at-text-2+then-text-at-eq46 w ↦ w.if-text-at-eq46.true
    ] in
    ranks_at-end c.args.text.now c.args.begins c.args.at c.if-at-text.false ends

pub returns-clause-next : goal.returns-clause-next
returns-clause-next c _ =
    let rest = ranks_within (rest_at c.args.text.now (c.args.at + 1)) in
    ranks_at-byte c.args.text.now c.args.begins c.args.at (omega arith) c.if-text-at-eq46.false (sym c.begins_double.ensures.test ∙ c.if-begins_double.false)
    ∙ ap (λ r. r ∷ rest) (sym c.rank_of.ensures.rank)
