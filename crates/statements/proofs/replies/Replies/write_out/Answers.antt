use Rattle.std.proofs.Common.{ℕ, List, ◌++◌, ◌∙◌, ap, subst}
use Rattle.statements.specs.Gathering.{IsCutShort}
use Rattle.statements.proofs.Settling.{cut_behind, at_fault}
use Rattle.statements.proofs.replies.Replies.write_out.Goals as goal

pub returns-in_err-write_all-2-clause-front : goal.returns-in_err-write_all-2-clause-front
returns-in_err-write_all-2-clause-front g c =
    let first = c.as_slice.result.now in
    let second = c.as_slice-2.result.now in
    at_fault c.from_residual-in_err-write_all-2.result
    (subst (λ (bytes : List ℕ). IsCutShort bytes (g.O.Sink.taken c.args.sink.now) (g.O.Sink.taken c.write_all-2.new.sink))
    (ap (λ (bytes : List ℕ). bytes ++ second) c.as_slice.ensures.value ∙ ap (λ (bytes : List ℕ). c.self.inside.text.items ++ bytes) c.as_slice-2.ensures.value ∙ c.self.view_is)
    (cut_behind first second _ _ _ c.in_ok-write_all.ensures.all c.in_err-write_all-2.ensures.front))
