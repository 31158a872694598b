use Rattle.std.proofs.Common.{◌+◌, ◌<◌, ◌++◌, ◌∷◌, [], List, ℕ, length, ap, ◌∙◌, subst, arith, append_assoc}
use Rattle.generic_names.specs.Spelled.{Spelled}
use Rattle.generic_names.specs.Reading.{rest_at}
use Rattle.generic_names.proofs.ReplaceLaws.{joined, replaced-more, replaced-last, replaced-longer, replaced-all, IfNone-from}
use Rattle.generic_names.proofs.member.replaced_in.Goals as goal
use Rattle.generic_names.proofs.member.replaced_in.Goals.{then-end-text+in_ok-push-2, else-end-text}

pub returns-in_err-push-2-clause-too_long : goal.returns-in_err-push-2-clause-too_long
returns-in_err-push-2-clause-too_long c =
    let end = c.qualifier_end-end in
    let out = c.loop-at.name.text in
    let first = ap (λ (n : Spelled). n.text) c.in_ok-push.ensures.pushed ∙ ap (λ xs. out ++ xs) c.stand_in.ensures in
    let long = subst (λ (xs : List ℕ). 246 < length xs + 1) first c.in_err-push-2.ensures.full in
    IfNone-from _ _ (replaced-longer c.args.user.now c.args.group.now out c.args.text.now _ c.loop-at.at end.result c.loop-at.invariant.same end.ensures.within end.ensures.first c.if-end-text.true long)

pub loop-at-preserved : goal.loop-at-preserved
loop-at-preserved c =
    let end = c.qualifier_end-end in
    let out = c.loop-at.name.text in
    let rest = joined c.args.user.now c.args.group.now (rest_at c.args.text.now (end.result + 1)) in
    let first = ap (λ (n : Spelled). n.text) c.in_ok-push.ensures.pushed ∙ ap (λ xs. out ++ xs) c.stand_in.ensures in
    let kind = ap (λ (n : Spelled). n.kind) c.in_ok-push.ensures.pushed ∙ c.loop-at.invariant.kind in
    elim c.if-end-text.branch [
      | then-end-text+in_ok-push-2 w ↦
          let both = ap (λ (n : Spelled). n.text) w.name-is ∙ ap (λ (n : Spelled). n.text) w.in_ok-push-2.ensures.pushed ∙ ap (λ xs. xs ++ 46 ∷ []) first in
          record {
            place = omega arith;
            kind = ap (λ (n : Spelled). n.kind) w.name-is ∙ ap (λ (n : Spelled). n.kind) w.in_ok-push-2.ensures.pushed ∙ kind;
            same = ap (λ xs. xs ++ rest) both ∙ append_assoc _ (46 ∷ []) rest
                ∙ replaced-more c.args.user.now c.args.group.now out c.args.text.now _ c.loop-at.at end.result c.loop-at.invariant.same end.ensures.within end.ensures.first w.if-end-text.true;
          }
      | else-end-text w ↦ record {
        place = omega arith;
        kind = ap (λ (n : Spelled). n.kind) w.name-is ∙ kind;
        same = ap (λ xs. xs ++ rest) (ap (λ (n : Spelled). n.text) w.name-is ∙ first)
            ∙ replaced-last c.args.user.now c.args.group.now out c.args.text.now _ c.loop-at.at end.result c.loop-at.invariant.same end.ensures.within end.ensures.first w.if-end-text.false;
      }
    ]

pub returns-clause-spelling : goal.returns-clause-spelling
returns-clause-spelling c = replaced-all c.args.user.now c.args.group.now c.args.kind c.loop-at.name c.args.text.now _ c.loop-at.at c.loop-at-test.false c.loop-at.invariant.kind c.loop-at.invariant.same
