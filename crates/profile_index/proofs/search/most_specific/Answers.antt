use Rattle.std.proofs.Common.{◌∙◌, ap, sym, subst}
use Rattle.std.specs.Option.{option_copied}
use Rattle.profile_index.proofs.PassedLaws.{Passed, kind-passed, passed-before, passed-gap, passed-found, passed-all, place-found, place-none}
use Rattle.profile_index.specs.Places.{IsFirst}
use Rattle.generic_names.specs.Covers.{covers}
use Rattle.profile_index.proofs.search.most_specific.Goals as goal

pub loop-run-init : goal.loop-run-init
loop-run-init g c =
    passed-before c.args.name.now c.args.list.now c.is_resource.ensures c.requires.ordered c.requires.named c.requires.kinds c.order_key.result (option_copied c.first_from-next.result) c.order_key.ensures c.first_from-next.ensures

pub returns-in_err-entry : goal.returns-in_err-entry
returns-in_err-entry g c =
    ap (λ n. option_copied n) c.from_residual.ensures
    ∙ passed-all c.args.name.now c.args.list.now c.is_resource.ensures c.requires.ordered c.requires.named c.requires.kinds
    (subst (λ n. Passed c.args.name.now c.args.list.now (option_copied n)) c.in_err-entry.was c.loop-run.invariant)

pub covers-requires : goal.covers-requires
covers-requires g c =
    kind-passed c.args.name.now c.args.list.now c.requires.kinds c.in_ok-entry.entry.now
    (subst (λ n. Passed c.args.name.now c.args.list.now (option_copied n)) c.in_ok-entry.was c.loop-run.invariant)

pub returns-then-covers : goal.returns-then-covers
returns-then-covers g c =
    passed-found c.args.name.now c.args.list.now c.is_resource.ensures c.requires.ordered c.requires.named c.requires.kinds c.in_ok-entry.entry.now
    (subst (λ n. Passed c.args.name.now c.args.list.now (option_copied n)) c.in_ok-entry.was c.loop-run.invariant)
    (sym c.covers.ensures ∙ c.if-covers.true)

pub gap-requires : goal.gap-requires
gap-requires g c =
    kind-passed c.args.name.now c.args.list.now c.requires.kinds c.in_ok-entry.entry.now
    (subst (λ n. Passed c.args.name.now c.args.list.now (option_copied n)) c.in_ok-entry.was c.loop-run.invariant)

pub loop-run-preserved : goal.loop-run-preserved
loop-run-preserved g c =
    passed-gap c.args.name.now c.args.list.now c.is_resource.ensures c.requires.ordered c.requires.named c.requires.kinds c.in_ok-entry.entry.now c.in-Some.gap (option_copied c.first_behind-next.result)
    (subst (λ n. Passed c.args.name.now c.args.list.now (option_copied n)) c.in_ok-entry.was c.loop-run.invariant)
    c.in-Some.ensures.none c.first_behind-next.ensures

pub returns-in_err-place : goal.returns-in_err-place
returns-in_err-place g c =
    ap (λ n. option_copied n) c.from_residual-in_err-place.ensures
    ∙ place-none c.args.name.now c.args.list.now c.is_resource.ensures c.requires.ordered c.requires.named c.requires.kinds
    (subst (λ n. IsFirst (λ e. covers e.name c.args.name.now) c.args.list.now n) c.in_err-place.was c.first_that_covers.ensures.first)

pub returns : goal.returns
returns g c =
    place-found c.args.name.now c.args.list.now c.is_resource.ensures c.requires.ordered c.requires.named c.requires.kinds c.in_ok-place.place c.at.result.now
    (subst (λ n. IsFirst (λ e. covers e.name c.args.name.now) c.args.list.now n) c.in_ok-place.was c.first_that_covers.ensures.first)
    c.at.ensures
