-- One ID further.
use Rattle.std.proofs.Common.{◌≡◌, ◌∙◌, ◌+◌, ◌-◌, ◌<◌, ◌||◌, List, length, fold, take, sym, ap, arith}
use Rattle.std.specs.List.{list_any}
use Rattle.std.proofs.lemmas.List.Sums.{fold_more}
use Rattle.access_levels.specs.declared.entries.CondEntry.{CondEntry}
use Rattle.access_lists.specs.Lists.{is_for_under}
use Rattle.access_levels.specs.Entries.{is_same_who}
use Rattle.command_rules.specs.PermitEffects.{with_conditional}
use Rattle.command_rules.proofs.ListCounts.{conditionals-more}
use Rattle.command_rules.proofs.LengthAfterPuts.{one_less, at_least}
use Rattle.command_rules.proofs.permit.count_with_conditional.Goals as goal

pub overflow_sub-count : goal.overflow_sub-count
overflow_sub-count c =
    let items = c.args.whos.now in
    let within : c.loop-i.i < length items = omega arith in
    at_least (list_any (is_for_under c.args.condition.now c.index-whos-i.result) c.args.list.now || list_any (λ other. is_same_who other c.index-whos-i.result) (take c.loop-i.i items)) c.loop-i.count (length (fold (with_conditional c.args.command.now c.args.condition.now) c.args.list.now (take c.loop-i.i items))) (length items - (c.loop-i.i + 1)) c.repeats_under-count.result (omega arith) c.repeats_under-count.ensures

pub loop-i-preserved : goal.loop-i-preserved
loop-i-preserved c =
    let put = (with_conditional c.args.command.now c.args.condition.now) in
    let list = c.args.list.now in
    let items = c.args.whos.now in
    let i = c.loop-i.i in
    let item = c.index-whos-i.result in
    let within : i < length items = omega arith in
    let next : fold put list (take (i + 1) items) ≡ put (fold put list (take i items)) item = fold_more put list items i item within ∙ ap (put (fold put list (take i items))) (sym c.index-whos-i.is) in
    one_less (list_any (is_for_under c.args.condition.now c.index-whos-i.result) c.args.list.now || list_any (λ other. is_same_who other c.index-whos-i.result) (take i items))
    c.loop-i.count (length (fold put list (take i items))) (length (fold put list (take (i + 1) items))) (length items - (i + 1)) c.repeats_under-count.result
    (omega arith)
    (ap (λ (xs : List CondEntry). length xs) next ∙ conditionals-more c.args.command.now c.requires c.args.condition.now list (take i items) item)
    c.repeats_under-count.ensures
