-- One ID further.
use Rattle.std.proofs.Common.{◌≡◌, ◌∙◌, ◌+◌, ◌-◌, ◌<◌, ◌||◌, List, length, fold, take, sym, ap, arith}
use Rattle.std.specs.List.{list_any}
use Rattle.std.proofs.lemmas.List.Sums.{fold_more}
use Rattle.access_levels.specs.declared.entries.Entry.{Entry}
use Rattle.access_lists.specs.Lists.{is_for}
use Rattle.access_levels.specs.Entries.{is_same_who}
use Rattle.command_rules.specs.PermitEffects.{with_entry}
use Rattle.command_rules.proofs.ListCounts.{entries-more}
use Rattle.command_rules.proofs.LengthAfterPuts.{one_less, at_least}
use Rattle.command_rules.proofs.permit.count_with.Goals as goal

pub overflow_sub-count : goal.overflow_sub-count
overflow_sub-count c =
    let items = c.args.whos.now in
    let within : c.loop-i.i < length items = omega arith in
    at_least (list_any (is_for c.index-whos-i.result) c.args.list.now || list_any (λ other. is_same_who other c.index-whos-i.result) (take c.loop-i.i items)) c.loop-i.count (length (fold (with_entry c.args.command.now) c.args.list.now (take c.loop-i.i items))) (length items - (c.loop-i.i + 1)) c.repeats-count.result (omega arith) c.repeats-count.ensures

pub loop-i-preserved : goal.loop-i-preserved
loop-i-preserved c =
    let put = (with_entry c.args.command.now) in
    let list = c.args.list.now in
    let items = c.args.whos.now in
    let i = c.loop-i.i in
    let item = c.index-whos-i.result in
    let within : i < length items = omega arith in
    let next : fold put list (take (i + 1) items) ≡ put (fold put list (take i items)) item = fold_more put list items i item within ∙ ap (put (fold put list (take i items))) (sym c.index-whos-i.is) in
    one_less (list_any (is_for c.index-whos-i.result) c.args.list.now || list_any (λ other. is_same_who other c.index-whos-i.result) (take i items))
    c.loop-i.count (length (fold put list (take i items))) (length (fold put list (take (i + 1) items))) (length items - (i + 1)) c.repeats-count.result
    (omega arith)
    (ap (λ (xs : List Entry). length xs) next ∙ entries-more c.args.command.now c.requires list (take i items) item)
    c.repeats-count.ensures
