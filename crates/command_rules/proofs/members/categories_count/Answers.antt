-- One member further.
use Rattle.std.proofs.Common.{◌≡◌, ◌∙◌, ◌+◌, ◌<◌, ℕ, List, length, fold, take, sym, ap, arith}
use Rattle.std.proofs.lemmas.List.Sums.{fold_more}
use Rattle.command_rules.specs.Members.{with_category_name}
use Rattle.command_rules.proofs.ListCounts.{categories-more, category_repeats-le}
use Rattle.command_rules.proofs.members.categories_count.Goals as goal

pub overflow_sub-count : goal.overflow_sub-count
overflow_sub-count c =
    let items = c.args.added.now in
    let within : c.loop-i.i < length items = omega arith in
    omega (arith, category_repeats-le c.index-added-i.result (take c.loop-i.i items) c.args.old.now, c.category_repeats-count.ensures)

pub loop-i-preserved : goal.loop-i-preserved
loop-i-preserved c =
    let list = c.args.old.now in
    let items = c.args.added.now in
    let i = c.loop-i.i in
    let item = c.index-added-i.result in
    let within : i < length items = omega arith in
    let next : fold with_category_name list (take (i + 1) items) ≡ with_category_name (fold with_category_name list (take i items)) item = fold_more with_category_name list items i item within ∙ ap (with_category_name (fold with_category_name list (take i items))) (sym c.index-added-i.is) in
    omega (arith, ap (λ (names : List (List ℕ)). length names) next, categories-more list (take i items) item, c.category_repeats-count.ensures, category_repeats-le item (take i items) list)
