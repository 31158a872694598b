-- One member further.
use Rattle.std.proofs.Common.{◌≡◌, ◌∙◌, ◌+◌, ◌-◌, ◌<◌, ◌||◌, List, length, fold, take, sym, ap, arith}
use Rattle.std.specs.List.{list_any}
use Rattle.std.proofs.lemmas.List.Sums.{fold_more}
use Rattle.racf_profiles.specs.declared.profiles.Member.{Member}
use Rattle.command_rules.specs.Members.{member_name, is_member_named, with_member, without_members}
use Rattle.command_rules.proofs.ListCounts.{members-more}
use Rattle.command_rules.proofs.LengthAfterPuts.{one_less}
use Rattle.command_rules.proofs.members.members_count.Goals as goal

pub loop-i-preserved : goal.loop-i-preserved
loop-i-preserved c =
    let put = with_member in
    let list = (without_members c.args.gone.now c.args.old.now) in
    let items = c.args.added.now in
    let i = c.loop-i.i in
    let item = c.index-added-i.result in
    let within : i < length items = omega arith in
    let next : fold put list (take (i + 1) items) ≡ put (fold put list (take i items)) item = fold_more put list items i item within ∙ ap (put (fold put list (take i items))) (sym c.index-added-i.is) in
    one_less (list_any (is_member_named (member_name c.index-added-i.result)) (without_members c.args.gone.now c.args.old.now) || list_any (is_member_named (member_name c.index-added-i.result)) (take i items))
    c.loop-i.count (length (fold put list (take i items))) (length (fold put list (take (i + 1) items))) (length items - (i + 1)) c.repeats-count.result
    (omega arith)
    (ap (λ (xs : List Member). length xs) next ∙ members-more list (take i items) item)
    c.repeats-count.ensures
