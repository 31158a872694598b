use Rattle.std.proofs.Common.{◌+◌, drop, get_or, sym, ◌∙◌, ap}
use Rattle.std.proofs.lemmas.List.{at_drop_more}
use Rattle.access_lists.specs.Answers.{as_group_entry, first_of_two, group_entry}
use Rattle.access_lists.proofs.BestLaws.{one_more}
use Rattle.access_lists.proofs.best.best_of.Goals as goal

pub loop-entry-preserved : goal.loop-entry-preserved
loop-entry-preserved c =
    let groups = c.args.places.now in
    let list = c.args.list.now in
    let i = c.loop-entry.entry-index in
    let best = c.loop-entry.best in
    let entry = get_or list i c.entry-item.result in
    ap (λ o. first_of_two o (group_entry groups (drop (i + 1) list))) (c.better-best.ensures
    ∙ ap (λ e. first_of_two best (as_group_entry groups e)) c.entry-item.is)
    ∙ one_more groups best entry (drop (i + 1) list) list
    (sym (at_drop_more (λ xs. first_of_two best (group_entry groups xs)) list i c.entry-item.result c.loop-entry-test.true) ∙ c.loop-entry.invariant)
