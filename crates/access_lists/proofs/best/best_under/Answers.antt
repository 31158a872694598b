use Rattle.std.proofs.Common.{◌+◌, cond, drop, get_or, sym, ◌∙◌, ap}
use Rattle.std.proofs.lemmas.List.{at_drop_more}
use Rattle.access_lists.specs.Lists.{is_under}
use Rattle.access_lists.specs.Answers.{as_group_entry, first_of_two, group_entry, unconditional, entries_under}
use Rattle.access_lists.proofs.BestLaws.{one_more_under}
use Rattle.access_lists.proofs.best.best_under.Goals as goal

pub loop-entry-preserved : goal.loop-entry-preserved
loop-entry-preserved c =
    let groups = c.args.places.now in
    let port = c.args.port.now in
    let list = c.args.list.now in
    let i = c.loop-entry.entry-index in
    let best = c.loop-entry.best in
    let entry = get_or list i c.entry-item.result in
    ap (λ o. first_of_two o (group_entry groups (entries_under port (drop (i + 1) list))))
    (c.better_under-best.ensures
    ∙ ap (λ e. cond (is_under port e) (first_of_two best (as_group_entry groups (unconditional e))) best) c.entry-item.is)
    ∙ one_more_under groups port best entry (drop (i + 1) list) list
    (sym (at_drop_more (λ xs. first_of_two best (group_entry groups (entries_under port xs))) list i c.entry-item.result c.loop-entry-test.true) ∙ c.loop-entry.invariant)
