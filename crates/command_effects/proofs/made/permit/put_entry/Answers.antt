use Rattle.std.proofs.Common.{◌≡◌, ◌∙◌, Err, true, sym, ap, true≢false}
use Rattle.access_lists.specs.declared.edits.ListFault.{ListFault}
use Rattle.access_lists.specs.Lists.{is_full}
use Rattle.command_rules.proofs.ListCounts.{entry-fits}
use Rattle.command_effects.proofs.made.permit.put_entry.Goals as goal

-- the list has room for the entry
pub unreachable-requires : goal.unreachable-requires
unreachable-requires c =
    let gives = c.if-command.false in
    let full : is_full (record { who = c.args.who; level = c.level_of-level.result }) c.args.list.now.items ≡ true =
    c.permit.ensures.full.0 (c.in-Err-Full.is ∙ ap (λ (fault : ListFault). Err fault) c.in-Err-Full.field-0-is) in
    true≢false (sym full ∙ entry-fits c.args.command.now gives c.args.list.now.items c.args.who (c.requires gives))
