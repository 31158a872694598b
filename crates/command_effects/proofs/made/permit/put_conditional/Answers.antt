use Rattle.std.proofs.Common.{◌≡◌, ◌∙◌, Err, true, sym, ap, true≢false}
use Rattle.access_levels.specs.declared.entries.CondEntry.{CondEntry}
use Rattle.access_lists.specs.declared.edits.ListFault.{ListFault}
use Rattle.access_lists.specs.Lists.{is_full_when}
use Rattle.command_rules.proofs.ListCounts.{conditional-fits}
use Rattle.command_effects.proofs.made.permit.put_conditional.Goals as goal

-- the list has room for the entry
pub unreachable-requires : goal.unreachable-requires
unreachable-requires c =
    let gives = c.if-command.false in
    let list = c.args.list.now.items in
    let full : is_full_when c.conditional_entry.result list ≡ true =
    c.permit_when.ensures.full.0 (c.in-Err-Full.is ∙ ap (λ (fault : ListFault). Err fault) c.in-Err-Full.field-0-is) in
    true≢false (sym full ∙ ap (λ (entry : CondEntry). is_full_when entry list) c.conditional_entry.ensures
    ∙ conditional-fits c.args.command.now gives c.args.condition.now list c.args.who (c.requires gives))
