use Rattle.std.proofs.Common.{◌∙◌, ap, sym}
use Rattle.racf_profiles.specs.Lookup.{is_group}
use Rattle.racf_profiles.specs.Edits.{put_row}
use Rattle.group_tree.specs.Groups.{with_superior}
use Rattle.row_tables.proofs.GroupLaws.{put_row-same, at_group-put_row, option-same}
use Rattle.row_tables.proofs.apply.move_group.Goals as goal

pub returns-then-eq-clause-groups : goal.returns-then-eq-clause-groups
returns-then-eq-clause-groups c =
    let old = c.args.old.now in
    let stays = option-same old.superior c.args.group.now.superior (sym c.eq.ensures ∙ c.if-eq.true) in
    sym (ap (λ s. put_row (is_group c.args.group.now.id) (record old { superior = s }) c.args.tree.now.groups) (sym stays)
    ∙ put_row-same (is_group c.args.group.now.id) old c.args.tree.now.groups c.requires.there)

pub returns-clause-groups : goal.returns-clause-groups
returns-clause-groups c =
    let old = c.args.old.now in
    c.in-Ok.ensures.groups
    ∙ at_group-put_row c.args.group.now.id (with_superior c.in-Some.superior) c.args.tree.now.groups old c.names_are_distinct.ensures.distinct c.requires.there
    ∙ ap (λ s. put_row (is_group c.args.group.now.id) (record old { superior = s }) c.args.tree.now.groups) (sym c.in-Some.is)
