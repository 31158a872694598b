use Rattle.std.proofs.Common.{◌∙◌, ap}
use Rattle.racf_profiles.specs.declared.groups.Group.{Group}
use Rattle.racf_profiles.specs.Lookup.{is_group}
use Rattle.racf_profiles.specs.Edits.{put_row}
use Rattle.group_tree.specs.Groups.{with_owner}
use Rattle.group_tree.proofs.Rows.{id-find_group}
use Rattle.row_tables.proofs.GroupLaws.{at_group-put_row}
use Rattle.row_tables.proofs.apply.own_group.Goals as goal

pub returns-clause-groups : goal.returns-clause-groups
returns-clause-groups c =
    let group = c.args.group.now in
    let moved : Group = record c.args.old.now { superior = group.superior } in
    let name = id-find_group c.args.tree.now.groups group.id moved c.requires in
    c.in-Ok.ensures.groups
    ∙ at_group-put_row group.id (with_owner group.owner) c.args.tree.now.groups moved c.names_are_distinct.ensures.distinct c.requires
    ∙ ap (λ n. put_row (is_group group.id) (record { id = n; superior = group.superior; owner = group.owner }) c.args.tree.now.groups) name
