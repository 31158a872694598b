use Rattle.std.proofs.Common.{◌≡◌, ◌∙◌, true, ap, bytes_eq}
use Rattle.racf_profiles.specs.declared.groups.Group.{Group}
use Rattle.racf_profiles.specs.Lookup.{is_group, find_group}
use Rattle.racf_profiles.specs.Edits.{put_row}
use Rattle.group_tree.proofs.Rows.{id-find_group, itself}
use Rattle.row_tables.proofs.GroupLaws.{find-put_row, put_row-twice}
use Rattle.row_tables.proofs.apply.alter_group.Goals as goal

pub own_group-requires : goal.own_group-requires
own_group-requires c =
    let group = c.args.group.now in
    let old = c.args.old.now in
    let moved : Group = record old { superior = group.superior } in
    let own : bytes_eq old.id group.id ≡ true = ap (λ n. bytes_eq n group.id) (id-find_group c.args.tree.now.groups group.id old c.requires.there) ∙ itself group.id in
    ap (λ gs. find_group gs group.id) c.move_group.ensures.groups ∙ find-put_row (is_group group.id) moved c.args.tree.now.groups own

pub returns-clause-groups : goal.returns-clause-groups
returns-clause-groups c =
    let group = c.args.group.now in
    let old = c.args.old.now in
    let moved : Group = record old { superior = group.superior } in
    let own : bytes_eq old.id group.id ≡ true = ap (λ n. bytes_eq n group.id) (id-find_group c.args.tree.now.groups group.id old c.requires.there) ∙ itself group.id in
    c.own_group.ensures.groups ∙ ap (put_row (is_group group.id) group) c.move_group.ensures.groups ∙ put_row-twice (is_group group.id) moved group c.args.tree.now.groups own
