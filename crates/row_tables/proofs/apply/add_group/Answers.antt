use Rattle.std.proofs.Common.{◌∙◌, ◌++◌, [], ◌∷◌, ap, sym}
use Rattle.racf_profiles.specs.Lookup.{is_group}
use Rattle.row_tables.proofs.RowLaws.{put_row-new}
use Rattle.row_tables.proofs.apply.add_group.Goals as goal

pub returns-clause-groups : goal.returns-clause-groups
returns-clause-groups c =
    let groups = c.args.tree.now.groups in
    let group = c.args.group.now in
    c.in-Ok.ensures.groups
    ∙ ap (λ s. groups ++ record { id = group.id; superior = s; owner = group.owner } ∷ []) (sym c.in-Some.is)
    ∙ sym (put_row-new (is_group group.id) group groups c.requires.absent)
