use Rattle.std.proofs.Common.{Some, None, get_or, cond, bytes_eq, ap, ◌∙◌, arith}
use Rattle.std.specs.Option.{option_or}
use Rattle.indexmap.specs.IndexMap.{get}
use Rattle.racf_profiles.specs.declared.groups.Group.{Group}
use Rattle.database_image.proofs.Maps.{index-more}
use Rattle.database_image.proofs.index.index_of.Goals as goal

pub loop-group-preserved : goal.loop-group-preserved
loop-group-preserved c = λ id.
    let groups = c.args.groups.now in
    let i = c.loop-group.group-index in
    let group = c.group-item.result in
    c.in_ok-put_first.ensures id
    ∙ ap (λ (row : Group). option_or (get bytes_eq c.loop-group.index id) (cond (bytes_eq row.id id) (Some row.superior) None)) c.group-item.is
    ∙ ap (λ o. option_or o (cond (bytes_eq (get_or groups i group).id id) (Some (get_or groups i group).superior) None)) (c.loop-group.invariant id)
    ∙ index-more groups i group id (omega arith)
