use Rattle.std.proofs.Common.{Bool, Some, take, bytes_eq, sym, ap, ◌∙◌, arith}
use Rattle.std.specs.Prelude.{◌||◌}
use Rattle.std.specs.List.{list_any}
use Rattle.std.specs.Option.{option_eq}
use Rattle.std.proofs.lemmas.List.{take_all}
use Rattle.indexmap.specs.IndexMap.{get}
use Rattle.racf_profiles.specs.declared.groups.Group.{Group}
use Rattle.database_image.specs.Ways.{climbed}
use Rattle.database_image.proofs.Maps.{any-more, any-same}
use Rattle.database_image.proofs.cycles.ends.Goals as goal

pub loop-group-preserved : goal.loop-group-preserved
loop-group-preserved c = λ id.
    let groups = c.args.groups.now in
    let i = c.loop-group.group-index in
    let group = c.group-item.result in
    let ends : Group → Bool = λ (row : Group). option_eq bytes_eq (get bytes_eq c.args.ways.now row.id) (Some id) in
    c.in_ok-note.ensures id
    ∙ ap (λ b. b || option_eq bytes_eq c.end.result (Some id)) (c.loop-group.invariant id)
    ∙ ap (λ o. list_any ends (take i groups) || option_eq bytes_eq o (Some id)) c.end.ensures
    ∙ ap (λ (row : Group). list_any ends (take i groups) || ends row) c.group-item.is
    ∙ sym (any-more ends groups i group (omega arith))

pub returns : goal.returns
returns c = λ n ways id.
    let groups = c.args.groups.now in
    let ends : Group → Bool = λ (row : Group). option_eq bytes_eq (get bytes_eq c.args.ways.now row.id) (Some id) in
    c.loop-group.invariant id ∙ ap (list_any ends) (take_all c.loop-group.group-index groups (omega arith))
    ∙ any-same ends (λ (row : Group). option_eq bytes_eq (climbed n groups row.id) (Some id)) groups (λ row. ap (λ o. option_eq bytes_eq o (Some id)) (ways row.id))
