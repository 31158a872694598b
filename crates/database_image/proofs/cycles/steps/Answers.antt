use Rattle.std.proofs.Common.{◌≡◌, ℕ, List, Option, take, cond, bytes_eq, sym, ap, ◌∙◌, arith}
use Rattle.std.specs.Option.{option_or, option_and_then}
use Rattle.std.proofs.lemmas.List.{take_all}
use Rattle.indexmap.specs.IndexMap.{get}
use Rattle.racf_profiles.specs.declared.groups.Group.{Group}
use Rattle.racf_profiles.specs.Lookup.{find_group}
use Rattle.database_image.specs.Ways.{above}
use Rattle.database_image.proofs.Maps.{kept, kept-more, kept-all, above-absent, climbed-one, through-index}
use Rattle.database_image.proofs.cycles.steps.Goals as goal

pub loop-group-preserved : goal.loop-group-preserved
loop-group-preserved c = λ id.
    let groups = c.args.groups.now in
    let i = c.loop-group.group-index in
    let group = c.group-item.result in
    let end : c.above.result ≡ above groups group.id = c.above.ensures ∙ ap (option_and_then (λ (superior : Option (List ℕ)). superior)) (c.requires group.id) ∙ through-index (find_group groups group.id) in
    c.in_ok-put.ensures id
    ∙ ap (λ e. cond (bytes_eq group.id id) (option_or e (get bytes_eq c.loop-group.ways id)) (get bytes_eq c.loop-group.ways id)) end
    ∙ ap (λ o. cond (bytes_eq group.id id) (option_or (above groups group.id) o) o) (c.loop-group.invariant id)
    ∙ ap (λ (row : Group). cond (bytes_eq row.id id) (option_or (above groups row.id) (kept (above groups) (take i groups) id)) (kept (above groups) (take i groups) id)) c.group-item.is
    ∙ kept-more (above groups) groups i group id (omega arith)

pub returns : goal.returns
returns c = λ id.
    let groups = c.args.groups.now in
    c.loop-group.invariant id ∙ ap (λ (so_far : List Group). kept (above groups) so_far id) (take_all c.loop-group.group-index groups (omega arith))
    ∙ kept-all (above groups) groups id (above-absent groups id) ∙ sym (climbed-one groups id)
