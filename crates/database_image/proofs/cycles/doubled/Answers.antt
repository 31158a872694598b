use Rattle.std.proofs.Common.{ℕ, List, Option, take, cond, bytes_eq, ap, ◌∙◌, arith}
use Rattle.std.specs.Option.{option_or, option_and_then}
use Rattle.std.proofs.lemmas.List.{take_all}
use Rattle.indexmap.specs.IndexMap.{get}
use Rattle.racf_profiles.specs.declared.groups.Group.{Group}
use Rattle.database_image.proofs.Maps.{kept, kept-more, kept-all, twice-absent, twice-climbed}
use Rattle.database_image.proofs.cycles.doubled.Goals as goal

pub loop-group-preserved : goal.loop-group-preserved
loop-group-preserved c = λ id.
    let groups = c.args.groups.now in
    let i = c.loop-group.group-index in
    let group = c.group-item.result in
    let way : List ℕ → Option (List ℕ) = λ from. option_and_then (get bytes_eq c.args.ways.now) (get bytes_eq c.args.ways.now from) in
    c.in_ok-put.ensures id
    ∙ ap (λ e. cond (bytes_eq group.id id) (option_or e (get bytes_eq c.loop-group.twice id)) (get bytes_eq c.loop-group.twice id)) c.second_end.ensures
    ∙ ap (λ o. cond (bytes_eq group.id id) (option_or (way group.id) o) o) (c.loop-group.invariant id)
    ∙ ap (λ (row : Group). cond (bytes_eq row.id id) (option_or (way row.id) (kept way (take i groups) id)) (kept way (take i groups) id)) c.group-item.is
    ∙ kept-more way groups i group id (omega arith)

pub returns : goal.returns
returns c = λ n some ways id.
    let groups = c.args.groups.now in
    let way : List ℕ → Option (List ℕ) = λ from. option_and_then (get bytes_eq c.args.ways.now) (get bytes_eq c.args.ways.now from) in
    c.loop-group.invariant id ∙ ap (λ (so_far : List Group). kept way so_far id) (take_all c.loop-group.group-index groups (omega arith))
    ∙ kept-all way groups id (twice-absent groups n (get bytes_eq c.args.ways.now) id some ways) ∙ twice-climbed groups n (get bytes_eq c.args.ways.now) id ways
