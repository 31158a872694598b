-- one class more
use Rattle.std.proofs.Common.{◌∙◌, cond, Some, None, bytes_eq, ap, arith}
use Rattle.std.specs.Option.{option_or}
use Rattle.indexmap.specs.IndexMap.{get}
use Rattle.raclist_image.proofs.ClassPlaces.{places-more}
use Rattle.raclist_image.proofs.index.places_of.Goals as goal

pub loop-place-preserved : goal.loop-place-preserved
loop-place-preserved c = λ name.
    let place = c.loop-place.place in
    let class = c.index-classes-place.result in
    c.in_ok-put_first.ensures name
    ∙ ap (λ n. option_or (get bytes_eq c.loop-place.places name) (cond (bytes_eq n name) (Some place) None)) c.name.ensures
    ∙ ap (λ o. option_or o (cond (bytes_eq class.name name) (Some place) None)) (c.loop-place.invariant name)
    ∙ places-more c.args.classes.now place class name c.index-classes-place.is (omega arith)
