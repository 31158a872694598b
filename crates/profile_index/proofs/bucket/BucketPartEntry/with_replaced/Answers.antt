use Rattle.std.proofs.Common.{◌+◌, ◌++◌, ◌∷◌, ◌∙◌, take, drop, ap}
use Rattle.std.specs.Arc.{arc_value}
use Rattle.profile_index.proofs.BucketLaws.{set-split}
use Rattle.profile_index.proofs.bucket.BucketPartEntry.with_replaced.Goals as goal

pub returns-clause-items : goal.returns-clause-items
returns-clause-items g c =
    let place = c.args.place in
    let new = arc_value c.args.item in
    c.in_ok-what.ensures
    ∙ c.in_ok-rows.ensures
    ∙ ap (λ l. take place l ++ new ∷ drop (place + 1) l) c.rows.ensures.rows
    ∙ set-split c.args.self.now place new c.requires
