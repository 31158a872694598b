use Rattle.std.proofs.Common.{◌-◌, ◌++◌, ◌∙◌, length, take, ap, arith}
use Rattle.std.specs.List.{insert}
use Rattle.std.specs.Arc.{arc_value}
use Rattle.profile_index.proofs.BucketLaws.{front-half, back-half, insert-front, insert-back}
use Rattle.profile_index.proofs.bucket.Bucket.split.Goals as goal

pub holding-requires-clause-most : goal.holding-requires-clause-most
holding-requires-clause-most g c =
    omega (arith, (front-half c.args.self.now c.rows.result.now c.in_ok-part.field-0 c.rows.ensures.rows c.in_ok-part.ensures c.requires.full).1)

pub holding-requires-2-clause-some : goal.holding-requires-2-clause-some
holding-requires-2-clause-some g c =
    omega (arith, (back-half c.args.self.now c.rows-2.result.now c.in_ok-part-2.field-0 c.rows-2.ensures.rows c.in_ok-part-2.ensures c.requires.full).1)

pub holding-requires-2-clause-most : goal.holding-requires-2-clause-most
holding-requires-2-clause-most g c =
    omega (arith, (back-half c.args.self.now c.rows-2.result.now c.in_ok-part-2.field-0 c.rows-2.ensures.rows c.in_ok-part-2.ensures c.requires.full).1)

pub grown-requires-clause-place : goal.grown-requires-clause-place
grown-requires-clause-place g c =
    let front = front-half c.args.self.now c.rows.result.now c.in_ok-part.field-0 c.rows.ensures.rows c.in_ok-part.ensures c.requires.full in
    omega (arith, front.1, ap length c.in_ok-front.ensures)

pub grown-requires-clause-few : goal.grown-requires-clause-few
grown-requires-clause-few g c =
    let front = front-half c.args.self.now c.rows.result.now c.in_ok-part.field-0 c.rows.ensures.rows c.in_ok-part.ensures c.requires.full in
    omega (arith, front.1, ap length c.in_ok-front.ensures)

pub grown-requires-2-clause-place : goal.grown-requires-2-clause-place
grown-requires-2-clause-place g c =
    let back = back-half c.args.self.now c.rows-2.result.now c.in_ok-part-2.field-0 c.rows-2.ensures.rows c.in_ok-part-2.ensures c.requires.full in
    omega (arith, back.1, ap length c.in_ok-back.ensures, c.requires.place, c.requires.full)

pub grown-requires-2-clause-few : goal.grown-requires-2-clause-few
grown-requires-2-clause-few g c =
    let back = back-half c.args.self.now c.rows-2.result.now c.in_ok-part-2.field-0 c.rows-2.ensures.rows c.in_ok-part-2.ensures c.requires.full in
    omega (arith, back.1, ap length c.in_ok-back.ensures)

pub returns-then-place-half : goal.returns-then-place-half
returns-then-place-half g c =
    let xs = c.args.self.now in
    let place = c.args.place in
    let new = arc_value c.args.entry in
    let front = front-half xs c.rows.result.now c.in_ok-part.field-0 c.rows.ensures.rows c.in_ok-part.ensures c.requires.full in
    let back = back-half xs c.rows-2.result.now c.in_ok-part-2.field-0 c.rows-2.ensures.rows c.in_ok-part-2.ensures c.requires.full in
    ap (λ l. l ++ c.in_ok-back.back) c.in_ok-grown.ensures
    ∙ ap (λ l. insert l place new ++ c.in_ok-back.back) (c.in_ok-front.ensures ∙ front.0)
    ∙ ap (λ l. insert (take 8 xs) place new ++ l) (c.in_ok-back.ensures ∙ back.0)
    ∙ insert-front xs 8 place new (omega arith) (omega (arith, c.requires.full))

pub returns : goal.returns
returns g c =
    let xs = c.args.self.now in
    let place = c.args.place in
    let new = arc_value c.args.entry in
    let front = front-half xs c.rows.result.now c.in_ok-part.field-0 c.rows.ensures.rows c.in_ok-part.ensures c.requires.full in
    let back = back-half xs c.rows-2.result.now c.in_ok-part-2.field-0 c.rows-2.ensures.rows c.in_ok-part-2.ensures c.requires.full in
    ap (λ l. c.in_ok-front.front ++ l) c.in_ok-back-2.ensures
    ∙ ap (λ l. l ++ insert c.in_ok-back.back (place - 8) new) (c.in_ok-front.ensures ∙ front.0)
    ∙ ap (λ l. take 8 xs ++ insert l (place - 8) new) (c.in_ok-back.ensures ∙ back.0)
    ∙ insert-back xs 8 place new (omega arith) (omega (arith, c.requires.full))
