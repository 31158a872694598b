use Rattle.std.proofs.Common.{◌≡◌, ℕ, ◌+◌, ◌^◌, None, drop, is_some, sym, ap, ◌∙◌, arith}
use Rattle.database_image.specs.Facts.{told_of_each, first_broken, class_width}
use Rattle.database_image.specs.Misleading.{class_marks}
use Rattle.database_image.proofs.Told.{goes_on, stops, room_on, is_none}
use Rattle.database_image.proofs.misleading.of_classes.Goals as goal

pub returns-then-is_some : goal.returns-then-is_some
returns-then-is_some c =
    c.of_class-misled.ensures
    ∙ stops class_width class_marks c.args.classes.now c.loop-class.class-index c.loop-class.at c.class-item.result _ (omega arith) c.class-item.is
    (ap is_some (sym c.of_class-misled.ensures) ∙ sym c.is_some.ensures ∙ c.if-is_some.true) c.loop-class.invariant.rest

pub loop-class-preserved : goal.loop-class-preserved
loop-class-preserved c =
    let i = c.loop-class.class-index in
    let none : first_broken (class_marks c.loop-class.at c.class-item.result) ≡ None = sym c.of_class-misled.ensures ∙ is_none c.of_class-misled.result (sym c.is_some.ensures ∙ c.if-is_some.false) in
    let rest = goes_on class_width class_marks c.args.classes.now i c.loop-class.at c.class-item.result (first_broken (told_of_each class_width class_marks c.args.place c.args.classes.now)) (omega arith) c.class-item.is none c.loop-class.invariant.rest in
    let room = room_on class_width class_marks c.args.classes.now i c.loop-class.at c.class-item.result (2 ^ 64) (omega arith) c.class-item.is c.loop-class.invariant.room in
    record {
      rest = ap (λ (n : ℕ). first_broken (told_of_each class_width class_marks (c.loop-class.at + n) (drop (i + 1) c.args.classes.now))) c.class_width-at.ensures ∙ rest;
      room = omega (arith, room, c.class_width-at.ensures);
    }
