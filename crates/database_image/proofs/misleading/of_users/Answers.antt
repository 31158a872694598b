use Rattle.std.proofs.Common.{◌≡◌, ℕ, ◌+◌, ◌^◌, None, drop, is_some, sym, ap, ◌∙◌, arith}
use Rattle.database_image.specs.Facts.{told_of_each, first_broken, user_width}
use Rattle.database_image.specs.Misleading.{user_marks}
use Rattle.database_image.proofs.Told.{goes_on, stops, room_on, is_none}
use Rattle.database_image.proofs.misleading.of_users.Goals as goal

pub returns-then-is_some : goal.returns-then-is_some
returns-then-is_some c =
    c.of_user-misled.ensures
    ∙ stops user_width user_marks c.args.users.now c.loop-user.user-index c.loop-user.at c.user-item.result _ (omega arith) c.user-item.is
    (ap is_some (sym c.of_user-misled.ensures) ∙ sym c.is_some.ensures ∙ c.if-is_some.true) c.loop-user.invariant.rest

pub loop-user-preserved : goal.loop-user-preserved
loop-user-preserved c =
    let i = c.loop-user.user-index in
    let none : first_broken (user_marks c.loop-user.at c.user-item.result) ≡ None = sym c.of_user-misled.ensures ∙ is_none c.of_user-misled.result (sym c.is_some.ensures ∙ c.if-is_some.false) in
    let rest = goes_on user_width user_marks c.args.users.now i c.loop-user.at c.user-item.result (first_broken (told_of_each user_width user_marks c.args.place c.args.users.now)) (omega arith) c.user-item.is none c.loop-user.invariant.rest in
    let room = room_on user_width user_marks c.args.users.now i c.loop-user.at c.user-item.result (2 ^ 64) (omega arith) c.user-item.is c.loop-user.invariant.room in
    record {
      rest = ap (λ (n : ℕ). first_broken (told_of_each user_width user_marks (c.loop-user.at + n) (drop (i + 1) c.args.users.now))) c.user_width-at.ensures ∙ rest;
      room = omega (arith, room, c.user_width-at.ensures);
    }
