use Rattle.std.proofs.Common.{◌≡◌, ℕ, ◌+◌, ◌^◌, None, drop, is_some, sym, ap, ◌∙◌, arith}
use Rattle.database_image.specs.Facts.{told_of_each, first_broken, member_width}
use Rattle.database_image.specs.Misleading.{member_marks}
use Rattle.database_image.proofs.Told.{goes_on, stops, room_on, is_none}
use Rattle.database_image.proofs.misleading.of_members.Goals as goal

pub returns-then-is_some : goal.returns-then-is_some
returns-then-is_some c =
    c.of_member-misled.ensures
    ∙ stops member_width (member_marks c.args.kind) c.args.members.now c.loop-member.member-index c.loop-member.at c.member-item.result _ (omega arith) c.member-item.is
    (ap is_some (sym c.of_member-misled.ensures) ∙ sym c.is_some.ensures ∙ c.if-is_some.true) c.loop-member.invariant.rest

pub loop-member-preserved : goal.loop-member-preserved
loop-member-preserved c =
    let i = c.loop-member.member-index in
    let none : first_broken (member_marks c.args.kind c.loop-member.at c.member-item.result) ≡ None = sym c.of_member-misled.ensures ∙ is_none c.of_member-misled.result (sym c.is_some.ensures ∙ c.if-is_some.false) in
    let rest = goes_on member_width (member_marks c.args.kind) c.args.members.now i c.loop-member.at c.member-item.result (first_broken (told_of_each member_width (member_marks c.args.kind) c.args.place c.args.members.now)) (omega arith) c.member-item.is none c.loop-member.invariant.rest in
    let room = room_on member_width (member_marks c.args.kind) c.args.members.now i c.loop-member.at c.member-item.result (2 ^ 64) (omega arith) c.member-item.is c.loop-member.invariant.room in
    record {
      rest = ap (λ (n : ℕ). first_broken (told_of_each member_width (member_marks c.args.kind) (c.loop-member.at + n) (drop (i + 1) c.args.members.now))) c.member_width-at.ensures ∙ rest;
      room = omega (arith, room, c.member_width-at.ensures);
    }
