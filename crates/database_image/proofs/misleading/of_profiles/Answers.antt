use Rattle.std.proofs.Common.{◌≡◌, ℕ, ◌+◌, ◌^◌, None, drop, is_some, sym, ap, ◌∙◌, arith}
use Rattle.database_image.specs.Facts.{told_of_each, first_broken, profile_width}
use Rattle.database_image.specs.Misleading.{profile_marks}
use Rattle.database_image.proofs.Told.{goes_on, stops, room_on, is_none}
use Rattle.database_image.proofs.misleading.of_profiles.Goals as goal

pub returns-then-is_some : goal.returns-then-is_some
returns-then-is_some c =
    c.of_profile-misled.ensures
    ∙ stops profile_width (profile_marks c.args.kind) c.args.profiles.now c.loop-profile.profile-index c.loop-profile.at c.profile-item.result _ (omega arith) c.profile-item.is
    (ap is_some (sym c.of_profile-misled.ensures) ∙ sym c.is_some.ensures ∙ c.if-is_some.true) c.loop-profile.invariant.rest

pub loop-profile-preserved : goal.loop-profile-preserved
loop-profile-preserved c =
    let i = c.loop-profile.profile-index in
    let none : first_broken (profile_marks c.args.kind c.loop-profile.at c.profile-item.result) ≡ None = sym c.of_profile-misled.ensures ∙ is_none c.of_profile-misled.result (sym c.is_some.ensures ∙ c.if-is_some.false) in
    let rest = goes_on profile_width (profile_marks c.args.kind) c.args.profiles.now i c.loop-profile.at c.profile-item.result (first_broken (told_of_each profile_width (profile_marks c.args.kind) c.args.place c.args.profiles.now)) (omega arith) c.profile-item.is none c.loop-profile.invariant.rest in
    let room = room_on profile_width (profile_marks c.args.kind) c.args.profiles.now i c.loop-profile.at c.profile-item.result (2 ^ 64) (omega arith) c.profile-item.is c.loop-profile.invariant.room in
    record {
      rest = ap (λ (n : ℕ). first_broken (told_of_each profile_width (profile_marks c.args.kind) (c.loop-profile.at + n) (drop (i + 1) c.args.profiles.now))) c.profile_width-at.ensures ∙ rest;
      room = omega (arith, room, c.profile_width-at.ensures);
    }
