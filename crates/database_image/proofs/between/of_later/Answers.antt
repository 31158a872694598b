use Rattle.std.proofs.Common.{rules, ◌≡◌, ℕ, ◌+◌, true, List, None, is_some, sym, ap, ◌∙◌, arith}
use Rattle.std.specs.List.{list_any, sum_by}
use Rattle.racf_profiles.specs.declared.users.User.{User}
use Rattle.racf_profiles.specs.declared.class_rows.ClassRow.{ClassRow}
use Rattle.racf_profiles.specs.Names.{is_special_user}
use Rattle.database_image.specs.Facts.{told_of_each, first_broken, user_width, class_width, user_facts, class_facts, users_place, classes_place}
use Rattle.database_image.proofs.Told.{is_none}
use Rattle.database_image.proofs.BetweenLaws.{users_told, classes_of_told, later-user, later-class}
use Rattle.database_image.proofs.between.of_later.Goals as goal

pub returns-then-is_some : goal.returns-then-is_some
returns-then-is_some c =
    let rows = c.args.rows.now in
    let users : c.as_slice-users.result.now ≡ rows.users = search rules in
    let special : list_any is_special_user rows.users ≡ true = ap (list_any is_special_user) (sym users) ∙ sym c.has_special_user.ensures ∙ c.if-not-has_special_user.false in
    let told : c.of_users-broken.result ≡ first_broken (users_told rows) =
    c.of_users-broken.ensures
    ∙ ap (λ (n : ℕ). first_broken (told_of_each user_width (user_facts rows) (n + 4) c.as_slice-users.result.now)) c.requires.place
    ∙ ap (λ (xs : List User). first_broken (told_of_each user_width (user_facts rows) (users_place rows + 4) xs)) users in
    told ∙ later-user rows special (ap is_some (sym told) ∙ sym c.is_some.ensures ∙ c.if-is_some.true)

pub returns : goal.returns
returns c =
    let rows = c.args.rows.now in
    let users : c.as_slice-users.result.now ≡ rows.users = search rules in
    let classes : c.as_slice-classes.result.now ≡ rows.classes = search rules in
    let special : list_any is_special_user rows.users ≡ true = ap (list_any is_special_user) (sym users) ∙ sym c.has_special_user.ensures ∙ c.if-not-has_special_user.false in
    let told : c.of_users-broken.result ≡ first_broken (users_told rows) =
    c.of_users-broken.ensures
    ∙ ap (λ (n : ℕ). first_broken (told_of_each user_width (user_facts rows) (n + 4) c.as_slice-users.result.now)) c.requires.place
    ∙ ap (λ (xs : List User). first_broken (told_of_each user_width (user_facts rows) (users_place rows + 4) xs)) users in
    let width : c.users_width.result ≡ sum_by user_width rows.users = c.users_width.ensures ∙ ap (sum_by user_width) users in
    let at : c.args.place + 6 + c.users_width.result ≡ classes_place rows = omega (arith, width, c.requires.place) in
    let last : c.of_classes.result ≡ first_broken (classes_of_told rows) =
    c.of_classes.ensures
    ∙ ap (λ (n : ℕ). first_broken (told_of_each class_width (class_facts rows) n c.as_slice-classes.result.now)) at
    ∙ ap (λ (xs : List ClassRow). first_broken (told_of_each class_width (class_facts rows) (classes_place rows) xs)) classes in
    let none : first_broken (users_told rows) ≡ None = is_none _ (ap is_some (sym told) ∙ sym c.is_some.ensures ∙ c.if-is_some.false) in
    last ∙ later-class rows special none
