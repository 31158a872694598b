use Rattle.std.proofs.Common.{rules, ◌≡◌, ℕ, ◌+◌, ◌*◌, List, [], ◌∷◌, ◌++◌, length, ap, ◌∙◌, append_assoc, arith}
use Rattle.std.specs.List.{sum_by}
use Rattle.database_image.specs.Facts.{Fact, told, told_of_each, first_broken, user_width, class_width, users_place}
use Rattle.database_image.specs.Misleading.{has_room, tells_classes, user_marks, class_marks}
use Rattle.database_image.proofs.Told.{or-append}
use Rattle.database_image.proofs.misleading.first_misleading.Goals as goal

pub returns : goal.returns
returns c =
    let rows = c.args.rows.now in
    let categories : List Fact = told 1 (has_room 2 (length rows.options.categories)) ∷ [] in
    let groups : List Fact = told (3 + 8 * length rows.options.categories) (has_room 4 (length rows.groups)) ∷ [] in
    let users : List Fact = told (users_place rows) (has_room 4 (length rows.users)) ∷ [] in
    let each_user : List Fact = told_of_each user_width user_marks (users_place rows + 4) rows.users in
    let classes : List Fact = told (users_place rows + 4 + sum_by user_width rows.users) (tells_classes (length rows.classes)) ∷ [] in
    let each_class : List Fact = told_of_each class_width class_marks (users_place rows + 6 + sum_by user_width rows.users) rows.classes in
    let place : 7 + 8 * c.len-categories.result + 24 * c.len-groups.result ≡ users_place rows = search rules in
    let one : c.unless.result ≡ first_broken categories = search rules in
    let two : c.unless-2.result ≡ first_broken groups = search rules in
    let three : c.unless-3.result ≡ first_broken users = search rules in
    let four : c.of_users.result ≡ first_broken each_user = search rules in
    let five : c.unless-4.result ≡ first_broken classes = search rules in
    let at : users_place rows + 4 + sum_by user_width rows.users + 2 ≡ users_place rows + 6 + sum_by user_width rows.users = omega arith in
    let six_at : c.of_classes.result ≡ first_broken (told_of_each class_width class_marks (users_place rows + 4 + sum_by user_width rows.users + 2) rows.classes) = search rules in
    let six : c.of_classes.result ≡ first_broken each_class = six_at ∙ ap (λ (n : ℕ). first_broken (told_of_each class_width class_marks n rows.classes)) at in
    let front : List Fact = ((categories ++ groups) ++ users) ++ each_user in
    c.or-5.ensures ∙ or-append c.or-4.result c.of_classes.result (front ++ classes) each_class
    (c.or-4.ensures ∙ or-append c.or-3.result c.unless-4.result front classes
    (c.or-3.ensures ∙ or-append c.or-2.result c.of_users.result ((categories ++ groups) ++ users) each_user
    (c.or-2.ensures ∙ or-append c.or.result c.unless-3.result (categories ++ groups) users (c.or.ensures ∙ or-append c.unless.result c.unless-2.result categories groups one two) three) four) five) six
    ∙ ap first_broken (append_assoc front classes each_class)
