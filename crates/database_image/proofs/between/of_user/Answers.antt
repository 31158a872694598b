use Rattle.std.proofs.Common.{rules, ◌≡◌, ℕ, ◌+◌, ◌*◌, true, false, List, length, None, is_some, sym, ap, ◌∙◌, arith}
use Rattle.std.specs.Prelude.{◌&&◌}
use Rattle.std.specs.List.{sum_by}
use Rattle.racf_profiles.specs.declared.users.Connect.{Connect as Connection}
use Rattle.racf_profiles.specs.Names.{is_connected_to}
use Rattle.database_image.specs.Facts.{told_of_each, first_broken, class_id_width, connect_width, class_id_facts, connect_facts, is_there}
use Rattle.database_image.proofs.Wide.{same_width}
use Rattle.database_image.proofs.Told.{is_none}
use Rattle.database_image.proofs.BetweenLaws.{there-by, classes_told, connects_told, other-class, last-connects}
use Rattle.database_image.proofs.between.of_user.Goals as goal

pub of_class_ids-broken-requires : goal.of_class_ids-broken-requires
of_class_ids-broken-requires c =
    let names : c.deref.result.now ≡ c.args.user.now.classes = search rules in
    let name : c.bytes.result.now ≡ c.args.user.now.name = search rules in
    let sum : sum_by class_id_width c.deref.result.now ≡ 8 * length c.args.user.now.classes = ap (sum_by class_id_width) names ∙ same_width 8 c.args.user.now.classes in
    let size : length c.bytes.result.now ≡ length c.args.user.now.name = ap length name in
    omega (arith, sum, size, c.requires.room)

pub returns-then-is_some : goal.returns-then-is_some
returns-then-is_some c =
    let rows = c.args.rows.now in
    let user = c.args.user.now in
    let names : c.deref.result.now ≡ user.classes = search rules in
    let name : c.bytes.result.now ≡ user.name = search rules in
    let absent : is_there rows user.id ≡ false = sym (there-by rows.groups user.id _ (c.requires.index user.id)) ∙ sym c.is_there.ensures ∙ c.if-is_there.false in
    let default : (is_there rows user.default_group && is_connected_to user.default_group user) ≡ true =
    ap (λ b. b && is_connected_to user.default_group user) (sym (there-by rows.groups user.default_group _ (c.requires.index user.default_group))) ∙ sym c.has_default_group.ensures ∙ c.if-not-has_default_group.false in
    let told : c.of_class_ids-broken.result ≡ first_broken (classes_told rows c.args.place user) =
    c.of_class_ids-broken.ensures
    ∙ ap (λ (t : List ℕ). first_broken (told_of_each class_id_width (class_id_facts rows) (c.args.place + 68 + length t) c.deref.result.now)) name
    ∙ ap (λ (ids : List (List ℕ)). first_broken (told_of_each class_id_width (class_id_facts rows) (c.args.place + 68 + length user.name) ids)) names in
    told ∙ other-class rows c.args.place user absent default (ap is_some (sym told) ∙ sym c.is_some.ensures ∙ c.if-is_some.true)

pub of_connects-requires-clause-room : goal.of_connects-requires-clause-room
of_connects-requires-clause-room c =
    let name : c.bytes.result.now ≡ c.args.user.now.name = search rules in
    let size : length c.bytes.result.now ≡ length c.args.user.now.name = ap length name in
    let count : c.len.result ≡ length c.args.user.now.classes = search rules in
    let connects : c.deref-2.result.now ≡ c.args.user.now.connects = search rules in
    let sum : sum_by connect_width c.deref-2.result.now ≡ 10 * length c.args.user.now.connects = ap (sum_by connect_width) connects ∙ same_width 10 c.args.user.now.connects in
    omega (arith, sum, size, count, c.requires.room)

pub returns : goal.returns
returns c =
    let rows = c.args.rows.now in
    let user = c.args.user.now in
    let names : c.deref.result.now ≡ user.classes = search rules in
    let name : c.bytes.result.now ≡ user.name = search rules in
    let size : length c.bytes.result.now ≡ length user.name = ap length name in
    let count : c.len.result ≡ length user.classes = search rules in
    let connects : c.deref-2.result.now ≡ user.connects = search rules in
    let absent : is_there rows user.id ≡ false = sym (there-by rows.groups user.id _ (c.requires.index user.id)) ∙ sym c.is_there.ensures ∙ c.if-is_there.false in
    let default : (is_there rows user.default_group && is_connected_to user.default_group user) ≡ true =
    ap (λ b. b && is_connected_to user.default_group user) (sym (there-by rows.groups user.default_group _ (c.requires.index user.default_group))) ∙ sym c.has_default_group.ensures ∙ c.if-not-has_default_group.false in
    let told : c.of_class_ids-broken.result ≡ first_broken (classes_told rows c.args.place user) =
    c.of_class_ids-broken.ensures
    ∙ ap (λ (t : List ℕ). first_broken (told_of_each class_id_width (class_id_facts rows) (c.args.place + 68 + length t) c.deref.result.now)) name
    ∙ ap (λ (ids : List (List ℕ)). first_broken (told_of_each class_id_width (class_id_facts rows) (c.args.place + 68 + length user.name) ids)) names in
    let at : c.args.place + 68 + length c.bytes.result.now + 2 + 8 * c.len.result ≡ c.args.place + 70 + length user.name + 8 * length user.classes = omega (arith, size, count) in
    let last : c.of_connects.result ≡ first_broken (connects_told rows c.args.place user) =
    c.of_connects.ensures
    ∙ ap (λ (n : ℕ). first_broken (told_of_each connect_width (connect_facts rows) n c.deref-2.result.now)) at
    ∙ ap (λ (xs : List Connection). first_broken (told_of_each connect_width (connect_facts rows) (c.args.place + 70 + length user.name + 8 * length user.classes) xs)) connects in
    let none : first_broken (classes_told rows c.args.place user) ≡ None = is_none _ (ap is_some (sym told) ∙ sym c.is_some.ensures ∙ c.if-is_some.false) in
    last ∙ last-connects rows c.args.place user absent default none
