use Rattle.std.proofs.Common.{rules, ◌≡◌, ℕ, ◌+◌, ◌*◌, List, length, None, is_some, sym, ap, ◌∙◌, arith}
use Rattle.std.specs.List.{sum_by}
use Rattle.racf_profiles.specs.declared.groups.Group.{Group}
use Rattle.database_image.specs.Facts.{told_of_each, first_broken, group_width, group_facts, groups_place, later_facts}
use Rattle.database_image.proofs.Wide.{same_width}
use Rattle.database_image.proofs.Told.{is_none, some-first, none-first}
use Rattle.database_image.proofs.between.first_with.Goals as goal

pub of_groups-broken-requires-clause-room : goal.of_groups-broken-requires-clause-room
of_groups-broken-requires-clause-room c =
    let groups : c.as_slice-groups.result.now ≡ c.args.rows.now.groups = search rules in
    let count : c.len.result ≡ length c.args.rows.now.options.categories = search rules in
    let sum : sum_by group_width c.as_slice-groups.result.now ≡ 24 * length c.args.rows.now.groups = ap (sum_by group_width) groups ∙ same_width 24 c.args.rows.now.groups in
    omega (arith, sum, count, c.requires.room)

pub returns-then-is_some : goal.returns-then-is_some
returns-then-is_some c =
    let rows = c.args.rows.now in
    let groups : c.as_slice-groups.result.now ≡ rows.groups = search rules in
    let count : c.len.result ≡ length rows.options.categories = search rules in
    let at : 7 + 8 * c.len.result ≡ groups_place rows = omega (arith, count) in
    let told : c.of_groups-broken.result ≡ first_broken (told_of_each group_width (group_facts rows) (groups_place rows) rows.groups) =
    c.of_groups-broken.ensures
    ∙ ap (λ (n : ℕ). first_broken (told_of_each group_width (group_facts rows) n c.as_slice-groups.result.now)) at
    ∙ ap (λ (xs : List Group). first_broken (told_of_each group_width (group_facts rows) (groups_place rows) xs)) groups in
    told ∙ some-first (told_of_each group_width (group_facts rows) (groups_place rows) rows.groups) (later_facts rows) (ap is_some (sym told) ∙ sym c.is_some.ensures ∙ c.if-is_some.true)

pub returns : goal.returns
returns c =
    let rows = c.args.rows.now in
    let groups : c.as_slice-groups.result.now ≡ rows.groups = search rules in
    let count : c.len.result ≡ length rows.options.categories = search rules in
    let at : 7 + 8 * c.len.result ≡ groups_place rows = omega (arith, count) in
    let told : c.of_groups-broken.result ≡ first_broken (told_of_each group_width (group_facts rows) (groups_place rows) rows.groups) =
    c.of_groups-broken.ensures
    ∙ ap (λ (n : ℕ). first_broken (told_of_each group_width (group_facts rows) n c.as_slice-groups.result.now)) at
    ∙ ap (λ (xs : List Group). first_broken (told_of_each group_width (group_facts rows) (groups_place rows) xs)) groups in
    let none : first_broken (told_of_each group_width (group_facts rows) (groups_place rows) rows.groups) ≡ None = is_none _ (ap is_some (sym told) ∙ sym c.is_some.ensures ∙ c.if-is_some.false) in
    c.of_later.ensures ∙ sym (none-first (told_of_each group_width (group_facts rows) (groups_place rows) rows.groups) (later_facts rows) none)
