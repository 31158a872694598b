use Rattle.std.proofs.Common.{rules, ◌≡◌, ◌+◌, sym, ap, ◌∙◌}
use Rattle.database_image.specs.Facts.{told_of_each, first_broken, profile_width, name_facts}
use Rattle.database_image.proofs.BetweenLaws.{undefined-first, names-behind}
use Rattle.database_image.proofs.between.of_dynamic.Goals as goal

pub returns-then-is_defined : goal.returns-then-is_defined
returns-then-is_defined c =
    let profiles : c.as_slice.result.now ≡ c.args.class.now.profiles = search rules in
    let defined = sym c.is_defined.ensures ∙ c.if-is_defined.true in
    c.of_names.ensures
    ∙ ap (λ o. first_broken (told_of_each profile_width (name_facts c.args.rows.now o) (c.args.place + 14) c.as_slice.result.now)) c.facts_of-facts.ensures
    ∙ names-behind c.args.rows.now c.args.place c.args.class.now c.as_slice.result.now profiles defined

pub returns-else-is_defined : goal.returns-else-is_defined
returns-else-is_defined c = undefined-first c.args.rows.now c.args.place c.args.class.now (sym c.is_defined.ensures ∙ c.if-is_defined.false)
