use Rattle.std.proofs.Common.{rules, ◌≡◌, ap, ◌∙◌}
use Rattle.std.specs.List.{list_any}
use Rattle.racf_profiles.specs.Lookup.{is_class}
use Rattle.database_image.proofs.BetweenLaws.{any-found}
use Rattle.database_image.proofs.between.has_class.Goals as goal

pub returns : goal.returns
returns c =
    let classes : c.deref.result.now ≡ c.args.rows.now.classes = search rules in
    c.is_among.ensures ∙ ap (list_any (is_class c.args.name.now)) classes ∙ any-found (is_class c.args.name.now) c.args.rows.now.classes
