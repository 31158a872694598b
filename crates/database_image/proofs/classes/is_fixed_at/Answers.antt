use Rattle.std.proofs.Common.{rules, ◌≡◌, Some, bytes_eq, sym, ap, ◌∙◌}
use Rattle.std.specs.List.{slice_get}
use Rattle.std.specs.Option.{option_eq, option_map}
use Rattle.std.proofs.lemmas.Option.{slice_get-map}
use Rattle.racf_profiles.specs.ClassTable.{class_name, fixed_classes}
use Rattle.database_image.proofs.classes.is_fixed_at.Goals as goal

pub returns-in-Some : goal.returns-in-Some
returns-in-Some c =
    let found : slice_get fixed_classes c.args.place ≡ Some c.in-Some.class = search rules in
    let named : c.eq.result ≡ bytes_eq (class_name c.in-Some.class) c.args.name = search rules in
    named ∙ sym (ap (λ o. option_eq bytes_eq o (Some c.args.name)) (slice_get-map class_name fixed_classes c.args.place ∙ ap (option_map class_name) found))
