-- An ID spells a general name.
use Rattle.std.proofs.Common.{◌∙◌, ap}
use Rattle.generic_names.specs.Faults.{pattern_of}
use Rattle.generic_names.specs.declared.kind.NameKind.TheVariants.{General}
use Rattle.racf_profiles.proofs.IdNames.{pattern-id}
use Rattle.command_rules.proofs.security.general_name.Goals as goal

pub unreachable-requires : goal.unreachable-requires
unreachable-requires c =
    let spelled = pattern-id c.args.id c.text.ensures.spelled in
    let refused = c.in-Err.ensures.name ∙ ap (pattern_of General) c.text.ensures.spelling in
    cc
