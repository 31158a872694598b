use Rattle.std.proofs.Common.{◌≡◌, Ok, sym, ◌∙◌, ap}
use Rattle.generic_names.specs.declared.kind.NameKind.TheVariants.{General}
use Rattle.generic_names.specs.Faults.{resource_of}
use Rattle.racf_profiles.proofs.IdNames.{resource-id}
use Rattle.racf_profiles.proofs.names.general_name.Goals as goal

pub unreachable-requires : goal.unreachable-requires
unreachable-requires c =
    let id = c.args.id in
    let fine : resource_of General id ≡ Ok (record { kind = General; text = id }) = resource-id id c.text.ensures.spelled in
    let read = sym c.in-Err.is ∙ c.read.ensures.name ∙ ap (λ text. resource_of General text) c.text.ensures.spelling ∙ fine in
    cc
