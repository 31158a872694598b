use Rattle.command_effects.proofs.edits.edits_of.Goals as goal

pub edits_of_permit-requires : goal.edits_of_permit-requires
edits_of_permit-requires c = c.requires c.in-Permit.command c.in-Permit.is
