use Rattle.std.proofs.Common.{◌≡◌}
use Rattle.command_parser.specs.Canonical.{canonical}
use Rattle.command_fields.specs.declared.fields.CommandFields.TheVariants as fields
use Rattle.command_authority.proofs.SpelledNames.{add_sd-spelled}
use Rattle.command_authority.proofs.judge.authorised.Goals as goal

-- the command's canonical text spells it, so that its fields are lawful
pub add_sd-requires : goal.add_sd-requires
add_sd-requires g c =
    let command = c.args.command.now in
    let issuer = c.args.issuer.now.id in
    let seen = c.fields.ensures in
    let met = c.in-AddSd.is in
    let is : command ≡ fields.AddSd c.in-AddSd.command = cc in
    add_sd-spelled command c.in-AddSd.command is (c.fields_of_a_text_are_lawful.ensures issuer (canonical command) command (c.printed_is_read.ensures issuer))
