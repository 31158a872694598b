use Rattle.std.proofs.Common.{◌≤◌, length, arith}
use Rattle.command_grammar.specs.Parts.{generic}
use Rattle.command_parser.proofs.Written.{written}
use Rattle.command_parser.proofs.commands.parse_exact.Goals as goal

pub fields_in_parts-fields-requires : goal.fields_in_parts-fields-requires
fields_in_parts-fields-requires c = c.what_is_read_is_lawful.ensures c.args.at.now c.args.text.now (generic c.in_ok-parts.parts) c.in_ok-parts.ensures

pub invariant_of-result : goal.invariant_of-result
invariant_of-result c =
    let short : length c.in_ok-canonical.canonical.items ≤ 30000 = omega (arith, c.in_ok-canonical.canonical.ok.0) in
    written c.fields_in_parts-fields.result (generic c.in_ok-parts.parts) c.in_ok-canonical.canonical.items c.fields_in_parts-fields.ensures c.in_ok-canonical.ensures short
    (λ at. c.canonical_text_is_read_again.ensures at (generic c.in_ok-parts.parts)
    (c.what_is_read_is_lawful.ensures c.args.at.now c.args.text.now (generic c.in_ok-parts.parts) c.in_ok-parts.ensures))
