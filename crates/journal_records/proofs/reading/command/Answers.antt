use Rattle.std.proofs.Common.{◌≡◌, false, true, bytes_eq, sym, ap, ◌∙◌}
use Rattle.command_parser.specs.Canonical.{canonical}
use Rattle.command_parser.specs.CommandOf.{command_in}
use Rattle.journal_records.specs.declared.record.RecordFault.TheVariants.{BadText}
use Rattle.journal_records.specs.Reading.{or_fault}
use Rattle.journal_records.proofs.CommandLaws.{own-again, not_own}
use Rattle.journal_records.proofs.reading.command.Goals as goal

pub returns-then-eq : goal.returns-then-eq
returns-then-eq c =
    let found = (c.one_command_is_spelled.ensures.one c.args.issuer c.args.text.now c.in-Ok.command).0 c.in-Ok.ensures.found in
    let own : bytes_eq (canonical c.in-Ok.command) c.args.text.now ≡ true = rw (← c.text.ensures) (sym c.eq.ensures ∙ c.if-eq.true) in
    ap (λ o. or_fault o BadText) (own-again (command_in c.args.issuer c.args.text.now) c.args.text.now c.in-Ok.command found own)

pub returns-else-eq : goal.returns-else-eq
returns-else-eq c =
    let found = (c.one_command_is_spelled.ensures.one c.args.issuer c.args.text.now c.in-Ok.command).0 c.in-Ok.ensures.found in
    let other : bytes_eq (canonical c.in-Ok.command) c.args.text.now ≡ false = rw (← c.text.ensures) (sym c.eq.ensures ∙ c.if-eq.false) in
    ap (λ o. or_fault o BadText) (not_own (command_in c.args.issuer c.args.text.now) c.args.text.now c.in-Ok.command found other)
