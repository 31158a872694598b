-- The command that was read is the one that the text spells.
use Rattle.std.proofs.Common.{◌≡◌, ℕ, List, None, Some, Result, Ok, Err, refl}
use Rattle.std.specs.Prelude.{◌↔◌}
use Rattle.std.specs.Option.{option_and_then}
use Rattle.std.specs.Result.{result_ok, result_err}
use Rattle.command_values.specs.declared.faults.Syntax.{Syntax}
use Rattle.command_grammar.specs.Reading.{Generic}
use Rattle.command_grammar.specs.Canon.{spelled}
use Rattle.command_fields.specs.declared.fields.CommandFields.{CommandFields}
use Rattle.command_parser.specs.Canonical.{given_by, Spells, fault}
use Rattle.command_parser.specs.CommandOf.{command_of, command_in}
use Rattle.desk_rules.specs.declared.refusal.Refusal.TheVariants as refusal
use Rattle.desk_rules.specs.Outcome.{command_of_text}

pub reads_command : (id text : List ℕ) (command : CommandFields) → (Spells id text command ↔ (command_in id text ≡ Some command)) → Spells id text command → Ok command ≡ command_of_text id text
reads_command id text command one spells = let found : command_in id text ≡ Some command = one.0 spells in rw found refl

-- a text with a first fault spells none
pub none_by : (r : Result Generic Syntax) (why : Syntax) → result_err r ≡ Some why → option_and_then command_of (result_ok r) ≡ None
none_by (Ok view) why h = cc
none_by (Err other) why h = refl

pub reads_fault : (id text : List ℕ) (why : Syntax) → fault id text ≡ Some why → Err (refusal.Syntax why) ≡ command_of_text id text
reads_fault id text why h =
    let none : command_in id text ≡ None = none_by (spelled (given_by id) text) why h in
    rw none (rw h refl)
