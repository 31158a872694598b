-- A command that is accepted is one that its text spells, and is written as its canonical text.
use Rattle.std.proofs.Common.{◌≡◌, ℕ, List, length, Bool, true, false, Option, None, Some, Result, Ok, Err, refl, sym, ap, subst, ◌∙◌}
use Rattle.std.specs.Prelude.{◌↔◌, nat_lt, if◌then◌else◌}
use Rattle.command_values.specs.Results.{◌>>=◌}
use Rattle.command_values.specs.declared.faults.Syntax.{Syntax}
use Rattle.command_values.specs.declared.faults.Syntax.TheVariants as faults
use Rattle.command_values.specs.declared.values.Context.{Context}
use Rattle.command_grammar.specs.Reading.{Generic, parsed}
use Rattle.command_grammar.specs.Lawful.{IsLawful}
use Rattle.command_grammar.specs.Canon.{canon, spelled}
use Rattle.command_fields.specs.declared.fields.CommandFields.{CommandFields}
use Rattle.command_parser.specs.Canonical.{canonical, generic_view, given_by, fault, Spells, IsWritten}
use Rattle.command_parser.specs.CommandOf.{command_in}
use Rattle.journal_records.specs.declared.record.CommandRecord.{CommandRecord}
use Rattle.desk_rules.specs.Outcome.{refusal_of, unless_refused, found_command, judged, outcome_in, outcome}
use Rattle.desk_rules.specs.Position.{Position}
use Rattle.desk_rules.proofs.RecoveryLaws.{judged_parts}

-- what is accepted is the command of the text
found_of : (position : Position) (id : List ℕ) (group : Option (List ℕ)) (given : CommandRecord) (found : Option CommandFields) (why : Option Syntax)
    → unless_refused (found_command found why) (judged (refusal_of position.gate position.image.generation position.image.state.rows) position.image.state.rows id group) ≡ Ok given
    → found ≡ Some given.command
found_of position id group given (Some command) why h =
    let rows = position.image.state.rows in
    ap Some (sym (judged_parts (refusal_of position.gate position.image.generation rows) rows id group command given h).1)
found_of position id group given None why h = cc

accepted_in_text : (position : Position) (id : List ℕ) (group : Option (List ℕ)) (text : List ℕ) (given : CommandRecord)
    → outcome position id group text ≡ Ok given → command_in id text ≡ Some given.command
unfolding outcome_in
accepted_in_text position id group text given h = found_of position id group given (command_in id text) (fault id text) h

-- A view that a text is read as is lawful, and its canonical text isn't too long.
short_view : (view : Generic) (long : Bool) (g : Generic) → (if long then Err faults.TextTooLong else Ok view) ≡ Ok g → (long ≡ false) × (view ≡ g)
short_view view true g h = cc
short_view view false g h = (refl, cc)

read_view : (read : Result Generic Syntax) (g : Generic) → (read >>= λ v. if nat_lt 30000 (length (canon v)) then Err faults.TextTooLong else Ok v) ≡ Ok g
    → (read ≡ Ok g) × (nat_lt 30000 (length (canon g)) ≡ false)
read_view (Err why) g h = cc
read_view (Ok view) g h =
    let parts = short_view view (nat_lt 30000 (length (canon view))) g h in
    (ap Ok parts.1, subst (λ (v : Generic). nat_lt 30000 (length (canon v)) ≡ false) parts.1 parts.0)

-- By what is read of a text, and read again of a canonical one.
pub accepted_written : ((command : CommandFields) → canonical command ≡ canon (generic_view command))
    → ((issuer text : List ℕ) (command : CommandFields) → (Spells issuer text command ↔ (command_in issuer text ≡ Some command)))
    → ((at : Context) (text : List ℕ) (g : Generic) → parsed at text ≡ Ok g → IsLawful g)
    → ((at : Context) (g : Generic) → IsLawful g → nat_lt 30000 (length (canon g)) ≡ false → spelled at (canon g) ≡ Ok g)
    → (position : Position) (id : List ℕ) (group : Option (List ℕ)) (text : List ℕ) (given : CommandRecord)
    → outcome position id group text ≡ Ok given → IsWritten given.command (canonical given.command)
accepted_written tabled one lawful again position id group text given h =
    let view = generic_view given.command in
    let spells : Spells id text given.command = (one id text given.command).1 (accepted_in_text position id group text given h) in
    let parts = read_view (parsed (given_by id) text) view spells in
    let is_lawful : IsLawful view = lawful (given_by id) text view parts.0 in
    record {
      canonic = refl;
      spells = λ issuer. ap (spelled (given_by issuer)) (tabled given.command) ∙ again (given_by issuer) view is_lawful parts.1;
    }
