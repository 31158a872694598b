-- The outcome of a command at a position: the command that is accepted, or why it is refused. The tests stand in their
-- order, and the first that refuses the command decides:
--   1. the text spells no command;
--   2. the issuer is unknown, revoked, or not connected to his current group;
--   3. the command conflicts with the rows, of the conflicts that come before Root;
--   4. the issuer lacks authority;
--   5. the command conflicts with the rows, of the conflicts from Root on;
--   6. the journal has no room for its record;
--   7. the numbers are spent.
use Rattle.std.specs.Prelude.{ℕ, ◌+◌, ◌^◌, nat_le, nat_lt, List, [], ◌∷◌, length, Option, Some, None, option_map, unwrap_or, Result, Ok, Err, if◌then◌else◌}
use Rattle.racf_profiles.specs.declared.rows.Rows.{Rows}
use Rattle.command_values.specs.declared.faults.Syntax.{Syntax}
use Rattle.command_values.specs.declared.faults.Syntax.TheVariants.{UnknownCommand}
use Rattle.command_fields.specs.declared.fields.CommandFields.{CommandFields}
use Rattle.command_parser.specs.Canonical.{fault}
use Rattle.command_parser.specs.CommandOf.{command_in}
use Rattle.command_rules.specs.Conflicts.{conflict_of, first_conflict_of}
use Rattle.command_authority.specs.Authority.{need}
use Rattle.journal_records.specs.declared.record.CommandRecord.{CommandRecord}
use Rattle.journal_records.specs.Spelling.{spelled}
use Rattle.desk_rules.specs.declared.refusal.Refusal.{Refusal}
use Rattle.desk_rules.specs.declared.refusal.Refusal.TheVariants as refusal
use Rattle.desk_rules.specs.Issuers.{issuer_of}
use Rattle.desk_rules.specs.Position.{Position}

-- The last number that a command gets (this product's own limit).
abbrev pub most_number : ℕ
most_number = 2 ^ 62

-- What follows where nothing was refused so far.
abbrev pub unless_refused : {X Y : Type 0} → Result X Refusal → (X → Result Y Refusal) → Result Y Refusal
unless_refused (Ok x) next = next x
unless_refused (Err why) next = Err why

-- 1. The command that the text spells where this issuer gives it. A text that spells none always has a first fault. A
-- text is faulty too where the canonical text of what it spells would be too long.
abbrev pub found_command : Option CommandFields → Option Syntax → Result CommandFields Refusal
found_command (Some command) fault = Ok command
found_command None fault = Err (refusal.Syntax (unwrap_or fault UnknownCommand))

abbrev pub command_of_text : List ℕ → List ℕ → Result CommandFields Refusal
command_of_text id text = found_command (command_in id text) (fault id text)

-- 3 to 5. What refuses a command that this issuer gives, by the rules: the first of these.
abbrev pub first_of : {X : Type 0} → List (Option X) → Option X
first_of [] = None
first_of (None ∷ tests) = first_of tests
first_of (Some x ∷ tests) = Some x

abbrev pub rules_of : Rows → CommandRecord → Option Refusal
rules_of rows given =
    first_of (option_map refusal.Conflict (first_conflict_of given.issuer given.command rows)
    ∷ option_map refusal.Need (need rows given.issuer given.command)
    ∷ option_map refusal.Conflict (conflict_of given.issuer given.command rows)
    ∷ [])

-- 6. The journal's file, with the record and a gate behind the last gate, would have more bytes than these.
abbrev pub most_bytes : ℕ
most_bytes = 2 ^ 28

abbrev pub journal_full : (gate : ℕ) → CommandRecord → Option Refusal
journal_full gate given =
    if nat_lt most_bytes ((gate + 1) + (length (spelled given) + 1)) then Some refusal.JournalFull else None

-- 7. So many commands were accepted already.
abbrev pub number_spent : (number : ℕ) → Option Refusal
number_spent number = if nat_le most_number number then Some refusal.NumberSpent else None

abbrev pub refusal_of : (gate number : ℕ) → Rows → CommandRecord → Option Refusal
refusal_of gate number rows given = first_of (rules_of rows given ∷ journal_full gate given ∷ number_spent number ∷ [])

-- The command as it is given, unless it is refused.
abbrev pub unless_met : Option Refusal → CommandRecord → Result CommandRecord Refusal
unless_met None given = Ok given
unless_met (Some why) given = Err why

-- 2 to the end: the issuer is named by his ID, and by a group where one was named with it.
abbrev pub judged : (refuses : CommandRecord → Option Refusal) → Rows → (id : List ℕ) → (group : Option (List ℕ)) → CommandFields → Result CommandRecord Refusal
judged refuses rows id group command =
    unless_refused (issuer_of rows id group) (λ issuer.
    let given : CommandRecord = record { issuer = issuer; command = command } in unless_met (refuses given) given)

unfoldable pub outcome_in : (gate number : ℕ) → Rows → (id : List ℕ) → (group : Option (List ℕ)) → (text : List ℕ) → Result CommandRecord Refusal
outcome_in gate number rows id group text =
    unless_refused (command_of_text id text) (judged (refusal_of gate number rows) rows id group)

-- at a position
abbrev pub outcome : Position → (id : List ℕ) → (group : Option (List ℕ)) → (text : List ℕ) → Result CommandRecord Refusal
outcome position id group text = outcome_in position.gate position.image.generation position.image.state.rows id group text
