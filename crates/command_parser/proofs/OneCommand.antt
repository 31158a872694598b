-- Commands that the table sees alike are one.
use Rattle.std.proofs.Common.{◌≡◌, ℕ, List, Option, Some, Result, Ok, Err, sym, ap, ◌∙◌}
use Rattle.command_values.specs.declared.faults.Syntax.{Syntax}
use Rattle.command_values.specs.declared.faults.ParseFault.{ParseFault}
use Rattle.command_values.specs.declared.faults.ParseFault.TheVariants as reasons
use Rattle.command_fields.specs.declared.fields.CommandFields.{CommandFields}
use Rattle.command_grammar.specs.Reading.{Generic}
use Rattle.command_values.specs.Results.{Gives}
use Rattle.command_grammar.specs.Canon.{spelled}
use Rattle.command_parser.specs.Canonical.{generic_view, given_by, Spells, IsUnlessMemory}
use Rattle.command_parser.specs.CommandOf.{command_of}
use Rattle.command_parser.proofs.Views.{command_of-generic}

some_same : (c d : CommandFields) → let one : Option CommandFields = Some c in one ≡ Some d → c ≡ d
some_same c d h = cc

pub generic_view-same : (c d : CommandFields) → generic_view c ≡ generic_view d → c ≡ d
generic_view-same c d h = some_same c d (sym (command_of-generic c) ∙ ap command_of h ∙ command_of-generic d)

pub only_found : (r : Result CommandFields ParseFault) (issuer text : List ℕ) (c : CommandFields) → Gives generic_view r (spelled (given_by issuer) text) → Spells issuer text c → IsUnlessMemory r c
only_found (Ok d) issuer text c h spells = generic_view-same d c (ok-same (generic_view d) (generic_view c) (sym h ∙ spells))
  where
    ok-same : (x y : Generic) → let read : Result Generic Syntax = Ok x in read ≡ Ok y → x ≡ y
    ok-same x y h = cc
only_found (Err reasons.NoMemory) issuer text c h spells = tt
only_found (Err (reasons.Syntax e)) issuer text c h spells = wrong (generic_view c) e (sym h ∙ spells)
  where
    wrong : (g : Generic) (e : Syntax) → let read : Result Generic Syntax = Err e in read ≡ Ok g → ⊥
    wrong g e h = cc
