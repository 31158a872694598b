-- A text spells the command that it is read as.
use Rattle.std.proofs.Common.{◌≡◌, ℕ, List, length, Bool, true, false, cond, None, Some, Result, Ok, Err, refl, sym, ap, ◌∙◌}
use Rattle.std.specs.Prelude.{nat_lt, ◌↔◌, IsSome}
use Rattle.std.specs.Option.{option_and_then}
use Rattle.std.specs.Result.{result_ok, result_err}
use Rattle.command_values.specs.declared.faults.Syntax.{Syntax}
use Rattle.command_values.specs.declared.faults.Syntax.TheVariants as faults
use Rattle.command_values.specs.declared.values.Context.{Context}
use Rattle.command_grammar.specs.Reading.{Generic, parsed}
use Rattle.command_values.specs.Results.{◌>>=◌}
use Rattle.command_grammar.specs.Canon.{canon, spelled}
use Rattle.command_grammar.specs.Lawful.{IsLawful}
use Rattle.command_fields.specs.declared.fields.CommandFields.{CommandFields}
use Rattle.command_parser.specs.Canonical.{generic_view, given_by, Spells, fault}
use Rattle.command_parser.specs.CommandOf.{command_of, command_in}
use Rattle.command_fields.specs.LawfulFields.{AreLawfulFields}
use Rattle.command_parser.proofs.FieldsLawful.{fields-lawful}
use Rattle.command_parser.proofs.Views.{command_of-generic, command_viewed, no_command, its_command}

unless_long : (long : Bool) (h g : Generic) → let kept : Result Generic Syntax = cond long (Err faults.TextTooLong) (Ok h) in kept ≡ Ok g → h ≡ g
unless_long true h g e = cc
unless_long false h g e = cc

parsed_of : (r : Result Generic Syntax) (g : Generic) → (r >>= λ h. cond (nat_lt 30000 (length (canon h))) (Err faults.TextTooLong) (Ok h)) ≡ Ok g → r ≡ Ok g
parsed_of (Ok h) g e = ap (λ (x : Generic). Ok x) (unless_long (nat_lt 30000 (length (canon h))) h g e)
parsed_of (Err f) g e = cc

module _ (lawful : (at : Context) (text : List ℕ) (g : Generic) → parsed at text ≡ Ok g → IsLawful g) where
  spelled_lawful : (at : Context) (text : List ℕ) (g : Generic) → spelled at text ≡ Ok g → IsLawful g
  spelled_lawful at text g h = lawful at text g (parsed_of (parsed at text) g h)

  pub lawful_fields : (issuer text : List ℕ) (c : CommandFields) → Spells issuer text c → AreLawfulFields c
  lawful_fields issuer text c spells = fields-lawful c (spelled_lawful (given_by issuer) text (generic_view c) spells)

  pub read_view : (issuer text : List ℕ) (g : Generic) → spelled (given_by issuer) text ≡ Ok g → (c : CommandFields) × (command_of g ≡ Some c) × (generic_view c ≡ g)
  read_view issuer text g h = command_viewed g (spelled_lawful (given_by issuer) text g h)

  read_one : (r : Result Generic Syntax) (c : CommandFields) → ((g : Generic) → r ≡ Ok g → IsLawful g) → option_and_then command_of (result_ok r) ≡ Some c → r ≡ Ok (generic_view c)
  read_one (Ok g) c law h = ap (λ (x : Generic). Ok x) (sym (its_command g c (law g refl) h))
  read_one (Err e) c law h = cc

  pub one : (issuer text : List ℕ) (c : CommandFields) → (Spells issuer text c ↔ (command_in issuer text ≡ Some c))
  one issuer text c = (
    (λ h. ap (λ (r : Result Generic Syntax). option_and_then command_of (result_ok r)) h ∙ command_of-generic c),
    λ h. read_one (spelled (given_by issuer) text) c (spelled_lawful (given_by issuer) text) h,
  )

  has_fault : (r : Result Generic Syntax) → ((g : Generic) → r ≡ Ok g → IsLawful g) → option_and_then command_of (result_ok r) ≡ None → IsSome (result_err r)
  has_fault (Ok g) law h = absurd (no_command g (law g refl) h)
  has_fault (Err e) law h = refl

  pub none : (issuer text : List ℕ) → command_in issuer text ≡ None → IsSome (fault issuer text)
  none issuer text h = has_fault (spelled (given_by issuer) text) (spelled_lawful (given_by issuer) text) h
