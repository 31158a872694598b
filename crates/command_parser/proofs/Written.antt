-- A command that was read is written as its canonical text.
use Rattle.std.proofs.Common.{◌≡◌, ℕ, ◌≤◌, List, length, false, Ok, sym, ap, subst, ◌∙◌, arith}
use Rattle.std.specs.Prelude.{nat_lt}
use Rattle.std.proofs.lemmas.Bool.Decides.{nat_tests}
use Rattle.command_values.specs.declared.values.Context.{Context}
use Rattle.command_fields.specs.declared.fields.CommandFields.{CommandFields}
use Rattle.command_grammar.specs.Reading.{Generic}
use Rattle.command_grammar.specs.Canon.{canon, spelled}
use Rattle.command_parser.specs.Canonical.{generic_view, given_by, IsWritten}
use Rattle.command_parser.proofs.Tabled.{canonical-canon}

not_long : (n : ℕ) → n ≤ 30000 → nat_lt 30000 n ≡ false
not_long n h = grind (arith, nat_tests)

pub written : (c : CommandFields) (g : Generic) (text : List ℕ) → generic_view c ≡ g → text ≡ canon g → length text ≤ 30000
    → ((at : Context) → nat_lt 30000 (length (canon g)) ≡ false → spelled at (canon g) ≡ Ok g) → IsWritten c text
written c g text seen same short again =
    let few : length (canon g) ≤ 30000 = subst (λ (bs : List ℕ). length bs ≤ 30000) same short in
    record {
      canonic = same ∙ ap canon (sym seen) ∙ sym (canonical-canon c);
      spells = λ issuer. ap (spelled (given_by issuer)) same ∙ again (given_by issuer) (not_long (length (canon g)) few) ∙ ap Ok (sym seen);
    }
