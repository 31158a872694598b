-- The canonical texts of commands.
use Rattle.std.proofs.Common.{◌≡◌, ℕ, ◌≤◌, Bool, true, false, cond, List, [], ◌∷◌, ◌++◌, length, Option, Some, None, Result, Ok, Err, bytes_eq, refl, sym, subst, ◌∙◌, arith}
use Rattle.std.specs.Prelude.{◌↔◌, nat_lt}
use Rattle.std.specs.Option.{option_and_then}
use Rattle.std.proofs.lemmas.Bool.Decides.{nat_tests}
use Rattle.std.proofs.lemmas.List.{length-append}
use Rattle.std.proofs.lemmas.Slice.Eq.{bytes_eq-Decides}
use Rattle.command_values.specs.declared.faults.Syntax.{Syntax}
use Rattle.command_values.specs.declared.faults.Syntax.TheVariants as syntax_faults
use Rattle.command_values.specs.declared.values.Context.{Context}
use Rattle.command_values.specs.Results.{◌>>=◌}
use Rattle.command_grammar.specs.Reading.{Generic, parsed}
use Rattle.command_grammar.specs.Table.{full_name}
use Rattle.command_grammar.specs.Canon.{canon, spelled, positions_text}
use Rattle.command_grammar.specs.Lawful.{IsLawful}
use Rattle.command_grammar.proofs.TableFacts.{IsMore, full_name-plain}
use Rattle.command_fields.specs.declared.fields.CommandFields.{CommandFields}
use Rattle.command_parser.specs.Canonical.{generic_view, operands_text, canonical, given_by, Spells, IsWritten}
use Rattle.command_parser.specs.Operands.{verb_of, names_of, operands_of_command}
use Rattle.command_parser.specs.CommandOf.{command_in}
use Rattle.journal_records.specs.Reading.{unless_other, canonical_command}

same_command : (whole : Bool) (d c : CommandFields) → cond whole (Some d) None ≡ Some c → (whole ≡ true) × (d ≡ c)
same_command true d c h = (refl, cc)
same_command false d c h = absurd cc

-- The command that a text spells, where that text is its canonical one.
record IsOwn (o : Option CommandFields) (text : List ℕ) (c : CommandFields) : Type 0 where
  found : o ≡ Some c
  whole : canonical c ≡ text

own : (o : Option CommandFields) (text : List ℕ) (c : CommandFields) → option_and_then (unless_other text) o ≡ Some c → IsOwn o text c
own None text c h = absurd cc
own (Some d) text c h =
    let same = same_command (bytes_eq (canonical d) text) d c h in
    let made : IsOwn (Some d) text d = record { found = refl; whole = (bytes_eq-Decides (canonical d) text).0 same.0 } in
    subst (λ (e : CommandFields). IsOwn (Some d) text e) same.1 made

its_own : (issuer text : List ℕ) (c : CommandFields) → canonical_command issuer text ≡ Some c → IsOwn (command_in issuer text) text c
its_own issuer text c h = own (command_in issuer text) text c h

pub own-again : (o : Option CommandFields) (text : List ℕ) (c : CommandFields) → o ≡ Some c → bytes_eq (canonical c) text ≡ true → option_and_then (unless_other text) o ≡ Some c
own-again o text c found same = rw (found, same) refl

-- Where the text isn't the canonical one of the command that it spells, there is none.
pub not_own : (o : Option CommandFields) (text : List ℕ) (c : CommandFields) → o ≡ Some c → bytes_eq (canonical c) text ≡ false → option_and_then (unless_other text) o ≡ None
not_own o text c found other = rw (found, other) refl

-- A view that was read from a text, whose canonical text isn't too long.
record IsRead (r : Result Generic Syntax) (g : Generic) : Type 0 where
  parsed : r ≡ Ok g
  short : nat_lt 30000 (length (canon g)) ≡ false

unless_long : (long : Bool) (h g : Generic) → let kept : Result Generic Syntax = cond long (Err syntax_faults.TextTooLong) (Ok h) in kept ≡ Ok g → (long ≡ false) × (h ≡ g)
unless_long true h g e = absurd cc
unless_long false h g e = (refl, cc)

read_of : (r : Result Generic Syntax) (g : Generic) → (r >>= λ h. cond (nat_lt 30000 (length (canon h))) (Err syntax_faults.TextTooLong) (Ok h)) ≡ Ok g → IsRead r g
read_of (Ok h) g e =
    let kept = unless_long (nat_lt 30000 (length (canon h))) h g e in
    subst (λ (x : Generic). IsRead (Ok h) x) kept.1 (record { parsed = refl; short = kept.0 })
read_of (Err f) g e = absurd cc

spelled_read : (issuer text : List ℕ) (c : CommandFields) → Spells issuer text c → IsRead (parsed (given_by issuer) text) (generic_view c)
spelled_read issuer text c spells = read_of (parsed (given_by issuer) text) (generic_view c) spells

module _
    (one : (issuer text : List ℕ) (c : CommandFields) → (Spells issuer text c ↔ (command_in issuer text ≡ Some c)))
    (tables : (c : CommandFields) → canonical c ≡ canon (generic_view c))
    (lawful : (at : Context) (text : List ℕ) (g : Generic) → parsed at text ≡ Ok g → IsLawful g)
    (again : (at : Context) (g : Generic) → IsLawful g → nat_lt 30000 (length (canon g)) ≡ false → spelled at (canon g) ≡ Ok g)
  where
    -- It spells the command, whoever gives it.
    for_all : (issuer other text : List ℕ) (c : CommandFields) → Spells issuer text c → canonical c ≡ text → Spells other text c
    for_all issuer other text c spells whole =
        let is = spelled_read issuer text c spells in
        let read : spelled (given_by other) (canon (generic_view c)) ≡ Ok (generic_view c) = again (given_by other) (generic_view c) (lawful (given_by issuer) text (generic_view c) is.parsed) is.short in
        subst (λ (t : List ℕ). spelled (given_by other) t ≡ Ok (generic_view c)) (sym (tables c) ∙ whole) read

    written : (issuer text : List ℕ) (c : CommandFields) → canonical_command issuer text ≡ Some c → IsWritten c text
    written issuer text c h =
        let is = its_own issuer text c h in
        let spells : Spells issuer text c = (one issuer text c).1 is.found in
        record { canonic = sym is.whole; spells = λ other. for_all issuer other text c spells is.whole }

    read : (issuer text : List ℕ) (c : CommandFields) → IsWritten c text → canonical_command issuer text ≡ Some c
    read issuer text c is =
        own-again (command_in issuer text) text c ((one issuer text c).0 (is.spells issuer)) ((bytes_eq-Decides (canonical c) text).1 (sym is.canonic))

    pub one_text : (issuer text : List ℕ) (c : CommandFields) → ((canonical_command issuer text ≡ Some c) ↔ IsWritten c text)
    one_text issuer text c = (written issuer text c, read issuer text c)

    pub text-short : (text : List ℕ) (c : CommandFields) → IsWritten c text → length text ≤ 30000
    text-short text c is =
        let short = (spelled_read text text c (is.spells text)).short in
        let least : length (canon (generic_view c)) ≤ 30000 = grind (arith, nat_tests) in
        subst (λ (t : List ℕ). length t ≤ 30000) (sym (tables c) ∙ sym is.canonic) least

some-bytes : (word : List ℕ) → IsMore word → 1 ≤ length word
some-bytes [] more = absurd more
some-bytes (byte ∷ bytes) more = omega arith

some-canonical : (c : CommandFields) → 1 ≤ length (canonical c)
unfolding canonical
some-canonical c =
    let name = full_name (verb_of c) in
    let behind = positions_text (names_of c) ++ operands_text (operands_of_command c) in
    let some = some-bytes name (full_name-plain (verb_of c)).some in
    omega (arith, some, length-append name behind)

pub text-some : (text : List ℕ) (c : CommandFields) → IsWritten c text → 1 ≤ length text
text-some text c is = subst (λ (t : List ℕ). 1 ≤ length t) (sym is.canonic) (some-canonical c)
