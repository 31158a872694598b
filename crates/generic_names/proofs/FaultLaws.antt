-- The faults of a text, from place to place.
use Rattle.std.proofs.Common.{◌≡◌, ℕ, ◌+◌, ◌<◌, Bool, false, eqb, List, ◌∷◌, length, get_or, drop, Option, Some, None, refl, add-one, ◌-◌, ap, ◌∙◌, arith, drop-cons, length-drop}
use Rattle.std.specs.Option.{option_or, is_some}
use Rattle.std.proofs.lemmas.Bool.Decides.{nat_tests}
use Rattle.generic_names.specs.declared.kind.NameKind.{NameKind}
use Rattle.generic_names.specs.declared.form.Form.{Form}
use Rattle.generic_names.specs.declared.fault.NameFault.{NameFault}
use Rattle.generic_names.specs.Faults.{byte_fault, bytes_fault}

drop_next : (xs : List ℕ) (i : ℕ) → i < length xs → drop i xs ≡ get_or xs i 0 ∷ drop (i + 1) xs
drop_next xs i h = rw add-one (drop-cons xs i 0 h)

is_last : (i : ℕ) (xs : List ℕ) → i < length xs → eqb (i + 1) (length xs) ≡ eqb (length (drop (i + 1) xs)) 0
is_last i xs h = let n : length (drop (i + 1) xs) ≡ length xs - (i + 1) = length-drop (i + 1) xs in rw n (grind (arith, nat_tests))

-- a test that finds nothing
pub none_from_test : (fault : Option NameFault) (found : Bool) → found ≡ is_some fault → found ≡ false → fault ≡ None
none_from_test None found is not_found = refl
none_from_test (Some x) found is not_found = absurd (cc (is, not_found))

-- a byte without fault is passed
pub bytes_fault-passed : (form : Form) (kind : NameKind) (first : Bool) (place i : ℕ) (xs : List ℕ) → i < length xs → byte_fault form kind first (eqb (i + 1) (length xs)) place (get_or xs i 0) ≡ None → bytes_fault form kind first place (drop i xs) ≡ bytes_fault form kind false (place + 1) (drop (i + 1) xs)
bytes_fault-passed form kind first place i xs h none =
    let behind : List ℕ = drop (i + 1) xs in
    let last : eqb (i + 1) (length xs) ≡ eqb (length behind) 0 = is_last i xs h in
    let passed : byte_fault form kind first (eqb (length behind) 0) place (get_or xs i 0) ≡ None = rw last at none in
    ap (λ ys. bytes_fault form kind first place ys) (drop_next xs i h)
    ∙ ap (λ fault. option_or fault (bytes_fault form kind false (place + 1) behind)) passed
