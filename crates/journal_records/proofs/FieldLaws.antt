-- The fields of identifiers, written and read.
use Rattle.std.proofs.Common.{◌≡◌, ℕ, zero, suc, ◌+◌, ◌-◌, Bool, true, false, cond, List, [], ◌∷◌, ◌++◌, length, replicate, Option, Some, None, Result, Ok, Err, is_ok, bytes_eq, refl, sym, ap, subst, ◌∙◌, arith}
use Rattle.std.specs.Prelude.{◌↔◌, ◌==◌, not, ◌&&◌, nat_lt}
use Rattle.std.specs.List.{position_from, before_first}
use Rattle.std.proofs.lemmas.Bool.Decides.{nat_tests}
use Rattle.std.proofs.lemmas.List.{length-append, length-replicate}
use Rattle.std.proofs.lemmas.List.Sums.{take_while-cons}
use Rattle.std.proofs.lemmas.Slice.Eq.{bytes_eq-Decides}
use Rattle.access_levels.specs.Spelling.{is_id_byte, id_of, group_of, unless_bad, bad_byte, bad_group_byte, begins_with_digit}
use Rattle.access_levels.proofs.SpelledIds.{id_of-short}
use Rattle.access_levels.specs.declared.ids.IdFault.{IdFault}
use Rattle.access_levels.specs.declared.ids.IdFault.TheVariants.{Empty, TooLong}
use Rattle.journal_records.specs.Spelling.{filled}
use Rattle.journal_records.specs.Reading.{is_blank, id_in}

-- ---- spellings

abbrev named : (empty long : Bool) → Option ℕ → List ℕ → Result (List ℕ) IdFault
named empty long bad text = cond empty (Err Empty) (cond long (Err TooLong) (unless_bad bad text))

name-itself : (empty long : Bool) (bad : Option ℕ) (text : List ℕ) → is_ok (named empty long bad text) ≡ true → named empty long bad text ≡ Ok text
name-itself true long bad text h = cc
name-itself false true bad text h = cc
name-itself false false None text h = refl
name-itself false false (Some place) text h = cc

name-good : (empty long : Bool) (bad : Option ℕ) (text : List ℕ) → is_ok (named empty long bad text) ≡ true → (empty ≡ false) × (long ≡ false) × (bad ≡ None)
name-good true long bad text h = absurd cc
name-good false true bad text h = absurd cc
name-good false false None text h = (refl, refl, refl)
name-good false false (Some place) text h = absurd cc

pub id-itself : (text : List ℕ) → is_ok (id_of text) ≡ true → id_of text ≡ Ok text
id-itself text h = name-itself (length text == 0) (nat_lt 8 (length text)) (bad_byte text) text h

pub id-good : (text : List ℕ) → id_of text ≡ Ok text → bad_byte text ≡ None
id-good text h = (name-good (length text == 0) (nat_lt 8 (length text)) (bad_byte text) text (ap is_ok h)).2

unless_digit : (digit : Bool) (bad : Option ℕ) → cond digit (Some 1) bad ≡ None → bad ≡ None
unless_digit true bad h = cc
unless_digit false bad h = h

-- The name of a group is an identifier.
pub group-id : (text : List ℕ) → is_ok (group_of text) ≡ true → id_of text ≡ Ok text
group-id text h =
    let good = name-good (length text == 0) (nat_lt 8 (length text)) (bad_group_byte text) text h in
    let empty : (length text == 0) ≡ false = good.0 in
    let short : nat_lt 8 (length text) ≡ false = good.1 in
    let bad : bad_byte text ≡ None = unless_digit (begins_with_digit text) (bad_byte text) good.2 in
    rw (empty, short, bad) refl

-- ---- fields

no_blank : (byte : ℕ) → not (is_id_byte byte) ≡ false → is_blank byte ≡ false
no_blank byte h = grind (arith, nat_tests)

abbrev blanks : ℕ → List ℕ
blanks n = replicate n 32

only_blanks : (n : ℕ) → before_first is_blank (blanks n) ≡ []
only_blanks zero = refl
only_blanks (suc n) = refl

passed : (bad : Bool) (place : ℕ) (rest : Option ℕ) → cond bad (Some place) rest ≡ None → (bad ≡ false) × (rest ≡ None)
passed true place rest h = absurd cc
passed false place rest h = (refl, h)

front-filled : (text : List ℕ) (place n : ℕ) → position_from (λ byte. not (is_id_byte byte)) place text ≡ None → before_first is_blank (text ++ blanks n) ≡ text
front-filled [] place n h = only_blanks n
front-filled (byte ∷ text) place n h =
    let both = passed (not (is_id_byte byte)) place (position_from (λ byte. not (is_id_byte byte)) (place + 1) text) h in
    let blank : is_blank byte ≡ false = no_blank byte both.0 in
    let rest = front-filled text (place + 1) n both.1 in
    take_while-cons (λ byte. not (is_blank byte)) byte (text ++ blanks n) ∙ rw blank (ap (λ (t : List ℕ). byte ∷ t) rest)

pub length-filled : (id : List ℕ) → id_of id ≡ Ok id → length (filled id) ≡ 8
length-filled id h = let short = id_of-short id id h in omega (arith, length-append id (blanks (8 - length id)), length-replicate {A = ℕ} (8 - length id) 32)

-- The field of an identifier is read as the identifier.
pub filled-again : (id : List ℕ) → id_of id ≡ Ok id → id_in (filled id) ≡ Some id
filled-again id h =
    let front : before_first is_blank (filled id) ≡ id = front-filled id 1 (8 - length id) (id-good id h) in
    let same : bytes_eq (filled id) (filled id) ≡ true = (bytes_eq-Decides (filled id) (filled id)).1 refl in
    rw (front, h, same) refl

filled_in : (spelled whole : Bool) (text id : List ℕ) → cond (spelled && whole) (Some text) None ≡ Some id → (spelled ≡ true) × (whole ≡ true) × (text ≡ id)
filled_in true true text id h = (refl, refl, cc)
filled_in true false text id h = absurd cc
filled_in false whole text id h = absurd cc

pub record IsField (field id : List ℕ) : Type 0 where
  pub spelled : id_of id ≡ Ok id
  pub whole : field ≡ filled id

-- What a field is read as is an identifier, whose field it is.
pub field-filled : (field id : List ℕ) → id_in field ≡ Some id → IsField field id
field-filled field id h =
    let front = before_first is_blank field in
    let found = filled_in (is_ok (id_of front)) (bytes_eq (filled front) field) front id h in
    let made : IsField field front = record { spelled = id-itself front found.0; whole = sym ((bytes_eq-Decides (filled front) field).0 found.1) } in
    subst (λ (t : List ℕ). IsField field t) found.2 made

pub one_field : (field id : List ℕ) → ((id_in field ≡ Some id) ↔ ((id_of id ≡ Ok id) × (field ≡ filled id)))
one_field field id = (
  (λ h. let is = field-filled field id h in (is.spelled, is.whole)),
  λ h. ap id_in h.1 ∙ filled-again id h.0,
)
