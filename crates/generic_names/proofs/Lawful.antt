-- The bytes of lawful names.
use Rattle.std.proofs.Common.{◌≡◌, ◌≢◌, ℕ, ◌+◌, ◌<◌, Bool, true, false, cond, not, ◌&&◌, ◌||◌, eqb, ltb, List, [], ◌∷◌, length, Option, Some, None, Ok, refl, ap, sym, ◌∙◌, subst, arith}
use Rattle.std.specs.Option.{option_or}
use Rattle.std.proofs.lemmas.Bool.Decides.{nat_tests}
use Rattle.std.proofs.lemmas.Slice.Eq.{bytes_eq-Decides}
use Rattle.generic_names.specs.declared.kind.NameKind.{NameKind}
use Rattle.generic_names.specs.declared.kind.NameKind.TheVariants.{DataSet, General}
use Rattle.generic_names.specs.declared.form.Form.{Form}
use Rattle.generic_names.specs.declared.form.Form.TheVariants.{Discrete, Generic}
use Rattle.generic_names.specs.declared.fault.NameFault.{NameFault}
use Rattle.generic_names.specs.declared.fault.NameFault.TheVariants.{Empty, TooLong, EmptyQualifier, QualifierTooLong, BadByte, StarInside, GenericFirst}
use Rattle.generic_names.specs.Spelled.{Spelled, qualifiers}
use Rattle.generic_names.specs.Faults.{pattern_of, is_letter, is_digit, is_ordinary, byte_fault, bytes_fault, qualifier_fault, qualifiers_fault, fault_of, unless, longest, is_too_long, is_whole, is_generic_first}
use Rattle.generic_names.specs.Laws.{IsResource, IsPattern}
use Rattle.generic_names.proofs.Bools.{either, both}

-- a byte that stands for itself in a pattern
pub record IsPlain (b : ℕ) : Type 0 where
  pub low : b < 251
  pub small : b < 256
  pub no_percent : b ≢ 37
  pub no_asterisk : b ≢ 42

plain_letter : (b : ℕ) → is_letter b ≡ true → (34 < b) × (b < 91) × (b ≢ 37) × (b ≢ 42)
plain_letter b h = grind (arith, nat_tests)

plain_digit : (b : ℕ) → is_digit b ≡ true → (47 < b) × (b < 58)
plain_digit b h = grind (arith, nat_tests)

from_letter : (b : ℕ) → is_letter b ≡ true → IsPlain b
from_letter b h = let l = plain_letter b h in record { low = omega arith; small = omega arith; no_percent = l.2; no_asterisk = l.3 }

from_digit : (b : ℕ) → is_digit b ≡ true → IsPlain b
from_digit b h = let l = plain_digit b h in record { low = omega arith; small = omega arith; no_percent = omega arith; no_asterisk = omega arith }

from_code : (b c : ℕ) → eqb b c ≡ true → IsPlain c → IsPlain b
from_code b c h p = let e : b ≡ c = grind (arith, nat_tests) in subst (λ (n : ℕ). IsPlain n) (sym e) p

plain_code : (c : ℕ) → 44 < c → c < 251 → IsPlain c
plain_code c low high = record { low = high; small = omega arith; no_percent = omega arith; no_asterisk = omega arith }

ordinary-plain : (kind : NameKind) (first : Bool) (b : ℕ) → is_ordinary kind first b ≡ true → IsPlain b
ordinary-plain DataSet first b h =
    either (is_letter b) (not first && (is_digit b || eqb b 45)) h (from_letter b)
    (λ k. both (not first) (is_digit b || eqb b 45) k (λ _ d. either (is_digit b) (eqb b 45) d (from_digit b) (λ e. from_code b 45 e (plain_code 45 (omega arith) (omega arith)))))
ordinary-plain General first b h =
    either (is_letter b || is_digit b || eqb b 45 || eqb b 95 || eqb b 47) (eqb b 58) h
    (λ k. either (is_letter b || is_digit b || eqb b 45 || eqb b 95) (eqb b 47) k
    (λ k2. either (is_letter b || is_digit b || eqb b 45) (eqb b 95) k2
    (λ k3. either (is_letter b || is_digit b) (eqb b 45) k3
    (λ k4. either (is_letter b) (is_digit b) k4 (from_letter b) (from_digit b))
    (λ e. from_code b 45 e (plain_code 45 (omega arith) (omega arith))))
    (λ e. from_code b 95 e (plain_code 95 (omega arith) (omega arith))))
    (λ e. from_code b 47 e (plain_code 47 (omega arith) (omega arith))))
    (λ e. from_code b 58 e (plain_code 58 (omega arith) (omega arith)))

-- each byte of some qualifiers is plain, or small at least
abbrev pub EachByte : (ℕ → Type 0) → List ℕ → Type 0
EachByte P [] = Unit {0}
EachByte P (b ∷ bs) = P b × EachByte P bs

abbrev pub EachQualifier : (ℕ → Type 0) → List (List ℕ) → Type 0
EachQualifier P [] = Unit {0}
EachQualifier P (q ∷ qs) = EachByte P q × EachQualifier P qs

pub first_none : (a b : Option NameFault) → option_or a b ≡ None → (a ≡ None) × (b ≡ None)
first_none None b h = (refl, h)
first_none (Some x) b h = absurd (cc (h))

-- no fault in a resource's byte
discrete_byte : (kind : NameKind) (first last : Bool) (place b : ℕ) → byte_fault Discrete kind first last place b ≡ None → IsPlain b
discrete_byte kind first last place b h = ordinary-plain kind first b (settled (is_ordinary kind first b) h)
  where
    settled : (t : Bool) → cond t None (Some (BadByte place)) ≡ None → t ≡ true
    settled true e = refl
    settled false e = absurd (cc (e))

pub discrete_bytes : (kind : NameKind) (first : Bool) (place : ℕ) (q : List ℕ) → bytes_fault Discrete kind first place q ≡ None → EachByte IsPlain q
discrete_bytes kind first place [] h = tt
discrete_bytes kind first place (b ∷ bs) h =
    let parts = first_none _ (bytes_fault Discrete kind false (place + 1) bs) h in
    (discrete_byte kind first (eqb (length bs) 0) place b parts.0, discrete_bytes kind false (place + 1) bs parts.1)

low_byte : (kind : NameKind) (first last : Bool) (place b : ℕ) → byte_fault Generic kind first last place b ≡ None → b < 251
low_byte kind first last place b h = settled (eqb b 37) (eqb b 42) refl refl h
  where
    settled : (s t : Bool) → eqb b 37 ≡ s → eqb b 42 ≡ t → cond s None (cond t (cond last None (Some (StarInside place))) (cond (is_ordinary kind first b) None (Some (BadByte place)))) ≡ None → b < 251
    settled true t is at e = let same : b ≡ 37 = grind (arith, nat_tests) in omega arith
    settled false true is at e = let same : b ≡ 42 = grind (arith, nat_tests) in omega arith
    settled false false is at e = (discrete_byte kind first last place b e).low

low_bytes : (kind : NameKind) (first : Bool) (place : ℕ) (q : List ℕ) → bytes_fault Generic kind first place q ≡ None → EachByte (λ b. b < 251) q
low_bytes kind first place [] h = tt
low_bytes kind first place (b ∷ bs) h =
    let parts = first_none _ (bytes_fault Generic kind false (place + 1) bs) h in
    (low_byte kind first (eqb (length bs) 0) place b parts.0, low_bytes kind false (place + 1) bs parts.1)

pub passed_test : (t : Bool) (x : NameFault) (rest : Option NameFault) → cond t (Some x) rest ≡ None → rest ≡ None
passed_test true x rest h = absurd (cc (h))
passed_test false x rest h = h

-- a qualifier with no fault is lawful as a whole, or byte by byte
qualifier_none : (form : Form) (kind : NameKind) (number place : ℕ) (q : List ℕ) → qualifier_fault form kind number place q ≡ None → cond (is_whole form q) None (bytes_fault form kind true place q) ≡ None
qualifier_none form kind number place q h =
    (first_none _ _ (passed_test (is_too_long kind q) _ _ (passed_test (eqb (length q) 0) _ _ h))).0

discrete_qualifiers : (kind : NameKind) (number place : ℕ) (qs : List (List ℕ)) → qualifiers_fault Discrete kind number place qs ≡ None → EachQualifier IsPlain qs
discrete_qualifiers kind number place [] h = tt
discrete_qualifiers kind number place (q ∷ qs) h =
    let parts = first_none (qualifier_fault Discrete kind number place q) (qualifiers_fault Discrete kind (number + 1) (place + length q + 1) qs) h in
    (discrete_bytes kind true place q (qualifier_none Discrete kind number place q parts.0), discrete_qualifiers kind (number + 1) (place + length q + 1) qs parts.1)

low_qualifier : (kind : NameKind) (place : ℕ) (q : List ℕ) → cond (is_whole Generic q) None (bytes_fault Generic kind true place q) ≡ None → EachByte (λ b. b < 251) q
low_qualifier kind place q h = settled (is_whole Generic q) refl h
  where
    settled : (t : Bool) → is_whole Generic q ≡ t → cond t None (bytes_fault Generic kind true place q) ≡ None → EachByte (λ b. b < 251) q
    settled true is e = subst (λ (xs : List ℕ). EachByte (λ b. b < 251) xs) (sym ((bytes_eq-Decides q (42 ∷ 42 ∷ [])).0 is)) (omega arith, (omega arith, tt))
    settled false is e = low_bytes kind true place q e

low_qualifiers : (kind : NameKind) (number place : ℕ) (qs : List (List ℕ)) → qualifiers_fault Generic kind number place qs ≡ None → EachQualifier (λ b. b < 251) qs
low_qualifiers kind number place [] h = tt
low_qualifiers kind number place (q ∷ qs) h =
    let parts = first_none (qualifier_fault Generic kind number place q) (qualifiers_fault Generic kind (number + 1) (place + length q + 1) qs) h in
    (low_qualifier kind place q (qualifier_none Generic kind number place q parts.0), low_qualifiers kind (number + 1) (place + length q + 1) qs parts.1)

-- the qualifiers of a text without fault have none
fault_none : (form : Form) (kind : NameKind) (text : List ℕ) → fault_of form kind text ≡ None → qualifiers_fault form kind 1 1 (qualifiers text) ≡ None
fault_none form kind text h = passed_test (ltb (longest kind) (length text)) _ _ (passed_test (eqb (length text) 0) _ _ h)

spelled_none : (fault : Option NameFault) (name other : Spelled) → unless fault name ≡ Ok other → fault ≡ None
spelled_none None name other h = refl
spelled_none (Some x) name other h = absurd (cc (h))

-- the bytes of a resource's name stand for themselves
pub resource-plain : (name : Spelled) → IsResource name → EachQualifier IsPlain (qualifiers name.text)
resource-plain name h = discrete_qualifiers name.kind 1 1 (qualifiers name.text) (fault_none Discrete name.kind name.text (spelled_none (fault_of Discrete name.kind name.text) _ name h))

-- the bytes of a pattern are below the five highest, and so bytes
pub pattern-low : (name : Spelled) → IsPattern name → EachQualifier (λ b. b < 251) (qualifiers name.text)
pattern-low name h = low_qualifiers name.kind 1 1 (qualifiers name.text) (fault_none Generic name.kind name.text (spelled_none (fault_of Generic name.kind name.text) _ name h))

small_bytes : (q : List ℕ) → EachByte (λ b. b < 251) q → EachByte (λ b. b < 256) q
small_bytes [] low = tt
small_bytes (b ∷ q) low = (omega (arith, low.0), small_bytes q low.1)

small_qualifiers : (qs : List (List ℕ)) → EachQualifier (λ b. b < 251) qs → EachQualifier (λ b. b < 256) qs
small_qualifiers [] low = tt
small_qualifiers (q ∷ qs) low = (small_bytes q low.0, small_qualifiers qs low.1)

pub pattern-small : (name : Spelled) → IsPattern name → EachQualifier (λ b. b < 256) (qualifiers name.text)
pattern-small name h = small_qualifiers (qualifiers name.text) (pattern-low name h)

-- a resource's name is a pattern too
generic_byte : (kind : NameKind) (first last : Bool) (place b : ℕ) → byte_fault Discrete kind first last place b ≡ None → byte_fault Generic kind first last place b ≡ None
generic_byte kind first last place b h =
    let plain = discrete_byte kind first last place b h in
    let percent : eqb b 37 ≡ false = (let n : b ≢ 37 = plain.no_percent in grind (arith, nat_tests)) in
    let asterisk : eqb b 42 ≡ false = (let n : b ≢ 42 = plain.no_asterisk in grind (arith, nat_tests)) in
    rw (percent, asterisk) h

generic_bytes : (kind : NameKind) (first : Bool) (place : ℕ) (q : List ℕ) → bytes_fault Discrete kind first place q ≡ None → bytes_fault Generic kind first place q ≡ None
generic_bytes kind first place [] h = refl
generic_bytes kind first place (b ∷ bs) h =
    let parts = first_none (byte_fault Discrete kind first (eqb (length bs) 0) place b) (bytes_fault Discrete kind false (place + 1) bs) h in
    ap (λ (o : Option NameFault). option_or o (bytes_fault Generic kind false (place + 1) bs)) (generic_byte kind first (eqb (length bs) 0) place b parts.0)
    ∙ generic_bytes kind false (place + 1) bs parts.1

whole_or : (t : Bool) (o : Option NameFault) → o ≡ None → cond t None o ≡ None
whole_or true o h = refl
whole_or false o h = h

kept_test : (t : Bool) (x : NameFault) (rest other : Option NameFault) → cond t (Some x) rest ≡ None → (rest ≡ None → other ≡ None) → cond t (Some x) other ≡ None
kept_test true x rest other h k = absurd (cc (h))
kept_test false x rest other h k = k h

generic_qualifier : (kind : NameKind) (number place : ℕ) (q : List ℕ) → qualifier_fault Discrete kind number place q ≡ None → qualifier_fault Generic kind number place q ≡ None
generic_qualifier kind number place q h =
    kept_test (eqb (length q) 0) (EmptyQualifier number) _ _ h
    (λ h₂. kept_test (is_too_long kind q) (QualifierTooLong number) _ _ h₂
    (λ h₃.
    let parts = first_none (bytes_fault Discrete kind true place q) (cond (is_generic_first kind number q) (Some GenericFirst) None) h₃ in
    let bytes : cond (is_whole Generic q) None (bytes_fault Generic kind true place q) ≡ None = whole_or (is_whole Generic q) _ (generic_bytes kind true place q parts.0) in
    ap (λ (o : Option NameFault). option_or o (cond (is_generic_first kind number q) (Some GenericFirst) None)) bytes ∙ parts.1))

generic_qualifiers : (kind : NameKind) (number place : ℕ) (qs : List (List ℕ)) → qualifiers_fault Discrete kind number place qs ≡ None → qualifiers_fault Generic kind number place qs ≡ None
generic_qualifiers kind number place [] h = refl
generic_qualifiers kind number place (q ∷ qs) h =
    let parts = first_none (qualifier_fault Discrete kind number place q) (qualifiers_fault Discrete kind (number + 1) (place + length q + 1) qs) h in
    ap (λ (o : Option NameFault). option_or o (qualifiers_fault Generic kind (number + 1) (place + length q + 1) qs)) (generic_qualifier kind number place q parts.0)
    ∙ generic_qualifiers kind (number + 1) (place + length q + 1) qs parts.1

pub resource-pattern : (name : Spelled) → IsResource name → IsPattern name
resource-pattern name h =
    let none : fault_of Discrete name.kind name.text ≡ None = spelled_none (fault_of Discrete name.kind name.text) _ name h in
    let same : fault_of Generic name.kind name.text ≡ None =
    kept_test (eqb (length name.text) 0) Empty _ _ none
    (λ h₂. kept_test (ltb (longest name.kind) (length name.text)) TooLong _ _ h₂
    (λ h₃. generic_qualifiers name.kind 1 1 (qualifiers name.text) h₃)) in
    ap (λ (o : Option NameFault). unless o name) same

-- what is read has the text that was read
pub reads_back : (kind : NameKind) (text : List ℕ) (name : Spelled) → pattern_of kind text ≡ Ok name → (name ≡ record { kind = kind; text = text }) × IsPattern name
reads_back kind text name h = settled (fault_of Generic kind text) refl h
  where
    settled : (o : Option NameFault) → fault_of Generic kind text ≡ o → unless o (record { kind = kind; text = text }) ≡ Ok name → (name ≡ record { kind = kind; text = text }) × IsPattern name
    settled None is e =
        let same : name ≡ record { kind = kind; text = text } = (cc (e)) in
        (same, subst (λ (n : Spelled). IsPattern n) (sym same) (ap (λ (o : Option NameFault). unless o (record { kind = kind; text = text })) is))
    settled (Some x) is e = absurd (cc (e))
