-- Texts without fault, told in one pass.
use Rattle.std.proofs.Common.{◌≡◌, ◌≢◌, ℕ, ◌+◌, ◌<◌, ◌≤◌, Bool, true, false, cond, ◌&&◌, ◌||◌, eqb, ltb, List, [], ◌∷◌, length, Option, Some, None, refl, ap, ◌∙◌, subst, arith}
use Rattle.std.specs.Option.{option_or}
use Rattle.std.specs.List.{list_any, onto_first}
use Rattle.std.proofs.lemmas.Bool.Decides.{nat_tests}
use Rattle.generic_names.specs.declared.kind.NameKind.{NameKind}
use Rattle.generic_names.specs.declared.kind.NameKind.TheVariants.{DataSet, General}
use Rattle.generic_names.specs.declared.form.Form.TheVariants.{Discrete}
use Rattle.generic_names.specs.declared.fault.NameFault.{NameFault}
use Rattle.generic_names.specs.declared.fault.NameFault.TheVariants.{BadByte}
use Rattle.generic_names.specs.Spelled.{qualifiers}
use Rattle.generic_names.specs.Faults.{is_ordinary, bytes_fault, qualifier_fault, qualifiers_fault, is_too_long, is_generic_first}
use Rattle.generic_names.proofs.Bools.{both}
use Rattle.generic_names.proofs.Lawful.{EachByte, IsPlain, discrete_bytes}

-- whether the rest of a text goes on without fault, where so many bytes of its first qualifier are passed
abbrev pub goes_on : NameKind → ℕ → ℕ → List ℕ → Bool
goes_on kind longest passed [] = ltb 0 passed
goes_on kind longest passed (b ∷ text) =
    cond (eqb b 46) (ltb 0 passed && goes_on kind longest 0 text)
    (ltb passed longest && (is_ordinary kind (eqb passed 0) b && goes_on kind longest (passed + 1) text))

-- the most bytes that a qualifier may have
abbrev pub IsLongest : NameKind → ℕ → Type 0
IsLongest kind longest = (q : List ℕ) → length q ≤ longest → is_too_long kind q ≡ false

and-false : (t : Bool) → (t && false) ≡ false
and-false true = refl
and-false false = refl

-- What the pass tells: the first qualifier has no fault, of which so many bytes are passed, and those behind it have
-- none.
record StartsWell (kind : NameKind) (longest passed : ℕ) (qs : List (List ℕ)) : Type 0 where
  first : List ℕ
  behind : List (List ℕ)
  are : qs ≡ first ∷ behind
  bytes : (place : ℕ) → bytes_fault Discrete kind (eqb passed 0) place first ≡ None
  some : 0 < passed + length first
  fits : passed + length first ≤ longest
  rest : (number place : ℕ) → qualifiers_fault Discrete kind number place behind ≡ None

plain-none : (q : List ℕ) → EachByte IsPlain q → list_any (λ b. eqb b 37 || eqb b 42) q ≡ false
plain-none [] h = refl
plain-none (b ∷ q) h =
    let percent : eqb b 37 ≡ false = (let n : b ≢ 37 = h.0.no_percent in grind (arith, nat_tests)) in
    let asterisk : eqb b 42 ≡ false = (let n : b ≢ 42 = h.0.no_asterisk in grind (arith, nat_tests)) in
    rw (percent, asterisk, plain-none q h.1) refl

not-generic : (kind : NameKind) (number : ℕ) (q : List ℕ) → EachByte IsPlain q → is_generic_first kind number q ≡ false
not-generic DataSet number q h = ap (λ (t : Bool). eqb number 1 && t) (plain-none q h) ∙ and-false (eqb number 1)
not-generic General number q h = refl

good-qualifier : (kind : NameKind) (number place : ℕ) (q : List ℕ) → 0 < length q → is_too_long kind q ≡ false → bytes_fault Discrete kind true place q ≡ None → qualifier_fault Discrete kind number place q ≡ None
good-qualifier kind number place q some fits bytes =
    let whole : eqb (length q) 0 ≡ false = grind (arith, nat_tests) in
    rw (whole, fits, bytes, not-generic kind number q (discrete_bytes kind true place q bytes)) refl

good-whole : (kind : NameKind) (longest : ℕ) (qs : List (List ℕ)) → IsLongest kind longest → StartsWell kind longest 0 qs → (number place : ℕ) → qualifiers_fault Discrete kind number place qs ≡ None
good-whole kind longest qs most w number place =
    ap (λ (all : List (List ℕ)). qualifiers_fault Discrete kind number place all) w.are
    ∙ ap (λ (fault : Option NameFault). option_or fault (qualifiers_fault Discrete kind (number + 1) (place + length w.first + 1) w.behind))
    (good-qualifier kind number place w.first (omega (arith, w.some)) (most w.first (omega (arith, w.fits))) (w.bytes place))
    ∙ w.rest (number + 1) (place + length w.first + 1)

one-more : (kind : NameKind) (longest passed b : ℕ) (qs : List (List ℕ)) → is_ordinary kind (eqb passed 0) b ≡ true → StartsWell kind longest (passed + 1) qs → StartsWell kind longest passed (onto_first b qs)
one-more kind longest passed b qs ordinary w =
    let later : eqb (passed + 1) 0 ≡ false = grind (arith, nat_tests) in
    record {
      first = b ∷ w.first;
      behind = w.behind;
      are = ap (λ (all : List (List ℕ)). onto_first b all) w.are;
      bytes = λ place.
          ap (λ (t : Bool). option_or (cond t None (Some (BadByte place))) (bytes_fault Discrete kind false (place + 1) w.first)) ordinary
          ∙ subst (λ (t : Bool). bytes_fault Discrete kind t (place + 1) w.first ≡ None) later (w.bytes (place + 1));
      some = omega arith;
      fits = omega (arith, w.fits);
      rest = w.rest;
    }

starts-well : (kind : NameKind) (longest : ℕ) (most : IsLongest kind longest) (passed : ℕ) (text : List ℕ) → passed ≤ longest → goes_on kind longest passed text ≡ true → StartsWell kind longest passed (qualifiers text)
starts-well kind longest most passed [] low h = record {
  first = [];
  behind = [];
  are = refl;
  bytes = λ place. refl;
  some = grind (arith, nat_tests);
  fits = omega arith;
  rest = λ number place. refl;
}
starts-well kind longest most passed (b ∷ text) low h = settled (eqb b 46) (λ l w. starts-well kind longest most 0 text l w) (λ l w. starts-well kind longest most (passed + 1) text l w) h
  where
    settled : (t : Bool) → (0 ≤ longest → goes_on kind longest 0 text ≡ true → StartsWell kind longest 0 (qualifiers text))
        → (passed + 1 ≤ longest → goes_on kind longest (passed + 1) text ≡ true → StartsWell kind longest (passed + 1) (qualifiers text))
        → cond t (ltb 0 passed && goes_on kind longest 0 text) (ltb passed longest && (is_ordinary kind (eqb passed 0) b && goes_on kind longest (passed + 1) text)) ≡ true
        → StartsWell kind longest passed (cond t ([] ∷ qualifiers text) (onto_first b (qualifiers text)))
    settled true next more h = both (ltb 0 passed) (goes_on kind longest 0 text) h (λ s w. record {
      first = [];
      behind = qualifiers text;
      are = refl;
      bytes = λ place. refl;
      some = grind (arith, nat_tests);
      fits = omega arith;
      rest = good-whole kind longest (qualifiers text) most (next (omega arith) w);
    })
    settled false next more h =
        both (ltb passed longest) (is_ordinary kind (eqb passed 0) b && goes_on kind longest (passed + 1) text) h
        (λ l k. both (is_ordinary kind (eqb passed 0) b) (goes_on kind longest (passed + 1) text) k
        (λ o w. let room : passed < longest = grind (arith, nat_tests) in one-more kind longest passed b (qualifiers text) o (more (omega arith) w)))

pub faultless : (kind : NameKind) (longest : ℕ) (text : List ℕ) → IsLongest kind longest → goes_on kind longest 0 text ≡ true → qualifiers_fault Discrete kind 1 1 (qualifiers text) ≡ None
faultless kind longest text most h = good-whole kind longest (qualifiers text) most (starts-well kind longest most 0 text (omega arith) h) 1 1
