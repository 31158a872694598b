-- Each spelling of a field has one value, and each value one spelling.
use Rattle.std.proofs.Common.{◌≡◌, ℕ, zero, suc, ◌+◌, ◌*◌, ◌/◌, ◌%◌, ◌^◌, ◌<◌, Bool, true, false, cond, List, [], ◌∷◌, length, Option, Some, None, is_ok, bytes_eq, refl, sym, ap, ◌∙◌, arith}
use Rattle.std.specs.Prelude.{◌==◌, codes, option_map}
use Rattle.std.specs.Int.{byte_at, bytes_low_first}
use Rattle.std.proofs.Math.Nat.{div-div-eq-div-mul, div-one, pow-succ'}
use Rattle.byteorder.specs.Numbers.{little_from-cons}
use Rattle.std.specs.List.{find, list_all}
use Rattle.std.specs.Result.{result_ok}
use Rattle.std.proofs.lemmas.Bool.{eqb-true}
use Rattle.std.proofs.lemmas.Slice.Eq.{bytes_eq-Decides}
use Rattle.byteorder.specs.Endian.{big_bytes, big_number, little_from}
use Rattle.access_levels.specs.Spelling.{id_of, group_of}
use Rattle.access_levels.specs.declared.entries.Who.{Who}
use Rattle.access_levels.specs.declared.entries.Who.TheVariants.{Star, Named}
use Rattle.generic_names.specs.Spelled.{Spelled}
use Rattle.generic_names.specs.Faults.{unless}
use Rattle.generic_names.specs.declared.fault.NameFault.{NameFault}
use Rattle.racf_profiles.specs.LawfulProfiles.{kind_in}
use Rattle.racf_profiles.specs.LawfulUsers.{is_printable}
use Rattle.database_image.specs.Forms.{number_spelling}
use Rattle.database_image.specs.Fields.{filled, front, of_text, filled_spelling, id_text, group_text, itself, text_or_none, unless_blank, who_text, who_of, rank_spelling, set_spelling, text_spelling}
use Rattle.database_image.specs.Description.{printable, pattern_in, member_in, spelled_text}
use Rattle.database_image.specs.Reading.{AreBytes}
use Rattle.database_image.proofs.Exact.{IsUnique}

-- ---- numbers

abbrev the_some : {A : Type 0} → A → Option A
the_some x = Some x

some_is : {A : Type 0} (x y : A) → the_some x ≡ the_some y → x ≡ y
some_is x y e = cc

one_byte : (a n : ℕ) → a < 256 → big_number 1 (a ∷ []) ≡ n → big_bytes 1 n ≡ a ∷ []
one_byte a n h e = ap (λ (x : ℕ). x ∷ []) (omega (arith, h, e))

pub unique-1 : IsUnique (number_spelling 1)
unique-1 [] n fits len e = absurd (omega (arith, len))
unique-1 (a ∷ []) n fits len e = one_byte a n (fits 0) (some_is _ _ e)
unique-1 (a ∷ b ∷ bytes) n fits len e = absurd (omega (arith, len))

two_bytes : (a b n : ℕ) → a < 256 → b < 256 → big_number 2 (a ∷ b ∷ []) ≡ n → big_bytes 2 n ≡ a ∷ b ∷ []
two_bytes a b n h k e =
    let high : n / 256 % 256 ≡ a = omega (arith, h, k, e) in
    let low : n % 256 ≡ b = omega (arith, h, k, e) in
    rw (high, low) refl

pub unique-2 : IsUnique (number_spelling 2)
unique-2 [] n fits len e = absurd (omega (arith, len))
unique-2 (a ∷ []) n fits len e = absurd (omega (arith, len))
unique-2 (a ∷ b ∷ []) n fits len e = two_bytes a b n (fits 0) (fits 1) (some_is _ _ e)
unique-2 (a ∷ b ∷ c ∷ bytes) n fits len e = absurd (omega (arith, len))

four_bytes : (a b c d n : ℕ) → a < 256 → b < 256 → c < 256 → d < 256 → big_number 4 (a ∷ b ∷ c ∷ d ∷ []) ≡ n → big_bytes 4 n ≡ a ∷ b ∷ c ∷ d ∷ []
four_bytes a b c d n h i j k e =
    let w : n / 16777216 % 256 ≡ a = omega (arith, h, i, j, k, e) in
    let x : n / 65536 % 256 ≡ b = omega (arith, h, i, j, k, e) in
    let y : n / 256 % 256 ≡ c = omega (arith, h, i, j, k, e) in
    let z : n % 256 ≡ d = omega (arith, h, i, j, k, e) in
    rw (w, x, y, z) refl

pub unique-4 : IsUnique (number_spelling 4)
unique-4 [] n fits len e = absurd (omega (arith, len))
unique-4 (a ∷ []) n fits len e = absurd (omega (arith, len))
unique-4 (a ∷ b ∷ []) n fits len e = absurd (omega (arith, len))
unique-4 (a ∷ b ∷ c ∷ []) n fits len e = absurd (omega (arith, len))
unique-4 (a ∷ b ∷ c ∷ d ∷ []) n fits len e = four_bytes a b c d n (fits 0) (fits 1) (fits 2) (fits 3) (some_is _ _ e)
unique-4 (a ∷ b ∷ c ∷ d ∷ f ∷ bytes) n fits len e = absurd (omega (arith, len))

-- ---- texts in eight bytes

abbrev pub IsTextOf : {A : Type 0} → (A → List ℕ) → (List ℕ → Option A) → Type 0
IsTextOf {A = A} text value = (t : List ℕ) (x : A) → value t ≡ Some x → text x ≡ t

pub whole_text : (whole : Bool) (bytes : List ℕ) {A : Type 0} (value : List ℕ → Option A) (x : A) → of_text value (cond whole (Some (front bytes)) None) ≡ Some x → (whole ≡ true) × (value (front bytes) ≡ Some x)
whole_text true bytes value x e = (refl, e)
whole_text false bytes value x e = absurd cc

pub unique-filled : {A : Type 0} (text : A → List ℕ) (value : List ℕ → Option A) → IsTextOf text value → IsUnique (filled_spelling text value)
unique-filled text value own bytes x fits len e =
    let w = whole_text (bytes_eq (filled (front bytes)) bytes) bytes value x e in
    ap filled (own (front bytes) x w.1) ∙ (bytes_eq-Decides (filled (front bytes)) bytes).0 w.0

kept : (spelled : Bool) (t x : List ℕ) → cond spelled (Some t) None ≡ Some x → x ≡ t
kept true t x e = cc
kept false t x e = absurd cc

pub id-own : IsTextOf itself id_text
id-own t x e = kept (is_ok (id_of t)) t x e

pub group-own : IsTextOf itself group_text
group-own t x e = kept (is_ok (group_of t)) t x e

mapped_some : (value : Option (List ℕ)) (x : Option (List ℕ)) → option_map Some value ≡ Some x → (y : List ℕ) × (value ≡ Some y) × (x ≡ Some y)
mapped_some None x e = absurd cc
mapped_some (Some y) x e = (y, refl, cc)

pub blank-own : (value : List ℕ → Option (List ℕ)) → IsTextOf itself value → IsTextOf text_or_none (unless_blank value)
blank-own value own [] x e = ap text_or_none (sym (some_is _ _ e))
blank-own value own (byte ∷ t) x e =
    let m = mapped_some (value (byte ∷ t)) x e in
    ap text_or_none m.2 ∙ own (byte ∷ t) m.0 m.1

named_who : (value : Option (List ℕ)) (x : Who) → option_map Named value ≡ Some x → (y : List ℕ) × (value ≡ Some y) × (x ≡ Named y)
named_who None x e = absurd cc
named_who (Some y) x e = (y, refl, cc)

who_case : (star : Bool) (t : List ℕ) (x : Who) → cond star (Some Star) (option_map Named (id_text t)) ≡ Some x → (star ≡ bytes_eq t (codes "*")) → who_text x ≡ t
who_case true t x e is = ap who_text (sym (some_is _ _ e)) ∙ sym ((bytes_eq-Decides t (codes "*")).0 (sym is))
who_case false t x e is = let m = named_who (id_text t) x e in ap who_text m.2 ∙ id-own t m.0 m.1

pub who-own : IsTextOf who_text who_of
who-own t x e = who_case (bytes_eq t (codes "*")) t x e refl

-- ---- ranks

found_at : {A : Type 0} (test : A → Bool) (v x : A) (is : Bool) (rest : Option A) → test v ≡ is → (rest ≡ Some x → test x ≡ true) → cond is (Some v) rest ≡ Some x → test x ≡ true
found_at test v x true rest h later e = ap test (sym (some_is _ _ e)) ∙ h
found_at test v x false rest h later e = later e

found : {A : Type 0} (test : A → Bool) (values : List A) (x : A) → find test values ≡ Some x → test x ≡ true
found test [] x e = absurd cc
found test (v ∷ values) x e = found_at test v x (test v) (find test values) refl (found test values x) e

same_number : (a b : ℕ) → (a == b) ≡ true → a ≡ b
same_number a b h = eqb-true a b h

pub unique-rank : {A : Type 0} (rank : A → ℕ) (values : List A) → IsUnique (rank_spelling rank values)
unique-rank rank values [] x fits len e = absurd (omega (arith, len))
unique-rank rank values (a ∷ []) x fits len e =
    let h : rank x ≡ big_number 1 (a ∷ []) = same_number _ _ (found (λ y. rank y == big_number 1 (a ∷ [])) values x e) in
    ap (λ (n : ℕ). n ∷ []) (h ∙ omega arith)
unique-rank rank values (a ∷ b ∷ bytes) x fits len e = absurd (omega (arith, len))

-- ---- texts of their own length

pub unique-text : {A : Type 0} (text : A → List ℕ) (value : List ℕ → Option A) (width : ℕ) → IsTextOf text value → IsUnique (text_spelling text value width)
unique-text text value width own bytes x fits len e = own bytes x e

pub printable-own : IsTextOf itself printable
printable-own t x e = kept (list_all is_printable t) t x e

unless_own : (fault : Option NameFault) (name x : Spelled) → result_ok (unless fault name) ≡ Some x → x ≡ name
unless_own None name x e = cc
unless_own (Some fault) name x e = absurd cc

pub pattern-own : (class : List ℕ) → IsTextOf spelled_text (pattern_in class)
unfolding pattern_in
pattern-own class t x e = ap spelled_text (unless_own _ (record { kind = kind_in class; text = t }) x e)

pub member-own : (profile : List ℕ) → IsTextOf spelled_text (member_in profile)
unfolding member_in
member-own profile t x e = ap spelled_text (unless_own _ (record { kind = kind_in profile; text = t }) x e)

-- ---- sets

behind_first : (a m : ℕ) → a < 256 → (a + 256 * m) / 256 ≡ m
behind_first a m h = omega (arith, h)

first_of_bytes : (a m : ℕ) → a < 256 → (a + 256 * m) % 256 ≡ a
first_of_bytes a m h = omega (arith, h)

-- a byte's place in a number
byte_at-pow : (k x : ℕ) → byte_at k x ≡ x / 256 ^ k % 256
byte_at-pow zero x = ap (λ (y : ℕ). y % 256) (sym (div-one x))
byte_at-pow (suc k) x = refl

next_byte : (j a m : ℕ) → a < 256 → byte_at (suc j) (a + 256 * m) ≡ byte_at j m
next_byte j a m h =
    byte_at-pow (suc j) (a + 256 * m)
    ∙ ap (λ (p : ℕ). (a + 256 * m) / p % 256) (pow-succ' 256 j)
    ∙ ap (λ (x : ℕ). x % 256) (sym (div-div-eq-div-mul (a + 256 * m) 256 (256 ^ j)) ∙ ap (λ (x : ℕ). x / 256 ^ j) (behind_first a m h))
    ∙ sym (byte_at-pow j m)

next_bytes : (k j a m : ℕ) → a < 256 → bytes_low_first (suc j) k (a + 256 * m) ≡ bytes_low_first j k m
next_bytes zero j a m h = refl
next_bytes (suc k) j a m h = rw (next_byte j a m h, next_bytes k (suc j) a m h) refl

AreBytes-tail : (a : ℕ) (bytes : List ℕ) → AreBytes (a ∷ bytes) → AreBytes bytes
AreBytes-tail a bytes fits i = fits (suc i)

little-back : (k : ℕ) (bytes : List ℕ) → length bytes ≡ k → AreBytes bytes → bytes_low_first 0 k (little_from 0 k bytes) ≡ bytes
little-back zero [] len fits = refl
little-back zero (a ∷ bytes) len fits = absurd (omega (arith, len))
little-back (suc k) [] len fits = absurd (omega (arith, len))
little-back (suc k) (a ∷ bytes) len fits =
    let moved : little_from 1 k (a ∷ bytes) ≡ little_from 0 k bytes = little_from-cons 0 k a bytes in
    let first : byte_at 0 (a + 256 * little_from 0 k bytes) ≡ a = byte_at-pow 0 (a + 256 * little_from 0 k bytes) ∙ omega (arith, first_of_bytes a (little_from 0 k bytes) (fits 0)) in
    rw (moved, first, next_bytes k 0 a (little_from 0 k bytes) (fits 0), little-back k bytes (omega (arith, len)) (AreBytes-tail a bytes fits)) refl

pub unique-set : IsUnique set_spelling
unique-set bytes x fits len e = ap (bytes_low_first 0 32) (sym (some_is _ _ e)) ∙ little-back 32 bytes len fits
