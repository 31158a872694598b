-- Facts of profiles' names that were read: their bytes, and how they are read again.
use Rattle.std.proofs.Common.{◌≡◌, ℕ, suc, ◌+◌, List, [], ◌∷◌, ◌++◌, length, map, take, Bool, true, false, cond, not, ◌&&◌, ◌||◌, Option, None, Some, refl, sym, ap, subst, ◌∙◌, arith, length-append}
use Rattle.std.specs.Prelude.{◌==◌, nat_le, nat_lt, position, is_ok}
use Rattle.std.specs.List.{list_all, list_any, position_or_len}
use Rattle.std.specs.Result.{result_ok}
use Rattle.std.proofs.lemmas.Bool.{eqb-true, and_parts, not-true}
use Rattle.std.proofs.lemmas.Bool.Decides.{nat_tests}
use Rattle.std.proofs.Math.Seq.{take-append_seam}
use Rattle.access_levels.specs.Spelling.{id_of}
use Rattle.generic_names.specs.declared.kind.NameKind.{NameKind}
use Rattle.generic_names.specs.declared.kind.NameKind.TheVariants.{DataSet, General}
use Rattle.generic_names.specs.Spelled.{Spelled, first_qualifier}
use Rattle.generic_names.specs.Faults.{pattern_of, member_of, is_letter as is_name_letter, is_digit}
use Rattle.generic_names.specs.Covers.{is_generic}
use Rattle.command_values.proofs.NameBytes.{is_name_byte, pattern-read, member-read}
use Rattle.racf_profiles.specs.declared.fixed_classes.NameForm.{NameForm}
use Rattle.racf_profiles.specs.declared.fixed_classes.NameForm.TheVariants as forms
use Rattle.command_words.specs.declared.quoting.Quoting.TheVariants.{Ignored}
use Rattle.command_words.specs.Bytes.{is_faulty_byte, upper}
use Rattle.command_words.specs.ValuedWords.{faulty_at}
use Rattle.command_words.proofs.Letters.{is_letter, letter-quote}
use Rattle.command_fields.specs.ProfileNames.{dataset_profile, general_profile, if_label, is_level_or_category, profile_in, form_in, general_form, class_profile, in_quotes, dataset_named}
use Rattle.generic_names.proofs.Bools.{either}
use Rattle.command_values.proofs.Names.{result_ok-some}

-- a byte that stands as itself in a command: of a word, no quote, lawful and in upper case
abbrev pub is_sound_byte : ℕ → Bool
is_sound_byte b = is_letter b && (not (is_faulty_byte b) && not (nat_le 97 b && nat_le b 122))

sound-letter : (b : ℕ) → is_name_letter b ≡ true → is_sound_byte b ≡ true
sound-letter b h = grind (arith, nat_tests)

sound-digit : (b : ℕ) → is_digit b ≡ true → is_sound_byte b ≡ true
sound-digit b h = grind (arith, nat_tests)

sound-code : (b c : ℕ) → (b == c) ≡ true → is_sound_byte c ≡ true → is_sound_byte b ≡ true
sound-code b c h sound = let same : b ≡ c = eqb-true b c h in subst (λ (n : ℕ). is_sound_byte n ≡ true) (sym same) sound

sound-byte : (b : ℕ) → is_name_byte b ≡ true → is_sound_byte b ≡ true
sound-byte b h =
    either (is_name_letter b || is_digit b || (b == 45) || (b == 95) || (b == 47) || (b == 58) || (b == 46) || (b == 37) || (b == 42)) (b == 38) h
    (λ k. either (is_name_letter b || is_digit b || (b == 45) || (b == 95) || (b == 47) || (b == 58) || (b == 46) || (b == 37)) (b == 42) k
    (λ k. either (is_name_letter b || is_digit b || (b == 45) || (b == 95) || (b == 47) || (b == 58) || (b == 46)) (b == 37) k
    (λ k. either (is_name_letter b || is_digit b || (b == 45) || (b == 95) || (b == 47) || (b == 58)) (b == 46) k
    (λ k. either (is_name_letter b || is_digit b || (b == 45) || (b == 95) || (b == 47)) (b == 58) k
    (λ k. either (is_name_letter b || is_digit b || (b == 45) || (b == 95)) (b == 47) k
    (λ k. either (is_name_letter b || is_digit b || (b == 45)) (b == 95) k
    (λ k. either (is_name_letter b || is_digit b) (b == 45) k
    (λ k. either (is_name_letter b) (is_digit b) k (sound-letter b) (sound-digit b))
    (λ e. sound-code b 45 e refl))
    (λ e. sound-code b 95 e refl))
    (λ e. sound-code b 47 e refl))
    (λ e. sound-code b 58 e refl))
    (λ e. sound-code b 46 e refl))
    (λ e. sound-code b 37 e refl))
    (λ e. sound-code b 42 e refl))
    (λ e. sound-code b 38 e refl)

sound-text : (x : List ℕ) → list_all is_name_byte x ≡ true → list_all is_sound_byte x ≡ true
sound-text [] h = refl
sound-text (b ∷ x) h = rw (sound-byte b (and_parts (is_name_byte b) (list_all is_name_byte x) h).0) (sound-text x (and_parts (is_name_byte b) (list_all is_name_byte x) h).1)

-- what holds of the text of a profile's name
abbrev pub IsSome : List ℕ → Type 0
IsSome [] = ⊥
IsSome (b ∷ bs) = Unit {0}

pub record IsPlainText (x : List ℕ) : Type 0 where
  pub some : IsSome x
  pub letters : list_all is_letter x ≡ true
  pub sound : (p : ℕ) → faulty_at Ignored p x ≡ None
  pub folded : map upper x ≡ x

pub sound-letters : (x : List ℕ) → list_all is_sound_byte x ≡ true → list_all is_letter x ≡ true
sound-letters [] h = refl
sound-letters (b ∷ x) h =
    let here : is_letter b ≡ true = (and_parts (is_letter b) (not (is_faulty_byte b) && not (nat_le 97 b && nat_le b 122)) (and_parts (is_sound_byte b) (list_all is_sound_byte x) h).0).0 in
    rw here (sound-letters x (and_parts (is_sound_byte b) (list_all is_sound_byte x) h).1)

byte-faultless : (b : ℕ) → is_sound_byte b ≡ true → is_faulty_byte b ≡ false
byte-faultless b h = not-true (is_faulty_byte b) (and_parts (not (is_faulty_byte b)) (not (nat_le 97 b && nat_le b 122)) (and_parts (is_letter b) (not (is_faulty_byte b) && not (nat_le 97 b && nat_le b 122)) h).1).0

byte-upper : (b : ℕ) → is_sound_byte b ≡ true → upper b ≡ b
byte-upper b h =
    let none : (nat_le 97 b && nat_le b 122) ≡ false = not-true (nat_le 97 b && nat_le b 122) (and_parts (not (is_faulty_byte b)) (not (nat_le 97 b && nat_le b 122)) (and_parts (is_letter b) (not (is_faulty_byte b) && not (nat_le 97 b && nat_le b 122)) h).1).1 in
    rw none refl

pub sound-faultless : (p : ℕ) (x : List ℕ) → list_all is_sound_byte x ≡ true → faulty_at Ignored p x ≡ None
sound-faultless p [] h = refl
sound-faultless p (b ∷ x) h = rw (byte-faultless b (and_parts (is_sound_byte b) (list_all is_sound_byte x) h).0) (sound-faultless (suc p) x (and_parts (is_sound_byte b) (list_all is_sound_byte x) h).1)

sound-upper : (x : List ℕ) → list_all is_sound_byte x ≡ true → map upper x ≡ x
sound-upper [] h = refl
sound-upper (b ∷ x) h = rw (byte-upper b (and_parts (is_sound_byte b) (list_all is_sound_byte x) h).0) (ap (λ bs. b ∷ bs) (sound-upper x (and_parts (is_sound_byte b) (list_all is_sound_byte x) h).1))

some-of : (t : List ℕ) → (t ≡ [] → ⊥) → IsSome t
some-of [] h = h refl
some-of (b ∷ t) h = tt

pub record IsNamed (kind : NameKind) (t : List ℕ) (n : Spelled) : Type 0 where
  pub text : n.text ≡ t
  pub kinds : n.kind ≡ kind
  pub plain : IsPlainText t

pattern-named : (kind : NameKind) (t : List ℕ) (n : Spelled) → result_ok (pattern_of kind t) ≡ Some n → IsNamed kind t n
pattern-named kind t n h =
    let read = pattern-read kind t n (result_ok-some (pattern_of kind t) n h) in
    let sound : list_all is_sound_byte t ≡ true = sound-text t read.bytes in
    record {
      text = ap (λ (m : Spelled). m.text) read.same;
      kinds = ap (λ (m : Spelled). m.kind) read.same;
      plain = record { some = some-of t read.some; letters = sound-letters t sound; sound = λ p. sound-faultless p t sound; folded = sound-upper t sound };
    }

pub if-there : {A : Type 0} (c : Bool) (r : Option A) (x : A) → cond c r None ≡ Some x → r ≡ Some x
if-there true r x h = h
if-there false r x h = cc

pub dataset-named : (t : List ℕ) (n : Spelled) → dataset_profile t ≡ Some n → IsNamed DataSet t n
dataset-named t n h = pattern-named DataSet t n (if-there (is_ok (id_of (first_qualifier t))) (result_ok (pattern_of DataSet t)) n h)

label-some : (o : Option Spelled) (n : Spelled) → if_label o ≡ Some n → o ≡ Some n
label-some None n h = h
label-some (Some m) n h = if-there (is_generic m || is_ok (id_of m.text)) (Some m) n h

general-some : (form : NameForm) (t : List ℕ) (n : Spelled) → profile_in (general_form form) t ≡ Some n → general_profile t ≡ Some n
general-some forms.DataSet t n h = h
general-some forms.General t n h = h
general-some forms.Identifier t n h = label-some (general_profile t) n h
general-some forms.LevelOrCategory t n h = if-there (is_level_or_category t) (general_profile t) n h
general-some forms.Class t n h = if-there (is_ok (id_of t)) (general_profile t) n h

pub member-named-so : (kind : NameKind) (t : List ℕ) (n : Spelled) → result_ok (member_of kind t) ≡ Some n → IsNamed kind t n
member-named-so kind t n h =
    let read = member-read kind t n (result_ok-some (member_of kind t) n h) in
    let sound : list_all is_sound_byte t ≡ true = sound-text t read.bytes in
    record {
      text = ap (λ (m : Spelled). m.text) read.same;
      kinds = ap (λ (m : Spelled). m.kind) read.same;
      plain = record { some = some-of t read.some; letters = sound-letters t sound; sound = λ p. sound-faultless p t sound; folded = sound-upper t sound };
    }

pub general-named : (form : NameForm) (t : List ℕ) (n : Spelled) → profile_in (general_form form) t ≡ Some n → IsNamed General t n
general-named form t n h = pattern-named General t n (general-some form t n h)

pub class-named : (class : Option (List ℕ)) (t : List ℕ) (n : Spelled) → class_profile class t ≡ Some n → IsNamed General t n
class-named None t n h = cc
class-named (Some c) t n h = pattern-named General t n (general-some (form_in c) t n h)

-- the text between quotes
first_quote : (t : List ℕ) → list_all is_letter t ≡ true → position_or_len (λ c. c == 39) (t ++ 39 ∷ []) ≡ length t
first_quote [] h = refl
first_quote (b ∷ t) h =
    let next : 1 + length t ≡ suc (length t) = omega arith in
    rw (letter-quote b (and_parts (is_letter b) (list_all is_letter t) h).0) (ap (λ n. 1 + n) (first_quote t (and_parts (is_letter b) (list_all is_letter t) h).1) ∙ next)

behind_quote : (t : List ℕ) → list_all is_letter t ≡ true → position (λ c. c == 39) (t ++ 39 ∷ []) ≡ Some (length t)
behind_quote t h =
    let whole : length (t ++ 39 ∷ []) ≡ length t + 1 = length-append t (39 ∷ []) in
    let below : nat_lt (length t) (length t + 1) ≡ true = grind (arith, nat_tests) in
    rw (first_quote t h, whole, below) refl

pub in-quotes : (t : List ℕ) → IsPlainText t → in_quotes (position (λ c. c == 39) (t ++ 39 ∷ [])) (t ++ 39 ∷ []) ≡ Some t
in-quotes t plain =
    let whole : (length (t ++ 39 ∷ []) == length t + 1) ≡ true = rw (length-append t (39 ∷ [])) (grind (arith, nat_tests)) in
    let held : take (length t) (t ++ 39 ∷ []) ≡ t = take-append_seam t (39 ∷ []) in
    rw (behind_quote t plain.letters, whole, held, plain.folded) refl

pub quoted-named : (issuer t : List ℕ) → IsPlainText t → dataset_named issuer (39 ∷ (t ++ 39 ∷ [])) ≡ dataset_profile t
quoted-named issuer t plain =
    let whole : (length (t ++ 39 ∷ []) == length t + 1) ≡ true = rw (length-append t (39 ∷ [])) (grind (arith, nat_tests)) in
    let held : take (length t) (t ++ 39 ∷ []) ≡ t = take-append_seam t (39 ∷ []) in
    rw (behind_quote t plain.letters, whole, held, plain.folded) refl

pub quote_closes : (t : List ℕ) → list_any (λ c. c == 39) (t ++ 39 ∷ []) ≡ true
quote_closes [] = refl
quote_closes (b ∷ t) = closes-one (b == 39) t (quote_closes t)
  where
    closes-one : (c : Bool) (t : List ℕ) → list_any (λ c. c == 39) (t ++ 39 ∷ []) ≡ true → (c || list_any (λ c. c == 39) (t ++ 39 ∷ [])) ≡ true
    closes-one true t h = refl
    closes-one false t h = h

-- no faulty byte between the quotes
sound-one : (p b : ℕ) (t : List ℕ) (c : Bool) → is_faulty_byte b ≡ c → (faulty_at Ignored (suc p) t ≡ None → faulty_at Ignored (suc p) (t ++ 39 ∷ []) ≡ None)
    → cond c (Some p) (faulty_at Ignored (suc p) t) ≡ None → faulty_at Ignored p (b ∷ (t ++ 39 ∷ [])) ≡ None
sound-one p b t true is more h = cc
sound-one p b t false is more h = rw is (more h)

sound_then_quote : (p : ℕ) (t : List ℕ) → faulty_at Ignored p t ≡ None → faulty_at Ignored p (t ++ 39 ∷ []) ≡ None
sound_then_quote p [] h = refl
sound_then_quote p (b ∷ t) h = sound-one p b t (is_faulty_byte b) refl (sound_then_quote (suc p) t) h

pub quoted-sound : (p : ℕ) (t : List ℕ) → ((p : ℕ) → faulty_at Ignored p t ≡ None) → faulty_at Ignored p (39 ∷ (t ++ 39 ∷ [])) ≡ None
quoted-sound p t h = sound_then_quote (suc p) t (h (suc p))
