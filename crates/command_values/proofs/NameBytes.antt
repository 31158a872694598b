-- The bytes of profiles' names.
use Rattle.std.proofs.Common.{◌≡◌, ℕ, ◌+◌, List, [], ◌∷◌, length, Bool, true, false, cond, not, ◌&&◌, ◌||◌, eqb, ltb, Option, None, Some, Ok, refl, sym, subst}
use Rattle.std.specs.Prelude.{◌==◌, bytes_eq, codes, nat_lt, if◌then◌else◌}
use Rattle.std.specs.List.{list_all, onto_first}
use Rattle.std.specs.Option.{option_or}
use Rattle.std.proofs.lemmas.Bool.{eqb-true, and_parts, or_left, or_right}
use Rattle.std.proofs.lemmas.Slice.Eq.{bytes_eq-Decides}
use Rattle.generic_names.specs.declared.kind.NameKind.{NameKind}
use Rattle.generic_names.specs.declared.kind.NameKind.TheVariants.{DataSet, General}
use Rattle.generic_names.specs.declared.fault.NameFault.{NameFault}
use Rattle.generic_names.specs.declared.fault.NameFault.TheVariants.{Empty, TooLong, EmptyQualifier, QualifierTooLong, BadByte, StarInside, GenericFirst}
use Rattle.generic_names.specs.Spelled.{Spelled, qualifiers}
use Rattle.generic_names.specs.Faults.{pattern_of, member_of, is_letter, is_digit, is_ordinary, unless, longest, is_too_long, is_generic_first}
use Rattle.generic_names.proofs.Bools.{either}
use Rattle.generic_names.proofs.Lawful.{first_none, passed_test}

-- what is wrong with a byte, a qualifier, a text that is to be a profile's name
abbrev byte_wrong : NameKind → Bool → Bool → ℕ → ℕ → Option NameFault
byte_wrong kind first last place b =
    if b == 37 then None
    else if b == 42 then (if last then None else Some (StarInside place))
    else if is_ordinary kind first b then None
    else Some (BadByte place)

abbrev bytes_wrong : NameKind → Bool → ℕ → List ℕ → Option NameFault
bytes_wrong kind first place [] = None
bytes_wrong kind first place (b ∷ behind) =
    option_or (byte_wrong kind first (length behind == 0) place b)
    (bytes_wrong kind false (place + 1) behind)

abbrev is_stars : List ℕ → Bool
is_stars q = bytes_eq q (codes "**")

-- in a member's name the symbols stand whole too
abbrev is_symbol : List ℕ → Bool
is_symbol q = bytes_eq q (codes "**") || bytes_eq q (codes "&RACUID") || bytes_eq q (codes "&RACGPID")

abbrev qualifier_wrong : (List ℕ → Bool) → NameKind → ℕ → ℕ → List ℕ → Option NameFault
qualifier_wrong whole kind number place q =
    if length q == 0 then Some (EmptyQualifier number)
    else if is_too_long kind q then Some (QualifierTooLong number)
    else option_or (if whole q then None else bytes_wrong kind true place q)
    (if is_generic_first kind number q then Some GenericFirst else None)

abbrev qualifiers_wrong : (List ℕ → Bool) → NameKind → ℕ → ℕ → List (List ℕ) → Option NameFault
qualifiers_wrong whole kind number place [] = None
qualifiers_wrong whole kind number place (q ∷ qs) =
    option_or (qualifier_wrong whole kind number place q)
    (qualifiers_wrong whole kind (number + 1) (place + length q + 1) qs)

abbrev name_wrong : (List ℕ → Bool) → NameKind → List ℕ → Option NameFault
name_wrong whole kind text =
    if length text == 0 then Some Empty
    else if nat_lt (longest kind) (length text) then Some TooLong
    else qualifiers_wrong whole kind 1 1 (qualifiers text)

-- a letter, a digit, `-`, `_`, `/`, `:`, `.`, `%`, `*` or `&`
abbrev pub is_name_byte : ℕ → Bool
is_name_byte b = is_letter b || is_digit b || (b == 45) || (b == 95) || (b == 47) || (b == 58) || (b == 46) || (b == 37) || (b == 42) || (b == 38)

letter-or-digit : (a d : Bool) (b : ℕ) → (a || d) ≡ true → (a || d || (b == 45) || (b == 95) || (b == 47) || (b == 58) || (b == 46) || (b == 37) || (b == 42) || (b == 38)) ≡ true
letter-or-digit true d b h = refl
letter-or-digit false true b h = refl
letter-or-digit false false b h = absurd (cc (h))

named-letter : (b : ℕ) → is_letter b ≡ true → is_name_byte b ≡ true
named-letter b h = letter-or-digit (is_letter b) (is_digit b) b (or_left (is_letter b) (is_digit b) h)

named-digit : (b : ℕ) → is_digit b ≡ true → is_name_byte b ≡ true
named-digit b h = letter-or-digit (is_letter b) (is_digit b) b (or_right (is_letter b) (is_digit b) h)

named-code : (b c : ℕ) → (b == c) ≡ true → is_name_byte c ≡ true → is_name_byte b ≡ true
named-code b c h named = let same : b ≡ c = eqb-true b c h in subst (λ (n : ℕ). is_name_byte n ≡ true) (sym same) named

named-ordinary : (kind : NameKind) (first : Bool) (b : ℕ) → is_ordinary kind first b ≡ true → is_name_byte b ≡ true
named-ordinary DataSet first b h =
    either (is_letter b) (not first && (is_digit b || (b == 45))) h (named-letter b)
    (λ k. either (is_digit b) (b == 45) ((and_parts (not first) (is_digit b || (b == 45)) k).1) (named-digit b) (λ e. named-code b 45 e refl))
named-ordinary General first b h =
    either (is_letter b || is_digit b || (b == 45) || (b == 95) || (b == 47)) (b == 58) h
    (λ k. either (is_letter b || is_digit b || (b == 45) || (b == 95)) (b == 47) k
    (λ k2. either (is_letter b || is_digit b || (b == 45)) (b == 95) k2
    (λ k3. either (is_letter b || is_digit b) (b == 45) k3
    (λ k4. either (is_letter b) (is_digit b) k4 (named-letter b) (named-digit b))
    (λ e. named-code b 45 e refl))
    (λ e. named-code b 95 e refl))
    (λ e. named-code b 47 e refl))
    (λ e. named-code b 58 e refl)

lawful : (b : ℕ) (t : Bool) (fault : NameFault) → cond t None (Some fault) ≡ None → t ≡ true
lawful b true fault h = refl
lawful b false fault h = absurd (cc (h))

named-tested : (kind : NameKind) (first last : Bool) (place b : ℕ) (s t : Bool) → (b == 37) ≡ s → (b == 42) ≡ t
    → cond s None (cond t (cond last None (Some (StarInside place))) (cond (is_ordinary kind first b) None (Some (BadByte place)))) ≡ None → is_name_byte b ≡ true
named-tested kind first last place b true t is at h = named-code b 37 is refl
named-tested kind first last place b false true is at h = named-code b 42 at refl
named-tested kind first last place b false false is at h = named-ordinary kind first b (lawful b (is_ordinary kind first b) (BadByte place) h)

named-byte : (kind : NameKind) (first last : Bool) (place b : ℕ) → byte_wrong kind first last place b ≡ None → is_name_byte b ≡ true
named-byte kind first last place b h = named-tested kind first last place b (b == 37) (b == 42) refl refl h

named-bytes : (kind : NameKind) (first : Bool) (place : ℕ) (q : List ℕ) → bytes_wrong kind first place q ≡ None → list_all is_name_byte q ≡ true
named-bytes kind first place [] h = refl
named-bytes kind first place (b ∷ bs) h =
    let parts = first_none (byte_wrong kind first (length bs == 0) place b) (bytes_wrong kind false (place + 1) bs) h in
    rw (named-byte kind first (length bs == 0) place b parts.0) (named-bytes kind false (place + 1) bs parts.1)

-- the qualifiers that are lawful as a whole
AreNamedBytes : (List ℕ → Bool) → Type 0
AreNamedBytes whole = (q : List ℕ) → whole q ≡ true → list_all is_name_byte q ≡ true

spelled-so : (q text : List ℕ) → bytes_eq q text ≡ true → list_all is_name_byte text ≡ true → list_all is_name_byte q ≡ true
spelled-so q text is named = subst (λ (xs : List ℕ). list_all is_name_byte xs ≡ true) (sym ((bytes_eq-Decides q text).0 is)) named

stars-named : AreNamedBytes is_stars
unfolding AreNamedBytes
stars-named q is = spelled-so q (codes "**") is refl

symbols-named : AreNamedBytes is_symbol
unfolding AreNamedBytes
symbols-named q is =
    either (bytes_eq q (codes "**") || bytes_eq q (codes "&RACUID")) (bytes_eq q (codes "&RACGPID")) is
    (λ k. either (bytes_eq q (codes "**")) (bytes_eq q (codes "&RACUID")) k (λ e. spelled-so q (codes "**") e refl) (λ e. spelled-so q (codes "&RACUID") e refl))
    (λ e. spelled-so q (codes "&RACGPID") e refl)

named-whole : (whole : List ℕ → Bool) → AreNamedBytes whole → (kind : NameKind) (place : ℕ) (q : List ℕ) (t : Bool) → whole q ≡ t → cond t None (bytes_wrong kind true place q) ≡ None → list_all is_name_byte q ≡ true
unfolding AreNamedBytes
named-whole whole named kind place q true is h = named q is
named-whole whole named kind place q false is h = named-bytes kind true place q h

abbrev all_named : List (List ℕ) → Bool
all_named qs = list_all (λ (q : List ℕ). list_all is_name_byte q) qs

named-qualifiers : (whole : List ℕ → Bool) → AreNamedBytes whole → (kind : NameKind) (number place : ℕ) (qs : List (List ℕ)) → qualifiers_wrong whole kind number place qs ≡ None → all_named qs ≡ true
named-qualifiers whole named kind number place [] h = refl
named-qualifiers whole named kind number place (q ∷ qs) h =
    let parts = first_none (qualifier_wrong whole kind number place q) (qualifiers_wrong whole kind (number + 1) (place + length q + 1) qs) h in
    let parts_of = first_none _ _ (passed_test (is_too_long kind q) _ _ (passed_test (length q == 0) _ _ parts.0)) in
    rw (named-whole whole named kind place q (whole q) refl parts_of.0) (named-qualifiers whole named kind (number + 1) (place + length q + 1) qs parts.1)

onto-named : (b : ℕ) (qs : List (List ℕ)) → all_named (onto_first b qs) ≡ true → (is_name_byte b ≡ true) × (all_named qs ≡ true)
onto-named b [] h = ((and_parts (is_name_byte b) true ((and_parts (is_name_byte b && true) true h).0)).0, refl)
onto-named b (q ∷ qs) h =
    let first = (and_parts (is_name_byte b && list_all is_name_byte q) (all_named qs) h).0 in
    let rest = (and_parts (is_name_byte b && list_all is_name_byte q) (all_named qs) h).1 in
    ((and_parts (is_name_byte b) (list_all is_name_byte q) first).0, rw ((and_parts (is_name_byte b) (list_all is_name_byte q) first).1) rest)

text-named-one : (b : ℕ) (t : List ℕ) (c : Bool) → (b == 46) ≡ c → (all_named (qualifiers t) ≡ true → list_all is_name_byte t ≡ true)
    → all_named (cond c ([] ∷ qualifiers t) (onto_first b (qualifiers t))) ≡ true → list_all is_name_byte (b ∷ t) ≡ true
text-named-one b t true is more h = rw (named-code b 46 is refl) (more h)
text-named-one b t false is more h = let parts = onto-named b (qualifiers t) h in rw parts.0 (more parts.1)

text-named : (t : List ℕ) → all_named (qualifiers t) ≡ true → list_all is_name_byte t ≡ true
text-named [] h = refl
text-named (b ∷ t) h = text-named-one b t (b == 46) refl (text-named t) h

unless-ok : (fault : Option NameFault) (name other : Spelled) → unless fault name ≡ Ok other → (fault ≡ None) × (name ≡ other)
unless-ok None name other h = (refl, cc (h))
unless-ok (Some x) name other h = absurd (cc (h))

some-bytes : (whole : List ℕ → Bool) (kind : NameKind) (text : List ℕ) → name_wrong whole kind text ≡ None → (text ≡ []) → ⊥
some-bytes whole kind [] h none = absurd (cc (h))
some-bytes whole kind (b ∷ text) h none = absurd (cc (none))

-- what is read as a name has that text, some bytes of it, and no others than these
pub record IsRead (kind : NameKind) (text : List ℕ) (name : Spelled) : Type 0 where
  pub same : name ≡ record { kind = kind; text = text }
  pub some : text ≡ [] → ⊥
  pub bytes : list_all is_name_byte text ≡ true

name-read : (whole : List ℕ → Bool) → AreNamedBytes whole → (kind : NameKind) (text : List ℕ) (name : Spelled) → unless (name_wrong whole kind text) (record { kind = kind; text = text }) ≡ Ok name → IsRead kind text name
name-read whole named kind text name h =
    let parts = unless-ok (name_wrong whole kind text) (record { kind = kind; text = text }) name h in
    let none : name_wrong whole kind text ≡ None = parts.0 in
    let each : qualifiers_wrong whole kind 1 1 (qualifiers text) ≡ None = passed_test (ltb (longest kind) (length text)) TooLong _ (passed_test (eqb (length text) 0) Empty _ none) in
    record { same = sym parts.1; some = some-bytes whole kind text none; bytes = text-named text (named-qualifiers whole named kind 1 1 (qualifiers text) each) }

pub pattern-read : (kind : NameKind) (text : List ℕ) (name : Spelled) → pattern_of kind text ≡ Ok name → IsRead kind text name
pattern-read kind text name h = name-read is_stars stars-named kind text name h

pub member-read : (kind : NameKind) (text : List ℕ) (name : Spelled) → member_of kind text ≡ Ok name → IsRead kind text name
member-read kind text name h = name-read is_symbol symbols-named kind text name h
