-- Texts without a line feed: numbers, IDs that were read, and what is made of such texts.
use Rattle.std.proofs.Common.{◌≡◌, ℕ, zero, suc, ◌+◌, ◌≤◌, Bool, true, false, cond, not, ◌&&◌, List, [], ◌∷◌, ◌++◌, Option, None, Some, Result, Ok, Err, refl, sym, ap, subst, ◌∙◌, true≢false, length, take, arith}
use Rattle.std.specs.Prelude.{◌==◌, nat_lt, IfSome, find, unwrap_or, option_map, option_and_then, filter, map, decimal}
use Rattle.std.specs.List.{AllByRecursion, position_from}
use Rattle.std.specs.Option.{option_or, option_map_or}
use Rattle.std.specs.Result.{result_ok}
use Rattle.std.proofs.lemmas.Bool.{eqb-true, ne_eqb, and_parts, and_from}
use Rattle.std.proofs.lemmas.List.Folds.{list_all-append}
use Rattle.access_levels.specs.declared.ids.IdFault.TheVariants.{Empty, TooLong}
use Rattle.access_levels.specs.Spelling.{is_id_byte, bad_byte, bad_group_byte, begins_with_digit, unless_bad, name_of, id_of, group_of}
use Rattle.generic_names.specs.Spelled.{Spelled, first_qualifier}
use Rattle.racf_profiles.specs.declared.rows.Rows.{Rows}
use Rattle.racf_profiles.specs.Lookup.{is_class, is_profile, class_of, profile_of}
use Rattle.racf_profiles.specs.State.{State, ListedCopy, is_copy_of, copy_of}
use Rattle.racf_profiles.proofs.Found.{all-found}
use Rattle.audit_records.specs.Feedless.{IsFeedless, is_feedless, IsFeedlessProfile, AreFeedlessProfiles, AreFeedless, IsFeedlessState}
use Rattle.audit_records.proofs.Digits.{AllDigits, decimal-AllDigits}

pub joined : (xs ys : List ℕ) → IsFeedless xs → IsFeedless ys → IsFeedless (xs ++ ys)
joined xs ys h k = list_all-append (λ byte. not (byte == 10)) xs ys ∙ ap (λ b. b && is_feedless ys) h ∙ k

-- ---- texts of bytes of a kind that no line feed is of
pub other_byte : (p : ℕ → Bool) → p 10 ≡ false → (b : ℕ) → p b ≡ true → not (b == 10) ≡ true
other_byte p never b h = by (b == 10) refl
  where
    by : (c : Bool) → (b == 10) ≡ c → not c ≡ true
    by true e = absurd (true≢false (sym (subst (λ (n : ℕ). p n ≡ true) (eqb-true b 10 e) h) ∙ never))
    by false e = refl

-- a front of a text
front : (n : ℕ) (text : List ℕ) → IsFeedless text → IsFeedless (take n text)
front zero text h = refl
front (suc n) [] h = refl
front (suc n) (b ∷ bs) h =
    let parts = and_parts (not (b == 10)) (is_feedless bs) h in
    and_from (not (b == 10)) (is_feedless (take n bs)) parts.0 (front n bs parts.1)

pub qualifier-feedless : (name : List ℕ) → IsFeedless name → IsFeedless (first_qualifier name)
qualifier-feedless name h = front _ name h

-- ---- numbers
digits-feedless : (ds : List ℕ) → AllDigits ds → IsFeedless ds
digits-feedless [] h = refl
digits-feedless (d ∷ ds) h = ap (λ b. not b && is_feedless ds) (ne_eqb d 10 (other d h.0)) ∙ digits-feedless ds h.2
  where
    other : (d : ℕ) → 48 ≤ d → d ≡ 10 → ⊥
    other d least e = omega arith

pub decimal-feedless : (n : ℕ) → IsFeedless (decimal n)
decimal-feedless n = digits-feedless (decimal n) (decimal-AllDigits n)

-- ---- IDs, and names of groups
faultless : (b : Bool) (place : ℕ) (rest : Option ℕ) → cond b (Some place) rest ≡ None → (b ≡ false) × (rest ≡ None)
faultless true place rest h = cc
faultless false place rest h = (refl, h)

pub bytes_of : (bad : ℕ → Bool) → bad 10 ≡ true → (place : ℕ) (text : List ℕ) → position_from bad place text ≡ None → IsFeedless text
bytes_of bad is place [] h = refl
bytes_of bad is place (b ∷ text) h =
    let both = faultless (bad b) place (position_from bad (place + 1) text) h in
    and_from (not (b == 10)) (is_feedless text) (other_byte (λ n. not (bad n)) (ap not is) b (ap not both.0)) (bytes_of bad is (place + 1) text both.1)

unless-fault : {X E : Type 0} (b : Bool) (e : E) (r : Result X E) (x : X) → cond b (Err e) r ≡ Ok x → r ≡ Ok x
unless-fault true e r x h = cc
unless-fault false e r x h = h

named_text : (bad : Option ℕ) (text name : List ℕ) → unless_bad bad text ≡ Ok name → (bad ≡ None) × (text ≡ name)
named_text None text name h = (refl, cc)
named_text (Some place) text name h = cc

named : (bad : Option ℕ) (text name : List ℕ) → name_of bad text ≡ Ok name → (bad ≡ None) × (text ≡ name)
named bad text name h = named_text bad text name (unless-fault (nat_lt 8 (length text)) TooLong (unless_bad bad text) name (unless-fault (length text == 0) Empty _ name h))

pub read_id-feedless : (text id : List ℕ) → id_of text ≡ Ok id → IsFeedless id
read_id-feedless text id h =
    let both = named (bad_byte text) text id h in
    subst IsFeedless both.1 (bytes_of (λ byte. not (is_id_byte byte)) refl 1 text both.0)

pub read_group-feedless : (text group : List ℕ) → group_of text ≡ Ok group → IsFeedless group
read_group-feedless text group h =
    let both = named (bad_group_byte text) text group h in
    subst IsFeedless both.1 (bytes_of (λ byte. not (is_id_byte byte)) refl 1 text (faultless (begins_with_digit text) 1 (bad_byte text) both.0).1)

-- ---- what holds of both of two values holds of the one that is chosen
pub either : {X : Type 0} (P : X → Type 0) (b : Bool) (x y : X) → P x → P y → P (cond b x y)
either P true x y h k = h
either P false x y h k = k

-- ---- what holds of a value, where there is one
pub always : {X Q : Type 0} (o : Option X) → Q → IfSome o (λ x. Q)
always None h = tt
always (Some x) h = h

pub if-either : {X : Type 0} (P : X → Type 0) (a b : Option X) → IfSome a P → IfSome b P → IfSome (option_or a b) P
if-either P None b h k = k
if-either P (Some x) b h k = h

pub if-map : {X Y : Type 0} (Q : Y → Type 0) (f : X → Y) (o : Option X) → IfSome o (λ x. Q (f x)) → IfSome (option_map f o) Q
if-map Q f None h = h
if-map Q f (Some x) h = h

pub if-then : {X Y : Type 0} (P : X → Type 0) (Q : Y → Type 0) (f : X → Option Y) → ((x : X) → P x → IfSome (f x) Q) → (o : Option X) → IfSome o P → IfSome (option_and_then f o) Q
if-then P Q f is None h = h
if-then P Q f is (Some x) h = is x h

pub if-found : {X : Type 0} (P : X → Type 0) (it : X → Bool) (xs : List X) → AllByRecursion P xs → IfSome (find it xs) P
if-found {X = X} P it xs h = by (find it xs) refl
  where
    by : (o : Option X) → find it xs ≡ o → IfSome o P
    by None e = tt
    by (Some x) e = all-found P it xs x h e

pub if-given : (given : Option (List ℕ)) (other : List ℕ) → IfSome given IsFeedless → IsFeedless other → IsFeedless (unwrap_or given other)
if-given None other h k = k
if-given (Some x) other h k = h

pub if-ok : {X E : Type 0} (P : X → Type 0) (r : Result X E) → ((x : X) → r ≡ Ok x → P x) → IfSome (result_ok r) P
if-ok P (Ok x) h = h x refl
if-ok P (Err e) h = tt

-- ---- what holds of each of a list
pub all-kept : {X : Type 0} (P : X → Type 0) (stays : X → Bool) (xs : List X) → AllByRecursion P xs → AllByRecursion P (filter stays xs)
all-kept P stays [] h = tt
all-kept P stays (x ∷ xs) h = by (stays x) (all-kept P stays xs h.1)
  where
    by : (b : Bool) → AllByRecursion P (filter stays xs) → AllByRecursion P (cond b (x ∷ filter stays xs) (filter stays xs))
    by true rest = (h.0, rest)
    by false rest = rest

pub all-made : {X Y : Type 0} (f : X → Y) (P : Y → Type 0) (xs : List X) → AllByRecursion (λ x. P (f x)) xs → AllByRecursion P (map f xs)
all-made f P [] h = tt
all-made f P (x ∷ xs) h = (h.0, all-made f P xs h.1)

pub all-and_one : {X : Type 0} (P : X → Type 0) (xs : List X) (x : X) → AllByRecursion P xs → P x → AllByRecursion P (xs ++ x ∷ [])
all-and_one P [] x h p = (p, tt)
all-and_one P (y ∷ ys) x h p = (h.0, all-and_one P ys x h.1 p)

-- ---- rows of profiles, and listed copies
pub copy-feedless : (class : List ℕ) (state : State) → IsFeedlessState state → AllByRecursion IsFeedlessProfile (copy_of class state.copies)
copy-feedless class state are = by (find (is_copy_of class) state.copies) (if-found (λ (copy : ListedCopy). AllByRecursion IsFeedlessProfile copy.profiles) (is_copy_of class) state.copies are.copies)
  where
    by : (o : Option ListedCopy) → IfSome o (λ (copy : ListedCopy). AllByRecursion IsFeedlessProfile copy.profiles) → AllByRecursion IsFeedlessProfile (option_map_or (λ (copy : ListedCopy). copy.profiles) o [])
    by None h = tt
    by (Some copy) h = h

pub profile_of-feedless : (class : List ℕ) (name : Spelled) (rows : Rows) → AreFeedless rows → IfSome (profile_of class name rows) IsFeedlessProfile
profile_of-feedless class name rows are =
    if-then AreFeedlessProfiles IsFeedlessProfile (λ row. find (is_profile name) row.profiles) (λ row h. if-found IsFeedlessProfile (is_profile name) row.profiles h) (class_of class rows)
    (if-found AreFeedlessProfiles (is_class class) rows.classes are.classes)
