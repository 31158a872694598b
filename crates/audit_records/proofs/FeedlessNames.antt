-- No line feed is in a name: of a resource, of a profile, or of a member of a global access table.
use Rattle.std.proofs.Common.{◌≡◌, ℕ, ◌+◌, Bool, true, false, cond, not, ◌&&◌, ◌||◌, ltb, List, [], ◌∷◌, length, Option, Some, None, Ok, Err, refl, sym, subst, true≢false}
use Rattle.std.specs.Prelude.{◌==◌, codes, bytes_eq, Result}
use Rattle.std.specs.List.{AllByRecursion, join_with_byte}
use Rattle.std.specs.Result.{result_ok}
use Rattle.std.proofs.lemmas.Bool.{and_from, eqb-true}
use Rattle.std.proofs.lemmas.Slice.Eq.{bytes_eq-Decides}
use Rattle.std.proofs.lemmas.List.Splits.{join_with_byte-slice_split}
use Rattle.generic_names.specs.declared.kind.NameKind.{NameKind}
use Rattle.generic_names.specs.declared.kind.NameKind.TheVariants.{DataSet, General}
use Rattle.generic_names.specs.declared.fault.NameFault.{NameFault}
use Rattle.generic_names.specs.declared.fault.NameFault.TheVariants.{StarInside, BadByte}
use Rattle.generic_names.specs.Spelled.{Spelled, qualifiers}
use Rattle.generic_names.specs.Faults.{has_generic, is_ordinary, byte_fault, bytes_fault, qualifier_fault, qualifiers_fault, is_too_long, is_whole, longest, fault_of, unless, name_of, resource_of, pattern_of, member_of}
use Rattle.generic_names.proofs.Bools as bools
use Rattle.generic_names.proofs.Lawful.{first_none, passed_test}
use Rattle.audit_records.specs.Feedless.{IsFeedless, is_feedless}
use Rattle.audit_records.proofs.Feedless.{joined}

-- a line feed is a bad byte, wherever it stands, in names with generic characters and in those without
never : (generic : Bool) (kind : NameKind) (first last : Bool) (place : ℕ) → cond (generic && (10 == 37)) None (cond (generic && (10 == 42)) (cond last None (Some (StarInside place))) (cond (is_ordinary kind first 10) None (Some (BadByte place)))) ≡ None → ⊥
never true DataSet true last place h = cc
never true DataSet false last place h = cc
never true General first last place h = cc
never false DataSet true last place h = cc
never false DataSet false last place h = cc
never false General first last place h = cc

byte-feedless : (form : _) (kind : NameKind) (first last : Bool) (place b : ℕ) → byte_fault form kind first last place b ≡ None → not (b == 10) ≡ true
byte-feedless form kind first last place b h = by (b == 10) refl
  where
    by : (c : Bool) → (b == 10) ≡ c → not c ≡ true
    by true e = absurd (never (has_generic form) kind first last place (subst (λ (n : ℕ). byte_fault form kind first last place n ≡ None) (eqb-true b 10 e) h))
    by false e = refl

bytes-feedless : (form : _) (kind : NameKind) (first : Bool) (place : ℕ) (q : List ℕ) → bytes_fault form kind first place q ≡ None → IsFeedless q
bytes-feedless form kind first place [] h = refl
bytes-feedless form kind first place (b ∷ bs) h =
    let parts = first_none (byte_fault form kind first (length bs == 0) place b) (bytes_fault form kind false (place + 1) bs) h in
    and_from (not (b == 10)) (is_feedless bs) (byte-feedless form kind first (length bs == 0) place b parts.0) (bytes-feedless form kind false (place + 1) bs parts.1)

-- the qualifiers that are lawful as a whole, as `**`, hold no line feed
abbrev WholeFeedless : (List ℕ → Bool) → Type 0
WholeFeedless whole = (q : List ℕ) → whole q ≡ true → IsFeedless q

qualifier-feedless : (form : _) → WholeFeedless (is_whole form) → (kind : NameKind) (number place : ℕ) (q : List ℕ) → qualifier_fault form kind number place q ≡ None → IsFeedless q
qualifier-feedless form whole kind number place q h =
    by (is_whole form q) refl (first_none _ _ (passed_test (is_too_long kind q) _ _ (passed_test (length q == 0) _ _ h))).0
  where
    by : (c : Bool) → is_whole form q ≡ c → cond c None (bytes_fault form kind true place q) ≡ None → IsFeedless q
    by true e k = whole q e
    by false e k = bytes-feedless form kind true place q k

qualifiers-feedless : (form : _) → WholeFeedless (is_whole form) → (kind : NameKind) (number place : ℕ) (qs : List (List ℕ)) → qualifiers_fault form kind number place qs ≡ None → AllByRecursion IsFeedless qs
qualifiers-feedless form whole kind number place [] h = tt
qualifiers-feedless form whole kind number place (q ∷ qs) h =
    let parts = first_none (qualifier_fault form kind number place q) (qualifiers_fault form kind (number + 1) (place + length q + 1) qs) h in
    (qualifier-feedless form whole kind number place q parts.0, qualifiers-feedless form whole kind (number + 1) (place + length q + 1) qs parts.1)

-- a text is its qualifiers with periods between them
join-feedless : (qs : List (List ℕ)) → AllByRecursion IsFeedless qs → IsFeedless (join_with_byte 46 qs)
join-feedless [] h = refl
join-feedless (q ∷ []) h = h.0
join-feedless (q ∷ r ∷ rs) h = joined q (46 ∷ join_with_byte 46 (r ∷ rs)) h.0 (join-feedless (r ∷ rs) h.1)

fault-feedless : (form : _) → WholeFeedless (is_whole form) → (kind : NameKind) (text : List ℕ) → fault_of form kind text ≡ None → IsFeedless text
fault-feedless form whole kind text h =
    let none = passed_test (ltb (longest kind) (length text)) _ _ (passed_test (length text == 0) _ _ h) in
    subst IsFeedless (join_with_byte-slice_split 46 text) (join-feedless (qualifiers text) (qualifiers-feedless form whole kind 1 1 (qualifiers text) none))

-- what is read as a name holds no line feed
abbrev HoldsNoFeed : Result Spelled NameFault → Type 0
HoldsNoFeed read = (name : Spelled) → read ≡ Ok name → IsFeedless name.text

of_form : (form : _) (kind : NameKind) (text : List ℕ) → WholeFeedless (is_whole form) → HoldsNoFeed (name_of form kind text)
of_form form kind text whole name h = by (fault_of form kind text) refl h
  where
    by : (o : Option NameFault) → fault_of form kind text ≡ o → unless o (record { kind = kind; text = text }) ≡ Ok name → IsFeedless name.text
    by None e k =
        let same : record { kind = kind; text = text } ≡ name = cc in
        subst (λ (n : Spelled). IsFeedless n.text) same (fault-feedless form whole kind text e)
    by (Some fault) e k = absurd (cc)

-- the name of a resource has no whole qualifiers
none_whole : (q : List ℕ) → false ≡ true → IsFeedless q
none_whole q is = absurd (true≢false (sym is))

pub resource_name-feedless : (kind : NameKind) (text : List ℕ) → HoldsNoFeed (resource_of kind text)
resource_name-feedless kind text = search (of_form, none_whole)

-- the name of a profile has `**`
same-feedless : (q text : List ℕ) → IsFeedless text → bytes_eq q text ≡ true → IsFeedless q
same-feedless q text h same = subst IsFeedless (sym ((bytes_eq-Decides q text).0 same)) h

whole-pattern : (q : List ℕ) → bytes_eq q (codes "**") ≡ true → IsFeedless q
whole-pattern q h = same-feedless q (codes "**") refl h

pattern-read : (kind : NameKind) (text : List ℕ) → HoldsNoFeed (pattern_of kind text)
pattern-read kind text = search (of_form, whole-pattern)

was : (r : Result Spelled NameFault) (name : Spelled) → result_ok r ≡ Some name → r ≡ Ok name
was (Ok read) name k = cc
was (Err fault) name k = absurd (cc)

pub pattern_name-feedless : (kind : NameKind) (text : List ℕ) (name : Spelled) → result_ok (pattern_of kind text) ≡ Some name → IsFeedless name.text
pattern_name-feedless kind text name h = pattern-read kind text name (was (pattern_of kind text) name h)

-- that of a member of a global access table has the two variables too
whole-member : (q : List ℕ) → (bytes_eq q (codes "**") || bytes_eq q (codes "&RACUID") || bytes_eq q (codes "&RACGPID")) ≡ true → IsFeedless q
whole-member q h =
    bools.either (bytes_eq q (codes "**") || bytes_eq q (codes "&RACUID")) (bytes_eq q (codes "&RACGPID")) h
    (λ k. bools.either (bytes_eq q (codes "**")) (bytes_eq q (codes "&RACUID")) k (whole-pattern q) (same-feedless q (codes "&RACUID") refl))
    (same-feedless q (codes "&RACGPID") refl)

member-read : (kind : NameKind) (text : List ℕ) → HoldsNoFeed (member_of kind text)
member-read kind text = search (of_form, whole-member)

pub member_name-feedless : (kind : NameKind) (text : List ℕ) (name : Spelled) → result_ok (member_of kind text) ≡ Some name → IsFeedless name.text
member_name-feedless kind text name h = member-read kind text name (was (member_of kind text) name h)
