-- An ID's spelling is a lawful general name.
use Rattle.std.proofs.Common.{◌≡◌, ℕ, ◌+◌, Bool, true, false, cond, ◌||◌, ◌&&◌, not, ◌==◌, nat_le, List, [], ◌∷◌, length, Option, None, Some, Ok, Err, refl, sym, ap, ◌∙◌, true≢false, arith}
use Rattle.std.specs.Prelude.{nat_lt}
use Rattle.std.specs.List.{position_from, slice_split, onto_first}
use Rattle.std.specs.Option.{option_or}
use Rattle.std.proofs.lemmas.Bool.Decides.{nat_tests}
use Rattle.access_levels.specs.Spelling.{is_id_byte, bad_byte, unless_bad, id_of}
use Rattle.generic_names.specs.declared.kind.NameKind.TheVariants.{General}
use Rattle.generic_names.specs.declared.fault.NameFault.{NameFault}
use Rattle.generic_names.specs.declared.fault.NameFault.TheVariants as fault
use Rattle.access_levels.specs.declared.ids.IdFault.TheVariants as idfault
use Rattle.generic_names.specs.Faults.{has_generic, is_ordinary, is_whole, byte_fault, bytes_fault, qualifiers_fault, fault_of, name_of, pattern_of, resource_of, unless}
use Rattle.generic_names.specs.Spelled.{Spelled, qualifiers}

-- each byte is one that an ID has
abbrev AreIdBytes : List ℕ → Type 0
AreIdBytes [] = Unit {0}
AreIdBytes (b ∷ bs) = (is_id_byte b ≡ true) × AreIdBytes bs

none_bad : (place : ℕ) (text : List ℕ) → position_from (λ byte. not (is_id_byte byte)) place text ≡ None → AreIdBytes text
none_bad place [] h = tt
none_bad place (b ∷ bs) h = by (is_id_byte b) refl h (none_bad (place + 1) bs)
  where
    by : (t : Bool) → is_id_byte b ≡ t → cond (not t) (Some place) (position_from (λ byte. not (is_id_byte byte)) (place + 1) bs) ≡ None
        → (position_from (λ byte. not (is_id_byte byte)) (place + 1) bs ≡ None → AreIdBytes bs) → (is_id_byte b ≡ true) × AreIdBytes bs
    by true e h rest = (e, rest h)
    by false e h rest = cc

-- no such byte is a period, `%` or `*`
is_none_of : (b c : ℕ) → is_id_byte c ≡ false → is_id_byte b ≡ true → (b == c) ≡ false
is_none_of b c unlike like = by (b == c) refl
  where
    by : (t : Bool) → (b == c) ≡ t → t ≡ false
    by false e = refl
    by true e =
        let same : b ≡ c = grind (arith, nat_tests) in
        sym (sym unlike ∙ ap is_id_byte (sym same) ∙ like)

reordered : (u d x y z m s c e : Bool) → (u || d || x || y || z) ≡ true → ((u || x || y || z) || d || m || s || c || e) ≡ true
reordered true d x y z m s c e h = refl
reordered false true true y z m s c e h = refl
reordered false true false true z m s c e h = refl
reordered false true false false true m s c e h = refl
reordered false true false false false m s c e h = refl
reordered false false true y z m s c e h = refl
reordered false false false true z m s c e h = refl
reordered false false false false true m s c e h = refl
reordered false false false false false m s c e h = absurd (true≢false (sym h))

ordinary : (first : Bool) (b : ℕ) → is_id_byte b ≡ true → is_ordinary General first b ≡ true
ordinary first b h = reordered (nat_le 65 b && nat_le b 90) (nat_le 48 b && nat_le b 57) (b == 35) (b == 36) (b == 64) (b == 45) (b == 95) (b == 47) (b == 58) h

no_fault : (form : _) (first last : Bool) (place b : ℕ) → is_id_byte b ≡ true → byte_fault form General first last place b ≡ None
no_fault form first last place b h = by (has_generic form) (b == 37) (b == 42) (is_ordinary General first b) (is_none_of b 37 refl h) (is_none_of b 42 refl h) (ordinary first b h)
  where
    by : (some percent star fine : Bool) → percent ≡ false → star ≡ false → fine ≡ true
        → cond (some && percent) None (cond (some && star) (cond last None (Some (fault.StarInside place))) (cond fine None (Some (fault.BadByte place)))) ≡ None
    by true percent star fine p s f = cc
    by false percent star fine p s f = cc

no_faults : (form : _) (first : Bool) (place : ℕ) (bs : List ℕ) → AreIdBytes bs → bytes_fault form General first place bs ≡ None
no_faults form first place [] h = refl
no_faults form first place (b ∷ bs) h =
    ap (λ o. option_or o (bytes_fault form General false (place + 1) bs)) (no_fault form first (length bs == 0) place b h.0)
    ∙ no_faults form false (place + 1) bs h.1

one_qualifier : (bs : List ℕ) → AreIdBytes bs → slice_split (λ b. b == 46) bs ≡ bs ∷ []
one_qualifier [] h = refl
one_qualifier (b ∷ bs) h =
    ap (λ t. cond t ([] ∷ slice_split (λ b. b == 46) bs) (onto_first b (slice_split (λ b. b == 46) bs))) (is_none_of b 46 refl h.0)
    ∙ ap (onto_first b) (one_qualifier bs h.1)

abbrev nothing : Option NameFault
nothing = None

lawful_qualifier : (form : _) (q : List ℕ) → (length q == 0) ≡ false → AreIdBytes q → qualifiers_fault form General 1 1 (q ∷ []) ≡ None
lawful_qualifier form q some bytes =
    ap (λ t. option_or (cond t (Some (fault.EmptyQualifier 1)) (option_or (cond (is_whole form q) None (bytes_fault form General true 1 q)) None)) None) some
    ∙ ap (λ f. option_or (option_or (cond (is_whole form q) None f) None) None) (no_faults form true 1 q bytes)
    ∙ either (is_whole form q)
  where
    either : (w : Bool) → option_or (option_or (cond w nothing nothing) nothing) nothing ≡ nothing
    either true = refl
    either false = refl

no_fault_of : (form : _) (id : List ℕ) → id_of id ≡ Ok id → fault_of form General id ≡ None
no_fault_of form id h = by (length id == 0) (nat_lt 8 (length id)) (bad_byte id) refl refl refl h
  where
    by : (e l : Bool) (bad : Option ℕ) → (length id == 0) ≡ e → nat_lt 8 (length id) ≡ l → bad_byte id ≡ bad
        → cond e (Err idfault.Empty) (cond l (Err idfault.TooLong) (unless_bad bad id)) ≡ Ok id → fault_of form General id ≡ None
    by true l bad e t b h = cc
    by false true bad e t b h = cc
    by false false (Some place) e t b h = cc
    by false false None e t b h =
        let bytes = none_bad 1 id b in
        let short : nat_lt 246 (length id) ≡ false = grind (arith, nat_tests) in
        ap (λ s. cond s (Some fault.Empty) (cond (nat_lt 246 (length id)) (Some fault.TooLong) (qualifiers_fault form General 1 1 (qualifiers id)))) e
        ∙ ap (λ s. cond s (Some fault.TooLong) (qualifiers_fault form General 1 1 (qualifiers id))) short
        ∙ ap (qualifiers_fault form General 1 1) (one_qualifier id bytes)
        ∙ lawful_qualifier form id e bytes

abbrev general : List ℕ → Spelled
general id = record { kind = General; text = id }

named_for : (form : _) (id : List ℕ) → id_of id ≡ Ok id → name_of form General id ≡ Ok (general id)
named_for form id h = ap (λ f. unless f (general id)) (no_fault_of form id h)

pub pattern-id : (id : List ℕ) → id_of id ≡ Ok id → pattern_of General id ≡ Ok (general id)
pattern-id id h = search (named_for)

pub resource-id : (id : List ℕ) → id_of id ≡ Ok id → resource_of General id ≡ Ok (general id)
resource-id id h = search (named_for)
