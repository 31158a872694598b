-- The text of a member with its symbols replaced, from place to place.
use Rattle.std.proofs.Common.{◌≡◌, ℕ, ◌+◌, ◌<◌, ◌≤◌, false, List, [], ◌∷◌, ◌++◌, map, length, drop, refl, Option, Some, None, IfNone, append-nil, ap, sym, ◌∙◌, arith, append_assoc, length-append}
use Rattle.std.specs.List.{join_with_byte, slice_range}
use Rattle.generic_names.specs.declared.kind.NameKind.{NameKind}
use Rattle.generic_names.specs.Spelled.{Spelled, is_empty}
use Rattle.generic_names.specs.Reading.{rest_at}
use Rattle.generic_names.specs.Resolve.{stands_for}
use Rattle.generic_names.proofs.QualifierLaws.{rest_at-past, rest_at-within, qualifiers-some}

module _ (user group : List ℕ) where
  abbrev pub joined : List (List ℕ) → List ℕ
  joined qs = join_with_byte 46 (map (stands_for user group) qs)

  joined-more : (q : List ℕ) (qs : List (List ℕ)) → is_empty qs ≡ false → joined (q ∷ qs) ≡ stands_for user group q ++ 46 ∷ joined qs
  joined-more q [] some = absurd (cc (some))
  joined-more q (r ∷ qs) some = refl

  -- What has been written, with what is left of the text behind it, is the whole.
  module _ (out text whole : List ℕ) (at end : ℕ) (same : out ++ joined (rest_at text at) ≡ whole) (high : end ≤ length text) (first : rest_at text at ≡ slice_range text at end ∷ rest_at text (end + 1)) where
    -- at a qualifier with others behind it
    pub replaced-more : end < length text → (out ++ stands_for user group (slice_range text at end)) ++ 46 ∷ joined (rest_at text (end + 1)) ≡ whole
    replaced-more within =
        let some : is_empty (rest_at text (end + 1)) ≡ false = ap (λ (qs : List (List ℕ)). is_empty qs) (rest_at-within (end + 1) text (omega arith)) ∙ qualifiers-some (drop (end + 1) text) in
        append_assoc out (stands_for user group (slice_range text at end)) (46 ∷ joined (rest_at text (end + 1)))
        ∙ ap (λ (xs : List ℕ). out ++ xs) (sym (joined-more (slice_range text at end) (rest_at text (end + 1)) some) ∙ sym (ap (λ (qs : List (List ℕ)). joined qs) first))
        ∙ same

    -- at the last one
    pub replaced-last : length text ≤ end → (out ++ stands_for user group (slice_range text at end)) ++ joined (rest_at text (end + 1)) ≡ whole
    replaced-last ends =
        let none : rest_at text (end + 1) ≡ [] = rest_at-past (end + 1) text (omega arith) in
        let last : joined (rest_at text at) ≡ stands_for user group (slice_range text at end) = ap (λ (qs : List (List ℕ)). joined qs) first ∙ ap (λ (qs : List (List ℕ)). joined (slice_range text at end ∷ qs)) none in
        ap (λ (qs : List (List ℕ)). (out ++ stands_for user group (slice_range text at end)) ++ joined qs) none
        ∙ append-nil (out ++ stands_for user group (slice_range text at end))
        ∙ ap (λ (xs : List ℕ). out ++ xs) (sym last)
        ∙ same

    pub replaced-longer : end < length text → 246 < length (out ++ stands_for user group (slice_range text at end)) + 1 → 246 < length whole
    replaced-longer within long =
        let size : length ((out ++ stands_for user group (slice_range text at end)) ++ 46 ∷ joined (rest_at text (end + 1))) ≡ length whole = ap (λ (xs : List ℕ). length xs) (replaced-more within) in
        omega (arith, length-append (out ++ stands_for user group (slice_range text at end)) (46 ∷ joined (rest_at text (end + 1))))

pub IfNone-from : {A : Type 0} (o : Option A) (P : Type 0) → P → IfNone o P
IfNone-from None P h = h
IfNone-from (Some x) P h = tt

-- Nothing of the text is left: what has been written is the whole.
pub replaced-all : (user group : List ℕ) (kind : NameKind) (name : Spelled) (text whole : List ℕ) (at : ℕ) → length text < at → name.kind ≡ kind → name.text ++ joined user group (rest_at text at) ≡ whole → name ≡ record { kind = kind; text = whole }
replaced-all user group kind name text whole at past same_kind same =
    let none : rest_at text at ≡ [] = rest_at-past at text past in
    let written : name.text ≡ whole = sym (append-nil name.text) ∙ sym (ap (λ (qs : List (List ℕ)). name.text ++ joined user group qs) none) ∙ same in
    ap (λ (k : NameKind). made k name.text) same_kind ∙ ap (λ (xs : List ℕ). made kind xs) written
  where
    made : NameKind → List ℕ → Spelled
    made k xs = record { kind = k; text = xs }
