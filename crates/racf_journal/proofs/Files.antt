-- Whole files: a front, records and an end.
use Rattle.std.proofs.Common.{ℕ, ◌≤◌, ◌≡◌, ◌∙◌, true, ltb, List, [], ◌∷◌, ◌++◌, length, take, refl, sym, ap, subst, arith, append_assoc, inl, inr}
use Rattle.std.specs.Prelude.{bytes_eq}
use Rattle.std.specs.List.{AllByRecursion}
use Rattle.std.proofs.lemmas.List.{take_at, drop_at, take-append-le, length-take}
use Rattle.std.proofs.lemmas.Bool.{cond-true, or_cases, or_left, or_right, cases_eq, ne_eqb}
use Rattle.std.proofs.lemmas.Slice.Eq.{bytes_eq-Decides}
use Rattle.racf_journal.specs.Kept.{ReadsAs, ReadsAsEither}
use Rattle.racf_journal.specs.Reading.{magic, is_formatted, IsRecord, walk, reading, IsEnd, spelled}
use Rattle.racf_journal.proofs.Walks.{walk_to_end, spelled-push, lawful-push}

-- a front that is as a journal's has to be is so whatever follows it
pub formatted_then : (start : ℕ) (front more : List ℕ) → length front ≡ start → is_formatted start front ≡ true → is_formatted start (front ++ more) ≡ true
formatted_then start front more from is = elim (or_cases (ltb 8 start) (bytes_eq (take 8 front) magic) is) [
  | inl later ↦ or_left (ltb 8 start) (bytes_eq (take 8 (front ++ more)) magic) later
  | inr named ↦
      let same : take 8 front ≡ magic = (bytes_eq-Decides (take 8 front) magic).0 named in
      let long : 8 ≤ length front = omega (arith, ap length same, length-take 8 front) in
      or_right (ltb 8 start) (bytes_eq (take 8 (front ++ more)) magic) ((bytes_eq-Decides (take 8 (front ++ more)) magic).1 (take-append-le 8 front more long ∙ same))
]

-- what is read of a file behind its front
pub reading-front : (start : ℕ) (front more : List ℕ) → length front ≡ start → is_formatted start front ≡ true → reading start (front ++ more) ≡ walk 0 start more
reading-front start front more from is =
    cond-true (is_formatted start (front ++ more)) _ _ (formatted_then start front more from is) ∙ ap (walk 0 start) (drop_at front more start from)

-- a file of records, whatever ends it
pub ReadsAs-end : (front : List ℕ) (records : List (List ℕ)) (end : List ℕ) → is_formatted (length front) front ≡ true → AllByRecursion IsRecord records → IsEnd end → ReadsAs front records (front ++ (spelled records ++ end))
ReadsAs-end front records end formatted lawful is =
    record {
      front_stays = take_at front (spelled records ++ end) (length front) refl;
      reads = reading-front (length front) front (spelled records ++ end) refl formatted ∙ walk_to_end records (length front) end lawful is;
    }

-- a closed gate ends one, whatever follows it
pub closed_is_end : (gate : ℕ) (bytes : List ℕ) → (gate ≡ 1 → ⊥) → IsEnd (gate ∷ bytes)
closed_is_end gate [] closed = refl
closed_is_end gate (byte ∷ bytes) closed = ne_eqb gate 1 closed

-- a record behind any gate counts or it doesn't
pub ReadsAsEither-gate : (front : List ℕ) (records : List (List ℕ)) (next : List ℕ) (gate : ℕ) → is_formatted (length front) front ≡ true → AllByRecursion IsRecord records → IsRecord next
    → ReadsAsEither front records next (front ++ (spelled records ++ gate ∷ (next ++ 0 ∷ [])))
ReadsAsEither-gate front records next gate formatted lawful is = elim (cases_eq gate 1) [
  | inl open_gate ↦ inr (subst (ReadsAs front (records ++ next ∷ [])) (sym (same open_gate)) (ReadsAs-end front (records ++ next ∷ []) (0 ∷ []) formatted (lawful-push records next lawful is) refl))
  | inr closed ↦ inl (ReadsAs-end front records (gate ∷ (next ++ 0 ∷ [])) formatted lawful (closed_is_end gate (next ++ 0 ∷ []) closed))
]
  where
    same : gate ≡ 1 → front ++ (spelled records ++ gate ∷ (next ++ 0 ∷ [])) ≡ front ++ (spelled (records ++ next ∷ []) ++ 0 ∷ [])
    same open_gate =
        ap (λ g. front ++ (spelled records ++ g ∷ (next ++ 0 ∷ []))) open_gate
        ∙ ap (λ (l : List ℕ). front ++ l) (sym (append_assoc (spelled records) (1 ∷ next) (0 ∷ [])) ∙ ap (λ (l : List ℕ). l ++ 0 ∷ []) (sym (spelled-push records next)))
