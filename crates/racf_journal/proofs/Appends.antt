-- What a crash leaves at each moment of an append.
use Rattle.std.proofs.Common.{ℕ, ◌+◌, ◌≤◌, ◌≡◌, ◌∙◌, true, List, [], ◌∷◌, ◌++◌, length, drop, refl, sym, ap, subst, arith, append_assoc, length-append, inl, inr}
use Rattle.std.specs.List.{AllByRecursion}
use Rattle.racf_outside.specs.Moments.{Moment, IsImage, durable, written, synced}
use Rattle.racf_outside.specs.Crashes.{Leaves}
use Rattle.racf_outside.proofs.Images.{front_stays, durable-leaves}
use Rattle.racf_journal.specs.Kept.{IsAtRest, ReadsAs, ReadsAsEither, IsAppended}
use Rattle.racf_journal.specs.Reading.{is_formatted, IsRecord, spelled}
use Rattle.racf_journal.proofs.Walks.{spelled-push, lawful-push}
use Rattle.racf_journal.proofs.Places.{unwritten_before, written_end, written_byte, around_byte}
use Rattle.racf_journal.proofs.Files.{ReadsAs-end, ReadsAsEither-gate, closed_is_end}

module _ (front : List ℕ) (records : List (List ℕ)) (next : List ℕ) (gate : ℕ) (formatted : is_formatted (length front) front ≡ true) (lawful : AllByRecursion IsRecord records) (is : IsRecord next)
    (at : length (front ++ spelled records) ≡ gate)
  where
    abbrev base : List ℕ
    base = front ++ spelled records

    -- before the first write, behind it, and behind the second
    abbrev pub resting : Moment
    resting = durable (base ++ 0 ∷ [])

    abbrev pub behind : Moment
    behind = written (gate + 1) (next ++ 0 ∷ []) resting

    abbrev pub opened : Moment
    opened = written gate (1 ∷ []) (synced behind)

    abbrev P : List ℕ → Type 0
    P = IsAppended front records next gate

    reads_before : (end image : List ℕ) → image ≡ base ++ 0 ∷ end → length image ≤ gate + 2 + length next → P image
    reads_before end image same short = (
      inl (subst (ReadsAs front records) (sym (append_assoc front (spelled records) (0 ∷ end)) ∙ sym same) (ReadsAs-end front records (0 ∷ end) formatted lawful (closed_is_end 0 end (λ no. absurd (omega arith))))),
      short,
    )

    size : length (base ++ 0 ∷ []) ≡ gate + 1
    size = omega (arith, at, length-append base (0 ∷ []))

    pub resting_leaves : Leaves P resting
    resting_leaves = durable-leaves P (base ++ 0 ∷ []) (reads_before [] (base ++ 0 ∷ []) refl (omega (arith, size)))

    behind_bytes : behind.bytes ≡ base ++ 0 ∷ (next ++ 0 ∷ [])
    behind_bytes = written_end (gate + 1) (base ++ 0 ∷ []) (next ++ 0 ∷ []) (sym size) ∙ append_assoc base (0 ∷ []) (next ++ 0 ∷ [])

    behind_size : length behind.bytes ≡ gate + 2 + length next
    behind_size = omega (arith, ap length behind_bytes, at, length-append base (0 ∷ (next ++ 0 ∷ [])), length-append next (0 ∷ []))

    pub behind_leaves : Leaves P behind
    behind_leaves = record {
      each = λ image i.
          let stays : image ≡ (base ++ 0 ∷ []) ++ drop (length (base ++ 0 ∷ [])) image = front_stays behind (base ++ 0 ∷ []) (next ++ 0 ∷ []) image (behind_bytes ∙ sym (append_assoc base (0 ∷ []) (next ++ 0 ∷ []))) (omega arith) (λ p below. unwritten_before p (gate + 1) (gate + 1 + length (next ++ 0 ∷ [])) (omega (arith, size, below))) i in
          reads_before (drop (length (base ++ 0 ∷ [])) image) image (stays ∙ append_assoc base (0 ∷ []) (drop (length (base ++ 0 ∷ [])) image)) (omega (arith, i.no_longer, size, length-append next (0 ∷ [])));
    }

    opened_is : opened ≡ written gate (1 ∷ []) (durable (base ++ 0 ∷ (next ++ 0 ∷ [])))
    opened_is = ap (λ (l : List ℕ). written gate (1 ∷ []) (durable l)) behind_bytes

    pub opened_leaves : Leaves P opened
    opened_leaves = record {
      each = λ image i.
          let one = around_byte gate base (next ++ 0 ∷ []) 0 1 image at (subst (λ m. IsImage m image) opened_is i) in (
            subst (ReadsAsEither front records next) (sym (append_assoc front (spelled records) (one.0 ∷ (next ++ 0 ∷ []))) ∙ sym one.1) (ReadsAsEither-gate front records next one.0 formatted lawful is),
            omega (arith, i.no_longer, behind_size),
          );
    }

    pub synced_is : synced opened ≡ durable (front ++ spelled (records ++ next ∷ []) ++ 0 ∷ [])
    synced_is =
        ap durable (ap (λ m. m.bytes) opened_is
        ∙ written_byte gate base (next ++ 0 ∷ []) 0 1 at
        ∙ sym (append_assoc base (1 ∷ next) (0 ∷ []))
        ∙ ap (λ (l : List ℕ). l ++ 0 ∷ []) (append_assoc front (spelled records) (1 ∷ next) ∙ ap (λ (l : List ℕ). front ++ l) (sym (spelled-push records next))))

    size_then : gate + 1 + length next ≡ length front + length (spelled (records ++ next ∷ []))
    size_then = omega (arith, at, length-append front (spelled records), ap length (spelled-push records next), length-append (spelled records) (1 ∷ next))

    pub staged_leaves : Leaves P (synced behind)
    staged_leaves = durable-leaves P behind.bytes (reads_before (next ++ 0 ∷ []) behind.bytes behind_bytes (omega (arith, behind_size)))

    pub ended_leaves : Leaves P (synced opened)
    ended_leaves =
        let same : opened.bytes ≡ front ++ (spelled (records ++ next ∷ []) ++ 0 ∷ []) = ap (λ m. m.bytes) synced_is ∙ append_assoc front (spelled (records ++ next ∷ [])) (0 ∷ []) in
        durable-leaves P opened.bytes (
          inr (subst (ReadsAs front (records ++ next ∷ [])) (sym same) (ReadsAs-end front (records ++ next ∷ []) (0 ∷ []) formatted (lawful-push records next lawful is) refl)),
          omega (arith, ap length same, size_then, length-append front (spelled (records ++ next ∷ []) ++ 0 ∷ []), length-append (spelled (records ++ next ∷ [])) (0 ∷ [])),
        )

    pub ended_rests : (start : ℕ) → length front ≡ start → IsAtRest front start (gate + 1 + length next) (records ++ next ∷ []) (synced opened)
    ended_rests start from = record {
      from = from;
      formatted = ap (λ s. is_formatted s front) (sym from) ∙ formatted;
      to = omega (arith, from, size_then);
      lawful = lawful-push records next lawful is;
      is = synced_is;
    }

-- what crashes leave at the moments of an append, and what it comes to
pub record IsAppending (front : List ℕ) (start gate : ℕ) (records : List (List ℕ)) (next bytes : List ℕ) (m : Moment) : Type 0 where
  pub before : Leaves (IsAppended front records next gate) m
  pub behind : Leaves (IsAppended front records next gate) (written (gate + 1) bytes m)
  pub staged : Leaves (IsAppended front records next gate) (synced (written (gate + 1) bytes m))
  pub opened : Leaves (IsAppended front records next gate) (written gate (1 ∷ []) (synced (written (gate + 1) bytes m)))
  pub ended : Leaves (IsAppended front records next gate) (synced (written gate (1 ∷ []) (synced (written (gate + 1) bytes m))))
  pub rests : IsAtRest front start (gate + 1 + length next) (records ++ next ∷ []) (synced (written gate (1 ∷ []) (synced (written (gate + 1) bytes m))))

pub appends : (front : List ℕ) (start gate : ℕ) (records : List (List ℕ)) (next bytes : List ℕ) (m : Moment) → IsRecord next → bytes ≡ next ++ 0 ∷ [] → IsAtRest front start gate records m → IsAppending front start gate records next bytes m
appends front start gate records next bytes m is same rest =
    subst (λ (b : List ℕ). IsAppending front start gate records next b m) (sym same) (subst (IsAppending front start gate records next (next ++ 0 ∷ [])) (sym rest.is) here)
  where
    formatted : is_formatted (length front) front ≡ true
    formatted = ap (λ s. is_formatted s front) rest.from ∙ rest.formatted

    at : length (front ++ spelled records) ≡ gate
    at = omega (arith, rest.from, rest.to, length-append front (spelled records))

    here : IsAppending front start gate records next (next ++ 0 ∷ []) (durable (front ++ spelled records ++ 0 ∷ []))
    here = record {
      before = resting_leaves front records next gate formatted rest.lawful is at;
      behind = behind_leaves front records next gate formatted rest.lawful is at;
      staged = staged_leaves front records next gate formatted rest.lawful is at;
      opened = opened_leaves front records next gate formatted rest.lawful is at;
      ended = ended_leaves front records next gate formatted rest.lawful is at;
      rests = ended_rests front records next gate formatted rest.lawful is at start rest.from;
    }
