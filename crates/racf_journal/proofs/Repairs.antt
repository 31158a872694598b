-- What crashes leave while the end of a journal is repaired.
use Rattle.std.proofs.Common.{ℕ, ◌+◌, ◌<◌, ◌≤◌, ◌≡◌, ◌∙◌, List, [], ◌∷◌, ◌++◌, length, take, drop, refl, sym, ap, subst, arith, append_assoc, length-append, Option, None, Some, replicate}
use Rattle.std.proofs.lemmas.List.{take_at, drop_all, append-nil, length-drop, length-take, length-replicate}
use Rattle.std.proofs.lemmas.Option.{none-some, same_Some}
use Rattle.racf_outside.specs.Disk.{History}
use Rattle.racf_outside.specs.Moments.{Moment, durable, written, cut_to, synced}
use Rattle.racf_outside.specs.Crashes.{Leaves}
use Rattle.racf_outside.proofs.Images.{front_stays, durable-leaves}
use Rattle.racf_journal.specs.Reading.{IsEnd}
use Rattle.racf_journal.specs.Repair.{Holds, HoldsEnd, EndsWithin}
use Rattle.racf_journal.proofs.Places.{unwritten_before}

-- at most one byte is an end
pub short_is_end : (bytes : List ℕ) → length bytes ≤ 1 → IsEnd bytes
short_is_end [] short = refl
short_is_end (gate ∷ []) short = refl
short_is_end (gate ∷ byte ∷ bytes) short = absurd (omega arith)

-- what stands behind a closed gate may be anything
end_then : (gate byte : ℕ) (bytes rest : List ℕ) → IsEnd (gate ∷ byte ∷ bytes) → IsEnd (gate ∷ rest)
end_then gate byte bytes [] is = refl
end_then gate byte bytes (other ∷ rest) is = is

pub held_leaves : (most : ℕ) (base end : List ℕ) → length base + length end ≤ most → IsEnd end → Leaves (EndsWithin most base) (durable (base ++ end))
held_leaves most base end fits is = durable-leaves (EndsWithin most base) (base ++ end) (record { end = end; split = refl; ends = is }, omega (arith, fits, length-append base end))

-- a cut behind the closed gate
pub record IsCutting (most : ℕ) (base end : List ℕ) (place : ℕ) (m : Moment) : Type 0 where
  pub before : Leaves (EndsWithin most base) m
  pub cut : Leaves (EndsWithin most base) (cut_to place m)
  pub kept : Leaves (EndsWithin most base) (synced (cut_to place m))
  pub held : synced (cut_to place m) ≡ durable (base ++ take 1 end)

module _ (most : ℕ) (base : List ℕ) (gate byte : ℕ) (bytes : List ℕ) (place : ℕ) (at : place ≡ length base + 1) (fits : length base + length (gate ∷ byte ∷ bytes) ≤ most) (is : IsEnd (gate ∷ byte ∷ bytes)) where
  abbrev whole : List ℕ
  whole = base ++ gate ∷ byte ∷ bytes

  abbrev kept_part : List ℕ
  kept_part = base ++ gate ∷ []

  size : length kept_part ≡ place
  size = omega (arith, at, length-append base (gate ∷ []))

  split : whole ≡ kept_part ++ byte ∷ bytes
  split = sym (append_assoc base (gate ∷ []) (byte ∷ bytes))

  cut_bytes : take place whole ≡ kept_part
  cut_bytes = ap (take place) split ∙ take_at kept_part (byte ∷ bytes) place size

  cut_leaves : Leaves (EndsWithin most base) (cut_to place (durable whole))
  cut_leaves = record {
    each = λ image i.
        let stays : image ≡ kept_part ++ drop (length kept_part) image = front_stays (cut_to place (durable whole)) kept_part [] image (cut_bytes ∙ sym (append-nil kept_part)) (omega (arith, size, ap length split, length-append kept_part (byte ∷ bytes))) (λ p below. refl) i in (
          record { end = gate ∷ drop (length kept_part) image; split = stays ∙ append_assoc base (gate ∷ []) (drop (length kept_part) image); ends = end_then gate byte bytes (drop (length kept_part) image) is },
          omega (arith, i.no_longer, fits, length-append base (gate ∷ byte ∷ bytes)),
        );
  }

  cutting_here : IsCutting most base (gate ∷ byte ∷ bytes) place (durable whole)
  cutting_here = record {
    before = held_leaves most base (gate ∷ byte ∷ bytes) fits is;
    cut = cut_leaves;
    kept = durable-leaves (EndsWithin most base) (take place whole) (record { end = gate ∷ []; split = cut_bytes; ends = refl }, omega (arith, fits, length-take place whole, length-append base (gate ∷ byte ∷ bytes)));
    held = ap durable cut_bytes;
  }

cutting_at : (most : ℕ) (base end : List ℕ) (place : ℕ) → place ≡ length base + 1 → 1 < length end → length base + length end ≤ most → IsEnd end → IsCutting most base end place (durable (base ++ end))
cutting_at most base [] place at long fits is = absurd (omega arith)
cutting_at most base (gate ∷ []) place at long fits is = absurd (omega arith)
cutting_at most base (gate ∷ byte ∷ bytes) place at long fits is = cutting_here most base gate byte bytes place at fits is

pub cutting : (most : ℕ) (base end : List ℕ) (place : ℕ) (m : Moment) → place ≡ length base + 1 → 1 < length end → length base + length end ≤ most → IsEnd end → m ≡ durable (base ++ end) → IsCutting most base end place m
cutting most base end place m at long fits is same = subst (IsCutting most base end place) (sym same) (cutting_at most base end place at long fits is)

-- a write of the last gate
pub record IsClosing (most : ℕ) (base : List ℕ) (gate : ℕ) (m : Moment) : Type 0 where
  pub before : Leaves (EndsWithin most base) m
  pub closed : Leaves (EndsWithin most base) (written gate (0 ∷ []) m)
  pub kept : Leaves (EndsWithin most base) (synced (written gate (0 ∷ []) m))
  pub held : synced (written gate (0 ∷ []) m) ≡ durable (base ++ 0 ∷ [])

module _ (most : ℕ) (base end : List ℕ) (gate : ℕ) (at : length base ≡ gate) (short : length end ≤ 1) (fits : gate + 1 ≤ most) where
  abbrev closing : Moment
  closing = written gate (0 ∷ []) (durable (base ++ end))

  closing_bytes : closing.bytes ≡ base ++ 0 ∷ []
  closing_bytes =
      ap (λ (l : List ℕ). l ++ (0 ∷ drop (gate + 1) (base ++ end))) (take_at base end gate at)
      ∙ ap (λ (l : List ℕ). base ++ 0 ∷ l) (drop_all (gate + 1) (base ++ end) (omega (arith, at, length-append base end)))

  closed_leaves : Leaves (EndsWithin most base) closing
  closed_leaves = record {
    each = λ image i.
        let stays : image ≡ base ++ drop (length base) image = front_stays closing base (0 ∷ []) image closing_bytes (omega (arith, length-append base end)) (λ p below. unwritten_before p gate (gate + 1) (omega (arith, at, below))) i in (
          record { end = drop (length base) image; split = stays; ends = short_is_end (drop (length base) image) (omega (arith, i.no_longer, length-append base end, length-drop (length base) image, at)) },
          omega (arith, i.no_longer, length-append base end, at, short, fits),
        );
  }

  closing_here : IsClosing most base gate (durable (base ++ end))
  closing_here = record {
    before = held_leaves most base end (omega (arith, at, short, fits)) (short_is_end end short);
    closed = closed_leaves;
    kept = durable-leaves (EndsWithin most base) closing.bytes (record { end = 0 ∷ []; split = closing_bytes; ends = refl }, omega (arith, ap length closing_bytes, length-append base (0 ∷ []), at, fits));
    held = ap durable closing_bytes;
  }

pub closes : (most : ℕ) (base end : List ℕ) (gate : ℕ) (m : Moment) → length base ≡ gate → gate + 1 ≤ most → m ≡ durable (base ++ take 1 end) → IsClosing most base gate m
closes most base end gate m at fits same = subst (IsClosing most base gate) (sym same) (closing_here most base (take 1 end) gate at (omega (arith, length-take 1 end)) fits)

-- one end in the place of another, whatever lies before it
pub HoldsEnd-then : (old new : Option History) (gate : ℕ) (before after : List ℕ) → ((base : List ℕ) → length base ≡ gate → Holds (base ++ before) old → Holds (base ++ after) new) → HoldsEnd gate before old → HoldsEnd gate after new
HoldsEnd-then None new gate before after then held k e =
    let base : List ℕ = replicate gate 0 in
    let at : length base ≡ gate = length-replicate gate 0 in
    (base, at, then base at (λ h told. absurd (none-some h told)) k e)
HoldsEnd-then (Some h) new gate before after then held k e =
    let base = held h refl in
    (base.0, base.1, then base.0 base.1 (λ i told. ap (λ history. history.now) (sym (same_Some h i told)) ∙ base.2) k e)
