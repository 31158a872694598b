-- Texts and their spots, also with later texts behind them.
use Rattle.std.proofs.Common.{◌≡◌, ℕ, ◌+◌, Bool, true, false, eqb, List, [], ◌∷◌, ◌++◌, length, Option, Some, None, refl, sym, ap, ◌∙◌, arith, ⊎_elim}
use Rattle.std.specs.Prelude.{◌&&◌, IsTrue, is_some}
use Rattle.std.proofs.lemmas.Bool.{cases_Bool, false≢true, and_parts, and_from, eqb-true, eq-eqb, cond-true, cond-false}
use Rattle.std.proofs.lemmas.List.{nil_from_length}
use Rattle.std.proofs.lemmas.List.Sums.{sum_by-cons, sum_by_push}
use Rattle.std.proofs.lemmas.Option.{none-some, same_Some}
use Rattle.dataspace.specs.declared.spot.Spot.{Spot}
use Rattle.dataspace.specs.Placed.{used, spot_behind, IsSpotOf, text_from, text_at, has}

pub used-cons : (text : List ℕ) (texts : List (List ℕ)) → used (text ∷ texts) ≡ length text + used texts
used-cons text texts = sum_by-cons (λ t. length t) text texts

pub used-push : (texts : List (List ℕ)) (text : List ℕ) → used (texts ++ text ∷ []) ≡ used texts + length text
used-push texts text = sum_by_push (λ t. length t) texts text

-- The text that starts here is the spot's.
abbrev pub is_here : Spot → ℕ → List ℕ → Bool
is_here spot start text = eqb spot.start start && eqb spot.length (length text)

pub text-here : (start : ℕ) (text : List ℕ) (texts : List (List ℕ)) (spot : Spot) → is_here spot start text ≡ true → text_from start (text ∷ texts) spot ≡ Some text
text-here start text texts spot here = cond-true (is_here spot start text) (Some text) (text_from (start + length text) texts spot) here

pub text-further : (start : ℕ) (text : List ℕ) (texts : List (List ℕ)) (spot : Spot) → is_here spot start text ≡ false → text_from start (text ∷ texts) spot ≡ text_from (start + length text) texts spot
text-further start text texts spot further = cond-false (is_here spot start text) (Some text) (text_from (start + length text) texts spot) further

-- A text that stands at a spot stands there behind later placing too.
pub text-stays : (start : ℕ) (texts later : List (List ℕ)) (spot : Spot) (text : List ℕ) → text_from start texts spot ≡ Some text → text_from start (texts ++ later) spot ≡ Some text
text-stays start [] later spot text h = absurd (none-some text h)
text-stays start (t ∷ texts) later spot text h =
    ⊎_elim
    (λ here. text-here start t (texts ++ later) spot here ∙ sym (text-here start t texts spot here) ∙ h)
    (λ further. text-further start t (texts ++ later) spot further ∙ text-stays (start + length t) texts later spot text (sym (text-further start t texts spot further) ∙ h))
    (cases_Bool (is_here spot start t))

-- Each text is read back by its own spot, also where an empty text has the same start.
pub text-own : (start : ℕ) (before : List (List ℕ)) (text : List ℕ) (after : List (List ℕ)) (spot : Spot) → spot.start ≡ start + used before → spot.length ≡ length text → text_from start (before ++ text ∷ after) spot ≡ Some text
text-own start [] text after spot starts long =
    text-here start text after spot (and_from _ _ (eq-eqb spot.start start (omega (arith, starts))) (eq-eqb spot.length (length text) long))
text-own start (t ∷ before) text after spot starts long =
    let more = used-cons t before in
    ⊎_elim
    (λ here.
    let parts = and_parts _ _ here in
    let first : spot.start ≡ start = eqb-true _ _ parts.0 in
    let same : spot.length ≡ length t = eqb-true _ _ parts.1 in
    let empty : t ≡ [] = nil_from_length t (omega (arith, starts, more, first)) in
    let other : text ≡ [] = nil_from_length text (omega (arith, starts, more, first, same, long)) in
    text-here start t (before ++ text ∷ after) spot here ∙ ap (λ (x : List ℕ). Some x) (empty ∙ sym other))
    (λ further. text-further start t (before ++ text ∷ after) spot further ∙ text-own (start + length t) before text after spot (omega (arith, starts, more)) long)
    (cases_Bool (is_here spot start t))

-- What stands at a spot was placed there.
abbrev pub WasPlaced : ℕ → List (List ℕ) → Spot → List ℕ → Type 0
WasPlaced start texts spot text = (before : List (List ℕ)) × (after : List (List ℕ)) × (texts ≡ before ++ text ∷ after) × (spot.start ≡ start + used before) × (spot.length ≡ length text)

pub text-found : (start : ℕ) (texts : List (List ℕ)) (spot : Spot) (text : List ℕ) → text_from start texts spot ≡ Some text → WasPlaced start texts spot text
text-found start [] spot text h = absurd (none-some text h)
text-found start (t ∷ texts) spot text h =
    ⊎_elim
    (λ here.
    let parts = and_parts _ _ here in
    let same : t ≡ text = same_Some t text (sym (text-here start t texts spot here) ∙ h) in
    let first : spot.start ≡ start = eqb-true _ _ parts.0 in (
      [],
      texts,
      ap (λ (x : List ℕ). x ∷ texts) same,
      omega (arith, first),
      eqb-true _ _ parts.1 ∙ ap (λ (x : List ℕ). length x) same,
    ))
    (λ further.
    let found = text-found (start + length t) texts spot text (sym (text-further start t texts spot further) ∙ h) in
    let more = used-cons t found.0 in (
      t ∷ found.0,
      found.1,
      ap (λ (xs : List (List ℕ)). t ∷ xs) found.2,
      omega (arith, more, found.3),
      found.4,
    ))
    (cases_Bool (is_here spot start t))

same-spot : (spot : Spot) (start size : ℕ) → spot.start ≡ start → spot.length ≡ size → spot ≡ record { start = start; length = size }
same-spot spot start size first long =
    ap (λ (n : ℕ). let same : Spot = record { start = n; length = spot.length } in same) first ∙ ap (λ (n : ℕ). let same : Spot = record { start = start; length = n } in same) long

-- The text at a spot is the one whose spot it is.
pub placed-text : (texts : List (List ℕ)) (text : List ℕ) (spot : Spot) → IsSpotOf texts text spot → text_at texts spot ≡ Some text
placed-text texts text spot h =
    let starts : spot.start ≡ used h.before = ap (λ (s : Spot). s.start) h.placed in
    let long : spot.length ≡ length text = ap (λ (s : Spot). s.length) h.placed in
    ap (λ (xs : List (List ℕ)). text_at xs spot) h.among ∙ text-own 0 h.before text h.after spot (omega (arith, starts)) long

pub text-placed : (texts : List (List ℕ)) (text : List ℕ) (spot : Spot) → text_at texts spot ≡ Some text → IsSpotOf texts text spot
text-placed texts text spot h =
    let found = text-found 0 texts spot text h in
    record {
      before = found.0;
      after = found.1;
      among = found.2;
      placed = same-spot spot (used found.0) (length text) (omega (arith, found.3)) found.4;
    }

some-of : (o : Option (List ℕ)) → is_some o ≡ true → (text : List ℕ) × (o ≡ Some text)
some-of None h = absurd (false≢true h)
some-of (Some text) h = (text, refl)

-- A spot that is had reads some text.
pub had-text : (texts : List (List ℕ)) (spot : Spot) → has texts spot ≡ true → (text : List ℕ) × (text_at texts spot ≡ Some text)
had-text texts spot h = some-of (text_at texts spot) h

-- A spot is had exactly where it was answered for one of the texts.
pub had-placed : (texts : List (List ℕ)) (spot : Spot) (b : Bool) → b ≡ has texts spot → (IsTrue b → (text : List ℕ) × IsSpotOf texts text spot) × ((text : List ℕ) × IsSpotOf texts text spot → IsTrue b)
had-placed texts spot b is = (
  λ t. let found = had-text texts spot (sym is ∙ t) in (found.0, text-placed texts found.0 spot found.1),
  λ h. is ∙ ap (λ (o : Option (List ℕ)). is_some o) (placed-text texts h.0 spot h.1),
)

-- What is had stays had behind later texts, and each text has the spot that it got.
pub had-stays : (texts later : List (List ℕ)) (spot : Spot) → has texts spot ≡ true → has (texts ++ later) spot ≡ true
had-stays texts later spot h =
    let found = had-text texts spot h in
    ap (λ (o : Option (List ℕ)). is_some o) (text-stays 0 texts later spot found.0 found.1)

pub placed-had : (before : List (List ℕ)) (text : List ℕ) (after : List (List ℕ)) → has (before ++ text ∷ after) (spot_behind before text) ≡ true
placed-had before text after = ap (λ (o : Option (List ℕ)). is_some o) (text-own 0 before text after (spot_behind before text) (omega arith) refl)
