-- Texts as they are kept: bytes, and where each text ends.
use Rattle.std.proofs.Common.{◌≡◌, ℕ, zero, suc, ◌+◌, ◌-◌, ◌<◌, ◌≤◌, true, false, List, [], ◌∷◌, ◌++◌, length, get_or, take, drop, Option, Some, refl, sym, ap, ◌∙◌, arith, ⊎_elim, ltb}
use Rattle.std.specs.Prelude.{slice_range, slice_get, is_some}
use Rattle.std.proofs.lemmas.Bool.{cases_Bool, cases_lt, false≢true, and_parts, and_from, or_cases, or_parts, or_from, or_left, or_right, eqb-true, eq-eqb, ltb-true, ltb-false, lt-ltb, le-ltb, false_from_ne_true}
use Rattle.std.proofs.lemmas.List.{length-drop, length-take-le, take-append-le, drop-append-le, take_all, drop_at}
use Rattle.std.proofs.lemmas.Option.{none-some, same_Some}
use Rattle.dataspace.specs.declared.spot.Spot.{Spot}
use Rattle.dataspace.specs.Placed.{used, text_from}
use Rattle.dataspace.specs.Kept.{texts_from, AreRising, end_of, start_of, is_before, is_row}
use Rattle.dataspace.proofs.SpotLaws.{used-cons, is_here, text-here, text-further}

-- ---- ends
pub end-above : (start : ℕ) (ends : List ℕ) → AreRising start ends → start ≤ end_of start ends
end-above start [] rising = omega arith
end-above start (end ∷ ends) rising = omega (arith, rising.0, end-above end ends rising.1)

pub rising-at : (start : ℕ) (ends : List ℕ) → AreRising start ends → (j k : ℕ) → j ≤ k → k ≤ length ends → get_or (start ∷ ends) j 0 ≤ get_or (start ∷ ends) k 0
rising-at start ends rising zero zero le within = omega arith
rising-at start ends rising (suc j) zero le within = absurd (omega arith)
rising-at start [] rising j (suc k) le within = absurd (omega arith)
rising-at start (end ∷ ends) rising zero (suc k) le within = omega (arith, rising.0, rising-at end ends rising.1 0 k (omega arith) (omega arith))
rising-at start (end ∷ ends) rising (suc j) (suc k) le within = rising-at end ends rising.1 j k (omega arith) (omega arith)

pub rising-push : (start : ℕ) (ends : List ℕ) (new : ℕ) → AreRising start ends → end_of start ends ≤ new → AreRising start (ends ++ new ∷ [])
rising-push start [] new rising above = (above, tt)
rising-push start (end ∷ ends) new rising above = (rising.0, rising-push end ends new rising.1 above)

pub end-push : (start : ℕ) (ends : List ℕ) (new : ℕ) → end_of start (ends ++ new ∷ []) ≡ new
end-push start [] new = refl
end-push start (end ∷ ends) new = end-push end ends new

-- ---- texts
length-range : (bytes : List ℕ) (start end : ℕ) → start ≤ end → end ≤ length bytes → start + length (slice_range bytes start end) ≡ end
length-range bytes start end rising within =
    let room = length-drop start bytes in
    let size = length-take-le (end - start) (drop start bytes) (omega (arith, room)) in
    omega (arith, size)

pub length-texts : (bytes : List ℕ) (start : ℕ) (ends : List ℕ) → length (texts_from bytes start ends) ≡ length ends
length-texts bytes start [] = refl
length-texts bytes start (end ∷ ends) = ap (λ (n : ℕ). suc n) (length-texts bytes end ends)

pub used-texts : (bytes : List ℕ) (start : ℕ) (ends : List ℕ) → AreRising start ends → end_of start ends ≤ length bytes → start + used (texts_from bytes start ends) ≡ end_of start ends
used-texts bytes start [] rising within = omega arith
used-texts bytes start (end ∷ ends) rising within =
    let above = end-above end ends rising.1 in
    let size = length-range bytes start end rising.0 (omega (arith, above)) in
    let rest = used-texts bytes end ends rising.1 within in
    omega (arith, used-cons (slice_range bytes start end) (texts_from bytes end ends), size, rest)

range-more : (bytes more : List ℕ) (start end : ℕ) → start ≤ end → end ≤ length bytes → slice_range (bytes ++ more) start end ≡ slice_range bytes start end
range-more bytes more start end rising within =
    let room = length-drop start bytes in
    ap (λ (xs : List ℕ). take (end - start) xs) (drop-append-le start bytes more (omega arith)) ∙ take-append-le (end - start) (drop start bytes) more (omega (arith, room))

-- more bytes behind the texts change none
pub texts-more : (bytes more : List ℕ) (start : ℕ) (ends : List ℕ) → AreRising start ends → end_of start ends ≤ length bytes → texts_from (bytes ++ more) start ends ≡ texts_from bytes start ends
texts-more bytes more start [] rising within = refl
texts-more bytes more start (end ∷ ends) rising within =
    let above = end-above end ends rising.1 in
    ap (λ (text : List ℕ). text ∷ texts_from (bytes ++ more) end ends) (range-more bytes more start end rising.0 (omega (arith, above)))
    ∙ ap (λ (texts : List (List ℕ)). slice_range bytes start end ∷ texts) (texts-more bytes more end ends rising.1 within)

texts-push : (bytes : List ℕ) (start : ℕ) (ends : List ℕ) (new : ℕ) → texts_from bytes start (ends ++ new ∷ []) ≡ texts_from bytes start ends ++ slice_range bytes (end_of start ends) new ∷ []
texts-push bytes start [] new = refl
texts-push bytes start (end ∷ ends) new = ap (λ (texts : List (List ℕ)). slice_range bytes start end ∷ texts) (texts-push bytes end ends new)

range-new : (bytes text : List ℕ) → slice_range (bytes ++ text) (length bytes) (length bytes + length text) ≡ text
range-new bytes text =
    ap (λ (xs : List ℕ). take (length bytes + length text - length bytes) xs) (drop_at bytes text (length bytes) refl) ∙ take_all (length bytes + length text - length bytes) text (omega arith)

-- a text behind the others
pub texts-placed : (bytes text : List ℕ) (ends : List ℕ) (end : ℕ) → AreRising 0 ends → end_of 0 ends ≡ length bytes → end ≡ length bytes + length text → texts_from (bytes ++ text) 0 (ends ++ end ∷ []) ≡ texts_from bytes 0 ends ++ text ∷ []
texts-placed bytes text ends end rising whole is =
    texts-push (bytes ++ text) 0 ends end
    ∙ ap (λ (texts : List (List ℕ)). texts ++ slice_range (bytes ++ text) (end_of 0 ends) end ∷ []) (texts-more bytes text 0 ends rising (omega (arith, whole)))
    ∙ ap (λ (n : ℕ). texts_from bytes 0 ends ++ slice_range (bytes ++ text) n end ∷ []) whole
    ∙ ap (λ (n : ℕ). texts_from bytes 0 ends ++ slice_range (bytes ++ text) (length bytes) n ∷ []) is
    ∙ ap (λ (x : List ℕ). texts_from bytes 0 ends ++ x ∷ []) (range-new bytes text)

-- the text of a row is made of the bytes from where it starts to where it ends
pub row-text : (bytes : List ℕ) (start : ℕ) (ends : List ℕ) (row : ℕ) → row < length ends → slice_get (texts_from bytes start ends) row ≡ Some (slice_range bytes (get_or (start ∷ ends) row 0) (get_or ends row 0))
row-text bytes start [] row below = absurd (omega arith)
row-text bytes start (end ∷ ends) zero below = refl
row-text bytes start (end ∷ ends) (suc row) below = row-text bytes end ends row (omega arith)

pub end-within : (start : ℕ) (ends : List ℕ) → AreRising start ends → (row : ℕ) → row < length ends → get_or ends row 0 ≤ end_of start ends
end-within start [] rising row below = absurd (omega arith)
end-within start (end ∷ ends) rising zero below = end-above end ends rising.1
end-within start (end ∷ ends) rising (suc row) below = end-within end ends rising.1 row (omega arith)

-- ---- spots
further : (bytes : List ℕ) (start end : ℕ) (ends : List ℕ) (spot : Spot) → start ≤ end → end ≤ length bytes → is_here spot start (slice_range bytes start end) ≡ false → text_from start (texts_from bytes start (end ∷ ends)) spot ≡ text_from end (texts_from bytes end ends) spot
further bytes start end ends spot rising within apart =
    text-further start (slice_range bytes start end) (texts_from bytes end ends) spot apart
    ∙ ap (λ (n : ℕ). text_from n (texts_from bytes end ends) spot) (length-range bytes start end rising within)

-- The text at a spot is made of the spot's bytes.
pub text-bytes : (bytes : List ℕ) (start : ℕ) (ends : List ℕ) (spot : Spot) (text : List ℕ) → AreRising start ends → end_of start ends ≤ length bytes → text_from start (texts_from bytes start ends) spot ≡ Some text → (spot.start + spot.length ≤ length bytes) × (slice_range bytes spot.start (spot.start + spot.length) ≡ text)
text-bytes bytes start [] spot text rising within h = absurd (none-some text h)
text-bytes bytes start (end ∷ ends) spot text rising within h =
    let above = end-above end ends rising.1 in
    let ends_within : end ≤ length bytes = omega (arith, above) in
    let size = length-range bytes start end rising.0 ends_within in
    ⊎_elim
    (λ here.
    let parts = and_parts _ _ here in
    let first : spot.start ≡ start = eqb-true _ _ parts.0 in
    let long : spot.length ≡ length (slice_range bytes start end) = eqb-true _ _ parts.1 in
    let last : spot.start + spot.length ≡ end = omega (arith, first, long, size) in (
      omega (arith, last),
      ap (λ (n : ℕ). slice_range bytes spot.start n) last ∙ ap (λ (n : ℕ). slice_range bytes n end) first ∙ same_Some _ text (sym (text-here start _ (texts_from bytes end ends) spot here) ∙ h),
    ))
    (λ apart. text-bytes bytes end ends spot text rising.1 within (sym (further bytes start end ends spot rising.0 ends_within apart) ∙ h))
    (cases_Bool (is_here spot start (slice_range bytes start end)))

-- A spot is had where a row is its own, and only there.
pub row-had : (bytes : List ℕ) (start : ℕ) (ends : List ℕ) (spot : Spot) → AreRising start ends → end_of start ends ≤ length bytes → (row : ℕ) → row < length ends → get_or (start ∷ ends) row 0 ≡ spot.start → get_or ends row 0 ≡ spot.start + spot.length → is_some (text_from start (texts_from bytes start ends) spot) ≡ true
row-had bytes start [] spot rising within row below starts stops = absurd (omega arith)
row-had bytes start (end ∷ ends) spot rising within zero below starts stops =
    let above = end-above end ends rising.1 in
    let size = length-range bytes start end rising.0 (omega (arith, above)) in
    ap (λ (o : Option (List ℕ)). is_some o) (text-here start (slice_range bytes start end) (texts_from bytes end ends) spot (and_from _ _ (eq-eqb spot.start start (sym starts)) (eq-eqb spot.length _ (omega (arith, size, starts, stops)))))
row-had bytes start (end ∷ ends) spot rising within (suc row) below starts stops =
    let above = end-above end ends rising.1 in
    let rest = row-had bytes end ends spot rising.1 within row (omega arith) starts stops in
    ⊎_elim
    (λ here. ap (λ (o : Option (List ℕ)). is_some o) (text-here start (slice_range bytes start end) (texts_from bytes end ends) spot here))
    (λ apart. ap (λ (o : Option (List ℕ)). is_some o) (further bytes start end ends spot rising.0 (omega (arith, above)) apart) ∙ rest)
    (cases_Bool (is_here spot start (slice_range bytes start end)))

pub none-had : (bytes : List ℕ) (start : ℕ) (ends : List ℕ) (spot : Spot) → AreRising start ends → end_of start ends ≤ length bytes → ((row : ℕ) → row < length ends → get_or (start ∷ ends) row 0 ≡ spot.start → get_or ends row 0 ≡ spot.start + spot.length → ⊥) → is_some (text_from start (texts_from bytes start ends) spot) ≡ false
none-had bytes start [] spot rising within none = refl
none-had bytes start (end ∷ ends) spot rising within none =
    let above = end-above end ends rising.1 in
    let ends_within : end ≤ length bytes = omega (arith, above) in
    let size = length-range bytes start end rising.0 ends_within in
    let apart : is_here spot start (slice_range bytes start end) ≡ false = false_from_ne_true _
    (λ here.
    let parts = and_parts _ _ here in
    let first : spot.start ≡ start = eqb-true _ _ parts.0 in
    let long : spot.length ≡ length (slice_range bytes start end) = eqb-true _ _ parts.1 in
    none 0 (omega arith) (sym first) (omega (arith, first, long, size))) in
    ap (λ (o : Option (List ℕ)). is_some o) (further bytes start end ends spot rising.0 ends_within apart) ∙ none-had bytes end ends spot rising.1 within (λ row below starts stops. none (suc row) (omega arith) starts stops)

-- ---- the search
pub before-earlier : (ends : List ℕ) (spot : Spot) → AreRising 0 ends → (j k : ℕ) → j ≤ k → k < length ends → is_before ends k spot ≡ true → is_before ends j spot ≡ true
before-earlier ends spot rising j k le below h =
    let starts = rising-at 0 ends rising j k le (omega arith) in
    let stops = rising-at 0 ends rising (suc j) (suc k) (omega arith) (omega arith) in
    let cases = or_cases (ltb (start_of ends k) spot.start) (ltb (get_or ends k 0) (spot.start + spot.length)) h in
    ⊎_elim
    (λ first.
    let less : start_of ends j < spot.start = omega (arith, starts, ltb-true (start_of ends k) spot.start first) in
    or_left _ _ (lt-ltb (start_of ends j) spot.start less))
    (λ last.
    let less : get_or ends j 0 < spot.start + spot.length = omega (arith, stops, ltb-true (get_or ends k 0) (spot.start + spot.length) last) in
    or_right _ _ (lt-ltb (get_or ends j 0) (spot.start + spot.length) less))
    cases

pub behind-later : (ends : List ℕ) (spot : Spot) → AreRising 0 ends → (j k : ℕ) → j ≤ k → k < length ends → is_before ends j spot ≡ false → is_before ends k spot ≡ false
behind-later ends spot rising j k le below h =
    let starts = rising-at 0 ends rising j k le (omega arith) in
    let stops = rising-at 0 ends rising (suc j) (suc k) (omega arith) (omega arith) in
    let parts = or_parts (ltb (start_of ends j) spot.start) (ltb (get_or ends j 0) (spot.start + spot.length)) h in
    let first : spot.start ≤ start_of ends k = omega (arith, starts, ltb-false (start_of ends j) spot.start parts.0) in
    let last : spot.start + spot.length ≤ get_or ends k 0 = omega (arith, stops, ltb-false (get_or ends j 0) (spot.start + spot.length) parts.1) in
    or_from _ _ (le-ltb (start_of ends k) spot.start first) (le-ltb (get_or ends k 0) (spot.start + spot.length) last)

-- The first row that isn't before a spot is its row, or the spot has none.
pub only-row : (ends : List ℕ) (spot : Spot) → AreRising 0 ends → (first : ℕ) → ((row : ℕ) → row < first → is_before ends row spot ≡ true) → ((row : ℕ) → first ≤ row → row < length ends → is_before ends row spot ≡ false) → (row : ℕ) → row < length ends → get_or (0 ∷ ends) row 0 ≡ spot.start → get_or ends row 0 ≡ spot.start + spot.length → (first ≤ row) × (is_row ends first spot ≡ true)
only-row ends spot rising first before behind row below starts stops =
    let here : is_before ends row spot ≡ false = or_from _ _ (le-ltb (start_of ends row) spot.start (omega (arith, starts))) (le-ltb (get_or ends row 0) (spot.start + spot.length) (omega (arith, stops))) in
    let onward : first ≤ row = ⊎_elim (λ less. absurd (false≢true (sym here ∙ before row less))) (λ le. le) (cases_lt row first) in
    let parts = or_parts _ _ (behind first (omega arith) (omega arith)) in
    let start_above = ltb-false (start_of ends first) spot.start parts.0 in
    let end_above = ltb-false (get_or ends first 0) (spot.start + spot.length) parts.1 in
    let start_below = rising-at 0 ends rising first row onward (omega arith) in
    let end_below = rising-at 0 ends rising (suc first) (suc row) (omega arith) (omega arith) in (
      onward,
      and_from _ _ (eq-eqb (start_of ends first) spot.start (omega (arith, start_above, start_below, starts))) (eq-eqb (get_or ends first 0) (spot.start + spot.length) (omega (arith, end_above, end_below, stops))),
    )
