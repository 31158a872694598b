-- A walk along a pattern and a name, from place to place.
use Rattle.std.proofs.Common.{◌≡◌, ℕ, ◌+◌, ◌-◌, ◌<◌, ◌≤◌, Bool, true, false, cond, eqb, ltb, List, [], ◌∷◌, length, take, drop, refl, ap, sym, ◌∙◌, arith, ⊎_elim}
use Rattle.std.specs.List.{slice_range}
use Rattle.std.proofs.lemmas.Bool.{cases_lt}
use Rattle.std.proofs.lemmas.List.{take-take, take_rest, length-drop, length-take-le}
use Rattle.std.proofs.lemmas.Bool.Decides.{nat_tests}
use Rattle.std.proofs.lemmas.List.Splits.{join_with_byte-slice_split}
use Rattle.std.specs.List.{join_with_byte}
use Rattle.generic_names.specs.declared.kind.NameKind.{NameKind}
use Rattle.generic_names.specs.declared.covering.WalkEnd.{WalkEnd}
use Rattle.generic_names.specs.declared.covering.WalkEnd.TheVariants.{Covered, Refused}
use Rattle.generic_names.specs.Spelled.{is_empty, qualifiers}
use Rattle.generic_names.specs.Covers.{is_double, is_open, matches, begins, some_end, covers_all}
use Rattle.generic_names.specs.Reading.{rest_at}
use Rattle.generic_names.specs.Walked.{covers_at, covers_end_at, LeftAt, Walked}
use Rattle.generic_names.proofs.QualifierLaws.{rest_at-past, rest_at-within, rest_at-last, qualifiers-some}
use Rattle.generic_names.proofs.CoverLaws.{walk-double-same, walk-double-some, walk-none, walk-open, walk-unlike, walk-like-same, walk-like-some, some_end-all}

-- A walk has come to these places. It is as good from there as from its beginning, and where the pattern covers
-- some end of the name, what is left of it covers some end of what is left.
pub record Along (kind : NameKind) (pattern : List ℕ) (at : ℕ) (name : List ℕ) (from later there : ℕ) : Type 0 where
  pub forward : at ≤ later
  pub pattern_end : later ≤ length pattern + 1
  pub onward : from ≤ there
  pub name_end : there ≤ length name + 1
  pub same : covers_at kind pattern at name from ≡ covers_at kind pattern later name there
  pub some : covers_end_at kind pattern at name from ≡ true → covers_end_at kind pattern later name there ≡ true

Walked-decided : (kind : NameKind) (pattern : List ℕ) (at : ℕ) (name : List ℕ) (from : ℕ) (answer : Bool) → covers_at kind pattern at name from ≡ answer → Walked kind pattern at name from (cond answer Covered Refused)
Walked-decided kind pattern at name from true h = h
Walked-decided kind pattern at name from false h = h

-- the text of a name's rest is its bytes
rest_at-text : (name : List ℕ) (from : ℕ) → from ≤ length name → join_with_byte 46 (rest_at name from) ≡ drop from name
rest_at-text name from h = ap (λ (qs : List (List ℕ)). join_with_byte 46 qs) (rest_at-within from name h) ∙ join_with_byte-slice_split 46 (drop from name)

-- whether a name is spent
rest_at-spent : (name : List ℕ) (from : ℕ) → is_empty (rest_at name from) ≡ ltb (length name) from
rest_at-spent name from = ⊎_elim
    (λ (past : length name < from).
    let none : rest_at name from ≡ [] = rest_at-past from name past in
    let holds : ltb (length name) from ≡ true = grind (arith, nat_tests) in
    rw (none, holds) refl)
    (λ (within : from ≤ length name).
    let some : rest_at name from ≡ qualifiers (drop from name) = rest_at-within from name within in
    let not_past : ltb (length name) from ≡ false = grind (arith, nat_tests) in
    rw (some, not_past) (qualifiers-some (drop from name)))
    (cases_lt (length name) from)

first_of_some : (qs : List (List ℕ)) → is_empty qs ≡ false → (q : List ℕ) × (rest : List (List ℕ)) × (qs ≡ q ∷ rest)
first_of_some [] some = absurd (cc (some))
first_of_some (q ∷ qs) some = (q, qs, refl)

-- what stands before the last byte between two places
front_of_range : (xs : List ℕ) (from end : ℕ) → from ≤ end → end ≤ length xs → take (length (slice_range xs from end) - 1) (slice_range xs from end) ≡ take (end - 1 - from) (drop from xs)
front_of_range xs from end low high =
    let room : length (drop from xs) ≡ length xs - from = length-drop from xs in
    let size : length (slice_range xs from end) ≡ end - from = length-take-le (end - from) (drop from xs) (omega arith) in
    let same : end - from - 1 ≡ end - 1 - from = omega arith in
    rw size (take-take (end - from - 1) (end - from) (drop from xs) (omega arith) ∙ ap (λ (k : ℕ). take k (drop from xs)) same)

module _ {kind : NameKind} {pattern name : List ℕ} {at from later there : ℕ} (w : Along kind pattern at name from later there) where
  -- nothing of the pattern is left
  pub Along-ended : length pattern < later → (end : WalkEnd) → end ≡ cond (ltb (length name) there) Covered Refused → Walked kind pattern at name from end
  Along-ended past end is =
      let none : rest_at pattern later ≡ [] = rest_at-past later pattern past in
      let left : covers_at kind pattern later name there ≡ is_empty (rest_at name there) = ap (λ (qs : List (List ℕ)). covers_all kind qs (rest_at name there)) none in
      rw is (Walked-decided kind pattern at name from _ (w.same ∙ left ∙ rest_at-spent name there))

  module _ (end : ℕ) (low : later ≤ end) (high : end ≤ length pattern) (first : rest_at pattern later ≡ slice_range pattern later end ∷ rest_at pattern (end + 1)) (double : Bool) (is_doubled : double ≡ is_double (slice_range pattern later end)) where
    -- at `**`
    pub Along-double : double ≡ true → LeftAt kind pattern at name from (end + 1) there
    Along-double holds =
        let f : at ≤ later = w.forward in
        record {
          forward = omega arith;
          pattern_end = omega arith;
          onward = w.onward;
          name_end = w.name_end;
          same = walk-double-same kind (rest_at pattern at) (rest_at name from) (rest_at pattern later) (rest_at name there) w.same w.some (slice_range pattern later end) (rest_at pattern (end + 1)) first (sym is_doubled ∙ holds);
          some = walk-double-some kind (rest_at pattern at) (rest_at name from) (rest_at pattern later) (rest_at name there) w.same w.some (slice_range pattern later end) (rest_at pattern (end + 1)) first (sym is_doubled ∙ holds);
        }

    module _ (one : double ≡ false) where
      -- nothing of the name is left
      pub Along-spent : length name < there → covers_at kind pattern at name from ≡ false
      Along-spent past = walk-none kind (rest_at pattern at) (rest_at name from) (rest_at pattern later) (rest_at name there) w.same w.some (slice_range pattern later end) (rest_at pattern (end + 1)) first (rest_at-past there name past) (sym is_doubled ∙ one)

      -- at a qualifier that takes the rest
      pub Along-open : there ≤ length name → (open_ended answer : Bool) → open_ended ≡ is_open kind (eqb end (length pattern)) (slice_range pattern later end) → open_ended ≡ true → answer ≡ begins (take (end - 1 - later) (drop later pattern)) (take (length name - there) (drop there name)) → (reached : WalkEnd) → reached ≡ cond answer Covered Refused → Walked kind pattern at name from reached
      Along-open within open_ended answer is_opened holds is_begun reached is =
          let p : List ℕ = slice_range pattern later end in
          let opened : is_open kind (is_empty (rest_at pattern (end + 1))) p ≡ true = rw (← rest_at-last pattern end high) (sym is_opened ∙ holds) in
          let some : is_empty (rest_at name there) ≡ false = rest_at-spent name there ∙ (grind (arith, nat_tests)) in
          let next = first_of_some (rest_at name there) some in
          let whole : covers_at kind pattern at name from ≡ begins (take (length p - 1) p) (join_with_byte 46 (rest_at name there)) =
          walk-open kind (rest_at pattern at) (rest_at name from) (rest_at pattern later) (rest_at name there) w.same w.some p (rest_at pattern (end + 1)) first next.0 next.1 next.2 (sym is_doubled ∙ one) opened in
          let front : take (length p - 1) p ≡ take (end - 1 - later) (drop later pattern) = front_of_range pattern later end low high in
          let text : join_with_byte 46 (rest_at name there) ≡ take (length name - there) (drop there name) = rest_at-text name there within ∙ sym (take_rest name there) in
          rw is (Walked-decided kind pattern at name from answer (whole ∙ ap (λ (xs : List ℕ). begins xs (join_with_byte 46 (rest_at name there))) front ∙ ap (λ (xs : List ℕ). begins (take (end - 1 - later) (drop later pattern)) xs) text ∙ sym is_begun))

      module _ (next : ℕ) (later_name : there ≤ next) (name_high : next ≤ length name) (next_first : rest_at name there ≡ slice_range name there next ∷ rest_at name (next + 1)) (open_ended like : Bool) (is_opened : open_ended ≡ is_open kind (eqb end (length pattern)) (slice_range pattern later end)) (shut : open_ended ≡ false) (is_like : like ≡ matches (slice_range pattern later end) (slice_range name there next)) where
        -- at one that doesn't match
        closed : is_open kind (is_empty (rest_at pattern (end + 1))) (slice_range pattern later end) ≡ false
        closed = rw (← rest_at-last pattern end high) (sym is_opened ∙ shut)

        pub Along-unlike : like ≡ false → covers_at kind pattern at name from ≡ false
        Along-unlike no_match = walk-unlike kind (rest_at pattern at) (rest_at name from) (rest_at pattern later) (rest_at name there) w.same w.some (slice_range pattern later end) (rest_at pattern (end + 1)) first (slice_range name there next) (rest_at name (next + 1)) next_first (sym is_doubled ∙ one) closed (sym is_like ∙ no_match)

        -- and at one that does
        pub Along-like : like ≡ true → Along kind pattern at name from (end + 1) (next + 1)
        Along-like holds =
            let f : at ≤ later = w.forward in
            let o : from ≤ there = w.onward in
            record {
              forward = omega arith;
              pattern_end = omega arith;
              onward = omega arith;
              name_end = omega arith;
              same = walk-like-same kind (rest_at pattern at) (rest_at name from) (rest_at pattern later) (rest_at name there) w.same w.some (slice_range pattern later end) (rest_at pattern (end + 1)) first (slice_range name there next) (rest_at name (next + 1)) next_first (sym is_doubled ∙ one) closed (sym is_like ∙ holds);
              some = walk-like-some kind (rest_at pattern at) (rest_at name from) (rest_at pattern later) (rest_at name there) w.same w.some (slice_range pattern later end) (rest_at pattern (end + 1)) first (slice_range name there next) (rest_at name (next + 1)) next_first (sym is_doubled ∙ one) closed;
            }

-- Nothing of the pattern is left: it covers the empty end.
pub covers_end-ended : (kind : NameKind) (pattern : List ℕ) (at : ℕ) (name : List ℕ) (from : ℕ) → length pattern < at → covers_end_at kind pattern at name from ≡ true
covers_end-ended kind pattern at name from past =
    let none : rest_at pattern at ≡ [] = rest_at-past at pattern past in
    ap (λ (qs : List (List ℕ)). some_end (λ end. covers_all kind qs end) (rest_at name from)) none ∙ some_end-all (rest_at name from)

-- Nothing of the name is left: the empty end is its only one.
pub covers_end-spent : (kind : NameKind) (pattern : List ℕ) (at : ℕ) (name : List ℕ) (from : ℕ) → length name < from → covers_at kind pattern at name from ≡ false → covers_end_at kind pattern at name from ≡ false
covers_end-spent kind pattern at name from past refused =
    let none : rest_at name from ≡ [] = rest_at-past from name past in
    rw none (sym (ap (λ (qs : List (List ℕ)). covers_all kind (rest_at pattern at) qs) none) ∙ refused)
