-- How far, in the order of specificity, no pattern covers a name.
use Rattle.std.specs.Prelude.{◌≡◌, ℕ, ◌==◌, Bool, true, false, not, ◌&&◌, List, ◌∷◌}
use Rattle.std.specs.Ordering.{nat_cmp, is_lt}
use Rattle.std.specs.Cmp.Lexicographic.{slice_cmp}
use Rattle.generic_names.specs.Spelled.{Spelled, period, percent, asterisk, qualifiers}
use Rattle.generic_names.specs.Covers.{covers}
use Rattle.generic_names.specs.Before.{ranks, before}
use Rattle.generic_names.specs.Laws.{IsPattern}

-- whether the ranks of a name are below the end of a gap, which is a list of ranks
abbrev pub is_below : Spelled → List ℕ → Bool
is_below name gap = is_lt (slice_cmp nat_cmp (ranks (qualifiers name.text)) gap)

-- no pattern of the name's kind covers it from this one on and below the end of the gap
abbrev pub NoneCovers : Spelled → List ℕ → Spelled → Type 0
NoneCovers first gap name =
    (p : Spelled) → IsPattern p → p.kind ≡ name.kind → before p first ≡ false → is_below p gap ≡ true → covers p name ≡ false

-- the two begin with different bytes, the pattern with one that stands for itself
abbrev pub begin_apart : (pattern name : List ℕ) → Bool
begin_apart (a ∷ pattern) (b ∷ name) = not (a == b) && not (a == period) && not (a == percent) && not (a == asterisk)
begin_apart pattern name = false

-- what is more specific than a pattern below the end of a gap is below it
abbrev pub GapIsClosed : Type 0
GapIsClosed = (a b : Spelled) (gap : List ℕ) → before a b ≡ true → is_below b gap ≡ true → is_below a gap ≡ true
