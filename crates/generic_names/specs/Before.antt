-- Which of two patterns is more specific.
use Rattle.std.specs.Prelude.{ℕ, ◌==◌, Bool, if◌then◌else◌, List, [], ◌∷◌, ◌++◌, map}
use Rattle.std.specs.declared.cmp.Ordering.{Ordering}
use Rattle.std.specs.Ordering.{nat_cmp, is_lt}
use Rattle.std.specs.Cmp.Lexicographic.{slice_cmp}
use Rattle.generic_names.specs.Spelled.{Spelled, percent, asterisk, qualifiers}
use Rattle.generic_names.specs.Covers.{is_double}

-- ordinary bytes by their value, then `%`; and `*` behind the end of a qualifier, which is 257
abbrev pub rank : ℕ → ℕ
rank b = if b == percent then 256 else if b == asterisk then 258 else b

-- The ranks of a list of qualifiers: those of its bytes and 257 for each qualifier, 260 for a whole `**`,
-- and 259 at the end of the name.
abbrev pub ranks : List (List ℕ) → List ℕ
ranks [] = 259 ∷ []
ranks (q ∷ qs) = if is_double q then 260 ∷ ranks qs else map rank q ++ 257 ∷ ranks qs

-- which of two names comes first: the one whose ranks are lower where the two first differ
abbrev pub order : Spelled → Spelled → Ordering
order a b = slice_cmp nat_cmp (ranks (qualifiers a.text)) (ranks (qualifiers b.text))

-- whether the first name is more specific
abbrev pub before : Spelled → Spelled → Bool
before a b = is_lt (order a b)
