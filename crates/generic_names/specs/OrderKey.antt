-- A name's place in the order of specificity, as bytes that compare as the order does.
use Rattle.std.specs.Prelude.{◌≡◌, ◌≢◌, ◌⊎◌, ℕ, ◌-◌, ◌==◌, ◌<◌, nat_lt, Bool, true, false, if◌then◌else◌, List, [], ◌∷◌, ◌++◌, map}
use Rattle.std.specs.List.{AllByRecursion}
use Rattle.std.specs.Ordering.{nat_cmp, is_lt}
use Rattle.std.specs.Cmp.Lexicographic.{slice_cmp}
use Rattle.generic_names.specs.Spelled.{Spelled, period, percent, asterisk, qualifiers, first_qualifier}
use Rattle.generic_names.specs.Covers.{is_double}
use Rattle.generic_names.specs.Before.{rank, ranks, order, before}
use Rattle.generic_names.specs.Gap.{is_below}
use Rattle.generic_names.specs.Laws.{IsPattern}

-- a rank as one byte: that of a name as it is, and 256 to 260 as the highest five, 251 to 255, which no name has
abbrev pub squeezed : ℕ → ℕ
squeezed rank = if nat_lt rank 256 then rank else rank - 5

-- the key of a text: its ranks, each as one byte
abbrev pub order_key : List ℕ → List ℕ
order_key text = map squeezed (ranks (qualifiers text))

-- what a byte of a name without generic characters is in the name's key, and that it is such a byte. Words of the
-- crate's own functions.
abbrev pub discrete_byte : ℕ → ℕ
discrete_byte b = if b == period then 252 else b

abbrev pub IsDiscrete : ℕ → Type 0
IsDiscrete b = (b < 256) × (b ≢ percent) × (b ≢ asterisk)

abbrev pub AreDiscrete : List ℕ → Type 0
AreDiscrete text = AllByRecursion IsDiscrete text

-- whether the key of a name is lower than this one
abbrev pub is_lower : Spelled → List ℕ → Bool
is_lower name key = is_lt (slice_cmp nat_cmp (order_key name.text) key)

-- the ranks with which those of a name begin that has this first qualifier, and no others; and the same as a key
abbrev pub qualifier_ranks : List ℕ → List ℕ
qualifier_ranks q = if is_double q then 260 ∷ [] else map rank q ++ 257 ∷ []

abbrev pub qualifier_key : List ℕ → List ℕ
qualifier_key q = map squeezed (qualifier_ranks q)

-- the ranks that a pattern may have: bytes below the highest five, and 256 to 260
abbrev pub IsRank : ℕ → Type 0
IsRank rank = (rank < 251) ⊎ ((255 < rank) × (rank < 261))

abbrev pub AreRanks : List ℕ → Type 0
AreRanks some = AllByRecursion IsRank some

-- the keys of two patterns compare as the patterns do
abbrev pub KeysCompare : Type 0
KeysCompare = (a b : Spelled) → IsPattern a → IsPattern b → slice_cmp nat_cmp (order_key a.text) (order_key b.text) ≡ order a b

abbrev pub LowerKeyIsBefore : Type 0
LowerKeyIsBefore = (a b : Spelled) → IsPattern a → IsPattern b → is_lower a (order_key b.text) ≡ before a b

-- the key of a pattern is below that of a gap exactly where the pattern is below the gap
abbrev pub LowerKeyIsBelow : Type 0
LowerKeyIsBelow = (a : Spelled) (gap : List ℕ) → IsPattern a → AreRanks gap → is_lower a (map squeezed gap) ≡ is_below a gap

-- what is more specific than a pattern whose key is lower has a lower key too
abbrev pub LowerIsPassedOn : Type 0
LowerIsPassedOn = (a b : Spelled) (key : List ℕ) → IsPattern a → IsPattern b → before a b ≡ true → is_lower b key ≡ true → is_lower a key ≡ true

-- patterns with one key have one text
abbrev pub EqualKeysAreOne : Type 0
EqualKeysAreOne = (a b : Spelled) → IsPattern a → IsPattern b → order_key a.text ≡ order_key b.text → a.text ≡ b.text

-- The key of no name is lower than that of its first qualifier. And of two patterns of which neither has a lower key
-- the more specific one has that first qualifier if the other has it: those that have it stand together, behind all
-- others with a lower key.
abbrev pub FirstIsNotLower : Type 0
FirstIsNotLower = (a : Spelled) (q : List ℕ) → first_qualifier a.text ≡ q → is_lower a (qualifier_key q) ≡ false

abbrev pub FirstsStandTogether : Type 0
FirstsStandTogether =
    (a b : Spelled) (q : List ℕ) → IsPattern a → IsPattern b → is_lower a (qualifier_key q) ≡ false → before a b ≡ true
    → first_qualifier b.text ≡ q → first_qualifier a.text ≡ q
