-- Words of how the rows are kept: in order of definition with rising numbers, and by their keys.
use Rattle.std.specs.Prelude.{◌≡◌, ℕ, ◌<◌, false, List, [], ◌∷◌, find}
use Rattle.std.specs.List.{AllByRecursion}
use Rattle.std.specs.Str.{bytes_eq}
use Rattle.sorted_rows.specs.Sorted.{has_key}

-- each row is so related to all that stand behind it
abbrev pub AllPairs : {D : Type 0} → (D → D → Type 0) → List D → Type 0
AllPairs relation [] = Unit {0}
AllPairs relation (row ∷ rows) = AllByRecursion (relation row) rows × AllPairs relation rows

module _ {D : Type 0} (number : D → ℕ) (key : D → List ℕ) where
  abbrev pub IsEarlier : D → D → Type 0
  IsEarlier row other = number row < number other

  abbrev pub HasOtherKey : D → D → Type 0
  HasOtherKey row other = bytes_eq (key row) (key other) ≡ false

  -- the numbers rise and are below the next one, no key comes twice, and each key finds the same in both lists
  pub record IsKept (order by_key : List D) (next : ℕ) : Type 0 where
    pub rising : AllPairs IsEarlier order
    pub below : AllByRecursion (λ row. number row < next) order
    pub distinct : AllPairs HasOtherKey order
    pub same : (k : List ℕ) → find (has_key key k) by_key ≡ find (has_key key k) order
