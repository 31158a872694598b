-- Words of the crate's own functions, which search by places.
use Rattle.std.specs.Prelude.{◌≡◌, ℕ, ◌+◌, ◌<◌, ◌≤◌, Bool, true, false, List, length, get_or, Option, MatchOption}
use Rattle.std.specs.List.{AllWithin, slice_get}
use Rattle.generic_names.specs.Spelled.{Spelled}
use Rattle.generic_names.specs.Before.{before}
use Rattle.profile_index.specs.declared.entry.Entry.{Entry}
use Rattle.profile_index.specs.Indexed.{has_name}

module _ {A : Type 0} (test : A → Bool) (xs : List A) where
  -- the place of the first that passes a test, or none where none does
  abbrev pub IsFirst : Option ℕ → Type 0
  IsFirst answer =
      MatchOption answer (AllWithin (λ x. test x ≡ false) xs 0 (length xs))
      (λ place. (place < length xs) × AllWithin (λ x. test x ≡ false) xs 0 place × ((d : A) → test (get_or xs place d) ≡ true))

  -- behind a front of entries of which all pass a test, this is the first, if there is one
  abbrev pub IsFirstBehind : Option A → Type 0
  IsFirstBehind first = (place : ℕ) × ((place ≤ length xs) × (AllWithin (λ x. test x ≡ true) xs 0 place × (first ≡ slice_get xs place)))

module _ {T : Type 0} (name : Spelled) (entries : List (Entry T)) where
  -- the entry at this place has the name, and no other has
  pub record IsThere (place : ℕ) : Type 0 where
    pub within : place < length entries
    pub same : (d : Entry T) → (get_or entries place d).name ≡ name
    pub below : AllWithin (λ e. before e.name name ≡ true) entries 0 place
    pub none_before : AllWithin (λ e. has_name name e ≡ false) entries 0 place
    pub none_behind : AllWithin (λ e. has_name name e ≡ false) entries (place + 1) (length entries)

  -- no entry has the name, and its place would be this
  pub record IsMissing (place : ℕ) : Type 0 where
    pub within : place ≤ length entries
    pub below : AllWithin (λ e. before e.name name ≡ true) entries 0 place
    pub behind : AllWithin (λ e. before name e.name ≡ true) entries place (length entries)
    pub none : AllWithin (λ e. has_name name e ≡ false) entries 0 (length entries)
