-- The profile that decides on a name: the most specific of those that cover it.
use Rattle.std.specs.Prelude.{◌≡◌, ◌⊎◌, true, false, if◌then◌else◌, List, [], ◌∷◌, Option, Some, None, MatchOption, find, filter}
use Rattle.std.specs.Option.{option_or}
use Rattle.std.specs.List.{AllByRecursion}
use Rattle.std.specs.Str.{bytes_eq}
use Rattle.generic_names.specs.Spelled.{Spelled}
use Rattle.generic_names.specs.Covers.{covers}
use Rattle.generic_names.specs.Before.{before}
use Rattle.generic_names.specs.Laws.{IsResource, IsPattern}
use Rattle.generic_names.specs.declared.kind.NameKind.{NameKind}

module _ {A : Type 0} (name_of : A → Spelled) where
  -- the more specific of a profile and another, if there is one
  abbrev pub more_specific : A → Option A → A
  more_specific x None = x
  more_specific x (Some y) = if before (name_of y) (name_of x) then y else x

  -- the profile that is before all others; of those with one name the first
  abbrev pub most_specific : List A → Option A
  most_specific [] = None
  most_specific (x ∷ xs) = Some (more_specific x (most_specific xs))

  -- the profile of the very name, else the covering one that is before all other covering ones
  abbrev pub best : List A → Spelled → Option A
  best profiles name =
      option_or (find (λ p. bytes_eq (name_of p).text name.text) profiles)
      (most_specific (filter (λ p. covers (name_of p) name) profiles))

  -- each profile is before all behind it
  abbrev pub IsInOrder : List A → Type 0
  IsInOrder [] = Unit {0}
  IsInOrder (x ∷ xs) = AllByRecursion (λ y. before (name_of x) (name_of y) ≡ true) xs × IsInOrder xs

  -- the names are patterns
  abbrev pub AreNamed : List A → Type 0
  AreNamed profiles = AllByRecursion (λ x. IsPattern (name_of x)) profiles

  -- they have the kind of a name
  abbrev pub AreOfKind : NameKind → List A → Type 0
  AreOfKind kind profiles = AllByRecursion (λ x. (name_of x).kind ≡ kind) profiles

  -- of profiles in order the best is the first that covers the name
  abbrev pub BestIsFirst : Type 0
  BestIsFirst =
      (profiles : List A) (name : Spelled) → IsResource name → AreNamed profiles → AreOfKind name.kind profiles → IsInOrder profiles
      → best profiles name ≡ find (λ p. covers (name_of p) name) profiles

  -- one of the profiles
  abbrev pub IsAmong : A → List A → Type 0
  IsAmong x [] = ⊥
  IsAmong x (y ∷ ys) = (x ≡ y) ⊎ IsAmong x ys

  -- It is one of the profiles, it covers the name, and no profile that covers the name is before it.
  pub record IsMostSpecific (profiles : List A) (name : Spelled) (x : A) : Type 0 where
    pub among : IsAmong x profiles
    pub covering : covers (name_of x) name ≡ true
    pub first : AllByRecursion (λ y. covers (name_of y) name ≡ true → before (name_of y) (name_of x) ≡ false) profiles

  -- the best is the most specific that covers the name, and there is none only where none covers it
  abbrev pub BestIsMostSpecific : Type 0
  BestIsMostSpecific =
      (profiles : List A) (name : Spelled) → IsResource name → AreNamed profiles → AreOfKind name.kind profiles
      → MatchOption (best profiles name) (AllByRecursion (λ y. covers (name_of y) name ≡ false) profiles) (IsMostSpecific profiles name)
