-- An index is the list of its entries in the order of specificity, with how many more fit.
use Rattle.std.specs.Prelude.{◌≡◌, ℕ, ◌<◌, Bool, not, if◌then◌else◌, List, [], ◌∷◌, length, filter, find, Option, None, IfSome}
use Rattle.std.specs.List.{AllByRecursion, slice_get}
use Rattle.std.specs.Option.{option_and_then}
use Rattle.std.specs.Str.{bytes_eq}
use Rattle.generic_names.specs.declared.kind.NameKind.{NameKind}
use Rattle.generic_names.specs.Spelled.{Spelled, first_qualifier}
use Rattle.generic_names.specs.Before.{before}
use Rattle.profile_index.specs.declared.entry.Entry.{Entry}

pub record Indexed (T : Type 0) : Type 0 where
  pub entries : List (Entry T)
  pub spare : ℕ

module _ {T : Type 0} where
  -- the name of an entry
  abbrev pub name_of : Entry T → Spelled
  name_of e = e.name

  -- whether an entry has just this text as its name
  abbrev pub has_name : Spelled → Entry T → Bool
  has_name name e = bytes_eq e.name.text name.text

  -- whether the name of an entry has this first qualifier
  abbrev pub is_under : List ℕ → Entry T → Bool
  is_under qualifier e = bytes_eq (first_qualifier e.name.text) qualifier

  -- all entries have this kind
  abbrev pub AreOf : NameKind → List (Entry T) → Type 0
  AreOf kind entries = AllByRecursion (λ e. e.name.kind ≡ kind) entries

  -- no entry has this name
  abbrev pub IsAbsent : Spelled → List (Entry T) → Type 0
  IsAbsent name entries = find (has_name name) entries ≡ None

  -- the list with an entry at its place in the order
  abbrev pub with_entry : Entry T → List (Entry T) → List (Entry T)
  with_entry new [] = new ∷ []
  with_entry new (e ∷ entries) = if before e.name new.name then e ∷ with_entry new entries else new ∷ e ∷ entries

  -- the list with an entry in the place of the one of its name, or else at its place in the order
  abbrev pub put_entry : Entry T → List (Entry T) → List (Entry T)
  put_entry new [] = new ∷ []
  put_entry new (e ∷ entries) =
      if has_name new.name e then new ∷ entries else (if before new.name e.name then new ∷ e ∷ entries else e ∷ put_entry new entries)

  -- the list without the entry of a name
  abbrev pub without : Spelled → List (Entry T) → List (Entry T)
  without name entries = filter (λ e. not (has_name name e)) entries

  -- an answer that is a place stands for the entry there, and none for none
  pub record IsPlaceOf (entries : List (Entry T)) (entry : Option (Entry T)) (answer : Option ℕ) : Type 0 where
    pub within : IfSome answer (λ place. place < length entries)
    pub there : option_and_then (λ place. slice_get entries place) answer ≡ entry
