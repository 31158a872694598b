-- What holds of the definitions.
use Rattle.std.specs.Prelude.{◌≡◌, ◌⊎◌, ℕ, List, true, false, Ok}
use Rattle.std.specs.declared.cmp.Ordering.TheVariants.{Equal}
use Rattle.generic_names.specs.declared.kind.NameKind.{NameKind}
use Rattle.generic_names.specs.Spelled.{Spelled}
use Rattle.generic_names.specs.Faults.{resource_of, pattern_of}
use Rattle.generic_names.specs.Covers.{covers}
use Rattle.generic_names.specs.Before.{before, order}

-- names that a text spells
abbrev pub IsResource : Spelled → Type 0
IsResource name = resource_of name.kind name.text ≡ Ok name

abbrev pub IsPattern : Spelled → Type 0
IsPattern name = pattern_of name.kind name.text ≡ Ok name

-- of two patterns of one kind that differ one is more specific
abbrev pub OneIsBefore : Type 0
OneIsBefore = (a b : Spelled) → IsPattern a → IsPattern b → a.kind ≡ b.kind → (a ≡ b) ⊎ ((before a b ≡ true) ⊎ (before b a ≡ true))

-- and not both
abbrev pub NotBoth : Type 0
NotBoth = (a b : Spelled) → before a b ≡ true → before b a ≡ false

-- what is more specific than a more specific one is more specific
abbrev pub PassedOn : Type 0
PassedOn = (a b c : Spelled) → before a b ≡ true → before b c ≡ true → before a c ≡ true

-- two patterns of one kind that tie are equal, and equal ones tie
abbrev pub TiesAreEqual : Type 0
TiesAreEqual = (a b : Spelled) → IsPattern a → IsPattern b → a.kind ≡ b.kind → order a b ≡ Equal → a ≡ b

abbrev pub EqualsTie : Type 0
EqualsTie = (a : Spelled) → order a a ≡ Equal

-- a profile of the very name is before every other one that covers it
abbrev pub VeryNameIsFirst : Type 0
VeryNameIsFirst = (pattern name : Spelled) → IsResource name → pattern.kind ≡ name.kind → covers pattern name ≡ true → (pattern ≡ name) ⊎ (before name pattern ≡ true)

-- what a text spells has this text and this kind, and is spelled by it again
abbrev pub ReadsBack : Type 0
ReadsBack = (kind : NameKind) (text : List ℕ) (name : Spelled) → pattern_of kind text ≡ Ok name → (name ≡ record { kind = kind; text = text }) × IsPattern name

-- the name of a resource is that of a profile
abbrev pub ResourceIsPattern : Type 0
ResourceIsPattern = (name : Spelled) → IsResource name → IsPattern name

-- the very name covers itself
abbrev pub CoversItself : Type 0
CoversItself = (name : Spelled) → IsResource name → covers name name ≡ true
