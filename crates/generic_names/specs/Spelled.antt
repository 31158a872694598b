-- A name is a kind and a spelling, and a spelling is read as its qualifiers.
use Rattle.std.specs.Prelude.{ℕ, ◌==◌, Bool, true, false, List, [], ◌∷◌}
use Rattle.std.specs.List.{slice_split, before_first}
use Rattle.generic_names.specs.declared.kind.NameKind.{NameKind}

-- what a resource, a pattern and a member's name are seen as
pub record Spelled : Type 0 where
  pub kind : NameKind
  pub text : List ℕ

-- the bytes with a meaning of their own: the period between qualifiers, `%` and `*`
abbrev pub period : ℕ
period = 46

abbrev pub percent : ℕ
percent = 37

abbrev pub asterisk : ℕ
asterisk = 42

-- the qualifiers of a text, which stand between its periods; one that is empty counts
abbrev pub qualifiers : List ℕ → List (List ℕ)
qualifiers text = slice_split (λ b. b == period) text

-- the first qualifier of a text: what stands before its first period
abbrev pub first_qualifier : List ℕ → List ℕ
first_qualifier text = before_first (λ b. b == period) text

-- whether a list has no element
abbrev pub is_empty : {A : Type 0} → List A → Bool
is_empty [] = true
is_empty (x ∷ xs) = false
