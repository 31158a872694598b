-- Which names a pattern covers. Both are read as lists of qualifiers.
use Rattle.std.specs.Prelude.{ℕ, ◌-◌, ◌==◌, Bool, true, false, not, ◌&&◌, ◌||◌, if◌then◌else◌, List, [], ◌∷◌, length, take, slice_index, codes}
use Rattle.std.specs.List.{join_with_byte, list_any}
use Rattle.std.specs.Str.{bytes_eq}
use Rattle.generic_names.specs.declared.kind.NameKind.{NameKind}
use Rattle.generic_names.specs.declared.kind.NameKind.TheVariants.{DataSet, General}
use Rattle.generic_names.specs.Spelled.{Spelled, period, percent, asterisk, qualifiers, is_empty}

-- whether a name has a generic character
abbrev pub is_generic : Spelled → Bool
is_generic name = list_any (λ b. (b == percent) || (b == asterisk)) name.text

-- the whole qualifier `**`
abbrev pub is_double : List ℕ → Bool
is_double q = bytes_eq q (codes "**")

-- a `*` that ends its qualifier
abbrev pub is_final : ℕ → List ℕ → Bool
is_final p behind = (p == asterisk) && is_empty behind

-- whether a pattern's qualifier matches a name's, byte by byte: `%` any one byte, a final `*` any rest
abbrev pub matches : List ℕ → List ℕ → Bool
matches [] [] = true
matches [] (b ∷ bs) = false
matches (p ∷ ps) [] = is_final p ps
matches (p ∷ ps) (b ∷ bs) = is_final p ps || (((p == percent) || (p == b)) && matches ps bs)

-- whether a text begins with a match of these bytes, in which `%` is one byte other than a period
abbrev pub begins : List ℕ → List ℕ → Bool
begins [] text = true
begins (p ∷ ps) [] = false
begins (p ∷ ps) (b ∷ bs) = (if p == percent then not (b == period) else (p == b)) && begins ps bs

-- whether it is the last qualifier of a general pattern and ends in `*`: it isn't bound to one qualifier
abbrev pub is_open : NameKind → Bool → List ℕ → Bool
is_open DataSet last q = false
is_open General last q = last && (slice_index q (length q - 1) == asterisk)

-- whether some end of the list passes a test, the whole and the empty one among them
abbrev pub some_end : (List (List ℕ) → Bool) → List (List ℕ) → Bool
some_end test [] = test []
some_end test (q ∷ qs) = test (q ∷ qs) || some_end test qs

-- whether there is a first qualifier that passes a test, and those behind it pass another
abbrev pub first_and_rest : (List ℕ → Bool) → (List (List ℕ) → Bool) → List (List ℕ) → Bool
first_and_rest first rest [] = false
first_and_rest first rest (q ∷ qs) = first q && rest qs

-- Whether the qualifiers of a pattern cover those of a name. The empty pattern covers the empty name
-- alone; `**` leaves the rest of the pattern some end of the name; an open qualifier covers a name whose
-- text begins with what stands before its `*`; and any other one qualifier, which it matches.
abbrev pub covers_all : NameKind → List (List ℕ) → List (List ℕ) → Bool
covers_all kind [] name = is_empty name
covers_all kind (p ∷ ps) name =
    if is_double p then some_end (λ end. covers_all kind ps end) name
    else if is_open kind (is_empty ps) p
    then not (is_empty name) && begins (take (length p - 1) p) (join_with_byte period name)
    else first_and_rest (λ q. matches p q) (λ rest. covers_all kind ps rest) name

-- whether a pattern covers the name of a resource of its kind
abbrev pub covers : Spelled → Spelled → Bool
covers pattern name = covers_all pattern.kind (qualifiers pattern.text) (qualifiers name.text)
