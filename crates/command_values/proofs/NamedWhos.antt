-- Users and groups, read one behind another: they are those of the names that are read so.
use Rattle.std.proofs.Common.{◌≡◌, ◌++◌, ◌∷◌, ◌∙◌, [], List, ℕ, map, refl, ap, sym}
use Rattle.std.specs.Prelude.{Result, Option, Some, None, Ok, Err}
use Rattle.access_levels.specs.declared.entries.Who.{Who}
use Rattle.access_levels.specs.declared.entries.Who.TheVariants.{Named}
use Rattle.command_words.specs.declared.quoting.Quoting.TheVariants.{Ignored}
use Rattle.command_words.specs.ValuedWords.{ValuedWord}
use Rattle.command_values.specs.declared.faults.Syntax.{Syntax}
use Rattle.command_values.specs.declared.faults.Syntax.TheVariants as faults
use Rattle.command_values.specs.declared.value_kinds.ValueKind.TheVariants as kinds
use Rattle.command_values.specs.Results.{◌>>=◌, or_fault}
use Rattle.command_values.specs.Values.{names, name_of}
use Rattle.command_values.specs.WordsOfValues.{word_of}

-- the users and groups of a list, behind those of `front`
abbrev pub whos_behind : List Who → List ValuedWord → Result (List Who) Syntax
whos_behind front [] = Ok front
whos_behind front (i ∷ is) = word_of Ignored i >>= λ w. or_fault (name_of kinds.Ids w.1) (faults.BadValue w.0) >>= λ x. whos_behind (front ++ Named x ∷ []) is

-- a name more is one of them more
named_push : (front : List (List ℕ)) (x : List ℕ) → map Named (front ++ x ∷ []) ≡ map Named front ++ Named x ∷ []
named_push [] x = refl
named_push (y ∷ front) x = ap (λ l. Named y ∷ l) (named_push front x)

behind : (front : List (List ℕ)) (is : List ValuedWord) → whos_behind (map Named front) is ≡ (names kinds.Ids front is >>= λ ids. Ok (map Named ids))
behind front [] = refl
behind front (i ∷ is) = by (word_of Ignored i) (λ x. behind (front ++ x ∷ []) is)
  where
    Next : Type 0
    Next = (x : List ℕ) → whos_behind (map Named (front ++ x ∷ [])) is ≡ (names kinds.Ids (front ++ x ∷ []) is >>= λ ids. Ok (map Named ids))

    on : (place : ℕ) (o : Option (List ℕ)) → Next → (or_fault o (faults.BadValue place) >>= λ x. whos_behind (map Named front ++ Named x ∷ []) is) ≡ ((or_fault o (faults.BadValue place) >>= λ x. names kinds.Ids (front ++ x ∷ []) is) >>= λ ids. Ok (map Named ids))
    on place None next = refl
    on place (Some x) next = ap (λ l. whos_behind l is) (sym (named_push front x)) ∙ next x

    by : (r : Result (ℕ × List ℕ) Syntax) → Next → (r >>= λ w. or_fault (name_of kinds.Ids w.1) (faults.BadValue w.0) >>= λ x. whos_behind (map Named front ++ Named x ∷ []) is) ≡ ((r >>= λ w. or_fault (name_of kinds.Ids w.1) (faults.BadValue w.0) >>= λ x. names kinds.Ids (front ++ x ∷ []) is) >>= λ ids. Ok (map Named ids))
    by (Err why) next = refl
    by (Ok w) next = on w.0 (name_of kinds.Ids w.1) next

pub named_whos : (is : List ValuedWord) → whos_behind [] is ≡ (names kinds.Ids [] is >>= λ ids. Ok (map Named ids))
named_whos is = behind [] is
