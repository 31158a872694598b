-- The entries of a deck among all: those that its commands made, and how many there are.
use Rattle.std.proofs.Common.{◌≡◌, ℕ, suc, ◌+◌, ◌<◌, ◌≤◌, nat_eq, nat_lt, Bool, true, false, List, [], ◌∷◌, ◌++◌, length, refl, sym, ◌∙◌, ap, subst, arith, append-nil, length-append}
use Rattle.std.specs.Prelude.{if◌then◌else◌}
use Rattle.std.specs.List.{All}
use Rattle.std.proofs.lemmas.Bool.Decides.{nat_tests}
use Rattle.std.proofs.lemmas.List.Elements.{All-nil, All-cons}
use Rattle.command_history.specs.declared.events.Accepted.{Accepted}
use Rattle.command_history.specs.declared.events.Event.{Event}
use Rattle.command_history.specs.declared.events.Event.TheVariants.{Added, Ended}
use Rattle.command_history.specs.Events.{entries_of, Extends}
use Rattle.racf_threads.specs.Outputs.{entries_by, last_of}

-- ---- what was made, among a deck's own entries

-- What was made is no more than the own entries, and is all of them where they are no more.
pub record IsWithin (made own : List Accepted) : Type 0 where
  pub fits : length made ≤ length own
  pub whole : length own ≤ length made → own ≡ made

within_more : (made own more : List Accepted) → IsWithin made own → IsWithin made (own ++ more)
within_more made own [] w = subst (λ (l : List Accepted). IsWithin made l) (sym (append-nil own)) w
within_more made own (entry ∷ more) w =
    let more_is = length-append own (entry ∷ more) in
    record { fits = omega arith; whole = λ le. absurd (omega arith) }

within_push : (made own : List Accepted) (entry : Accepted) → IsWithin made own → IsWithin (made ++ entry ∷ []) (own ++ entry ∷ [])
within_push made own entry w =
    let made_is = length-append made (entry ∷ []) in
    let own_is = length-append own (entry ∷ []) in
    record { fits = omega arith; whole = λ le. ap (λ (l : List Accepted). l ++ entry ∷ []) (w.whole (omega arith)) }

-- ---- entries of longer lists

entries_append : (events more : List Event) → entries_of (events ++ more) ≡ entries_of events ++ entries_of more
entries_append [] more = refl
entries_append (Added entry ∷ events) more = ap (λ (l : List Accepted). entry ∷ l) (entries_append events more)
entries_append (Ended doubt ∷ events) more = entries_append events more

by_append : (deck : ℕ) (entries more : List Accepted) → entries_by deck (entries ++ more) ≡ entries_by deck entries ++ entries_by deck more
by_append deck [] more = refl
by_append deck (entry ∷ entries) more = so (by_append deck entries more) (nat_eq entry.deck deck)
  where
    so : entries_by deck (entries ++ more) ≡ entries_by deck entries ++ entries_by deck more → (is : Bool)
        → (if is then entry ∷ entries_by deck (entries ++ more) else entries_by deck (entries ++ more)) ≡ (if is then entry ∷ entries_by deck entries else entries_by deck entries) ++ entries_by deck more
    so rest true = ap (λ (l : List Accepted). entry ∷ l) rest
    so rest false = rest

by_one : (deck : ℕ) (entry : Accepted) → entry.deck ≡ deck → entries_by deck (entry ∷ []) ≡ entry ∷ []
by_one deck entry is = so (nat_eq entry.deck deck) refl
  where
    so : (b : Bool) → nat_eq entry.deck deck ≡ b → (if b then entry ∷ [] else []) ≡ entry ∷ []
    so true e = refl
    so false e = absurd (grind (arith, nat_tests))

last_push : (entries : List Accepted) (entry : Accepted) → last_of (entries ++ entry ∷ []) ≡ entry ∷ []
last_push [] entry = refl
last_push (first ∷ []) entry = refl
last_push (first ∷ other ∷ entries) entry = last_push (other ∷ entries) entry

own_append : (deck : ℕ) (events more : List Event) → entries_by deck (entries_of (events ++ more)) ≡ entries_by deck (entries_of events) ++ entries_by deck (entries_of more)
own_append deck events more = ap (entries_by deck) (entries_append events more) ∙ by_append deck (entries_of events) (entries_of more)

-- What was made stands among the entries of each list behind.
pub within_behind : (deck : ℕ) (made : List Accepted) (events more : List Event) → IsWithin made (entries_by deck (entries_of events)) → IsWithin made (entries_by deck (entries_of (events ++ more)))
within_behind deck made events more w =
    subst (λ (l : List Accepted). IsWithin made l) (sym (own_append deck events more))
    (within_more made (entries_by deck (entries_of events)) (entries_by deck (entries_of more)) w)

pub within_later : (deck : ℕ) (made : List Accepted) (events later : List Event) → IsWithin made (entries_by deck (entries_of events)) → Extends events later → IsWithin made (entries_by deck (entries_of later))
within_later deck made events later w more =
    subst (λ (l : List Event). IsWithin made (entries_by deck (entries_of l))) more.prefix.1 (within_behind deck made events more.prefix.0 w)

-- An entry of this deck that is added is one more of both.
pub within_added : (deck : ℕ) (made : List Accepted) (events : List Event) (entry : Accepted) → entry.deck ≡ deck → IsWithin made (entries_by deck (entries_of events))
    → IsWithin (made ++ entry ∷ []) (entries_by deck (entries_of (events ++ Added entry ∷ [])))
within_added deck made events entry is w =
    let own = entries_by deck (entries_of events) in
    subst (λ (l : List Accepted). IsWithin (made ++ entry ∷ []) l) (sym (own_append deck events (Added entry ∷ []) ∙ ap (λ (l : List Accepted). own ++ l) (by_one deck entry is)))
    (within_push made own entry w)

pub last_added : (events : List Event) (entry : Accepted) → last_of (entries_of (events ++ Added entry ∷ [])) ≡ entry ∷ []
last_added events entry = ap last_of (entries_append events (Added entry ∷ [])) ∙ last_push (entries_of events) entry

-- ---- how many there are

-- how many entries are of this deck or of a later one
abbrev pub count_from : (deck : ℕ) → List Accepted → ℕ
count_from deck [] = 0
count_from deck (entry ∷ entries) = (if nat_lt entry.deck deck then 0 else 1) + count_from deck entries

pub count_all : (entries : List Accepted) → count_from 0 entries ≡ length entries
count_all [] = refl
count_all (entry ∷ entries) = so (count_all entries) (nat_lt entry.deck 0) refl
  where
    so : count_from 0 entries ≡ length entries → (b : Bool) → nat_lt entry.deck 0 ≡ b → (if b then 0 else 1) + count_from 0 entries ≡ suc (length entries)
    so rest true e = absurd (grind (arith, nat_tests))
    so rest false e = omega arith

pub count_split : (deck : ℕ) (entries : List Accepted) → count_from deck entries ≡ length (entries_by deck entries) + count_from (suc deck) entries
count_split deck [] = refl
count_split deck (entry ∷ entries) = so (count_split deck entries) (nat_lt entry.deck deck) (nat_eq entry.deck deck) (nat_lt entry.deck (suc deck)) refl refl refl
  where
    so : count_from deck entries ≡ length (entries_by deck entries) + count_from (suc deck) entries
        → (below is under : Bool) → nat_lt entry.deck deck ≡ below → nat_eq entry.deck deck ≡ is → nat_lt entry.deck (suc deck) ≡ under
        → (if below then 0 else 1) + count_from deck entries ≡ length (if is then entry ∷ entries_by deck entries else entries_by deck entries) + ((if under then 0 else 1) + count_from (suc deck) entries)
    so rest true true under a b c = absurd (grind (arith, nat_tests))
    so rest true false true a b c = omega arith
    so rest true false false a b c = absurd (grind (arith, nat_tests))
    so rest false true true a b c = omega arith
    so rest false true false a b c = absurd (grind (arith, nat_tests))
    so rest false false true a b c = absurd (grind (arith, nat_tests))
    so rest false false false a b c = omega arith

-- Where none is of this deck or of a later one, each is of an earlier one.
pub all_below : (deck : ℕ) (entries : List Accepted) → count_from deck entries ≡ 0 → All (λ (entry : Accepted). entry.deck < deck) entries
all_below deck [] none = All-nil (λ (entry : Accepted). entry.deck < deck)
all_below deck (entry ∷ entries) none = so (all_below deck entries) (nat_lt entry.deck deck) refl none
  where
    so : (count_from deck entries ≡ 0 → All (λ (other : Accepted). other.deck < deck) entries) → (b : Bool) → nat_lt entry.deck deck ≡ b
        → (if b then 0 else 1) + count_from deck entries ≡ 0 → All (λ (other : Accepted). other.deck < deck) (entry ∷ entries)
    so rest true is none =
        All-cons (λ (other : Accepted). other.deck < deck) entry entries (grind (arith, nat_tests)) (rest (omega arith))
    so rest false is none = absurd (omega arith)
