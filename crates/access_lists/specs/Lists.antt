-- Access lists, and what PERMIT does to them. A list has at most one entry for `*` and for each ID, a conditional list
-- one under each condition.
use Rattle.std.specs.Prelude.{ℕ, Bool, ◌&&◌, not, nat_le, if◌then◌else◌, List, [], ◌∷◌, length}
use Rattle.std.specs.List.{filter, list_any}
use Rattle.access_levels.specs.declared.entries.Who.{Who}
use Rattle.access_levels.specs.declared.entries.Entry.{Entry}
use Rattle.access_levels.specs.declared.entries.CondEntry.{CondEntry}
use Rattle.access_levels.specs.declared.entries.Condition.{Condition}
use Rattle.access_levels.specs.Entries.{is_same_who, is_same_port}

-- The entry is for `*` or for the ID that is meant, and of a conditional list also under the condition.
abbrev pub is_for : Who → Entry → Bool
is_for who entry = is_same_who entry.who who

abbrev pub is_under : Condition → CondEntry → Bool
is_under condition entry = is_same_port entry.condition condition

abbrev pub is_for_under : Condition → Who → CondEntry → Bool
is_for_under condition who entry = is_under condition entry && is_same_who entry.who who

-- An entry in place of the one that it replaces, or else last.
abbrev pub entry_put : {X : Type 0} → (X → Bool) → X → List X → List X
entry_put replaces entry [] = entry ∷ []
entry_put replaces entry (other ∷ list) = if replaces other then entry ∷ list else other ∷ entry_put replaces entry list

-- PERMIT with an access: the list with the entry.
abbrev pub permitted : Entry → List Entry → List Entry
permitted entry list = entry_put (is_for entry.who) entry list

abbrev pub permitted_when : CondEntry → List CondEntry → List CondEntry
permitted_when entry list = entry_put (is_for_under entry.condition entry.who) entry list

-- PERMIT with DELETE: the list without the entry.
abbrev pub withdrawn : Who → List Entry → List Entry
withdrawn who list = filter (λ entry. not (is_for who entry)) list

abbrev pub withdrawn_when : Condition → Who → List CondEntry → List CondEntry
withdrawn_when condition who list = filter (λ entry. not (is_for_under condition who entry)) list

-- No entry is for the ID that is meant, so that one would be added.
abbrev pub is_absent : {X : Type 0} → (X → Bool) → List X → Bool
is_absent replaces list = not (list_any replaces list)

-- A list has at most 1,000 entries (this product's own limit): it is full for an entry that it would have to add to
-- them.
abbrev pub most_entries : ℕ
most_entries = 1000

abbrev pub has_no_room : {X : Type 0} → (X → Bool) → List X → Bool
has_no_room replaces list = is_absent replaces list && nat_le most_entries (length list)

abbrev pub is_full : Entry → List Entry → Bool
is_full entry list = has_no_room (is_for entry.who) list

abbrev pub is_full_when : CondEntry → List CondEntry → Bool
is_full_when entry list = has_no_room (is_for_under entry.condition entry.who) list
