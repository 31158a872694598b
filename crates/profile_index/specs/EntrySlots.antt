-- How the crate keeps its entries: in slots of no order, and the slots in the order of the entries.
use Rattle.std.specs.Prelude.{◌≡◌, ◌≢◌, ℕ, ◌<◌, ◌==◌, if◌then◌else◌, List, [], ◌∷◌, ◌++◌, length, map, Some, option_to_list}
use Rattle.std.specs.List.{AllByRecursion, slice_get}
use Rattle.std.specs.Option.{option_map}
use Rattle.profile_index.specs.declared.entry.Entry.{Entry}
use Rattle.profile_index.specs.declared.entry_slots.Slot.{Slot}
use Rattle.profile_index.specs.Buckets.{key_of}
use Rattle.pages.specs.KeyBegin.{begin_of}

-- what stands in these slots, in their order
abbrev pub in_slots : {A : Type 0} → List A → List ℕ → List A
in_slots slots [] = []
in_slots slots (slot ∷ order) = option_to_list (slice_get slots slot) ++ in_slots slots order

-- each slot comes once
abbrev pub AreApart : List ℕ → Type 0
AreApart [] = Unit {0}
AreApart (slot ∷ order) = AllByRecursion (λ other. slot ≢ other) order × AreApart order

-- a slot under its new number, where the last was moved
abbrev pub renamed : ℕ → ℕ → ℕ → ℕ
renamed from to slot = if slot == from then to else slot

-- the slots are there, and each is used once
pub record IsKept {A : Type 0} (slots : List A) (order : List ℕ) : Type 0 where
  pub there : AllByRecursion (λ slot. slot < length slots) order
  pub apart : AreApart order
  pub all : length order ≡ length slots

-- the numbers of slots
abbrev pub numbers : List Slot → List ℕ
numbers order = map (λ slot. slot.number) order

-- the same for a slot with the begin of its entry's key
abbrev pub renamed_slot : ℕ → ℕ → Slot → Slot
renamed_slot from to slot = record { begin = slot.begin; number = renamed from to slot.number }

-- each slot is there, with the begin of its entry's key
abbrev pub HaveBegins : {T : Type 0} → List (Entry T) → List Slot → Type 0
HaveBegins slots order = AllByRecursion (λ slot. option_map (λ e. begin_of (key_of e)) (slice_get slots slot.number) ≡ Some slot.begin) order
