-- How a machine works through a source of bytes, and what stands wherever it stops. No command is named here: streams,
-- decks and request files have these definitions in common, each with a machine of its own.
use Rattle.std.specs.Prelude.{◌≡◌, ◌⊎◌, ℕ, ◌+◌, ◌^◌, ◌<◌, ◌≤◌, Bool, true, false, Option, IfSome, List, [], ◌∷◌, ◌++◌, length, take, if◌then◌else◌}
use Rattle.std.specs.Io.KnownBytes.{prepend_known, append_known, IsAtEnd}
use Rattle.statements.specs.declared.status.Status.{Status}
use Rattle.statements.specs.declared.status.Status.TheVariants.{Done, Refusals, ReadFault, WriteFault, DiskFault, NoMemory, InputTooLong}

-- What the bytes of an input are.
pub record Input (Item : Type 0) : Type 0 where
  -- the items of an input that ends with these bytes
  pub items : List ℕ → List Item
  -- the items that end in these bytes, however the input goes on
  pub whole_items : List ℕ → List Item

-- A machine remembers an S, and works through items.
pub record Machine (S Item : Type 0) : Type 0 where
  pub input : Input Item
  -- what stands at first
  pub start : S
  -- what stands after an item, and what is printed for it
  pub step : Item → S → S
  pub text : Item → S → List ℕ
  -- whether a line was refused so far, and whether a disk failed
  pub has_refused : S → Bool
  pub has_failed : S → Bool
  -- how many commands were accepted so far
  pub accepted : S → ℕ

-- what stands after these items
abbrev pub after : {S Item : Type 0} → Machine S Item → List Item → S → S
after m [] s = s
after m (i ∷ items) s = after m items (m.step i s)

-- what is printed for these items, in their order
abbrev pub output : {S Item : Type 0} → Machine S Item → List Item → S → List ℕ
output m [] s = []
output m (i ∷ items) s = m.text i s ++ output m items (m.step i s)

-- The longest input that is read, 2^28 bytes.
abbrev pub longest_input : ℕ
longest_input = 2 ^ 28

-- The source's rest, where it tells it, is this one.
abbrev pub IsRest : Option (List ℕ) → List ℕ → Type 0
IsRest more rest = IfSome more (λ told. told ≡ rest)

-- These are the first items of an input that begins with the bytes read and goes on with the source's rest.
pub record BeginsWith {Item : Type 0} (input : Input Item) (read : List ℕ) (more : Option (List ℕ)) (items : List Item) : Type 0 where
  pub rest : List ℕ
  pub is_rest : IsRest more rest
  pub others : List Item
  pub in_order : input.items (read ++ rest) ≡ items ++ others

-- The status of an input that was read to its end: a disk failed; or some line was refused; or none was.
abbrev pub whole_status : (failed refused : Bool) → Status
whole_status failed refused = if failed then DiskFault else if refused then Refusals else Done

abbrev pub status_of : {S Item : Type 0} → Machine S Item → S → Status
status_of m s = whole_status (m.has_failed s) (m.has_refused s)

-- The input was read to its end, no more than the longest, and all of its output was written.
pub record WroteAll {S Item : Type 0} (m : Machine S Item) (status : Status) (read : List ℕ) (more : Option (List ℕ)) (worked : List Item) (written : List ℕ) : Type 0 where
  pub ended : IsAtEnd more
  pub fits : length read ≤ longest_input
  pub all : worked ≡ m.input.items read
  pub whole : written ≡ output m worked m.start
  pub is_status : status ≡ status_of m (after m worked m.start)

-- A read failed: the output is that of the items which had ended, and nothing more was taken from the source.
pub record WroteToReadFault {S Item : Type 0} (m : Machine S Item) (read_failed : Type 0) (read : List ℕ) (more left : Option (List ℕ)) (worked : List Item) (written : List ℕ) : Type 0 where
  pub cause : read_failed
  pub kept : more ≡ left
  pub all : worked ≡ m.input.whole_items read
  pub whole : written ≡ output m worked m.start

-- A line doesn't end within the longest input: the output is that of the items which end there.
pub record WroteToLongest {S Item : Type 0} (m : Machine S Item) (read : List ℕ) (worked : List Item) (written : List ℕ) : Type 0 where
  pub too_long : longest_input < length read
  pub all : worked ≡ m.input.whole_items (take longest_input read)
  pub whole : written ≡ output m worked m.start

-- A write failed: the output is that of the items before one that was worked, and a front of that one's text. From that
-- one on at most one command was accepted, and only by the last item that was worked: so nothing was worked behind an
-- accepted command whose own reply was cut.
pub record WroteToWriteFault {S Item : Type 0} (m : Machine S Item) (write_failed : Type 0) (worked : List Item) (written : List ℕ) : Type 0 where
  pub cause : write_failed
  pub done : List Item
  pub last : Item
  pub others : List Item
  pub count : ℕ
  pub parts : worked ≡ done ++ last ∷ others
  pub front : written ≡ output m done m.start ++ take count (m.text last (after m done m.start))
  pub few : m.accepted (after m worked m.start) ≤ m.accepted (after m done m.start) + 1
  pub alone : (front : List Item) (final : Item) → last ∷ others ≡ front ++ final ∷ [] → m.accepted (after m (done ++ front) m.start) ≤ m.accepted (after m done m.start)

-- A disk failed a command, and the input was read to its end; or a read failed then; or a write, of that command's line or
-- of one before or behind it.
abbrev pub WroteFailing : {S Item : Type 0} → Machine S Item → (read_failed write_failed : Type 0) → List ℕ → Option (List ℕ) → Option (List ℕ) → List Item → List ℕ → Type 0
WroteFailing m read_failed write_failed read more left worked written =
    WroteAll m DiskFault read more worked written
    ⊎ (WroteToReadFault m read_failed read more left worked written ⊎ WroteToWriteFault m write_failed worked written)

-- Whether a disk had failed a command, behind these items.
abbrev pub HasFailed : {S Item : Type 0} → Machine S Item → Bool → List Item → Type 0
HasFailed m failed worked = m.has_failed (after m worked m.start) ≡ failed

-- What was written when a run stopped with a status, in which these items were worked: `read` was taken of the input,
-- `more` was to come, and the source has `left`. Where memory ran out, that was before the next item. A read or a write
-- that failed is told only where no disk had failed a command, and else the disk. `read_failed` and `write_failed` say
-- that the source, or the sink, failed in this time.
abbrev pub Wrote : {S Item : Type 0} → Machine S Item → (read_failed write_failed : Type 0) → Status → List ℕ → Option (List ℕ) → Option (List ℕ) → List Item → List ℕ → Type 0
Wrote m read_failed write_failed Done read more left worked written = WroteAll m Done read more worked written
Wrote m read_failed write_failed Refusals read more left worked written = WroteAll m Refusals read more worked written
Wrote m read_failed write_failed ReadFault read more left worked written = HasFailed m false worked × WroteToReadFault m read_failed read more left worked written
Wrote m read_failed write_failed InputTooLong read more left worked written = WroteToLongest m read worked written
Wrote m read_failed write_failed NoMemory read more left worked written = written ≡ output m worked m.start
Wrote m read_failed write_failed WriteFault read more left worked written = HasFailed m false worked × WroteToWriteFault m write_failed worked written
Wrote m read_failed write_failed DiskFault read more left worked written = HasFailed m true worked × WroteFailing m read_failed write_failed read more left worked written
Wrote m read_failed write_failed other read more left worked written = ⊥

-- A run from a source to a sink. The source had `source` to give and has `left` now; the sink held `before` and holds
-- `now`. What stands behind the items that were worked has P. It stops before the end of its input, or of its output,
-- only where the source or the sink failed, which `read_failed` and `write_failed` say, or with a greater status.
pub record Ran {S Item : Type 0} (m : Machine S Item) (P : S → Type 0) (read_failed write_failed : Type 0) (status : Status) (source left before now : Option (List ℕ)) : Type 0 where
  pub read : List ℕ
  pub more : Option (List ℕ)
  pub worked : List Item
  pub written : List ℕ
  pub given : source ≡ prepend_known read more
  pub gained : now ≡ append_known before written
  pub begins : BeginsWith m.input read more worked
  pub stands : P (after m worked m.start)
  pub wrote : Wrote m read_failed write_failed status read more left worked written
