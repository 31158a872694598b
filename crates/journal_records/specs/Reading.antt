-- What bytes are read as: the record that they spell, or their first fault.
use Rattle.std.specs.Prelude.{◌≡◌, ℕ, ◌==◌, Bool, true, false, not, ◌&&◌, ◌||◌, nat_lt, List, length, take, drop, Option, Some, None, Result, Ok, Err, is_ok, bytes_eq, refl, if◌then◌else◌}
use Rattle.std.specs.Option.{option_and_then}
use Rattle.std.specs.Result.{result_err}
use Rattle.std.specs.List.{before_first}
use Rattle.byteorder.specs.Endian.{big_number}
use Rattle.access_levels.specs.Spelling.{id_of, group_of}
use Rattle.command_fields.specs.declared.issuer.Issuer.{Issuer}
use Rattle.command_fields.specs.declared.fields.CommandFields.{CommandFields}
use Rattle.command_parser.specs.Canonical.{canonical}
use Rattle.command_parser.specs.CommandOf.{command_in}
use Rattle.journal_records.specs.declared.record.CommandRecord.{CommandRecord}
use Rattle.journal_records.specs.declared.record.RecordFault.{RecordFault}
use Rattle.journal_records.specs.declared.record.RecordFault.TheVariants as faults
use Rattle.journal_records.specs.Spelling.{filled}

-- ---- the fields

-- What fills a field.
abbrev pub is_blank : ℕ → Bool
is_blank byte = byte == 32

-- This identifier, where the field is the one that it fills.
abbrev pub unless_unfilled : (id field : List ℕ) → Option (List ℕ)
unless_unfilled id field = if is_ok (id_of id) && bytes_eq (filled id) field then Some id else None

-- The identifier that fills a field: what stands before the first blank.
abbrev pub id_in : (field : List ℕ) → Option (List ℕ)
id_in field = unless_unfilled (before_first is_blank field) field

-- This command, where the text is its canonical one.
abbrev pub unless_other : (text : List ℕ) → CommandFields → Option CommandFields
unless_other text command = if bytes_eq (canonical command) text then Some command else None

-- The command of which a text is the canonical one: the one that it spells.
abbrev pub canonical_command : (issuer text : List ℕ) → Option CommandFields
canonical_command issuer text = option_and_then (unless_other text) (command_in issuer text)

-- ---- the record, or the first fault

-- A further test, where those before it are passed.
infixl 10 ◌>>=◌
abbrev pub ◌>>=◌ : {A B : Type 0} → Result A RecordFault → (A → Result B RecordFault) → Result B RecordFault
(Ok x) >>= f = f x
(Err fault) >>= f = Err fault

-- What there is, or this fault.
abbrev pub or_fault : {A : Type 0} → Option A → RecordFault → Result A RecordFault
or_fault (Some x) fault = Ok x
or_fault None fault = Err fault

-- The issuer, where his group is spelled as one.
abbrev pub issuer_with : (id group : List ℕ) → (spelled : Bool) → is_ok (group_of group) ≡ spelled → Result Issuer RecordFault
issuer_with id group true is = Ok (record { id = id; group = group; group_spelled = is })
issuer_with id group false is = Err faults.BadGroup

-- 3 BadIssuer: the first field is no identifier's. 4 BadGroup: the second is none, or not a group's name.
abbrev pub issuer_in : (id group : List ℕ) → Result Issuer RecordFault
issuer_in id group = do
  id ← or_fault (id_in id) faults.BadIssuer
  group ← or_fault (id_in group) faults.BadGroup
  issuer_with id group (is_ok (group_of group)) refl

-- 5 BadText: the text is the canonical text of no command.
abbrev pub item_from : (id group text : List ℕ) → Result CommandRecord RecordFault
item_from id group text = do
  issuer ← issuer_in id group
  command ← or_fault (canonical_command issuer.id text) faults.BadText
  Ok (record { issuer = issuer; command = command })

-- The two fields of eight bytes, and the text behind them.
abbrev pub item_in : (content : List ℕ) → Result CommandRecord RecordFault
item_in content = item_from (take 8 content) (take 8 (drop 8 content)) (drop 8 (drop 8 content))

-- 1 Short: fewer than four bytes. 2 BadLength: these aren't the length of the rest, or it is below 17.
unfoldable pub record_of : (bytes : List ℕ) → Result CommandRecord RecordFault
record_of bytes =
    if nat_lt (length bytes) 4 then Err faults.Short
    else if not (big_number 4 bytes == length (drop 4 bytes)) || nat_lt (length (drop 4 bytes)) 17 then Err faults.BadLength
    else item_in (drop 4 bytes)

-- The first fault of bytes that are no record.
abbrev pub record_fault : (bytes : List ℕ) → Option RecordFault
record_fault bytes = result_err (record_of bytes)

-- ---- what a function answered

-- It is what was to be read, unless memory ran out.
abbrev pub Fails : {A : Type 0} → RecordFault → Result A RecordFault → Type 0
Fails faults.NoMemory read = Unit {0}
Fails fault read = read ≡ Err fault

abbrev pub Reads : {A : Type 0} → Result A RecordFault → Result A RecordFault → Type 0
Reads (Ok x) read = read ≡ Ok x
Reads (Err fault) read = Fails fault read

-- It is the first fault. Want of memory may be told in place of it, and of a record: no clause says when there is enough,
-- and tests alone show that it isn't told then.
abbrev pub IsFault : List ℕ → RecordFault → Type 0
IsFault bytes faults.NoMemory = Unit {0}
IsFault bytes fault = record_fault bytes ≡ Some fault

-- It is the record, unless memory ran out.
abbrev pub IsUnlessMemory : Result CommandRecord RecordFault → CommandRecord → Type 0
IsUnlessMemory (Ok found) item = found ≡ item
IsUnlessMemory (Err faults.NoMemory) item = Unit {0}
IsUnlessMemory (Err fault) item = ⊥
