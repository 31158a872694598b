-- The image of rows, and what bytes are the image of.
use Rattle.std.specs.Prelude.{◌≡◌, ◌⊎◌, ℕ, ◌-◌, List, [], ◌∷◌, ◌++◌, length, if◌then◌else◌, Option, Some, None, Result, Ok, Err}
use Rattle.std.specs.Result.{result_err}
use Rattle.racf_profiles.specs.declared.class_rows.ClassRow.{ClassRow}
use Rattle.racf_profiles.specs.declared.rows.Rows.{Rows}
use Rattle.racf_profiles.specs.DynamicClasses.{cdt}
use Rattle.racf_profiles.specs.Edits.{added_class}
use Rattle.database_image.specs.declared.faults.ImageFault.{ImageFault}
use Rattle.database_image.specs.declared.faults.ImageFault.TheVariants as faults
use Rattle.database_image.specs.Reading.{◌>>=◌}
use Rattle.database_image.specs.Description.{is_old_count, image, read_image}
use Rattle.database_image.specs.Facts.{facts, first_broken}

-- The image of rows. Listed copies aren't in it.
unfoldable pub image_of : Rows → List ℕ
image_of rows = image.bytes rows

-- Nothing stands behind the last field.
abbrev pub unless_more : Rows → (behind : List ℕ) → Result Rows ℕ
unless_more rows [] = Ok rows
unless_more rows (byte ∷ behind) = Err (length (byte ∷ behind))

-- Rows of an image whose classes end with GLOBAL have the class CDT behind it as a new database has it: not active, and
-- without profiles.
abbrev pub with_cdt : List ClassRow → List ClassRow
with_cdt classes = if is_old_count (length classes) then classes ++ added_class cdt ∷ [] else classes

abbrev pub completed : Rows → Rows
completed rows = record rows { classes = with_cdt rows.classes }

-- These bytes are the image of the rows, or of those that become them when the class CDT is added.
pub record AreImageOf (bytes : List ℕ) (rows : Rows) : Type 0 where
  pub written : Rows
  pub whole : completed written ≡ rows
  pub is : bytes ≡ image_of written

-- The first pass tests each field by itself. A fault's place is told from the image's beginning.
abbrev pub from_beginning : (bytes : List ℕ) → Result Rows ℕ → Result Rows ℕ
from_beginning bytes (Ok rows) = Ok rows
from_beginning bytes (Err left) = Err (length bytes - left)

unfoldable pub first_pass : (bytes : List ℕ) → Result Rows ℕ
first_pass bytes = from_beginning bytes (read_image.reading bytes >>= λ read. unless_more (completed read.0) read.1)

-- The second pass tests the facts between fields.
abbrev pub unless_broken : Rows → Option ℕ → Result Rows ℕ
unless_broken rows None = Ok rows
unless_broken rows (Some place) = Err place

unfoldable pub second_pass : Rows → Result Rows ℕ
second_pass rows = unless_broken rows (first_broken (facts rows))

-- The rows that bytes are the image of, or the place of the first field without a lawful value.
unfoldable pub rows_of : (bytes : List ℕ) → Result Rows ℕ
rows_of bytes = first_pass bytes >>= second_pass

abbrev pub first_fault : (bytes : List ℕ) → Option ℕ
first_fault bytes = result_err (rows_of bytes)

-- What an image asks of rows: each field is lawful where it stands, and each fact between fields holds.
pub record IsStored (rows : Rows) : Type 0 where
  pub fields : image.Fits rows
  pub between : first_broken (facts rows) ≡ None

-- The first field of rows that an image can't hold, by its place in their image: the first that isn't lawful where it
-- stands, or where all are, the first whose fact about others doesn't hold.
abbrev pub FirstUnlawful : Rows → (place : ℕ) → Type 0
FirstUnlawful rows place = image.FaultAt rows place ⊎ (image.Fits rows × (first_broken (facts rows) ≡ Some place))

-- What bytes are read as says whether an image may hold the rows: they are read again, or the first fault is theirs.
abbrev pub Judges : Rows → Result Rows ℕ → Type 0
Judges rows (Ok copy) = (copy ≡ rows) × IsStored rows
Judges rows (Err place) = FirstUnlawful rows place

-- ---- what a function answered

-- It is the first place at which the rows aren't lawful, unless memory ran out.
abbrev pub IsFirst : Rows → ImageFault → Type 0
IsFirst rows faults.NoMemory = Unit {0}
IsFirst rows (faults.BadField place) = FirstUnlawful rows place

-- It is the place of the first fault, unless memory ran out.
abbrev pub IsFirstFault : (bytes : List ℕ) → ImageFault → Type 0
IsFirstFault bytes faults.NoMemory = Unit {0}
IsFirstFault bytes (faults.BadField place) = first_fault bytes ≡ Some place

-- It is what there is to be read, unless memory ran out.
abbrev pub Tells : ImageFault → Result Rows ℕ → Type 0
Tells faults.NoMemory read = Unit {0}
Tells (faults.BadField place) read = read ≡ Err place

abbrev pub Reads : Result Rows ImageFault → Result Rows ℕ → Type 0
Reads (Ok rows) read = read ≡ Ok rows
Reads (Err fault) read = Tells fault read
