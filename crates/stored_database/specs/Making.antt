-- What a database is made of: what bytes are the image of, or the first fault; or rows that are at hand.
use Rattle.std.specs.Prelude.{◌≡◌, ℕ, Result, Ok, Err}
use Rattle.racf_profiles.specs.declared.rows.Rows.{Rows}
use Rattle.racf_database.specs.Contents.{Contents}
use Rattle.database_image.specs.Image.{FirstUnlawful}
use Rattle.database_image.specs.declared.faults.ImageFault.{ImageFault}
use Rattle.database_image.specs.declared.faults.ImageFault.TheVariants as images
use Rattle.stored_database.specs.declared.faults.RowsFault.{RowsFault}
use Rattle.stored_database.specs.declared.faults.RowsFault.TheVariants as faults

-- A fault is the place that reading finds first, unless memory ran out.
abbrev pub Tells : RowsFault → Result Rows ℕ → Type 0
Tells faults.NoMemory read = Unit {0}
Tells (faults.BadRow place) read = read ≡ Err place

-- Rows are those that are read, and a fault is told so.
abbrev pub Reads : Result Rows RowsFault → Result Rows ℕ → Type 0
Reads (Ok rows) read = read ≡ Ok rows
Reads (Err fault) read = Tells fault read

-- A database has the rows that are read, and a fault is told so.
abbrev pub Makes : Result Contents RowsFault → Result Rows ℕ → Type 0
Makes (Ok database) read = read ≡ Ok database.rows
Makes (Err fault) read = Tells fault read

-- A fault is the first place at which rows aren't lawful, unless memory ran out: no clause says when there is enough, and
-- tests alone show that it isn't told then.
abbrev pub IsFirst : Rows → RowsFault → Type 0
IsFirst rows faults.NoMemory = Unit {0}
IsFirst rows (faults.BadRow place) = FirstUnlawful rows place

-- The fault of an image, told of its rows.
abbrev pub fault_of : ImageFault → RowsFault
fault_of (images.BadField place) = faults.BadRow place
fault_of images.NoMemory = faults.NoMemory
