-- A new checkpoint, and that of a new database.
use Rattle.std.proofs.Common.{ℕ, zero, suc, ◌+◌, ◌<◌, ◌≤◌, ◌^◌, ◌≡◌, ◌∙◌, Bool, true, ◌&&◌, ltb, List, [], ◌∷◌, ◌++◌, length, Option, Ok, refl, sym, ap, subst, arith, append_assoc}
use Rattle.std.proofs.lemmas.List.{get_or_past}
use Rattle.std.proofs.lemmas.Bool.{ltb-true, and_parts}
use Rattle.racf_outside.specs.Disk.{History, Now}
use Rattle.racf_outside.specs.Moments.{Moment, durable}
use Rattle.racf_profiles.specs.declared.rows.Rows.{Rows}
use Rattle.racf_profiles.specs.NewDatabase.{new_database}
use Rattle.database_image.specs.Reading.{AreBytes}
use Rattle.database_image.specs.Description.{image_by, options, group, user, connection, class, profile}
use Rattle.database_image.specs.Forms.{spelled_at}
use Rattle.database_image.specs.Image.{AreImageOf, image_of, rows_of, first_pass, second_pass, IsStored as AreStored}
use Rattle.racf_journal.specs.Kept.{IsAtRest, IsResting}
use Rattle.racf_journal.proofs.Behind.{empty_rests}
use Rattle.checkpoint_disks.specs.Files.{CheckpointRead}
use Rattle.checkpoint_disks.specs.Compacting.{with_head, fields, new_body, new_file, new_checkpoint, with_image, with_records, IsCheckpoint}
use Rattle.checkpoint_disks.proofs.Held.{image_long}
use Rattle.racf_checkpoint.specs.Stored.{IsStored}

-- ---- a new file

new_file_is : (epoch number : ℕ) (rows : Rows) → new_file epoch number rows ≡ with_image epoch number (image_of rows) ++ 0 ∷ []
unfolding new_body
new_file_is epoch number rows = ap (λ (l : List ℕ). with_head 1 l) (sym (append_assoc (fields epoch number (length (image_of rows))) (image_of rows) (0 ∷ [])))

new_is : (epoch number : ℕ) (rows : Rows) → new_checkpoint epoch number rows ≡ with_records epoch number rows (33 + length (image_of rows)) []
new_is epoch number rows =
    let same : 33 + length (image_of rows) ≡ (33 + length (image_of rows)) + 0 = omega arith in
    ap (λ n. record { epoch = epoch; number = number; rows = rows; start = 33 + length (image_of rows); records = []; gate = n }) same

-- what is written is the image of the rows, and is read as them again
pub record IsReadAgain (rows : Rows) : Type 0 where
  pub stored : AreStored rows
  pub image_is : AreImageOf (image_of rows) rows
  pub read_as : rows_of (image_of rows) ≡ Ok rows

abbrev new_lawful : (epoch number : ℕ) (rows : Rows) → 0 < epoch → epoch < 2 ^ 64 → number ≤ 2 ^ 62 → IsReadAgain rows → 34 + length (image_of rows) ≤ 2 ^ 28 → IsCheckpoint (new_checkpoint epoch number rows)
new_lawful epoch number rows some fits most again short = record {
  some = some;
  epoch = fits;
  number = most;
  stored = again.stored;
  image = image_of rows;
  image_is = again.image_is;
  read_as = again.read_as;
  size = omega (arith, short);
  start = refl;
  fits = omega (arith, short);
  is = new_is epoch number rows;
}

pub new_rests : (epoch number start : ℕ) (rows : Rows) (m : Moment) → start ≡ 33 + length (image_of rows) → m ≡ durable (new_file epoch number rows) → IsAtRest (with_image epoch number (image_of rows)) start start [] m
new_rests epoch number start rows m at is =
    empty_rests (with_image epoch number (image_of rows)) start m (image_long epoch number (image_of rows) ∙ sym at) (omega (arith, at)) (is ∙ ap durable (new_file_is epoch number rows))

pub new_resting : (epoch number start : ℕ) (rows : Rows) (told : Option History) → start ≡ 33 + length (image_of rows) → Now told (λ m. m ≡ durable (new_file epoch number rows)) → Now told (IsResting start start)
new_resting epoch number start rows told at done h e = (with_image epoch number (image_of rows), [], new_rests epoch number start rows h.now at (done h e))

pub new_stored : (epoch number start : ℕ) (rows : Rows) (told : Option History) → 0 < epoch → epoch < 2 ^ 64 → number ≤ 2 ^ 62 → IsReadAgain rows → 34 + length (image_of rows) ≤ 2 ^ 28 → start ≡ 33 + length (image_of rows) → Now told (λ m. m ≡ durable (new_file epoch number rows))
    → Now told (IsStored epoch start start (new_checkpoint epoch number rows))
new_stored epoch number start rows told some fits most again short at done h e = record { is_of = refl; lawful = new_lawful epoch number rows some fits most again short; rest = new_rests epoch number start rows h.now at (done h e) }

-- what is stored rests, behind the image that it has
pub stored_resting : (epoch start : ℕ) (kept : CheckpointRead) (told : Option History) → Now told (IsStored epoch start start kept) → Now told (IsResting start start)
stored_resting epoch start kept told stored h e = let s = stored h e in (with_image kept.epoch kept.number s.lawful.image, kept.records, s.rest)

-- behind a compaction
pub made_lawful : (epoch next number : ℕ) (rows : Rows) → next ≡ epoch + 1 → next < 2 ^ 64 → 34 + length (image_of rows) ≤ 2 ^ 28 → number ≤ 2 ^ 62 → IsReadAgain rows → IsCheckpoint (new_checkpoint (epoch + 1) number rows)
made_lawful epoch next number rows above fits short most again =
    subst (λ n. IsCheckpoint (new_checkpoint n number rows)) above (new_lawful next number rows (omega (arith, above)) fits most again short)

pub made_stored : (epoch next start number : ℕ) (rows : Rows) (made : Option History) → next ≡ epoch + 1 → next < 2 ^ 64 → 34 + length (image_of rows) ≤ 2 ^ 28 → number ≤ 2 ^ 62 → IsReadAgain rows → start ≡ 33 + length (image_of rows)
    → Now made (λ m. m ≡ durable (new_file next number rows)) → Now made (IsStored next start start (new_checkpoint (epoch + 1) number rows))
made_stored epoch next start number rows made above fits short most again at done =
    subst (λ n. Now made (IsStored next start start (new_checkpoint n number rows))) above
    (new_stored next number start rows made (omega (arith, above)) fits most again short at done)

-- ---- a new database

abbrev are_bytes : List ℕ → Bool
are_bytes [] = true
are_bytes (byte ∷ bytes) = ltb byte 256 && are_bytes bytes

bytes_are : (bytes : List ℕ) → are_bytes bytes ≡ true → AreBytes bytes
bytes_are [] t i = subst (λ b. b < 256) (sym (get_or_past [] i 0 (omega arith))) (omega arith)
bytes_are (byte ∷ bytes) t zero = ltb-true byte 256 (and_parts (ltb byte 256) (are_bytes bytes) t).0
bytes_are (byte ∷ bytes) t (suc i) = bytes_are bytes (and_parts (ltb byte 256) (are_bytes bytes) t).1 i

new_bytes : are_bytes (image_of new_database) ≡ true
unfolding image_of image_by options group user connection class profile
new_bytes = refl

new_read : rows_of (image_of new_database) ≡ Ok new_database
unfolding spelled_at rows_of first_pass second_pass image_of image_by options group user connection class profile
new_read = refl

new_long : length (image_of new_database) ≡ 327
unfolding image_of image_by options group user connection class profile
new_long = refl

pub new_size : length (image_of new_database) < 2 ^ 64
new_size = omega (arith, new_long)

pub new_database_stored : ((bytes : List ℕ) (rows : Rows) → AreBytes bytes → rows_of bytes ≡ Ok rows → AreStored rows × AreImageOf bytes rows) → AreStored new_database
new_database_stored found = (found (image_of new_database) new_database (bytes_are (image_of new_database) new_bytes) new_read).0

new_again : AreStored new_database → IsReadAgain new_database
new_again stored = record { stored = stored; image_is = record { written = new_database; whole = refl; is = refl }; read_as = new_read }

-- its checkpoint, and that on the first disk
pub first_lawful : AreStored new_database → IsCheckpoint (new_checkpoint 1 0 new_database)
first_lawful stored = new_lawful 1 0 new_database (omega arith) (omega arith) (omega arith) (new_again stored) (omega (arith, new_long))

pub first_stored : (start : ℕ) (rows : Rows) (told : Option History) → AreStored new_database → rows ≡ new_database → start ≡ 33 + length (image_of rows) → Now told (λ m. m ≡ durable (new_file 1 0 rows))
    → Now told (IsStored 1 start start (new_checkpoint 1 0 new_database))
first_stored start rows told stored same at done =
    new_stored 1 0 start new_database told (omega arith) (omega arith) (omega arith) (new_again stored) (omega (arith, new_long)) (at ∙ ap (λ (r : Rows). 33 + length (image_of r)) same) (λ h e. done h e ∙ ap (λ (r : Rows). durable (new_file 1 0 r)) same)
