-- What a file says, by the steps in which it is read.
use Rattle.std.proofs.Common.{ℕ, ◌-◌, ◌<◌, ◌≤◌, ◌≡◌, ◌∙◌, ◌⊎◌, inl, inr, ltb, List, length, take, drop, Ok, Err, sym, ap, arith}
use Rattle.std.specs.Prelude.{bytes_eq}
use Rattle.std.specs.List.{slice_range}
use Rattle.std.proofs.lemmas.List.{take_rest}
use Rattle.std.proofs.lemmas.Bool.{lt-ltb, cond-true, or_left}
use Rattle.racf_profiles.specs.declared.rows.Rows.{Rows}
use Rattle.database_image.specs.Image.{rows_of}
use Rattle.racf_journal.specs.Reading.{Reading, is_formatted, magic, reading, walk}
use Rattle.checkpoint_disks.specs.declared.fault.CheckpointFault.{CheckpointFault}
use Rattle.checkpoint_disks.specs.declared.fault.CheckpointFault.TheVariants.{NoMemory}
use Rattle.checkpoint_disks.specs.declared.heads.Head.{Head}
use Rattle.checkpoint_disks.specs.Files.{head_of, rows_read, records_read, contents}

-- a journal that begins behind place 8
pub reading_behind : (start : ℕ) (file : List ℕ) → 8 < start → reading start file ≡ walk 0 start (drop start file)
reading_behind start file behind = cond-true (is_formatted start file) _ _ (or_left (ltb 8 start) (bytes_eq (take 8 file) magic) (lt-ltb 8 start behind))

-- a fault of the fields in front
pub contents-head : (file : List ℕ) (why : CheckpointFault) → head_of file ≡ Err why → contents file ≡ Err why
unfolding contents
contents-head file why h = rw h

contents-rows : (file : List ℕ) (head : Head) (why : CheckpointFault) → head_of file ≡ Ok head → rows_read (rows_of (slice_range file 33 head.start)) ≡ Err why → contents file ≡ Err why
unfolding contents
contents-rows file head why h r = rw (h, r)

contents-records : (file : List ℕ) (head : Head) (rows : Rows) (why : CheckpointFault) → head_of file ≡ Ok head → rows_read (rows_of (slice_range file 33 head.start)) ≡ Ok rows
    → records_read (reading head.start file) ≡ Err why → contents file ≡ Err why
unfolding contents
contents-records file head rows why h r j = rw (h, r, j)

pub contents-whole : (file : List ℕ) (head : Head) (rows : Rows) (found : Reading) → head_of file ≡ Ok head → rows_read (rows_of (slice_range file 33 head.start)) ≡ Ok rows
    → records_read (reading head.start file) ≡ Ok found
    → contents file ≡ Ok (record { epoch = head.epoch; number = head.number; rows = rows; start = head.start; records = found.records; gate = found.gate })
unfolding contents
contents-whole file head rows found h r j = rw (h, r, j)

-- a fault of the image
pub fails-rows : (file : List ℕ) (head : Head) (why : CheckpointFault) → head_of file ≡ Ok head
    → (why ≡ NoMemory) ⊎ (rows_read (rows_of (slice_range file 33 head.start)) ≡ Err why) → (why ≡ NoMemory) ⊎ (contents file ≡ Err why)
fails-rows file head why h (inl short) = inl short
fails-rows file head why h (inr r) = inr (contents-rows file head why h r)

-- the bytes of the journal
journal_is : (file bytes : List ℕ) (start : ℕ) → 33 ≤ start → bytes ≡ take (length file - start) (drop start file) → records_read (reading start file) ≡ records_read (walk 0 start bytes)
journal_is file bytes start behind same = ap records_read (reading_behind start file (omega arith) ∙ ap (walk 0 start) (sym (take_rest file start) ∙ sym same))

-- a fault of the journal
pub fails-records : (file bytes : List ℕ) (head : Head) (rows : Rows) (why : CheckpointFault) → 33 ≤ head.start → bytes ≡ take (length file - head.start) (drop head.start file)
    → head_of file ≡ Ok head → rows_read (rows_of (slice_range file 33 head.start)) ≡ Ok rows
    → (why ≡ NoMemory) ⊎ (records_read (walk 0 head.start bytes) ≡ Err why) → (why ≡ NoMemory) ⊎ (contents file ≡ Err why)
fails-records file bytes head rows why behind same h r (inl short) = inl short
fails-records file bytes head rows why behind same h r (inr j) = inr (contents-records file head rows why h r (journal_is file bytes head.start behind same ∙ j))

-- no fault
pub reads-whole : (file bytes : List ℕ) (head : Head) (rows : Rows) (found : Reading) → 33 ≤ head.start → bytes ≡ take (length file - head.start) (drop head.start file)
    → head_of file ≡ Ok head → rows_read (rows_of (slice_range file 33 head.start)) ≡ Ok rows → records_read (walk 0 head.start bytes) ≡ Ok found
    → contents file ≡ Ok (record { epoch = head.epoch; number = head.number; rows = rows; start = head.start; records = found.records; gate = found.gate })
reads-whole file bytes head rows found behind same h r j = contents-whole file head rows found h r (journal_is file bytes head.start behind same ∙ j)
