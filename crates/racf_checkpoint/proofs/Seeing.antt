-- What is seen of the bytes of two files.
use Rattle.std.proofs.Common.{ℕ, ◌+◌, ◌<◌, ◌≤◌, ◌^◌, ◌≡◌, ◌≢◌, Bool, true, false, cond, ltb, ◌&&◌, List, length, drop, Option, None, Some, Result, Ok, Err, ◌⊎◌, inl, inr, ap, arith, length-append, length-drop}
use Rattle.std.specs.List.{slice_range}
use Rattle.racf_profiles.specs.declared.rows.Rows.{Rows}
use Rattle.database_image.specs.Image.{rows_of}
use Rattle.racf_journal.specs.Reading.{Reading, reading, spelled}
use Rattle.racf_journal.specs.Repair.{IsScanned}
use Rattle.racf_journal.specs.declared.fault.JournalFault.{JournalFault}
use Rattle.racf_journal.specs.declared.fault.JournalFault.TheVariants as journal
use Rattle.racf_journal.proofs.Behind.{read_is_scanned}
use Rattle.checkpoint_disks.specs.declared.counting.Side.{Side}
use Rattle.checkpoint_disks.specs.declared.fault.CheckpointFault.{CheckpointFault}
use Rattle.checkpoint_disks.specs.declared.fault.CheckpointFault.TheVariants.{DiskFault, NotFormatted, Damaged, NoMemory}
use Rattle.checkpoint_disks.specs.Files.{is_formatted, head_of, rows_read, records_read, ◌>>=◌, CheckpointRead}
use Rattle.checkpoint_disks.specs.Files.{contents as file_contents}
use Rattle.checkpoint_disks.specs.Counting.{which, file_on, counted, said}
use Rattle.checkpoint_disks.specs.Compacting.{IsHeld}
use Rattle.checkpoint_disks.proofs.Held.{HeldParts, held_parts}
use Rattle.racf_checkpoint.specs.declared.fault.StoreFault.TheVariants as fault
use Rattle.racf_checkpoint.specs.Contents.{checkpoint_fault}

-- ---- no file says a fault of a disk

abbrev NoDisk : {A : Type 0} → Result A CheckpointFault → Type 0
NoDisk read = read ≡ Err DiskFault → ⊥

no_disk-ok : {A : Type 0} (x : A) → NoDisk (Ok x)
no_disk-ok x e = cc

no_disk-damaged : {A : Type 0} (place : ℕ) → NoDisk {A = A} (Err (Damaged place))
no_disk-damaged place e = cc

no_disk-formatted : {A : Type 0} → NoDisk {A = A} (Err NotFormatted)
no_disk-formatted e = cc

no_disk-either : {A : Type 0} (b : Bool) (one two : Result A CheckpointFault) → NoDisk one → NoDisk two → NoDisk (cond b one two)
no_disk-either true one two p q = p
no_disk-either false one two p q = q

no_disk-then : {A B : Type 0} (read : Result A CheckpointFault) (next : A → Result B CheckpointFault) → NoDisk read → ((x : A) → NoDisk (next x)) → NoDisk (read >>= next)
no_disk-then (Ok x) next p q = q x
no_disk-then (Err why) next p q = λ e. let same : why ≡ DiskFault = cc in p (ap (λ (w : CheckpointFault). Err w) same)

no_disk-head : (file : List ℕ) → NoDisk (head_of file)
unfolding head_of
no_disk-head file = no_disk-either _ _ _ (no_disk-damaged (2 ^ 28)) (no_disk-either _ _ _ (no_disk-damaged 9) (no_disk-either _ _ _ (no_disk-damaged 17) (no_disk-either _ _ _ (no_disk-damaged 25) (no_disk-ok _))))

no_disk-rows : (rows : Result Rows ℕ) → NoDisk (rows_read rows)
no_disk-rows (Ok rows) e = cc
no_disk-rows (Err place) e = cc

no_disk-records : (found : Result Reading JournalFault) → NoDisk (records_read found)
no_disk-records (Ok found) e = no_disk-either (ltb found.gate (2 ^ 28)) (Ok found) (Err (Damaged (2 ^ 28))) (no_disk-ok found) (no_disk-damaged (2 ^ 28)) e
no_disk-records (Err journal.DiskFault) e = cc
no_disk-records (Err journal.NotFormatted) e = cc
no_disk-records (Err (journal.Damaged place)) e = cc
no_disk-records (Err journal.Full) e = cc
no_disk-records (Err journal.NoMemory) e = cc

no_disk-file : (file : List ℕ) → NoDisk (file_contents file)
unfolding file_contents
no_disk-file file =
    no_disk-then (head_of file) _ (no_disk-head file) (λ head.
    no_disk-then (rows_read (rows_of (slice_range file 33 head.start))) _ (no_disk-rows (rows_of (slice_range file 33 head.start))) (λ rows.
    no_disk-then (records_read (reading head.start file)) _ (no_disk-records (reading head.start file)) (λ found.
    no_disk-ok (record { epoch = head.epoch; number = head.number; rows = rows; start = head.start; records = found.records; gate = found.gate }))))

no_disk-counted : (first second : List ℕ) (side : Option Side) → NoDisk (counted first second side)
no_disk-counted first second None = no_disk-formatted
no_disk-counted first second (Some side) = no_disk-file (file_on side first second)

no_disk-said : (first second : List ℕ) → NoDisk (said first second)
no_disk-said first second = no_disk-either (is_formatted first && is_formatted second) _ _ (no_disk-counted first second (which first second)) no_disk-formatted

-- the faults of a reading
pub no_other_fault : (first second : List ℕ) (why : CheckpointFault) → (why ≡ NoMemory) ⊎ (said first second ≡ Err why) → (checkpoint_fault why ≢ fault.DiskFault) × (checkpoint_fault why ≢ fault.Full)
no_other_fault first second DiskFault (inl memory) = absurd (let e : DiskFault ≡ NoMemory = memory in cc)
no_other_fault first second DiskFault (inr same) = absurd (no_disk-said first second same)
no_other_fault first second NotFormatted h = (λ e. cc, λ e. cc)
no_other_fault first second (Damaged place) h = (λ e. cc, λ e. cc)
no_other_fault first second NoMemory h = (λ e. cc, λ e. cc)

-- ---- what is held

scanned : (kept : CheckpointRead) (file : List ℕ) → IsHeld kept file → IsScanned kept.start (drop kept.start file) kept.records kept.gate
scanned kept file h = read_is_scanned kept.start file (record { records = kept.records; gate = kept.gate }) (held_parts kept file h).reads

pub gate_within : (kept : CheckpointRead) (file : List ℕ) → IsHeld kept file → kept.gate ≤ length file
gate_within kept file h =
    let p : HeldParts kept h.lawful.image file = held_parts kept file h in
    let s : IsScanned kept.start (drop kept.start file) kept.records kept.gate = scanned kept file h in
    omega (arith, s.to, ap length s.split, length-append (spelled kept.records) s.end, length-drop kept.start file, p.within)

-- the places of the journal are places of the file
pub room_within : (kept : CheckpointRead) (file : List ℕ) → IsHeld kept file → length file < 2 ^ 64 → kept.start + length (spelled kept.records) < 2 ^ 64
room_within kept file h room =
    let s : IsScanned kept.start (drop kept.start file) kept.records kept.gate = scanned kept file h in
    omega (arith, s.to, gate_within kept file h, room)
