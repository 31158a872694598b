-- What two files say, where one counts and the other is passed over.
use Rattle.std.proofs.Common.{ℕ, ◌+◌, ◌<◌, ◌≤◌, ◌^◌, ◌≡◌, ◌∙◌, cond, ◌&&◌, List, [], ◌∷◌, ◌++◌, length, Option, None, Some, Result, Ok, Err, refl, sym, ap, subst, arith, length-append}
use Rattle.std.proofs.lemmas.Bool.{cond-true, and_from}
use Rattle.racf_outside.specs.Crashes.{Leaves}
use Rattle.racf_outside.specs.Disk.{History, Now}
use Rattle.racf_outside.specs.Moments.{Moment, IsImage}
use Rattle.racf_outside.proofs.Images.{only, durable-leaves}
use Rattle.racf_outside.proofs.Runs.{Leaves-weaker}
use Rattle.racf_profiles.specs.declared.rows.Rows.{Rows}
use Rattle.database_image.specs.Image.{rows_of}
use Rattle.racf_journal.specs.Kept.{IsAtRest, ReadsAs}
use Rattle.racf_journal.specs.Reading.{spelled}
use Rattle.racf_journal.proofs.Rests.{rest_leaves}
use Rattle.checkpoint_disks.specs.declared.counting.Side.{Side}
use Rattle.checkpoint_disks.specs.declared.counting.Side.TheVariants.{First, Second}
use Rattle.checkpoint_disks.specs.declared.fault.CheckpointFault.{CheckpointFault}
use Rattle.checkpoint_disks.specs.declared.fault.CheckpointFault.TheVariants.{NotFormatted}
use Rattle.checkpoint_disks.specs.Files.{is_formatted, head_is_open, epoch_of, CheckpointRead}
use Rattle.checkpoint_disks.specs.Files.{contents as file_contents}
use Rattle.checkpoint_disks.specs.Counting.{which, counted, said}
use Rattle.checkpoint_disks.specs.Compacting.{with_image, with_records, IsCheckpoint, Counts, first_of, second_of}
use Rattle.checkpoint_disks.proofs.Held.{image_long}
use Rattle.racf_checkpoint.specs.Contents.{as_stored, Says}
use Rattle.racf_checkpoint.specs.Stored.{IsStored, IsPassedOver, Beside, SaysAs}

-- the law of the crate below: a journal's records behind an image are said, and their file counts
pub record RecordsAreRead : Type 0 where
  pub says : (epoch number : ℕ) (image : List ℕ) (rows : Rows) (records : List (List ℕ)) (file : List ℕ) → rows_of image ≡ Ok rows → 0 < epoch → epoch < 2 ^ 64 → number ≤ 2 ^ 62
      → (33 + length image) + length (spelled records) < 2 ^ 28 → length file ≤ 2 ^ 28 → ReadsAs (with_image epoch number image) records file → file_contents file ≡ Ok (with_records epoch number rows (33 + length image) records)
  pub counts : (epoch number : ℕ) (image : List ℕ) (records : List (List ℕ)) (file : List ℕ) → epoch < 2 ^ 64 → ReadsAs (with_image epoch number image) records file → Counts epoch file

-- a file that counts says what the two say
pub said_counts : (side : Side) (epoch : ℕ) (live : List ℕ) (idle : Moment) → IsPassedOver side epoch idle → Counts epoch live → said (first_of side live idle.bytes) (second_of side live idle.bytes) ≡ file_contents live
said_counts First epoch live idle p c =
    cond-true (is_formatted live && is_formatted idle.bytes) (counted live idle.bytes (which live idle.bytes)) (Err NotFormatted) (and_from (is_formatted live) (is_formatted idle.bytes) c.formatted p.at_rest.formatted)
    ∙ ap (counted live idle.bytes) (p.counts live c.opened c.epoch_is)
said_counts Second epoch live idle p c =
    cond-true (is_formatted idle.bytes && is_formatted live) (counted idle.bytes live (which idle.bytes live)) (Err NotFormatted) (and_from (is_formatted idle.bytes) (is_formatted live) p.at_rest.formatted c.formatted)
    ∙ ap (counted idle.bytes live) (p.counts live c.opened c.epoch_is)

-- ---- that they are within the bound of a file

-- where the gate behind these records stands
abbrev pub gate_of : CheckpointRead → (records : List (List ℕ)) → ℕ
gate_of kept records = kept.start + length (spelled records)

-- the gate of a checkpoint is one of the bytes that a file may have
pub gate_fits : (kept : CheckpointRead) → IsCheckpoint kept → gate_of kept kept.records < 2 ^ 28
gate_fits kept c = subst (λ n. n < 2 ^ 28) (ap (λ (read : CheckpointRead). read.gate) c.is) c.fits

-- a file of records behind an image ends with that gate
pub rest_size : (kept : CheckpointRead) (c : IsCheckpoint kept) (records : List (List ℕ)) (start gate : ℕ) (m : Moment) → IsAtRest (with_image kept.epoch kept.number c.image) start gate records m
    → (gate ≡ gate_of kept records) × (length m.bytes ≡ gate + 1)
rest_size kept c records start gate m rest =
    let front : List ℕ = with_image kept.epoch kept.number c.image in
    let long : length front ≡ 33 + length c.image = image_long kept.epoch kept.number c.image in (
      omega (arith, rest.to, rest.from, long, c.start),
      omega (arith, ap (λ (n : Moment). length n.bytes) rest.is, length-append (front ++ spelled records) (0 ∷ []), length-append front (spelled records), rest.to, rest.from),
    )

-- a file that is read as these records, and isn't too long
pub record ReadsShort (kept : CheckpointRead) (image : List ℕ) (records : List (List ℕ)) (file : List ℕ) : Type 0 where
  pub reads : ReadsAs (with_image kept.epoch kept.number image) records file
  pub short : length file ≤ 2 ^ 28

pub rest_short : (kept : CheckpointRead) (start gate : ℕ) (m : Moment) → (c : IsCheckpoint kept) → IsAtRest (with_image kept.epoch kept.number c.image) start gate kept.records m → Leaves (ReadsShort kept c.image kept.records) m
rest_short kept start gate m c rest = record {
  each = λ image i.
      let size = rest_size kept c kept.records start gate m rest in
      let bytes : List ℕ = with_image kept.epoch kept.number c.image ++ spelled kept.records ++ 0 ∷ [] in
      let is : image ≡ bytes = only bytes image (subst (λ n. IsImage n image) rest.is i) in
      record {
        reads = (rest_leaves (with_image kept.epoch kept.number c.image) start gate kept.records m rest).each image i;
        short = omega (arith, ap length is, ap (λ (n : Moment). length n.bytes) rest.is, size.0, size.1, gate_fits kept c);
      };
}

module _ (law : RecordsAreRead) where
  -- what these records are read as
  pub contents_are : (kept : CheckpointRead) (records : List (List ℕ)) (file : List ℕ) → (c : IsCheckpoint kept) → gate_of kept records < 2 ^ 28 → ReadsShort kept c.image records file
      → file_contents file ≡ Ok (with_records kept.epoch kept.number kept.rows kept.start records)
  contents_are kept records file c fits r =
      let behind : (33 + length c.image) + length (spelled records) < 2 ^ 28 = omega (arith, c.start, fits) in
      law.says kept.epoch kept.number c.image kept.rows records file c.read_as c.some c.epoch c.number behind r.short r.reads
      ∙ ap (λ n. Ok (with_records kept.epoch kept.number kept.rows n records)) (sym c.start)

  pub reads_counts : (kept : CheckpointRead) (records : List (List ℕ)) (file : List ℕ) → (c : IsCheckpoint kept) → ReadsAs (with_image kept.epoch kept.number c.image) records file → Counts kept.epoch file
  reads_counts kept records file c r = law.counts kept.epoch kept.number c.image records file c.epoch r

  -- beside a file that is passed over
  pub reads_says : (side : Side) (epoch : ℕ) (kept : CheckpointRead) (records : List (List ℕ)) (file : List ℕ) (idle : Moment) → (c : IsCheckpoint kept) → kept.epoch ≡ epoch → IsPassedOver side epoch idle
      → gate_of kept records < 2 ^ 28 → ReadsShort kept c.image records file → Says (with_records kept.epoch kept.number kept.rows kept.start records) (first_of side file idle.bytes) (second_of side file idle.bytes)
  reads_says side epoch kept records file idle c at p fits r =
      ap as_stored (said_counts side epoch file idle p (subst (λ e. Counts e file) at (reads_counts kept records file c r.reads)) ∙ contents_are kept records file c fits r)

  pub kept_says : (side : Side) (epoch : ℕ) (kept : CheckpointRead) (file : List ℕ) (idle : Moment) → (c : IsCheckpoint kept) → kept.epoch ≡ epoch → IsPassedOver side epoch idle
      → ReadsShort kept c.image kept.records file → Says kept (first_of side file idle.bytes) (second_of side file idle.bytes)
  kept_says side epoch kept file idle c at p r = reads_says side epoch kept kept.records file idle c at p (gate_fits kept c) r ∙ ap (λ (read : CheckpointRead). Ok read) (sym c.is)

-- beside whatever a crash leaves of a disk that is passed over
pub beside_passed : (side : Side) (epoch : ℕ) (told : Option History) (P : (first second : List ℕ) → Type 0) (file : List ℕ) → Now told (IsPassedOver side epoch)
    → ((idle : Moment) → IsPassedOver side epoch idle → P (first_of side file idle.bytes) (second_of side file idle.bytes)) → Beside side told P file
beside_passed side epoch told P file passed p h e =
    let q = passed h e in
    subst (Leaves (λ image. P (first_of side file image) (second_of side file image))) (sym q.at_rest.durable)
    (durable-leaves (λ image. P (first_of side file image) (second_of side file image)) h.now.bytes (p h.now q))

-- of what is stored every crash leaves files that say it
pub stored_says : RecordsAreRead → (side : Side) (epoch start gate : ℕ) (kept : CheckpointRead) (live : Moment) (idle : Option History) → IsStored epoch start gate kept live → Now idle (IsPassedOver side epoch)
    → Leaves (Beside side idle (Says kept)) live
stored_says law side epoch start gate kept live idle s passed =
    Leaves-weaker (ReadsShort kept s.lawful.image kept.records) (Beside side idle (Says kept)) live
    (λ file r. beside_passed side epoch idle (Says kept) file passed (λ m p. kept_says law side epoch kept file m s.lawful s.is_of p r))
    (rest_short kept start gate live s.lawful s.rest)

-- ---- files that say the same beside every other

counted_same : (one two other : List ℕ) (side : Option Side) → file_contents one ≡ file_contents two → counted one other side ≡ counted two other side
counted_same one two other None same = refl
counted_same one two other (Some First) same = same
counted_same one two other (Some Second) same = refl

counted_other : (one two other : List ℕ) (side : Option Side) → file_contents one ≡ file_contents two → counted other one side ≡ counted other two side
counted_other one two other None same = refl
counted_other one two other (Some First) same = refl
counted_other one two other (Some Second) same = same

-- which file counts depends on their head gates and epochs alone
pub which_first : (one two other : List ℕ) → head_is_open one ≡ head_is_open two → epoch_of one ≡ epoch_of two → which one other ≡ which two other
which_first one two other opened epochs = rw (opened, epochs) refl

pub which_second : (one two other : List ℕ) → head_is_open one ≡ head_is_open two → epoch_of one ≡ epoch_of two → which other one ≡ which other two
which_second one two other opened epochs = rw (opened, epochs) refl

module _ (one two : List ℕ) (formatted : is_formatted one ≡ is_formatted two) (opened : head_is_open one ≡ head_is_open two) (epochs : epoch_of one ≡ epoch_of two) (same : file_contents one ≡ file_contents two) where
  first_same : (other : List ℕ) → said one other ≡ said two other
  first_same other =
      ap (λ b. cond (b && is_formatted other) (counted one other (which one other)) (Err NotFormatted)) formatted
      ∙ ap (λ (r : Result CheckpointRead CheckpointFault). cond (is_formatted two && is_formatted other) r (Err NotFormatted)) (ap (counted one other) (which_first one two other opened epochs) ∙ counted_same one two other (which two other) same)

  second_same : (other : List ℕ) → said other one ≡ said other two
  second_same other =
      ap (λ b. cond (is_formatted other && b) (counted other one (which other one)) (Err NotFormatted)) formatted
      ∙ ap (λ (r : Result CheckpointRead CheckpointFault). cond (is_formatted other && is_formatted two) r (Err NotFormatted)) (ap (counted other one) (which_second one two other opened epochs) ∙ counted_other one two other (which other two) same)

  says_as : SaysAs one two
  says_as = record { first = first_same; second = second_same }

pub same_as : (file : List ℕ) → SaysAs file file
same_as file = record { first = λ other. refl; second = λ other. refl }

-- two files of the same checkpoint and the same records
pub held_as : (kept : CheckpointRead) (one two : List ℕ) → Counts kept.epoch one → Counts kept.epoch two → file_contents one ≡ Ok kept → file_contents two ≡ Ok kept → SaysAs one two
held_as kept one two c d p q = says_as one two (c.formatted ∙ sym d.formatted) (c.opened ∙ sym d.opened) (c.epoch_is ∙ sym d.epoch_is) (p ∙ sym q)
