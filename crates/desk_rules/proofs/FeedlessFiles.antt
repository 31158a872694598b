-- The rows of the checkpoint that two files say hold no line feed.
use Rattle.std.proofs.Common.{◌≡◌, ◌∙◌, ℕ, Bool, true, false, List, Option, Some, None, Result, Ok, Err, refl, sym, ap, subst}
use Rattle.std.specs.Prelude.{◌&&◌, if◌then◌else◌}
use Rattle.std.specs.List.{slice_range}
use Rattle.racf_profiles.specs.declared.rows.Rows.{Rows}
use Rattle.database_image.specs.Image.{rows_of}
use Rattle.checkpoint_disks.specs.declared.counting.Side.{Side}
use Rattle.checkpoint_disks.specs.declared.fault.CheckpointFault.{CheckpointFault}
use Rattle.checkpoint_disks.specs.declared.fault.CheckpointFault.TheVariants.{NotFormatted}
use Rattle.checkpoint_disks.specs.Files.{CheckpointRead, is_formatted, head_of, rows_read, contents, ◌>>=◌}
use Rattle.checkpoint_disks.specs.Counting.{which, file_on, counted, said}
use Rattle.racf_checkpoint.specs.Contents.{as_stored, Says}
use Rattle.audit_records.specs.Feedless.{AreFeedless}
use Rattle.desk_rules.proofs.FeedlessImages.{image-feedless}

-- ---- one file
passed : {A B : Type 0} (r : Result A CheckpointFault) (f : A → Result B CheckpointFault) (y : B) → (r >>= f) ≡ Ok y → (x : A) × (r ≡ Ok x) × (f x ≡ Ok y)
passed (Ok x) f y e = (x, refl, e)
passed (Err why) f y e = absurd cc

rows-passed : (r : Result Rows ℕ) (rows : Rows) → rows_read r ≡ Ok rows → r ≡ Ok rows
rows-passed (Ok read) rows e = cc
rows-passed (Err place) rows e = absurd cc

-- the journal behind them leaves the rows as they are
behind-rows : {X : Type 0} (journal : Result X CheckpointFault) (whole : X → CheckpointRead) (rows : Rows) → ((x : X) → (whole x).rows ≡ rows) → (kept : CheckpointRead)
    → (journal >>= λ x. Ok (whole x)) ≡ Ok kept → rows ≡ kept.rows
behind-rows (Ok x) whole rows are kept e = let same : whole x ≡ kept = cc in sym (are x) ∙ ap (λ (c : CheckpointRead). c.rows) same
behind-rows (Err why) whole rows are kept e = absurd cc

file-feedless : (file : List ℕ) (kept : CheckpointRead) → contents file ≡ Ok kept → AreFeedless kept.rows
unfolding contents
file-feedless file kept e =
    let head = passed (head_of file) _ kept e in
    let image = rows_of (slice_range file 33 head.0.start) in
    let rows = passed (rows_read image) _ kept head.2 in
    subst AreFeedless (behind-rows _ _ rows.0 (λ x. refl) kept rows.2) (image-feedless (slice_range file 33 head.0.start) rows.0 (rows-passed image rows.0 rows.1))

-- ---- two files: the one that counts
counted-feedless : (first second : List ℕ) (side : Option Side) (kept : CheckpointRead) → counted first second side ≡ Ok kept → AreFeedless kept.rows
counted-feedless first second None kept e = absurd cc
counted-feedless first second (Some side) kept e = file-feedless (file_on side first second) kept e

said-feedless : (first second : List ℕ) (kept : CheckpointRead) → said first second ≡ Ok kept → AreFeedless kept.rows
said-feedless first second kept e = by (is_formatted first && is_formatted second) e
  where
    by : (b : Bool) → (if b then counted first second (which first second) else Err NotFormatted) ≡ Ok kept → AreFeedless kept.rows
    by true k = counted-feedless first second (which first second) kept k
    by false k = absurd cc

pub says-feedless : (kept : CheckpointRead) (first second : List ℕ) → Says kept first second → AreFeedless kept.rows
says-feedless kept first second e = by (said first second) refl e
  where
    by : (r : Result CheckpointRead CheckpointFault) → said first second ≡ r → as_stored r ≡ Ok kept → AreFeedless kept.rows
    by (Ok read) is k = let same : read ≡ kept = cc in said-feedless first second kept (is ∙ ap (λ c. Ok c) same)
    by (Err why) is k = absurd cc
