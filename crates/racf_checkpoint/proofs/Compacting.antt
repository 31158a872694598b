-- What writing a checkpoint leaves at every moment, and what is stored behind it.
use Rattle.std.proofs.Common.{ℕ, ◌+◌, ◌<◌, ◌≡◌, ◌∙◌, true, List, [], Option, None, Some, Ok, inl, inr, refl, sym, ap, subst, arith}
use Rattle.std.proofs.lemmas.Option.{none-some, same_Some}
use Rattle.std.proofs.lemmas.Bool.{lt-ltb, le-ltb}
use Rattle.racf_outside.specs.Crashes.{Leaves, StaysIn}
use Rattle.racf_outside.specs.Disk.{History, Now}
use Rattle.racf_outside.specs.Moments.{Moment, durable}
use Rattle.racf_outside.proofs.Images.{durable-leaves}
use Rattle.racf_outside.proofs.Runs.{StaysIn-none, StaysIn-weaker}
use Rattle.racf_profiles.specs.declared.rows.Rows.{Rows}
use Rattle.checkpoint_disks.specs.declared.counting.Side.{Side}
use Rattle.checkpoint_disks.specs.declared.counting.Side.TheVariants.{First, Second}
use Rattle.checkpoint_disks.specs.Files.{head_is_open, epoch_of, CheckpointRead}
use Rattle.checkpoint_disks.specs.Files.{contents as file_contents}
use Rattle.checkpoint_disks.specs.Counting.{which, said}
use Rattle.checkpoint_disks.specs.Compacting.{Counts, IsOneOf, CountsBeside, said_beside, first_of, second_of, new_file, new_checkpoint}
use Rattle.checkpoint_disks.specs.Compacting.{SaysEither as FileSaysEither}
use Rattle.racf_checkpoint.specs.Contents.{as_stored, SaysEither}
use Rattle.racf_checkpoint.specs.Stored.{IsStored, IsPassedOver, Beside, other}
use Rattle.racf_checkpoint.proofs.Saying.{RecordsAreRead, said_counts, ReadsShort, gate_fits, rest_short, contents_are, reads_counts}

-- ---- the live disk

-- what a disk holds that stores a checkpoint
pub record Live (epoch : ℕ) (kept : CheckpointRead) (m : Moment) : Type 0 where
  pub durable : m ≡ durable m.bytes
  pub counts : Counts epoch m.bytes
  pub says : file_contents m.bytes ≡ Ok kept
  pub some : 0 < epoch

pub live_is : RecordsAreRead → (epoch start gate : ℕ) (kept : CheckpointRead) (m : Moment) → IsStored epoch start gate kept m → Live epoch kept m
live_is law epoch start gate kept m s =
    let still : m ≡ durable m.bytes = s.rest.is ∙ ap (λ (n : Moment). durable n.bytes) (sym s.rest.is) in
    let image_is = subst (Leaves (ReadsShort kept s.lawful.image kept.records)) still (rest_short kept start gate m s.lawful s.rest) in
    let reads : ReadsShort kept s.lawful.image kept.records m.bytes = image_is.each m.bytes (record { no_shorter = omega arith; no_longer = omega arith; stays = λ place within kept_place. refl }) in
    record {
      durable = still;
      counts = subst (λ n. Counts n m.bytes) s.is_of (reads_counts law kept kept.records m.bytes s.lawful reads.reads);
      says = contents_are law kept kept.records m.bytes s.lawful (gate_fits kept s.lawful) reads ∙ ap (λ (read : CheckpointRead). Ok read) (sym s.lawful.is);
      some = omega (arith, s.lawful.some, s.is_of);
    }

-- it is passed over once the other one has the next epoch
passes : (side : Side) (epoch : ℕ) (old live : List ℕ) → Counts epoch old → head_is_open live ≡ true → epoch_of live ≡ epoch + 1 → which (first_of (other side) live old) (second_of (other side) live old) ≡ Some (other side)
passes First epoch old live c opened above = rw (c.opened, opened, lt-ltb (epoch_of old) (epoch_of live) (omega (arith, c.epoch_is, above))) refl
passes Second epoch old live c opened above = rw (c.opened, opened, le-ltb (epoch_of live) (epoch_of old) (omega (arith, c.epoch_is, above))) refl

pub live_passed : (side : Side) (epoch : ℕ) (kept : CheckpointRead) (m : Moment) → Live epoch kept m → IsPassedOver (other side) (epoch + 1) m
live_passed side epoch kept m l = record {
  at_rest = record { formatted = l.counts.formatted; durable = l.durable };
  counts = λ live opened above. passes side epoch m.bytes live l.counts opened above;
}

pub ready_passed : RecordsAreRead → (side : Side) (epoch start gate next : ℕ) (told : Option History) → next ≡ epoch + 1 → Now told (λ m. (kept : CheckpointRead) × IsStored epoch start gate kept m) → Now told (IsPassedOver (other side) next)
ready_passed law side epoch start gate next told above ready h e =
    let r = ready h e in
    subst (λ n. IsPassedOver (other side) n h.now) (sym above) (live_passed side epoch r.0 h.now (live_is law epoch start gate r.0 h.now r.1))

-- ---- both

sides_turned : (side : Side) (idle live : List ℕ) → said_beside (other side) idle live ≡ said (first_of side live idle) (second_of side live idle)
sides_turned First idle live = refl
sides_turned Second idle live = refl

counts_beside : (side : Side) (epoch next : ℕ) (kept : CheckpointRead) (idle live : Moment) → next ≡ epoch + 1 → Live epoch kept live → IsPassedOver side epoch idle → CountsBeside (other side) idle.bytes live.bytes next
counts_beside side epoch next kept idle live above l p = record {
  formatted = l.counts.formatted;
  opened = l.counts.opened;
  some = omega (arith, l.some, l.counts.epoch_is);
  below = omega (arith, l.counts.epoch_is, above);
  says = sides_turned side idle.bytes live.bytes ∙ said_counts side epoch live.bytes idle p l.counts;
}

either_says : (side : Side) (kept new : CheckpointRead) (live file : List ℕ) → file_contents live ≡ Ok kept → FileSaysEither side live new file → SaysEither kept new (first_of side file live) (second_of side file live)
either_says side kept new live file says (inl same) = inl (ap as_stored (same ∙ says))
either_says side kept new live file says (inr made) = inr (ap as_stored made)

StaysIn-from : (P : List ℕ → Type 0) (a b : Option History) → (a ≡ None → b ≡ None) → ((h : History) → a ≡ Some h → StaysIn P a b) → StaysIn P a b
StaysIn-from P a b untold told = record { told = λ h e. (told h e).told h e; untold = untold }

now_bytes : (a : Option History) (h : History) → a ≡ Some h → Now a (λ m. m.bytes ≡ h.now.bytes)
now_bytes a h e k f = ap (λ (i : History). i.now.bytes) (sym (same_Some h k (sym e ∙ f)))

module _ (law : RecordsAreRead) (side : Side) (epoch next start gate : ℕ) (kept new : CheckpointRead) (made : List ℕ) (above : next ≡ epoch + 1) where
  abbrev P : Option History → List ℕ → Type 0
  P live = Beside (other side) live (SaysEither kept new)

  module _ (old then : Option History) (passed : Now old (IsPassedOver side epoch)) (files : (before : List ℕ) → Now old (λ m. m.bytes ≡ before) → StaysIn (IsOneOf before made) old then)
      (moments : (at : Side) (live before : List ℕ) → CountsBeside at before live next → Now old (λ m. m.bytes ≡ before) → StaysIn (FileSaysEither at live new) old then)
    where
      untold : old ≡ None → then ≡ None
      untold none = (files [] (λ h e. absurd (none-some h (sym none ∙ e)))).untold none

      compact_moments : (live : Option History) → Now live (IsStored epoch start gate kept) → StaysIn (P live) old then
      compact_moments None stored = StaysIn-from (P None) old then untold (λ h e.
          StaysIn-weaker (P None) (files h.now.bytes (now_bytes old h e)) (λ i f file left. λ k told. absurd (none-some k told)))
      compact_moments (Some live) stored = StaysIn-from (P (Some live)) old then untold (λ h e.
          let l = live_is law epoch start gate kept live.now (stored live refl) in
          StaysIn-weaker (P (Some live)) (moments (other side) live.now.bytes h.now.bytes (counts_beside side epoch next kept h.now live.now above l (passed h e)) (now_bytes old h e))
          (λ i f file left. λ k told.
          subst (λ (j : History). Leaves (λ image. SaysEither kept new (first_of (other side) file image) (second_of (other side) file image)) j.now) (same_Some live k told)
          (subst (Leaves (λ image. SaysEither kept new (first_of (other side) file image) (second_of (other side) file image))) (sym l.durable)
          (durable-leaves (λ image. SaysEither kept new (first_of (other side) file image) (second_of (other side) file image)) live.now.bytes (either_says (other side) kept new live.now.bytes file l.says left)))))

-- the same of the checkpoint that is written
pub compact_made : RecordsAreRead → (side : Side) (epoch next start gate number : ℕ) (rows : Rows) (kept : CheckpointRead) → next ≡ epoch + 1 → (old then live : Option History) → Now old (IsPassedOver side epoch)
    → ((before : List ℕ) → Now old (λ m. m.bytes ≡ before) → StaysIn (IsOneOf before (new_file next number rows)) old then)
    → ((at : Side) (live before : List ℕ) → CountsBeside at before live next → Now old (λ m. m.bytes ≡ before) → StaysIn (FileSaysEither at live (new_checkpoint next number rows)) old then)
    → Now live (IsStored epoch start gate kept) → StaysIn (Beside (other side) live (SaysEither kept (new_checkpoint (epoch + 1) number rows))) old then
compact_made law side epoch next start gate number rows kept above old then live passed files moments stored =
    subst (λ n. StaysIn (Beside (other side) live (SaysEither kept (new_checkpoint n number rows))) old then) above
    (compact_moments law side epoch next start gate kept (new_checkpoint next number rows) (new_file next number rows) above old then passed files moments live stored)

-- nothing is written
module _ (law : RecordsAreRead) (side : Side) (epoch start gate : ℕ) (kept new : CheckpointRead) (idle : Option History) (passed : Now idle (IsPassedOver side epoch)) where
  idle_says : (live : Option History) → Now live (IsStored epoch start gate kept) → (m : Moment) → IsPassedOver side epoch m → Beside (other side) live (SaysEither kept new) m.bytes
  idle_says live stored m p k told =
      let l = live_is law epoch start gate kept k.now (stored k told) in
      subst (Leaves (λ image. SaysEither kept new (first_of (other side) m.bytes image) (second_of (other side) m.bytes image))) (sym l.durable)
      (durable-leaves (λ image. SaysEither kept new (first_of (other side) m.bytes image) (second_of (other side) m.bytes image)) k.now.bytes
      (inl (ap as_stored (sides_turned side m.bytes k.now.bytes ∙ said_counts side epoch k.now.bytes m p l.counts ∙ l.says))))

  pub compact_none : (live : Option History) → Now live (IsStored epoch start gate kept) → StaysIn (Beside (other side) live (SaysEither kept new)) idle idle
  compact_none live stored =
      StaysIn-none (Beside (other side) live (SaysEither kept new)) idle (λ h e.
      let p = passed h e in
      subst (Leaves (Beside (other side) live (SaysEither kept new))) (sym p.at_rest.durable) (durable-leaves (Beside (other side) live (SaysEither kept new)) h.now.bytes (idle_says live stored h.now p)))
