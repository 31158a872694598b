-- What is seen on two disks, and what opening their journal leaves.
use Rattle.std.proofs.Common.{ℕ, ◌+◌, ◌<◌, ◌≤◌, ◌^◌, ◌≡◌, ◌⊎◌, ◌∙◌, inl, inr, ◌&&◌, true, false, cond, List, length, take, Option, Some, None, Result, Ok, Err, refl, sym, ap, subst, arith}
use Rattle.std.proofs.lemmas.Bool.{cases_Bool, cond-true, cond-false}
use Rattle.std.specs.Option.{option_map}
use Rattle.racf_outside.specs.Disk.{History, goes, Now}
use Rattle.racf_outside.specs.Moments.{Moment, IsImage, durable, synced}
use Rattle.racf_outside.proofs.Images.{only}
use Rattle.racf_outside.proofs.Runs.{StaysIn-weaker}
use Rattle.racf_journal.specs.Kept.{IsAtRest, Keeps, ReadsAs}
use Rattle.racf_journal.specs.Opening.{OnlySynced}
use Rattle.racf_journal.specs.Opening.{WasPossible as JournalWasPossible, StaysPossible as JournalStaysPossible}
use Rattle.racf_journal.specs.Reading.{reading, spelled}
use Rattle.racf_journal.specs.Repair.{IsFound}
use Rattle.racf_journal.proofs.Behind.{file_is_found}
use Rattle.checkpoint_disks.specs.declared.counting.Side.{Side}
use Rattle.checkpoint_disks.specs.declared.counting.Side.TheVariants.{First, Second}
use Rattle.checkpoint_disks.specs.Files.{is_formatted, head_is_open, epoch_of, CheckpointRead}
use Rattle.checkpoint_disks.specs.Files.{contents as file_contents}
use Rattle.checkpoint_disks.specs.declared.fault.CheckpointFault.{CheckpointFault}
use Rattle.checkpoint_disks.specs.declared.fault.CheckpointFault.TheVariants.{NotFormatted}
use Rattle.checkpoint_disks.specs.Counting.{which, file_on, counted, said}
use Rattle.checkpoint_disks.proofs.Fronts.{formatted_front, open_front, epoch_front, which_fronts, contents_front, whole_front}
use Rattle.checkpoint_disks.specs.Compacting.{with_image, IsCheckpoint, IsHeld, first_of, second_of}
use Rattle.checkpoint_disks.proofs.Held.{HeldParts, held_parts}
use Rattle.racf_checkpoint.specs.declared.fault.StoreFault.{StoreFault}
use Rattle.racf_checkpoint.specs.declared.fault.StoreFault.TheVariants as fault
use Rattle.racf_checkpoint.specs.Contents.{checkpoint_fault, as_stored, contents, Refuses}
use Rattle.racf_checkpoint.proofs.Seeing.{room_within}
use Rattle.racf_checkpoint.specs.Stored.{pick, other, IsStored, IsPassedOver, NowRead, WasPossible, StaysPossible}
use Rattle.racf_checkpoint.specs.Finding.{HoldsRead, IsRead, IsSaid, IsSeen}
use Rattle.racf_checkpoint.proofs.Saying.{RecordsAreRead, gate_fits, contents_are, reads_counts, held_as, which_first, which_second}

-- what was read behind it was read before
pub both_before : (a b c d : Option History) (P : (first second : List ℕ) → Type 0) → OnlySynced a b → OnlySynced c d → NowRead b d P → NowRead a c P
both_before a b c d P s t holds h e k f = holds (goes synced h) (s.is ∙ ap (option_map (goes synced)) e) (goes synced k) (t.is ∙ ap (option_map (goes synced)) f)

-- ---- what was seen

-- what was read of two files says what they say
pub said_parts : (side : Side) (one two first second : List ℕ) → one ≡ take (pick side (2 ^ 28 + 1) 17) first → two ≡ take (pick side 17 (2 ^ 28 + 1)) second → which first second ≡ Some side → said one two ≡ said first second
said_parts side one two first second p q w = ap (λ (l : List ℕ). said l two) p ∙ ap (said (take (pick side (2 ^ 28 + 1) 17) first)) q ∙ by side w
  where
    least : (side : Side) → (17 ≤ pick side (2 ^ 28 + 1) 17) × (17 ≤ pick side 17 (2 ^ 28 + 1))
    least First = (omega arith, omega arith)
    least Second = (omega arith, omega arith)

    counted_part : (side : Side) → counted (take (pick side (2 ^ 28 + 1) 17) first) (take (pick side 17 (2 ^ 28 + 1)) second) (Some side) ≡ counted first second (Some side)
    counted_part First = contents_front first
    counted_part Second = contents_front second

    by : (side : Side) → which first second ≡ Some side → said (take (pick side (2 ^ 28 + 1) 17) first) (take (pick side 17 (2 ^ 28 + 1)) second) ≡ said first second
    by side counts =
        let n : ℕ = pick side (2 ^ 28 + 1) 17 in
        let k : ℕ = pick side 17 (2 ^ 28 + 1) in
        let read : counted (take n first) (take k second) (which (take n first) (take k second)) ≡ counted first second (which first second) =
        ap (counted (take n first) (take k second)) (which_fronts n k first second (least side).0 (least side).1 ∙ counts) ∙ counted_part side ∙ ap (counted first second) (sym counts) in
        ap (λ b. cond (b && is_formatted (take k second)) (counted (take n first) (take k second) (which (take n first) (take k second))) (Err NotFormatted)) (formatted_front n first (least side).0)
        ∙ ap (λ b. cond (is_formatted first && b) (counted (take n first) (take k second) (which (take n first) (take k second))) (Err NotFormatted)) (formatted_front k second (least side).1)
        ∙ ap (λ (r : Result CheckpointRead CheckpointFault). cond (is_formatted first && is_formatted second) r (Err NotFormatted)) read

pub parts_refuse : (why : StoreFault) (one two first second : List ℕ) → said one two ≡ said first second → (contents one two ≡ Err why) ⊎ (why ≡ fault.NoMemory) → Refuses why first second
parts_refuse why one two first second same (inl e) = inl (ap as_stored (sym same) ∙ e)
parts_refuse why one two first second same (inr short) = inr (inr short)

-- where none counts, or a file doesn't begin as it has to, so it is of the files
fronts_say_nothing : (first second : List ℕ) → ((is_formatted (take 17 first) && is_formatted (take 17 second)) ≡ false) ⊎ (which (take 17 first) (take 17 second) ≡ None) → said first second ≡ Err NotFormatted
fronts_say_nothing first second (inl unformatted) =
    cond-false (is_formatted first && is_formatted second) _ _ (ap (λ b. b && is_formatted second) (sym (formatted_front 17 first (omega arith))) ∙ ap (λ b. is_formatted (take 17 first) && b) (sym (formatted_front 17 second (omega arith))) ∙ unformatted)
fronts_say_nothing first second (inr none) = elim (cases_Bool (is_formatted first && is_formatted second)) [
  | inl both ↦ cond-true (is_formatted first && is_formatted second) _ _ both ∙ ap (counted first second) (sym (which_fronts 17 17 first second (omega arith) (omega arith)) ∙ none)
  | inr not_both ↦ cond-false (is_formatted first && is_formatted second) _ _ not_both
]

pub fronts_refuse : (one two first second : List ℕ) (why : CheckpointFault) → one ≡ take 17 first → two ≡ take 17 second → why ≡ NotFormatted → ((is_formatted one && is_formatted two) ≡ false) ⊎ (which one two ≡ None) → Refuses (checkpoint_fault why) first second
fronts_refuse one two first second why p q is nothing =
    inl (ap as_stored (fronts_say_nothing first second (subst (λ (l : List ℕ). ((is_formatted (take 17 first) && is_formatted l) ≡ false) ⊎ (which (take 17 first) l ≡ None)) q
    (subst (λ (l : List ℕ). ((is_formatted l && is_formatted two) ≡ false) ⊎ (which l two ≡ None)) p nothing))) ∙ ap (λ (w : CheckpointFault). Err (checkpoint_fault w)) (sym is))

pub fronts_count : (side : Side) (one two first second : List ℕ) → one ≡ take 17 first → two ≡ take 17 second → which one two ≡ Some side → which first second ≡ Some side
fronts_count side one two first second p q w = sym (which_fronts 17 17 first second (omega arith) (omega arith)) ∙ ap (λ (l : List ℕ). which l (take 17 second)) (sym p) ∙ ap (which one) (sym q) ∙ w

-- the part of the file that counts is the file
picked_live : (side : Side) (first second : Option History) (one two : List ℕ) → length (file_on side one two) ≤ 2 ^ 28
    → Now first (λ m. (m ≡ durable m.bytes) × (one ≡ take (pick side (2 ^ 28 + 1) 17) m.bytes)) → Now second (λ m. (m ≡ durable m.bytes) × (two ≡ take (pick side 17 (2 ^ 28 + 1)) m.bytes))
    → Now (pick side first second) (λ m. m ≡ durable (file_on side one two))
picked_live First first second one two short p q h e = let r = p h e in r.0 ∙ ap durable (whole_front one h.now.bytes r.1 short)
picked_live Second first second one two short p q h e = let r = q h e in r.0 ∙ ap durable (whole_front two h.now.bytes r.1 short)

picked_idle : (side : Side) (first second : Option History) (one two : List ℕ)
    → Now first (λ m. (m ≡ durable m.bytes) × (one ≡ take (pick side (2 ^ 28 + 1) 17) m.bytes)) → Now second (λ m. (m ≡ durable m.bytes) × (two ≡ take (pick side 17 (2 ^ 28 + 1)) m.bytes))
    → Now (pick side second first) (λ m. (m ≡ durable m.bytes) × (file_on (other side) one two ≡ take 17 m.bytes))
picked_idle First first second one two p q h e = q h e
picked_idle Second first second one two p q h e = p h e

-- the other file is passed over
counts_as : (side : Side) (one two live : List ℕ) → which one two ≡ Some side → head_is_open (file_on side one two) ≡ true → head_is_open live ≡ true → epoch_of live ≡ epoch_of (file_on side one two)
    → which (first_of side live (file_on (other side) one two)) (second_of side live (file_on (other side) one two)) ≡ Some side
counts_as First one two live w o p same = which_first live one two (p ∙ sym o) same ∙ w
counts_as Second one two live w o p same = which_second live two one (p ∙ sym o) same ∙ w

-- so is the one that it is the front of
counts_whole : (side : Side) (part file live : List ℕ) → part ≡ take 17 file → which (first_of side live part) (second_of side live part) ≡ Some side → which (first_of side live file) (second_of side live file) ≡ Some side
counts_whole First part file live is w = which_second file part live (sym (ap head_is_open is ∙ open_front 17 file (omega arith))) (sym (ap epoch_of is ∙ epoch_front 17 file (omega arith))) ∙ w
counts_whole Second part file live is w = which_first file part live (sym (ap head_is_open is ∙ open_front 17 file (omega arith))) (sym (ap epoch_of is ∙ epoch_front 17 file (omega arith))) ∙ w

passed_over : (side : Side) (one two : List ℕ) (kept : CheckpointRead) (end : List ℕ) (m : Moment) → IsSaid one two side kept end → m ≡ durable m.bytes → file_on (other side) one two ≡ take 17 m.bytes → IsPassedOver side kept.epoch m
passed_over side one two kept end m s still is = record {
  at_rest = record { formatted = sym (formatted_front 17 m.bytes (omega arith)) ∙ ap is_formatted (sym is) ∙ formatted side s.one_formatted s.two_formatted; durable = still };
  counts = λ live opened epoch. counts_whole side (file_on (other side) one two) m.bytes live is (counts_as side one two live s.counts s.held.counts.opened opened (epoch ∙ sym s.held.counts.epoch_is));
}
  where
    formatted : (side : Side) → is_formatted one ≡ true → is_formatted two ≡ true → is_formatted (file_on (other side) one two) ≡ true
    formatted First f g = g
    formatted Second f g = f

-- which of two files counts is told by what was read of them
pub parts_count : (side : Side) (one two first second : List ℕ) → one ≡ take (pick side (2 ^ 28 + 1) 17) first → two ≡ take (pick side 17 (2 ^ 28 + 1)) second → which one two ≡ Some side → which first second ≡ Some side
parts_count First one two first second p q w = sym (which_fronts (2 ^ 28 + 1) 17 first second (omega arith) (omega arith)) ∙ ap (λ (l : List ℕ). which l (take 17 second)) (sym p) ∙ ap (which one) (sym q) ∙ w
parts_count Second one two first second p q w = sym (which_fronts 17 (2 ^ 28 + 1) first second (omega arith) (omega arith)) ∙ ap (λ (l : List ℕ). which l (take (2 ^ 28 + 1) second)) (sym p) ∙ ap (which one) (sym q) ∙ w

-- what was read of two disks
same_side : (at side : Side) (one two : List ℕ) (kept : CheckpointRead) → IsHeld kept (file_on side one two) → length (pick at two one) ≤ 17 → at ≡ side
same_side First First one two kept h short = refl
same_side First Second one two kept h short = let p : HeldParts kept h.lawful.image two = held_parts kept two h in absurd (omega (arith, p.behind, p.within, short))
same_side Second First one two kept h short = let p : HeldParts kept h.lawful.image one = held_parts kept one h in absurd (omega (arith, p.behind, p.within, short))
same_side Second Second one two kept h short = refl

pub parts_seen : (first second : Option History) (at side : Side) (kept : CheckpointRead) (one two end : List ℕ) → IsSaid one two side kept end → length (pick at two one) ≤ 17
    → Now first (λ m. m ≡ durable m.bytes) → Now second (λ m. m ≡ durable m.bytes) → Now first (λ m. one ≡ take (pick at (2 ^ 28 + 1) 17) m.bytes) → Now second (λ m. two ≡ take (pick at 17 (2 ^ 28 + 1)) m.bytes) → IsSeen first second side kept end
parts_seen first second at side kept one two end s short p q r t =
    let same : at ≡ side = same_side at side one two kept s.held short in
    record {
      one = one;
      two = two;
      first_holds = λ h e. (p h e, r h e ∙ ap (λ s. take (pick s (2 ^ 28 + 1) 17) h.now.bytes) same);
      second_holds = λ h e. (q h e, t h e ∙ ap (λ s. take (pick s 17 (2 ^ 28 + 1)) h.now.bytes) same);
      said = s;
    }

module _ (first second : Option History) (side : Side) (kept : CheckpointRead) (end : List ℕ) (s : IsSeen first second side kept end) where
  live_is : Now (pick side first second) (λ m. m ≡ durable (file_on side s.one s.two))
  live_is = picked_live side first second s.one s.two s.said.held.short s.first_holds s.second_holds

  idle_is : Now (pick side second first) (λ m. (m ≡ durable m.bytes) × (file_on (other side) s.one s.two ≡ take 17 m.bytes))
  idle_is = picked_idle side first second s.one s.two s.first_holds s.second_holds

  held_now : (m : Moment) → m ≡ durable (file_on side s.one s.two) → HoldsRead kept s.said.held.lawful.image m
  held_now m is = subst (HoldsRead kept s.said.held.lawful.image) (sym is) (record { durable = refl; held = s.said.held; image_is = refl })

  pub seen_read : IsRead (pick side first second) (pick side second first) side kept
  seen_read = record {
    lawful = s.said.held.lawful;
    holds = λ h e. held_now h.now (live_is h e);
    passed = λ h e. passed_over side s.one s.two kept end h.now s.said (idle_is h e).0 (idle_is h e).1;
  }

  pub seen_says : NowRead first second (λ one two. said one two ≡ Ok kept)
  seen_says h e k f =
      let p = s.first_holds h e in
      let q = s.second_holds k f in
      sym (said_parts side s.one s.two h.now.bytes k.now.bytes p.1 q.1 (counts h e k f)) ∙ s.said.says
    where
      counts : (h : History) → first ≡ Some h → (k : History) → second ≡ Some k → which h.now.bytes k.now.bytes ≡ Some side
      counts h e k f = parts_count side s.one s.two h.now.bytes k.now.bytes (s.first_holds h e).1 (s.second_holds k f).1 s.said.counts

  pub seen_room : kept.start + length (spelled kept.records) < 2 ^ 64
  seen_room = room_within kept (file_on side s.one s.two) s.said.held s.said.room

  pub seen_found : IsFound kept.start kept.gate kept.records end (pick side first second)
  seen_found =
      let file : List ℕ = file_on side s.one s.two in
      let p : HeldParts kept s.said.held.lawful.image file = held_parts kept file s.said.held in
      file_is_found kept.start file (record { records = kept.records; gate = kept.gate }) (omega (arith, p.behind)) p.within p.reads end (pick side first second) s.said.room s.said.end_is live_is

-- ---- an opening

module _ (law : RecordsAreRead) (kept : CheckpointRead) where
  -- a file with this front and this reading
  reads_again : (one file : List ℕ) → (h : IsHeld kept one) → take kept.start file ≡ take kept.start one → reading kept.start file ≡ reading kept.start one → ReadsAs (with_image kept.epoch kept.number h.lawful.image) kept.records file
  reads_again one file h front same =
      let p : HeldParts kept h.lawful.image one = held_parts kept one h in
      record {
        front_stays = ap (λ n. take n file) p.long ∙ front ∙ p.front;
        reads = ap (λ n. reading n file) p.long ∙ same ∙ ap (λ n. reading n one) (sym p.long) ∙ h.reads.reads;
      }

  says_it : (file : List ℕ) → (c : IsCheckpoint kept) → length file ≤ 2 ^ 28 → ReadsAs (with_image kept.epoch kept.number c.image) kept.records file → file_contents file ≡ Ok kept
  says_it file c short r = contents_are law kept kept.records file c (gate_fits kept c) (record { reads = r; short = short }) ∙ ap (λ (read : CheckpointRead). Ok read) (sym c.is)

  possible : (image : List ℕ) (before : Moment) → HoldsRead kept image before → (file : List ℕ) → JournalWasPossible kept.start before file → WasPossible before file
  possible image before holds file w =
      let image_is : w.image ≡ before.bytes = only before.bytes w.image (subst (λ m. IsImage m w.image) holds.durable w.was_left) in
      let h : IsHeld kept w.image = subst (IsHeld kept) (sym image_is) holds.held in
      let r = reads_again w.image file h w.front w.reads in
      let long = w.ends (record { records = kept.records; gate = kept.gate }) (held_parts kept w.image h).reads in
      let short : length file ≤ 2 ^ 28 = omega (arith, long, h.short, h.lawful.fits) in
      record {
        image = w.image;
        was_left = w.was_left;
        says = held_as kept file w.image (reads_counts law kept kept.records file h.lawful r) h.counts (says_it file h.lawful short r) (says_it w.image h.lawful h.short h.reads);
      }

  pub open_stays : (image : List ℕ) (a b : Option History) → Now a (HoldsRead kept image) → JournalStaysPossible kept.start a b → StaysPossible a b
  open_stays image a b holds stays before was =
      StaysIn-weaker (WasPossible before) (stays before was) (λ h e file w. possible image before (subst (HoldsRead kept image) (was h e) (holds h e)) file w)

  front_held : (image : List ℕ) (a : Option History) → Now a (HoldsRead kept image) → Now a (λ m. take kept.start m.bytes ≡ with_image kept.epoch kept.number image)
  front_held image a holds h e = (held_parts kept h.now.bytes (holds h e).held).front ∙ ap (with_image kept.epoch kept.number) (holds h e).image_is

  -- what the disk stores behind it
  pub opened_stored : (live idle b : Option History) (side : Side) (start gate : ℕ) → IsRead live idle side kept → start ≡ kept.start → gate ≡ kept.gate
      → ((front : List ℕ) → Now live (λ m. take kept.start m.bytes ≡ front) → Keeps front kept.start kept.gate kept.records b) → Now b (IsStored kept.epoch start gate kept)
  opened_stored live idle b side start gate read at to rest h e =
      let front : List ℕ = with_image kept.epoch kept.number read.lawful.image in
      let keeps : IsAtRest front kept.start kept.gate kept.records h.now = rest front (front_held read.lawful.image live read.holds) h e in
      subst (λ n. IsStored kept.epoch n gate kept h.now) (sym at)
      (subst (λ n. IsStored kept.epoch kept.start n kept h.now) (sym to)
      (record { is_of = refl; lawful = read.lawful; rest = keeps }))

-- what was possible of each disk is said together
pub said_together : (one two : Moment) (first second : List ℕ) → WasPossible one first → WasPossible two second
    → (before : List ℕ) × (after : List ℕ) × IsImage one before × IsImage two after × (said first second ≡ said before after)
said_together one two first second w v = (w.image, v.image, w.was_left, v.was_left, w.says.first second ∙ v.says.second w.image)
