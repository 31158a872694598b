-- What an opening finds: where the records lead that were loaded, and why they may not.
use Rattle.std.proofs.Common.{◌≡◌, ℕ, ◌+◌, ◌<◌, ◌≤◌, ◌^◌, List, [], ◌∷◌, length, map, Option, Result, Ok, Err, ◌⊎◌, inl, inr, refl, sym, ◌∙◌, ap, subst, arith}
use Rattle.std.specs.Prelude.{◌≢◌}
use Rattle.racf_outside.specs.Causes.{Rose}
use Rattle.racf_outside.specs.Disk.{History, goes}
use Rattle.racf_outside.specs.Moments.{synced}
use Rattle.racf_outside.proofs.Rises.{Rose-later}
use Rattle.racf_profiles.specs.NewDatabase.{new_database}
use Rattle.racf_profiles.specs.declared.rows.Rows.{Rows}
use Rattle.raclist_image.specs.Imaged.{Imaged}
use Rattle.racf_journal.specs.Opening.{OnlySynced}
use Rattle.racf_journal.specs.Reading.{spelled}
use Rattle.checkpoint_disks.specs.declared.counting.Side.{Side}
use Rattle.checkpoint_disks.specs.declared.counting.Side.TheVariants.{First, Second}
use Rattle.checkpoint_disks.specs.Files.{CheckpointRead}
use Rattle.checkpoint_disks.specs.Compacting.{new_checkpoint, IsCheckpoint}
use Rattle.racf_checkpoint.specs.declared.fault.StoreFault.{StoreFault}
use Rattle.racf_checkpoint.specs.declared.fault.StoreFault.TheVariants as fault
use Rattle.racf_checkpoint.specs.Contents.{Says, Refuses as RefusesToLoad}
use Rattle.racf_checkpoint.specs.Stored.{Stores, StoreOn, NowRead, StaysPossible, pick, disk_on}
use Rattle.racf_checkpoint.proofs.Syncing.{possible_joined}
use Rattle.journal_records.specs.declared.record.CommandRecord.{CommandRecord}
use Rattle.journal_records.specs.declared.record.RecordFault.{RecordFault}
use Rattle.journal_records.specs.Reading.{record_of}
use Rattle.desk_rules.specs.declared.refusal.Refusal.{Refusal}
use Rattle.desk_rules.specs.Position.{Position, at_checkpoint, start_behind, first_position, restarted}
use Rattle.desk_rules.specs.Made.{DeskOn, is_fresh}
use Rattle.desk_rules.specs.Outcome.{outcome}
use Rattle.desk_rules.specs.History.{at, IsLegal, HadRoom}
use Rattle.desk_rules.specs.Reopening.{IsReopened, LeadOn}
use Rattle.desk_rules.specs.Recovery.{unless_faulty, outcome_again, behind_outcome, behind_record, behind_records, base_of, recovered_from, recovered, standing, Refuses}
use Rattle.desk_rules.specs.Durable.{LeadTo, SaysEpoch, StandsThere}
use Rattle.desk_rules.proofs.RecoveryLaws.{standing_is}

-- What is read of both disks has more, where that is known of every file.
pub read_weaker : (first second : Option History) (P Q : (first second : List ℕ) → Type 0) → ((one other : List ℕ) → P one other → Q one other) → NowRead first second P → NowRead first second Q
read_weaker first second P Q weaker read h told k also = weaker h.now.bytes k.now.bytes (read h told k also)

-- The files stand for where the checkpoint leads that they say.
pub found : (first second : Option History) (kept : CheckpointRead) (position : Position) → NowRead first second (Says kept) → recovered kept ≡ Ok position
    → NowRead first second (λ one other. standing one other ≡ Ok position)
found first second kept position says leads =
    read_weaker first second (Says kept) (λ one other. standing one other ≡ Ok position) (λ one other said. standing_is kept one other said ∙ leads) says

-- The epoch of the checkpoint that they say.
pub epoch_said : (first second : Option History) (kept : CheckpointRead) (epoch : ℕ) → NowRead first second (Says kept) → epoch ≡ kept.epoch → NowRead first second (SaysEpoch epoch)
epoch_said first second kept epoch says counts = read_weaker first second (Says kept) (SaysEpoch epoch) (λ one other said. (kept, said, sym counts)) says

-- Where records lead, each listed copy is made anew already.
anew : (found : Result Position StoreFault) (position : Position) → unless_faulty found (λ at. Ok (restarted at)) ≡ Ok position → position ≡ restarted position
anew (Ok at) position leads =
    let same : restarted at ≡ position = cc in
    subst (λ (p : Position). p ≡ restarted p) same refl
anew (Err why) position leads = cc

leads_anew : (kept : CheckpointRead) (position : Position) → recovered kept ≡ Ok position → LeadTo position kept
leads_anew kept position leads = leads ∙ ap (λ (p : Position). Ok p) (anew (behind_records kept.records (base_of kept)) position leads)

-- What is recovered of a checkpoint's parts is what is recovered of it.
pub of_parts : (kept : CheckpointRead) (rows : Rows) (number start : ℕ) (records : List (List ℕ)) → rows ≡ kept.rows → number ≡ kept.number → start ≡ kept.start → records ≡ kept.records
    → recovered kept ≡ recovered_from (at_checkpoint rows number start) records
of_parts kept rows number start records rows_are counts starts are = sym (
    ap (λ (r : Rows). recovered_from (at_checkpoint r number start) records) rows_are
    ∙ ap (λ n. recovered_from (at_checkpoint kept.rows n start) records) counts
    ∙ ap (λ n. recovered_from (at_checkpoint kept.rows kept.number n) records) starts
    ∙ ap (recovered_from (base_of kept)) are)

-- The last gate of a checkpoint is behind its records.
counted : (kept : CheckpointRead) → IsCheckpoint kept → kept.gate ≡ kept.start + length (spelled kept.records)
counted kept lawful = ap (λ (read : CheckpointRead). read.gate) lawful.is

-- The store that was opened stands where its checkpoint leads.
pub stands_there : {D : Type 0} (tells : D → Option History) (store : StoreOn D) (kept : CheckpointRead) (position : Position) → IsCheckpoint kept → Stores tells store kept
    → store.epoch ≡ kept.epoch → store.journal.gate ≡ kept.gate → position.gate ≡ kept.start + length (spelled kept.records) → recovered kept ≡ Ok position → StandsThere tells store position
stands_there tells store kept position lawful stores counts at ends leads = record {
  gate = at ∙ counted kept lawful ∙ sym ends;
  kept = kept;
  ends = ends ∙ sym (counted kept lawful);
  epoch = sym counts;
  lawful = lawful;
  stores = stores;
  leads = leads_anew kept position leads;
}

-- The files lead on to where the checkpoint does that they say.
pub found_along : (first second : Option History) (kept : CheckpointRead) (position : Position) → NowRead first second (Says kept) → IsReopened (base_of kept) kept.records position
    → NowRead first second (LeadOn position)
found_along first second kept position says goes = read_weaker first second (Says kept) (LeadOn position) (λ one other said. (kept, said, goes)) says

-- What a checkpoint's records lead to goes on as the desk that wrote them, by the laws of histories.
pub goes_on : ((base : Position) (records : List (List ℕ)) (position : Position) → recovered_from base records ≡ Ok position
    → (history : List CommandRecord) × IsLegal base history × (map record_of records ≡ map Ok history) × (position ≡ restarted (at base history)))
    → ((base : Position) (history : List CommandRecord) → (at base history).gate < 2 ^ 28 → HadRoom base history)
    → ((position : Position) (id : List ℕ) (group : Option (List ℕ)) (text : List ℕ) → outcome (restarted position) id group text ≡ outcome position id group text)
    → ((base : Position) (history : List CommandRecord) → restarted (at (restarted base) history) ≡ restarted (at base history))
    → (kept : CheckpointRead) (position : Position) → IsCheckpoint kept → position.gate ≡ kept.start + length (spelled kept.records) → recovered kept ≡ Ok position
    → IsReopened (base_of kept) kept.records position
goes_on leads room outcomes goes kept position lawful ends is =
    let (history, legal, reads, behind) = leads (base_of kept) kept.records position is in
    let gate : kept.gate ≡ (at (base_of kept) history).gate = counted kept lawful ∙ sym ends ∙ ap (λ (p : Position). p.gate) behind in
    record {
      history = history;
      legal = legal;
      room = room (base_of kept) history (subst (λ n. n < 2 ^ 28) gate lawful.fits);
      spelled = reads;
      behind = behind;
      outcomes = λ id group text. ap (λ (p : Position). outcome p id group text) behind ∙ outcomes (at (base_of kept) history) id group text;
      later = λ more. ap (λ (p : Position). restarted (at p more)) behind ∙ goes (at (base_of kept) history) more;
    }

-- A new database, whose journal begins behind its image, is at the first position,
pub first_is : (image : Imaged) (gate : ℕ) → image ≡ first_position.image → gate ≡ start_behind new_database → record { image = image; gate = gate } ≡ first_position
first_is image gate pictures starts = ap (λ (i : Imaged). record { image = i; gate = gate }) pictures ∙ ap (λ n. record { image = first_position.image; gate = n }) starts

-- and its store stands there.
pub stands_first : {D : Type 0} (tells : D → Option History) (store : StoreOn D) (position : Position) → position ≡ first_position → IsCheckpoint (new_checkpoint 1 0 new_database)
    → Stores tells store (new_checkpoint 1 0 new_database) → store.epoch ≡ 1 → store.journal.gate ≡ position.gate → StandsThere tells store position
stands_first tells store position is lawful stores counts at = record {
  gate = at;
  kept = new_checkpoint 1 0 new_database;
  ends = ap (λ (p : Position). p.gate) is;
  epoch = sym counts;
  lawful = lawful;
  stores = stores;
  leads = ap (λ (p : Position). Ok (restarted p)) (sym is);
}

-- A fresh desk is one at its own store.
pub fresh_at : {D : Type 0} (desk : DeskOn D) (position there : Position) (store : StoreOn D) → desk ≡ is_fresh position store → position ≡ there → desk ≡ is_fresh there desk.store
fresh_at {D} desk position there store is same = is ∙ ap (λ (p : Position). is_fresh p store) same ∙ ap (is_fresh there) (sym (ap (λ (d : DeskOn D). d.store) is))

-- ---- two disks, one call after another

-- Of two disks one went on, and the other stayed as it was: what was known of each by its role is known of the two that
-- they are now, in their order.
first_of_two : {D : Type 0} (side : Side) (live idle one two : D) (W Q : D → Type 0) → (W live → Q (pick side one two)) → (W idle → Q (pick side two one)) → W (pick side live idle) → Q one
first_of_two First live idle one two W Q goes stays w = goes w
first_of_two Second live idle one two W Q goes stays w = stays w

second_of_two : {D : Type 0} (side : Side) (live idle one two : D) (W Q : D → Type 0) → (W live → Q (pick side one two)) → (W idle → Q (pick side two one)) → W (pick side idle live) → Q two
second_of_two First live idle one two W Q goes stays w = stays w
second_of_two Second live idle one two W Q goes stays w = goes w

-- The one that counts was opened, and the other stayed as it was.
pub record GoesOn {D : Type 0} (tells : D → Option History) (faults : D → ℕ) (side : Side) (live idle one two : D) : Type 0 where
  pub moments : StaysPossible (tells live) (tells (pick side one two))
  pub no_fewer : faults live ≤ faults (pick side one two)
  pub stays : pick side two one ≡ idle

-- So it was where a store was made of them.
pub store_goes : {D : Type 0} (tells : D → Option History) (faults : D → ℕ) (side : Side) (live idle : D) (store : StoreOn D) → store.side ≡ side → store.idle ≡ idle
    → StaysPossible (tells live) (tells store.journal.disk) → faults live ≤ faults store.journal.disk → GoesOn tells faults side live idle (disk_on First store) (disk_on Second store)
store_goes {D} tells faults side live idle store at same moments no_fewer = subst (λ (s : Side). GoesOn tells faults s live idle (disk_on First store) (disk_on Second store)) at (by store.side)
  where
    by : (s : Side) → GoesOn tells faults s live idle (pick s store.journal.disk store.idle) (pick s store.idle store.journal.disk)
    by First = record { moments = moments; no_fewer = no_fewer; stays = same }
    by Second = record { moments = moments; no_fewer = no_fewer; stays = same }

module _ {D : Type 0} (tells : D → Option History) (faults : D → ℕ) (side : Side) (live idle one two : D) (on : GoesOn tells faults side live idle one two) where
  -- What a call leaves behind one that only synced a disk.
  abbrev Synced : Option History → D → Type 0
  Synced a disk = StaysPossible a (tells disk) × OnlySynced a (tells disk)

  went : (a : Option History) → Synced a live → StaysPossible a (tells (pick side one two))
  went a w = possible_joined a (tells live) (tells (pick side one two)) w.1 on.moments

  stayed : (a : Option History) → Synced a idle → StaysPossible a (tells (pick side two one))
  stayed a w = subst (λ (disk : D). StaysPossible a (tells disk)) (sym on.stays) w.0

  pub first_stays : (a : Option History) → StaysPossible a (tells (pick side live idle)) → OnlySynced a (tells (pick side live idle)) → StaysPossible a (tells one)
  first_stays a moments synced = first_of_two side live idle one two (Synced a) (λ disk. StaysPossible a (tells disk)) (went a) (stayed a) (moments, synced)

  pub second_stays : (a : Option History) → StaysPossible a (tells (pick side idle live)) → OnlySynced a (tells (pick side idle live)) → StaysPossible a (tells two)
  second_stays a moments synced = second_of_two side live idle one two (Synced a) (λ disk. StaysPossible a (tells disk)) (went a) (stayed a) (moments, synced)

  more : (n : ℕ) → n ≤ faults live → n ≤ faults (pick side one two)
  more n w = let on_more = on.no_fewer in omega arith

  same : (n : ℕ) → n ≤ faults idle → n ≤ faults (pick side two one)
  same n w = subst (λ (disk : D). n ≤ faults disk) (sym on.stays) w

  pub first_no_fewer : (n : ℕ) → n ≤ faults (pick side live idle) → n ≤ faults one
  first_no_fewer n w = first_of_two side live idle one two (λ disk. n ≤ faults disk) (λ disk. n ≤ faults disk) (more n) (same n) w

  pub second_no_fewer : (n : ℕ) → n ≤ faults (pick side idle live) → n ≤ faults two
  second_no_fewer n w = second_of_two side live idle one two (λ disk. n ≤ faults disk) (λ disk. n ≤ faults disk) (more n) (same n) w

-- A fault of the one that counts is one of the two.
pub one_rose : {D : Type 0} (faults : D → ℕ) (side : Side) (live idle one two : D) (n m : ℕ) → n ≤ faults (pick side live idle) → m ≤ faults (pick side idle live)
    → Rose (faults live) (faults (pick side one two)) → Rose n (faults one) ⊎ Rose m (faults two)
one_rose faults First live idle one two n m before other rose = inl (Rose-later n (faults live) (faults one) before rose)
one_rose faults Second live idle one two n m before other rose = inr (Rose-later m (faults live) (faults two) other rose)

-- ---- faults

-- What isn't loaded isn't opened.
not_loaded : (why : StoreFault) (first second : List ℕ) → RefusesToLoad why first second → Refuses why first second
not_loaded why first second (inl said) = inl (ap (λ (read : Result CheckpointRead StoreFault). unless_faulty read recovered) said)
not_loaded why first second (inr other) = inr other

pub refused_to_load : (first second : Option History) (why : StoreFault) → NowRead first second (RefusesToLoad why) → NowRead first second (Refuses why)
refused_to_load first second why = read_weaker first second (RefusesToLoad why) (Refuses why) (not_loaded why)

not_recovered : (why : StoreFault) (kept : CheckpointRead) (first second : List ℕ) → (recovered kept ≡ Err why) ⊎ (why ≡ fault.NoMemory) → Says kept first second → Refuses why first second
not_recovered why kept first second (inl leads) said = inl (standing_is kept first second said ∙ leads)
not_recovered why kept first second (inr memory) said = inr (inr memory)

pub refused_to_recover : (first second : Option History) (why : StoreFault) (kept : CheckpointRead) → NowRead first second (Says kept) → (recovered kept ≡ Err why) ⊎ (why ≡ fault.NoMemory)
    → NowRead first second (Refuses why)
refused_to_recover first second why kept says fails = read_weaker first second (Says kept) (Refuses why) (λ one other. not_recovered why kept one other fails) says

-- Records lead nowhere only by damage.
abbrev IsDamage : StoreFault → Type 0
IsDamage why = (place : ℕ) × (why ≡ fault.Damaged place)

damaged_outcome : (position : Position) (outcome : Result CommandRecord Refusal) (why : StoreFault) → behind_outcome position outcome ≡ Err why → IsDamage why
damaged_outcome position (Ok given) why h = cc
damaged_outcome position (Err refusal) why h = (position.gate, cc)

damaged_record : (position : Position) (read : Result CommandRecord RecordFault) (why : StoreFault) → behind_record position read ≡ Err why → IsDamage why
damaged_record position (Ok given) why h = damaged_outcome position (outcome_again position given) why h
damaged_record position (Err refusal) why h = (position.gate, cc)

damaged_by : (records : List (List ℕ)) (position : Position) (why : StoreFault) → behind_records records position ≡ Err why → IsDamage why
damaged_by [] position why h = cc
damaged_by (bytes ∷ records) position why h = by (λ next. damaged_by records next why) (behind_record position (record_of bytes)) refl h
  where
    by : ((next : Position) → behind_records records next ≡ Err why → IsDamage why) → (next : Result Position StoreFault) → behind_record position (record_of bytes) ≡ next
        → unless_faulty next (behind_records records) ≡ Err why → IsDamage why
    by after (Ok next) is h = after next h
    by after (Err other) is h = damaged_record position (record_of bytes) why (is ∙ h)

damaged : (found : Result Position StoreFault) (why : StoreFault) → unless_faulty found (λ at. Ok (restarted at)) ≡ Err why → found ≡ Err why
damaged (Ok at) why h = cc
damaged (Err other) why h = h

-- So no disk failed, and none was full.
pub only_damage : (kept : CheckpointRead) (why : StoreFault) → (recovered kept ≡ Err why) ⊎ (why ≡ fault.NoMemory) → (why ≢ fault.Full) × (why ≢ fault.DiskFault)
only_damage kept why (inl leads) =
    let (place, is) = damaged_by kept.records (base_of kept) why (damaged (behind_records kept.records (base_of kept)) why leads) in (λ full. cc, λ failed. cc)
only_damage kept why (inr memory) = (λ full. cc, λ failed. cc)
