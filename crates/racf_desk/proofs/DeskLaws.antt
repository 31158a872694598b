-- What a desk keeps on its disks: how an append leads them on, and what crashes leave.
use Rattle.std.proofs.Common.{◌≡◌, ℕ, ◌+◌, ◌-◌, ◌<◌, ◌≤◌, ◌^◌, Bool, true, false, cond, ltb, List, [], ◌∷◌, ◌++◌, length, Option, Some, None, Result, Ok, Err, ◌⊎◌, inl, inr, refl, sym, ◌∙◌, ap, subst, arith, length-append}
use Rattle.std.specs.Prelude.{nat_lt, min, MatchOption, IsOk, IsSome}
use Rattle.std.specs.Option.{option_map}
use Rattle.std.specs.Arc.{arc_value}
use Rattle.std.proofs.Math.Nat.{min-eq_left}
use Rattle.std.proofs.lemmas.Bool.{ltb-true, ltb-false}
use Rattle.racf_outside.specs.Crashes.{Leaves, StaysIn}
use Rattle.racf_outside.specs.Disk.{History, Now}
use Rattle.racf_outside.specs.Moments.{Moment}
use Rattle.racf_outside.proofs.Runs.{Leaves-weaker, StaysIn-none, StaysIn-weaker}
use Rattle.racf_profiles.specs.Edits.{changed}
use Rattle.racf_profiles.specs.declared.rows.Rows.{Rows}
use Rattle.database_image.specs.Image.{image_of}
use Rattle.racf_journal.specs.Reading.{IsRecord, spelled as spelled_records}
use Rattle.checkpoint_disks.specs.declared.counting.Side.{Side}
use Rattle.checkpoint_disks.specs.declared.counting.Side.TheVariants.{First, Second}
use Rattle.checkpoint_disks.specs.Files.{CheckpointRead}
use Rattle.checkpoint_disks.specs.Compacting.{new_checkpoint, IsCheckpoint, first_of as first_file, second_of as second_file}
use Rattle.racf_checkpoint.specs.Contents.{and_record, Says, SaysEither}
use Rattle.racf_checkpoint.specs.Stored.{IsStored, IsPassedOver, Beside, Stores, IsReady as IsStoreReady, StoreOn, disk_on, other}
use Rattle.journal_records.specs.declared.record.CommandRecord.{CommandRecord}
use Rattle.journal_records.specs.Spelling.{spelled}
use Rattle.racf_database.specs.Contents.{Contents as Database}
use Rattle.desk_rules.specs.declared.answers.Ready.{Ready}
use Rattle.racf_desk.specs.declared.desk.Desk.TheInside.{Inside}
use Rattle.raclist_image.specs.Imaged.{Imaged}
use Rattle.desk_rules.specs.declared.refusal.Refusal.{Refusal}
use Rattle.desk_rules.specs.declared.refusal.Refusal.TheVariants as refusal
use Rattle.desk_rules.specs.Images.{IsImageOf}
use Rattle.desk_rules.specs.Outcome.{most_bytes, first_of, rules_of, journal_full, number_spent, refusal_of, outcome_in, outcome}
use Rattle.desk_rules.specs.Position.{Position, start_behind, compacted, position_after, restarted}
use Rattle.desk_rules.specs.Made.{Made, DeskOn, made_at, made_in, made_of_outcome, installed, is_fresh, IsRecorded}
use Rattle.desk_rules.specs.Recovery.{base_of, recovered, StandsFor, StandsForEither, outcome_again}
use Rattle.desk_rules.specs.Durable.{LeadTo, StandsThere, LeavesIt, LeavesCheckpoint, StaysEither, StaysThere, stands_at}
use Rattle.racf_desk.specs.Kept.{contents_of, IsReady, IsKept}
use Rattle.desk_rules.proofs.RecoveryLaws.{accepted_leads, leads_on, standing_is}

-- ---- what was made

-- what isn't refused by the first of three tests is refused by none
not_refused : (one two three : Option Refusal) → first_of (one ∷ two ∷ three ∷ []) ≡ None → two ≡ None
not_refused (Some why) two three h = cc
not_refused None (Some why) three h = cc
not_refused None None three h = refl

-- where the journal isn't full, the record fits
has_room : (gate : ℕ) (given : CommandRecord) → journal_full gate given ≡ None → (gate + 1) + (length (spelled given) + 1) ≤ 2 ^ 28
has_room gate given h = by (nat_lt most_bytes ((gate + 1) + (length (spelled given) + 1))) refl h
  where
    by : (b : Bool) → nat_lt most_bytes ((gate + 1) + (length (spelled given) + 1)) ≡ b → cond b (Some refusal.JournalFull) None ≡ None → (gate + 1) + (length (spelled given) + 1) ≤ 2 ^ 28
    by true is h = cc
    by false is h = ltb-false most_bytes ((gate + 1) + (length (spelled given) + 1)) is

-- What is made of an accepted command leads on from the position.
leading : (position : Position) (given : CommandRecord) → IsRecorded given → outcome_again position given ≡ Ok given
    → (kept : CheckpointRead) → IsCheckpoint kept → LeadTo position kept → LeadTo (installed position (made_at position.image given)) (and_record kept (spelled given))
leading position given recorded accepted kept lawful leads = leads_on (base_of kept) position given kept.records recorded.read accepted leads

ready_at : (database : Database) (position : Position) (given : CommandRecord) (made : Made) → made ≡ made_at position.image given
    → database.prepared ≡ Some made.change → IsImageOf (changed made.change.edits database.rows) made.behind
    → IsRecorded given → outcome_again position given ≡ Ok given → refusal_of position.gate position.image.generation position.image.state.rows given ≡ None → IsReady database position made
ready_at database position given made is prepared image recorded accepted unrefused =
    let rows = position.image.state.rows in
    let at : Made = made_at position.image given in
    record {
      prepared = prepared;
      image = image;
      leads = subst (λ (m : Made). (kept : CheckpointRead) → IsCheckpoint kept → LeadTo position kept → LeadTo (installed position m) (and_record kept m.entry)) (sym is) (leading position given recorded accepted);
      whole = subst (λ (m : Made). IsRecord m.entry) (sym is) recorded.whole;
      short = subst (λ (m : Made). length m.entry ≤ 30020) (sym is) recorded.short;
      fits = subst (λ (m : Made). (position.gate + 1) + (length m.entry + 1) ≤ 2 ^ 28) (sym is)
          (has_room position.gate given (not_refused (rules_of rows given) (journal_full position.gate given) (number_spent position.image.generation) unrefused));
    }

-- the same of a command with that outcome over the rows
pub ready : (database : Database) (position : Position) (number : ℕ) (rows : Rows) (id : List ℕ) (group : Option (List ℕ)) (text : List ℕ) (given : CommandRecord) (value made : Ready)
    → number ≡ position.image.generation → position.image.state.rows ≡ rows → database.rows ≡ rows
    → Ok given ≡ outcome_in position.gate number rows id group text → refusal_of position.gate number rows given ≡ None → IsRecorded given
    → value ≡ made → made_in made ≡ made_at position.image given → database.prepared ≡ Some made.change → IsImageOf (changed made.change.edits rows) (arc_value made.image)
    → IsReady database position (made_in value)
ready database position number rows id group text given value made counts shows same decided unrefused recorded seen is prepared image =
    let here : outcome position id group text ≡ Ok given =
    ap (λ (r : Rows). outcome_in position.gate position.image.generation r id group text) shows ∙ ap (λ n. outcome_in position.gate n rows id group text) (sym counts) ∙ sym decided in
    subst (λ (r : Ready). IsReady database position (made_in r)) (sym seen)
    (ready_at database position given (made_in made) is prepared (subst (λ (r : Rows). IsImageOf (changed made.change.edits r) (arc_value made.image)) (sym same) image) recorded
    (accepted_leads position id group text given here)
    (ap (λ (r : Rows). refusal_of position.gate position.image.generation r given) shows ∙ ap (λ n. refusal_of position.gate n rows given) (sym counts) ∙ unrefused))

-- Behind an accepted command stands what was made of it.
pub behind_made : (position : Position) (one : Result CommandRecord Refusal) (made : Made) → made_of_outcome position.image one ≡ Ok made → position_after position one ≡ installed position made
behind_made position (Ok given) made h =
    let same : made_at position.image given ≡ made = cc in
    ap (installed position) same
behind_made position (Err why) made h = cc

-- only of an accepted command anything is made
pub made_of_accepted : (image : Imaged) (one : Result CommandRecord Refusal) (made : Made) → made_of_outcome image one ≡ Ok made → IsOk one
made_of_accepted image (Ok given) made h = refl
made_of_accepted image (Err why) made h = absurd cc

-- what an option that is there has
pub some_has : {X : Type 0} (P : X → Type 0) (o : Option X) (x : X) → o ≡ Some x → MatchOption o (Unit {0}) P → P x
some_has P o x is h = subst (λ (one : Option _). MatchOption one (Unit {0}) P) is h

was_some : {X Y : Type 0} (f : X → Y) (o : Option X) (y : Y) → option_map f o ≡ Some y → IsSome o
was_some f None y is = cc
was_some f (Some x) y is = refl

-- ---- what crashes leave

-- the law of the store: of what is stored every crash leaves files that say it
abbrev pub StoredIsSaid : Type 0
StoredIsSaid = (side : Side) (epoch start gate : ℕ) (kept : CheckpointRead) (live : Moment) (idle : Option History)
    → IsStored epoch start gate kept live → Now idle (IsPassedOver side epoch) → Leaves (Beside side idle (Says kept)) live

-- Files stand for a position where the checkpoint leads there that they say.
standing_by : (position : Position) (kept : CheckpointRead) → LeadTo position kept → (first second : List ℕ) → Says kept first second → StandsFor position first second
standing_by position kept leads first second says = standing_is kept first second says ∙ leads

-- the same of the one or the other
standing_by_either : (position next : Position) (kept new : CheckpointRead) → LeadTo position kept → LeadTo next new
    → (first second : List ℕ) → SaysEither kept new first second → StandsForEither position next first second
standing_by_either position next kept new leads on first second (inl says) = inl (standing_by position kept leads first second says)
standing_by_either position next kept new leads on first second (inr says) = inr (standing_by next new on first second says)

-- what a file has beside whatever the other disk leaves, where it has more than that
beside_weaker : (side : Side) (P Q : (first second : List ℕ) → Type 0) (told : Option History) → ((first second : List ℕ) → P first second → Q first second) → (file : List ℕ) → Beside side told P file → Beside side told Q file
beside_weaker side P Q told weaker file p h e =
    Leaves-weaker (λ image. P (first_file side file image) (second_file side file image)) (λ image. Q (first_file side file image) (second_file side file image)) h.now
    (λ image. weaker (first_file side file image) (second_file side file image)) (p h e)

beside_leaves : (side : Side) (P Q : (first second : List ℕ) → Type 0) (told : Option History) → ((first second : List ℕ) → P first second → Q first second) → (m : Moment) → Leaves (Beside side told P) m → Leaves (Beside side told Q) m
beside_leaves side P Q told weaker m = Leaves-weaker (Beside side told P) (Beside side told Q) m (beside_weaker side P Q told weaker)

-- the two disks of a pair, the other way round
turned_files : (side : Side) (P : (first second : List ℕ) → Type 0) (live idle : List ℕ) → P (first_file side live idle) (second_file side live idle) → P (first_file (other side) idle live) (second_file (other side) idle live)
turned_files First P live idle p = p
turned_files Second P live idle p = p

turned : (side : Side) (P : (first second : List ℕ) → Type 0) (live idle : Option History) → Now live (Leaves (Beside side idle P)) → Now idle (Leaves (Beside (other side) live P))
turned side P live idle all k f = record { each = λ file i. λ h e. record { each = λ image j. turned_files side P image file ((((all h e).each image j) k f).each file i) } }

-- Where a store stands at a position, every crash leaves what stands for it.
pub at_rest : {D : Type 0} → StoredIsSaid → (tells : D → Option History) (store : StoreOn D) (position : Position) → StandsThere tells store position → LeavesIt tells store position
at_rest law tells store position stands h told =
    let kept = stands.kept in
    beside_leaves store.side (Says kept) (StandsFor position) (tells store.idle) (standing_by position kept stands.leads) h.now
    (law store.side store.epoch store.journal.start store.journal.gate kept h.now (tells store.idle) (stands.stores.live h told) stands.stores.idle)

-- A call that puts nothing on the disks leaves them at rest.
pub rests_on : {D : Type 0} (tells : D → Option History) (old new : StoreOn D) (position next : Position) → new ≡ old → LeavesIt tells old position → StaysEither tells old new position next
rests_on {D} tells old new position next same leaves =
    subst (λ (s : StoreOn D). StaysEither tells old s position next) (sym same)
    (StaysIn-none (Beside old.side (tells old.idle) (StandsForEither position next)) (tells old.journal.disk)
    (λ h told. beside_leaves old.side (StandsFor position) (StandsForEither position next) (tells old.idle) (λ first second stands. inl stands) h.now (leaves h told)))

-- ---- an append

-- A store that stands at a position takes a record, or another checkpoint.
pub stands_ready : {D : Type 0} (tells : D → Option History) (store : StoreOn D) (position : Position) → StandsThere tells store position → IsStoreReady tells store
stands_ready tells store position stands = record { live = λ h told. (stands.kept, stands.stores.live h told); idle = stands.stores.idle }

-- What an append says of a store, whether it succeeded or not,
abbrev pub Moves : {D : Type 0} → (tells : D → Option History) → (old new : StoreOn D) → (bytes : List ℕ) → Type 0
Moves tells old new bytes = (kept : CheckpointRead) → Stores tells old kept → StaysIn (Beside old.side (tells old.idle) (SaysEither kept (and_record kept bytes))) (tells old.journal.disk) (tells new.journal.disk)

-- and where it did.
pub record Appended {D : Type 0} (tells : D → Option History) (old new : StoreOn D) (bytes : List ℕ) : Type 0 where
  pub keeps : (kept : CheckpointRead) → Stores tells old kept → Stores tells new (and_record kept bytes)
  pub epoch : new.epoch ≡ old.epoch
  pub gate : new.journal.gate ≡ old.journal.gate + 1 + length bytes

-- what leads on from whatever checkpoint leads to a position
abbrev Leads : Position → Made → Type 0
Leads position made = (kept : CheckpointRead) → IsCheckpoint kept → LeadTo position kept → LeadTo (installed position made) (and_record kept made.entry)

-- At every moment of an append a crash leaves what stands for the position or the next.
append_stays : {D : Type 0} (tells : D → Option History) (old new : StoreOn D) (position : Position) (made : Made) → StandsThere tells old position → Leads position made
    → Moves tells old new made.entry → StaysEither tells old new position (installed position made)
append_stays tells old new position made stands leads moves =
    let kept = stands.kept in
    let next = installed position made in
    StaysIn-weaker (Beside old.side (tells old.idle) (StandsForEither position next)) (moves kept stands.stores)
    (λ h told. beside_weaker old.side (SaysEither kept (and_record kept made.entry)) (StandsForEither position next) (tells old.idle)
    (standing_by_either position next kept (and_record kept made.entry) stands.leads (leads kept stands.lawful stands.leads)))

-- a checkpoint with one record more
spelled_more : (records : List (List ℕ)) (next : List ℕ) → length (spelled_records (records ++ next ∷ [])) ≡ length (spelled_records records) + (1 + length next)
spelled_more [] next = omega (arith, length-append next [])
spelled_more (first ∷ records) next = omega (arith, spelled_more records next, length-append first (spelled_records records), length-append first (spelled_records (records ++ next ∷ [])))

gate_more : (kept : CheckpointRead) (next : List ℕ) (gate : ℕ) → IsCheckpoint kept → gate ≡ kept.gate → gate + 1 + length next ≡ (and_record kept next).gate
gate_more kept next gate lawful at = let ends : kept.gate ≡ kept.start + length (spelled_records kept.records) = ap (λ (read : CheckpointRead). read.gate) lawful.is in omega (arith, at, ends, spelled_more kept.records next)

one_more : (kept : CheckpointRead) (next : List ℕ) → IsCheckpoint kept → (and_record kept next).gate < 2 ^ 28 → IsCheckpoint (and_record kept next)
one_more kept next lawful fits = record {
  some = lawful.some;
  epoch = lawful.epoch;
  number = lawful.number;
  stored = lawful.stored;
  image = lawful.image;
  image_is = lawful.image_is;
  read_as = lawful.read_as;
  size = lawful.size;
  start = lawful.start;
  fits = fits;
  is = refl;
}

-- Behind it the store stands at the next.
append_stands : {D : Type 0} (tells : D → Option History) (old new : StoreOn D) (position : Position) (made : Made) → StandsThere tells old position → Leads position made
    → (position.gate + 1) + (length made.entry + 1) ≤ 2 ^ 28 → Appended tells old new made.entry → StandsThere tells new (installed position made)
append_stands tells old new position made stands leads fits done = record {
  gate = done.gate ∙ ap (λ n. n + 1 + length made.entry) stands.gate;
  kept = and_record stands.kept made.entry;
  ends = gate_more stands.kept made.entry position.gate stands.lawful stands.ends;
  epoch = stands.epoch ∙ sym done.epoch;
  lawful = one_more stands.kept made.entry stands.lawful (omega (arith, fits, gate_more stands.kept made.entry position.gate stands.lawful stands.ends));
  stores = done.keeps stands.kept stands.stores;
  leads = leads stands.kept stands.lawful stands.leads;
}

-- ---- the desk

-- Of a desk of which nothing is committed the disks stand at the position.
stands_settled : (committed : Bool) (made : Option Made) (position : Position) → committed ≡ false → stands_at committed made position ≡ position
stands_settled true made position settled = cc
stands_settled false made position settled = refl

kept_stands : {D : Type 0} (tells : D → Option History) (desk : Inside D) → IsKept tells desk → desk.committed ≡ false → desk.halted ≡ false → StandsThere tells desk.store (contents_of desk).position
kept_stands tells desk kept settled runs =
    subst (StandsThere tells desk.store) (stands_settled desk.committed (contents_of desk).made (contents_of desk).position settled) (kept.stands runs)

-- so whatever is made
pub still_stands : {D : Type 0} (tells : D → Option History) (desk : Inside D) (made : Option Made) → IsKept tells desk → desk.committed ≡ false → desk.halted ≡ false
    → StandsThere tells desk.store (stands_at desk.committed made (contents_of desk).position)
still_stands tells desk made kept settled runs =
    subst (StandsThere tells desk.store) (sym (stands_settled desk.committed made (contents_of desk).position settled)) (kept_stands tells desk kept settled runs)

-- and its store takes a record or a checkpoint
pub kept_takes : {D : Type 0} (tells : D → Option History) (desk : Inside D) (seen : DeskOn D) → IsKept tells desk → contents_of desk ≡ seen → seen.committed ≡ false → seen.halted ≡ false → IsStoreReady tells desk.store
kept_takes {D} tells desk seen kept is =
    subst (λ (d : DeskOn D). d.committed ≡ false → d.halted ≡ false → IsStoreReady tells desk.store) is
    (λ settled runs. stands_ready tells desk.store (contents_of desk).position (kept_stands tells desk kept settled runs))

pub kept_leaves : {D : Type 0} → StoredIsSaid → (tells : D → Option History) (desk : Inside D) (seen : DeskOn D) → IsKept tells desk → contents_of desk ≡ seen → seen.committed ≡ false → seen.halted ≡ false → LeavesIt tells seen.store seen.position
kept_leaves {D} law tells desk seen kept is =
    subst (λ (d : DeskOn D). d.committed ≡ false → d.halted ≡ false → LeavesIt tells d.store d.position) is
    (λ settled runs. at_rest law tells desk.store (contents_of desk).position (kept_stands tells desk kept settled runs))

-- What was made last is ready.
kept_ready : {D : Type 0} (tells : D → Option History) (desk : Inside D) (made : Made) → IsKept tells desk → (contents_of desk).made ≡ Some made → IsReady desk.database (contents_of desk).position made
kept_ready tells desk made kept is = some_has (IsReady desk.database (contents_of desk).position) (contents_of desk).made made is kept.made

-- Within a commit a crash leaves the one or the other.
pub commit_stays : {D : Type 0} (tells : D → Option History) (desk : Inside D) (store : StoreOn D) (seen : DeskOn D) (made : Made) (bytes : List ℕ) → IsKept tells desk → contents_of desk ≡ seen
    → seen.made ≡ Some made → seen.halted ≡ false → seen.committed ≡ false → bytes ≡ made.entry → Moves tells desk.store store bytes
    → StaysEither tells seen.store store seen.position (installed seen.position made)
commit_stays {D} tells desk store seen made bytes kept sees made_is runs settled same moves =
    subst (λ (d : DeskOn D). d.made ≡ Some made → d.halted ≡ false → d.committed ≡ false → StaysEither tells d.store store d.position (installed d.position made)) sees
    (λ is runs settled. append_stays tells desk.store store (contents_of desk).position made (kept_stands tells desk kept settled runs)
    (kept_ready tells desk made kept is).leads (subst (Moves tells desk.store store) same moves))
    made_is runs settled

-- Behind it the disks stand where what was made leads,
commit_stands : {D : Type 0} (tells : D → Option History) (desk : Inside D) (store : StoreOn D) (made : Made) (bytes : List ℕ) → IsKept tells desk
    → (contents_of desk).made ≡ Some made → desk.halted ≡ false → desk.committed ≡ false → bytes ≡ made.entry → Appended tells desk.store store bytes
    → StandsThere tells store (installed (contents_of desk).position made)
commit_stands tells desk store made bytes kept is runs settled same appended =
    append_stands tells desk.store store (contents_of desk).position made (kept_stands tells desk kept settled runs) (kept_ready tells desk made kept is).leads (kept_ready tells desk made kept is).fits
    (subst (Appended tells desk.store store) same appended)

pub commit_leaves : {D : Type 0} → StoredIsSaid → (tells : D → Option History) (desk : Inside D) (store : StoreOn D) (seen : DeskOn D) (made : Made) (bytes : List ℕ) → IsKept tells desk → contents_of desk ≡ seen
    → seen.made ≡ Some made → seen.halted ≡ false → seen.committed ≡ false → bytes ≡ made.entry → Appended tells desk.store store bytes
    → LeavesIt tells store (installed seen.position made)
commit_leaves {D} law tells desk store seen made bytes kept sees made_is runs settled same appended =
    subst (λ (d : DeskOn D). d.made ≡ Some made → d.halted ≡ false → d.committed ≡ false → LeavesIt tells store (installed d.position made)) sees
    (λ is runs settled. at_rest law tells store (installed (contents_of desk).position made) (commit_stands tells desk store made bytes kept is runs settled same appended))
    made_is runs settled

-- and the desk is kept so.
pub commit_kept : {D : Type 0} (tells : D → Option History) (desk : Inside D) (store : StoreOn D) (seen : DeskOn D) (made : Made) (bytes : List ℕ) → IsKept tells desk → contents_of desk ≡ seen
    → seen.made ≡ Some made → seen.halted ≡ false → seen.committed ≡ false → bytes ≡ made.entry → Appended tells desk.store store bytes
    → IsKept tells (record desk { store = store; committed = true })
commit_kept {D} tells desk store seen made bytes kept sees made_is runs settled same appended =
    let is : (contents_of desk).made ≡ Some made = ap (λ (d : DeskOn D). d.made) sees ∙ made_is in
    let position = (contents_of desk).position in
    let going : desk.halted ≡ false = ap (λ (d : DeskOn D). d.halted) sees ∙ runs in
    record {
      image = kept.image;
      made = kept.made;
      stands = λ again.
          subst (λ (m : Option Made). StandsThere tells store (stands_at true m position)) (sym is)
          (commit_stands tells desk store made bytes kept is going (ap (λ (d : DeskOn D). d.committed) sees ∙ settled) same appended);
      committed = λ done. (going, was_some (λ snapshot. made_in snapshot.value) desk.made made is);
    }

-- ---- another checkpoint

-- A checkpoint of the rows of a position leads to where the position is compacted.
compacted_leads : (position : Position) (epoch number : ℕ) (rows : Rows) → number ≡ position.image.generation → rows ≡ position.image.state.rows → LeadTo (compacted position) (new_checkpoint epoch number rows)
compacted_leads position epoch number rows counts same =
    ap (λ (r : Rows). recovered (new_checkpoint epoch number r)) same
    ∙ ap (λ n. recovered (new_checkpoint epoch n position.image.state.rows)) counts

-- What writing a checkpoint says of a store, whether it succeeded or not,
abbrev pub Turns : {D : Type 0} → (tells : D → Option History) → (old new : StoreOn D) → (number : ℕ) → Rows → Type 0
Turns tells old new number rows =
    (kept : CheckpointRead) → Stores tells old kept
    → StaysIn (Beside (other old.side) (tells old.journal.disk) (SaysEither kept (new_checkpoint (old.epoch + 1) number rows))) (tells old.idle) (tells (disk_on (other old.side) new))

-- and where it did.
pub record Compacted {D : Type 0} (tells : D → Option History) (old new : StoreOn D) (number : ℕ) (rows : Rows) : Type 0 where
  pub done : old.epoch < 2 ^ 64 - 1 → Stores tells new (new_checkpoint (old.epoch + 1) number rows)
  pub lawful : old.epoch < 2 ^ 64 - 1 → IsCheckpoint (new_checkpoint (old.epoch + 1) number rows)
  pub start : old.epoch < 2 ^ 64 - 1 → new.journal.start ≡ 33 + length (image_of rows)
  pub gate : old.epoch < 2 ^ 64 - 1 → new.journal.gate ≡ new.journal.start
  pub epoch : old.epoch < 2 ^ 64 - 1 → new.epoch ≡ old.epoch + 1
  pub last : old.epoch ≡ 2 ^ 64 - 1 → new ≡ old

-- At every moment of it a crash leaves what stands for the position, compacted or not.
pub compact_stays : {D : Type 0} (tells : D → Option History) (old new : StoreOn D) (position : Position) (number : ℕ) (rows : Rows) → StandsThere tells old position
    → number ≡ position.image.generation → rows ≡ position.image.state.rows → Turns tells old new number rows → StaysThere tells old new position
compact_stays tells old new position number rows stands counts same turns =
    let kept = stands.kept in
    let made = new_checkpoint (old.epoch + 1) number rows in
    let side = other old.side in
    StaysIn-weaker (Beside side (tells old.journal.disk) (StandsForEither position (compacted position))) (turns kept stands.stores)
    (λ h told. beside_weaker side (SaysEither kept made) (StandsForEither position (compacted position)) (tells old.journal.disk)
    (standing_by_either position (compacted position) kept made stands.leads (compacted_leads position (old.epoch + 1) number rows counts same)))

-- the disks of a store by their roles
pub live_is : {D : Type 0} (store : StoreOn D) → disk_on store.side store ≡ store.journal.disk
live_is {D} store = by store.side
  where
    by : (side : Side) → disk_on side (record store { side = side }) ≡ store.journal.disk
    by First = refl
    by Second = refl

pub idle_is : {D : Type 0} (store : StoreOn D) → disk_on (other store.side) store ≡ store.idle
idle_is {D} store = by store.side
  where
    by : (side : Side) → disk_on (other side) (record store { side = side }) ≡ store.idle
    by First = refl
    by Second = refl

-- Where nothing was written, the disks are as they were.
pub compact_rests : {D : Type 0} (tells : D → Option History) (store : StoreOn D) (position : Position) → LeavesIt tells store position → StaysThere tells store store position
compact_rests {D} tells store position leaves =
    let P : List ℕ → Type 0 = Beside (other store.side) (tells store.journal.disk) (StandsForEither position (compacted position)) in
    subst (λ (disk : D). StaysIn P (tells store.idle) (tells disk)) (sym (idle_is store))
    (StaysIn-none P (tells store.idle)
    (λ h told. beside_leaves (other store.side) (StandsFor position) (StandsForEither position (compacted position)) (tells store.journal.disk) (λ first second stands. inl stands) h.now
    (turned store.side (StandsFor position) (tells store.journal.disk) (tells store.idle) leaves h told)))

pub rests_there : {D : Type 0} (tells : D → Option History) (old new : StoreOn D) (position : Position) → new ≡ old → LeavesIt tells old position → StaysThere tells old new position
rests_there {D} tells old new position same leaves = subst (λ (s : StoreOn D). StaysThere tells old s position) (sym same) (compact_rests tells old position leaves)

-- where the gate of a position is moved
abbrev pub with_gate : Position → ℕ → Position
with_gate position gate = record { image = position.image; gate = gate }

-- an epoch is below the last, or it is that
below_or_last : (epoch : ℕ) → epoch < 2 ^ 64 → (epoch < 2 ^ 64 - 1) ⊎ (epoch ≡ 2 ^ 64 - 1)
below_or_last epoch fits = by (ltb epoch (2 ^ 64 - 1)) refl
  where
    by : (b : Bool) → ltb epoch (2 ^ 64 - 1) ≡ b → (epoch < 2 ^ 64 - 1) ⊎ (epoch ≡ 2 ^ 64 - 1)
    by true is = inl (ltb-true epoch (2 ^ 64 - 1) is)
    by false is = let past = ltb-false epoch (2 ^ 64 - 1) is in inr (omega arith)

-- the epoch behind one that isn't the last
pub next_epoch : (epoch next : ℕ) → next ≡ min (epoch + 1) (2 ^ 64 - 1) → epoch < 2 ^ 64 - 1 → next ≡ epoch + 1
next_epoch epoch next is below = is ∙ min-eq_left (omega (arith, below))

-- Where it was written, its gate is that of the position, compacted.
pub compact_gate : {D : Type 0} (tells : D → Option History) (old new : StoreOn D) (position : Position) (number : ℕ) (rows : Rows) → rows ≡ position.image.state.rows
    → Compacted tells old new number rows → old.epoch < 2 ^ 64 - 1 → with_gate position new.journal.gate ≡ compacted position
compact_gate tells old new position number rows same done below =
    ap (with_gate position) (done.gate below ∙ done.start below ∙ ap start_behind same)

-- At the last epoch the store stands where it stood.
pub compact_last : {D : Type 0} (tells : D → Option History) (old new : StoreOn D) (position : Position) (number : ℕ) (rows : Rows) → StandsThere tells old position
    → Compacted tells old new number rows → old.epoch ≡ 2 ^ 64 - 1 → with_gate position new.journal.gate ≡ position
compact_last {D} tells old new position number rows stands done last = ap (λ (s : StoreOn D). with_gate position s.journal.gate) (done.last last) ∙ ap (with_gate position) stands.gate

-- Behind it the store stands where its gate is.
pub compact_stands : {D : Type 0} (tells : D → Option History) (old new : StoreOn D) (position : Position) (number : ℕ) (rows : Rows) → StandsThere tells old position
    → number ≡ position.image.generation → rows ≡ position.image.state.rows → Compacted tells old new number rows → StandsThere tells new (with_gate position new.journal.gate)
compact_stands {D} tells old new position number rows stands counts same done = by (below_or_last old.epoch (subst (λ n. n < 2 ^ 64) stands.epoch stands.lawful.epoch))
  where
    by : (old.epoch < 2 ^ 64 - 1) ⊎ (old.epoch ≡ 2 ^ 64 - 1) → StandsThere tells new (with_gate position new.journal.gate)
    by (inl below) = record {
      gate = refl;
      kept = new_checkpoint (old.epoch + 1) number rows;
      ends = done.gate below ∙ done.start below;
      epoch = sym (done.epoch below);
      lawful = done.lawful below;
      stores = done.done below;
      leads = compacted_leads position (old.epoch + 1) number rows counts same ∙ ap (λ (p : Position). Ok (restarted p)) (sym (compact_gate tells old new position number rows same done below));
    }
    by (inr last) =
        subst (StandsThere tells new) (sym (compact_last tells old new position number rows stands done last))
        (subst (λ (s : StoreOn D). StandsThere tells s position) (sym (done.last last)) stands)

-- what a desk becomes by it
abbrev pub with_checkpoint : {D : Type 0} → Inside D → StoreOn D → (gate : ℕ) → Inside D
with_checkpoint desk store gate = record desk { store = store; gate = gate; made = None }

module _ {D : Type 0} (tells : D → Option History) (desk : Inside D) (seen : DeskOn D) (kept : IsKept tells desk) (sees : contents_of desk ≡ seen) (going : seen.halted ≡ false) (waits : seen.committed ≡ false)
    (store : StoreOn D) (number : ℕ) (rows : Rows) (counts : number ≡ (arc_value desk.image).generation) (same : rows ≡ desk.database.rows)
  where
    runs : desk.halted ≡ false
    runs = ap (λ (d : DeskOn D). d.halted) sees ∙ going

    settled : desk.committed ≡ false
    settled = ap (λ (d : DeskOn D). d.committed) sees ∙ waits

    stood : StandsThere tells desk.store (contents_of desk).position
    stood = kept_stands tells desk kept settled runs

    shown : rows ≡ (arc_value desk.image).state.rows
    shown = same ∙ sym kept.image.same

    -- within it
    pub checkpoint_stays : Turns tells desk.store store number rows → StaysThere tells seen.store store seen.position
    checkpoint_stays turns =
        subst (λ (d : DeskOn D). StaysThere tells d.store store d.position) sees
        (compact_stays tells desk.store store (contents_of desk).position number rows stood counts shown turns)

    -- behind it
    module _ (done : Compacted tells desk.store store number rows) (gate : ℕ) (ends : gate ≡ store.journal.gate) where
      stands : StandsThere tells store (with_gate (contents_of desk).position gate)
      stands =
          subst (λ end. StandsThere tells store (with_gate (contents_of desk).position end)) (sym ends)
          (compact_stands tells desk.store store (contents_of desk).position number rows stood counts shown done)

      pub checkpoint_leaves : StoredIsSaid → LeavesIt tells store (with_gate (contents_of desk).position gate)
      checkpoint_leaves law = at_rest law tells store (with_gate (contents_of desk).position gate) stands

      said : StoredIsSaid → desk.store.epoch < 2 ^ 64 - 1 → LeavesCheckpoint tells store (desk.store.epoch + 1) (contents_of desk).position
      said law below h told =
          let stored = done.done below in
          let says : ℕ → Rows → Type 0 = λ n r. Leaves (Beside store.side (tells store.idle) (Says (new_checkpoint (desk.store.epoch + 1) n r))) h.now in
          subst (λ n. says n (arc_value desk.image).state.rows) counts
          (subst (says number) shown
          (law store.side store.epoch store.journal.start store.journal.gate (new_checkpoint (desk.store.epoch + 1) number rows) h.now (tells store.idle) (stored.live h told) stored.idle))

      pub checkpoint_said : StoredIsSaid → seen.store.epoch < 2 ^ 64 - 1 → LeavesCheckpoint tells store (seen.store.epoch + 1) seen.position
      checkpoint_said law = subst (λ (d : DeskOn D). d.store.epoch < 2 ^ 64 - 1 → LeavesCheckpoint tells store (d.store.epoch + 1) d.position) sees (said law)

      pub checkpoint_kept : IsKept tells (with_checkpoint desk store gate)
      checkpoint_kept = record {
        image = kept.image;
        made = tt;
        stands = λ again. subst (StandsThere tells store) (sym (stands_settled desk.committed None (with_gate (contents_of desk).position gate) settled)) stands;
        committed = λ done. let no : true ≡ false = sym done ∙ settled in cc;
      }

      fresh_there : (position : Position) → with_gate (contents_of desk).position store.journal.gate ≡ position → contents_of (with_checkpoint desk store gate) ≡ is_fresh position store
      fresh_there position is =
          let seen : Bool → Bool → Position → DeskOn D = λ halted committed p. record { position = p; store = store; halted = halted; made = None; committed = committed } in
          ap (λ h. seen h desk.committed (with_gate (contents_of desk).position gate)) runs
          ∙ ap (λ d. seen false d (with_gate (contents_of desk).position gate)) settled
          ∙ ap (seen false false) (ap (with_gate (contents_of desk).position) ends ∙ is)

      pub checkpoint_done : seen.store.epoch < 2 ^ 64 - 1 → contents_of (with_checkpoint desk store gate) ≡ is_fresh (compacted seen.position) store
      checkpoint_done =
          subst (λ (d : DeskOn D). d.store.epoch < 2 ^ 64 - 1 → contents_of (with_checkpoint desk store gate) ≡ is_fresh (compacted d.position) store) sees
          (λ below. fresh_there (compacted (contents_of desk).position) (compact_gate tells desk.store store (contents_of desk).position number rows shown done below))

      pub checkpoint_last : seen.store.epoch ≡ 2 ^ 64 - 1 → contents_of (with_checkpoint desk store gate) ≡ is_fresh seen.position seen.store
      checkpoint_last =
          subst (λ (d : DeskOn D). d.store.epoch ≡ 2 ^ 64 - 1 → contents_of (with_checkpoint desk store gate) ≡ is_fresh d.position d.store) sees
          (λ last. fresh_there (contents_of desk).position (compact_last tells desk.store store (contents_of desk).position number rows stood done last)
          ∙ ap (is_fresh (contents_of desk).position) (done.last last))
