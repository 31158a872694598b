-- What an append leaves at every moment, and what is stored behind it.
use Rattle.std.proofs.Common.{ℕ, ◌+◌, ◌<◌, ◌≤◌, ◌^◌, ◌≡◌, ◌≢◌, ◌⊎◌, List, [], ◌∷◌, ◌++◌, length, Option, Result, Ok, Err, inl, inr, refl, sym, ap, subst, arith, length-append}
use Rattle.racf_outside.specs.Crashes.{StaysIn}
use Rattle.racf_outside.specs.Disk.{History, Now}
use Rattle.racf_outside.specs.Moments.{Moment}
use Rattle.racf_outside.proofs.Runs.{Leaves-weaker, StaysIn-none}
use Rattle.racf_journal.specs.Appending.{Acknowledges, LeavesEither}
use Rattle.std.proofs.lemmas.Bool.{cases_lt}
use Rattle.racf_journal.specs.declared.fault.JournalFault.{JournalFault}
use Rattle.racf_journal.specs.declared.fault.JournalFault.TheVariants as journal
use Rattle.racf_journal.specs.Kept.{JournalOn, IsAtRest, IsResting, ReadsAsEither}
use Rattle.racf_journal.specs.Reading.{spelled}
use Rattle.racf_journal.proofs.Rests.{append_stays, append_keeps}
use Rattle.checkpoint_disks.specs.declared.counting.Side.{Side}
use Rattle.checkpoint_disks.specs.Files.{CheckpointRead}
use Rattle.checkpoint_disks.specs.Compacting.{with_image, IsCheckpoint}
use Rattle.racf_checkpoint.specs.Contents.{and_record, Says, SaysEither}
use Rattle.racf_checkpoint.specs.Stored.{IsStored, IsPassedOver, Beside}
use Rattle.racf_checkpoint.proofs.Saying.{RecordsAreRead, gate_of, rest_size, reads_says, kept_says, beside_passed, stored_says}

-- a checkpoint with one record more
abbrev one_more : (kept : CheckpointRead) (next : List ℕ) → IsCheckpoint kept → gate_of kept (kept.records ++ next ∷ []) < 2 ^ 28 → IsCheckpoint (and_record kept next)
one_more kept next c fits = record { some = c.some; epoch = c.epoch; number = c.number; stored = c.stored; image = c.image; image_is = c.image_is; read_as = c.read_as; size = c.size; start = c.start; fits = fits; is = refl }

-- where the gate behind it stands
spelled_more : (records : List (List ℕ)) (next : List ℕ) → length (spelled (records ++ next ∷ [])) ≡ length (spelled records) + (1 + length next)
spelled_more [] next = omega (arith, length-append next [])
spelled_more (first ∷ records) next = omega (arith, spelled_more records next, length-append first (spelled records), length-append first (spelled (records ++ next ∷ [])))

gate_more : (kept : CheckpointRead) (c : IsCheckpoint kept) (next : List ℕ) (start gate : ℕ) (m : Moment) → IsAtRest (with_image kept.epoch kept.number c.image) start gate kept.records m → gate + 2 + length next ≤ 2 ^ 28
    → gate_of kept (kept.records ++ next ∷ []) < 2 ^ 28
gate_more kept c next start gate m rest fits = omega (arith, fits, (rest_size kept c kept.records start gate m rest).0, spelled_more kept.records next)

-- a journal that rests
pub rests : (epoch start gate : ℕ) (told : Option History) → Now told (λ m. (kept : CheckpointRead) × IsStored epoch start gate kept m) → Now told (IsResting start gate)
rests epoch start gate told ready h e = let r = ready h e in (with_image r.0.epoch r.0.number r.1.lawful.image, r.0.records, r.1.rest)

module _ (epoch start gate : ℕ) (next : List ℕ) (old new : Option History) (leaves : LeavesEither start gate next old new) where
  -- while it is appended
  module _ (law : RecordsAreRead) (side : Side) (idle : Option History) (kept : CheckpointRead) (stored : Now old (IsStored epoch start gate kept)) (passed : Now idle (IsPassedOver side epoch)) where
    abbrev P : List ℕ → Type 0
    P = Beside side idle (SaysEither kept (and_record kept next))

    either_says : (c : IsCheckpoint kept) → kept.epoch ≡ epoch → gate_of kept (kept.records ++ next ∷ []) < 2 ^ 28 → (file : List ℕ) → ReadsAsEither (with_image kept.epoch kept.number c.image) kept.records next file → length file ≤ 2 ^ 28 → P file
    either_says c at fits file (inl r) short = beside_passed side epoch idle (SaysEither kept (and_record kept next)) file passed (λ m p. inl (kept_says law side epoch kept file m c at p (record { reads = r; short = short })))
    either_says c at fits file (inr r) short =
        beside_passed side epoch idle (SaysEither kept (and_record kept next)) file passed (λ m p. inr (reads_says law side epoch kept (kept.records ++ next ∷ []) file m c at p fits (record { reads = r; short = short })))

    -- where it has room
    moments_within : gate + 2 + length next ≤ 2 ^ 28 → StaysIn P old new
    moments_within fits =
        append_stays P start gate next old new leaves (λ h e.
        let s = stored h e in
        let more : gate_of kept (kept.records ++ next ∷ []) < 2 ^ 28 = gate_more kept s.lawful next start gate h.now s.rest fits in
        (with_image kept.epoch kept.number s.lawful.image, kept.records, s.rest, λ file r. either_says s.lawful s.is_of more file r.0 (omega (arith, r.1, fits))))

    -- else nothing is written
    moments_none : StaysIn P old old
    moments_none =
        StaysIn-none P old (λ h e.
        Leaves-weaker (Beside side idle (Says kept)) P h.now (λ file says k told. Leaves-weaker _ _ k.now (λ image said. inl said) (says k told)) (stored_says law side epoch start gate kept h.now idle (stored h e) passed))

    pub append_moments : (gate + 2 + length next ≤ 2 ^ 28) ⊎ (new ≡ old) → StaysIn P old new
    append_moments (inl fits) = moments_within fits
    append_moments (inr same) = subst (StaysIn P old) (sym same) moments_none

  -- behind it
  module _ (acknowledged : Acknowledges start gate next old new) (later end : ℕ) (at : later ≡ start) (to : end ≡ gate + 1 + length next) (fits : gate + 2 + length next ≤ 2 ^ 28) where
    moved : (kept : CheckpointRead) (m : Moment) → IsStored epoch start (gate + 1 + length next) kept m → IsStored epoch later end kept m
    moved kept m s = subst (λ n. IsStored epoch n end kept m) (sym at) (subst (λ n. IsStored epoch start n kept m) (sym to) s)

    pub append_stored : (kept : CheckpointRead) → Now old (IsStored epoch start gate kept) → Now new (IsStored epoch later end (and_record kept next))
    append_stored kept stored =
        append_keeps (IsStored epoch later end (and_record kept next)) start gate next old new leaves acknowledged (λ h e.
        let s = stored h e in
        (with_image kept.epoch kept.number s.lawful.image, kept.records, s.rest, λ m rest. moved (and_record kept next) m (record { is_of = s.is_of; lawful = one_more kept next s.lawful (gate_more kept s.lawful next start gate h.now s.rest fits); rest = rest })))

    pub append_ready : Now old (λ m. (kept : CheckpointRead) × IsStored epoch start gate kept m) → Now new (λ m. (kept : CheckpointRead) × IsStored epoch later end kept m)
    append_ready ready =
        append_keeps (λ m. (kept : CheckpointRead) × IsStored epoch later end kept m) start gate next old new leaves acknowledged (λ h e.
        let r = ready h e in
        (with_image r.0.epoch r.0.number r.1.lawful.image, r.0.records, r.1.rest, λ m rest. (and_record r.0 next, moved (and_record r.0 next) m (record { is_of = r.1.is_of; lawful = one_more r.0 next r.1.lawful (gate_more r.0 r.1.lawful next start gate h.now r.1.rest fits); rest = rest }))))

-- ---- what an append that was full says
ok_full : (x : Unit {0}) → ◌≡◌ {A = Result (Unit {0}) JournalFault} (Ok x) (Err journal.Full) → ⊥
ok_full x e = cc

why_full : (why : JournalFault) → ◌≡◌ {A = Result (Unit {0}) JournalFault} (Err why) (Err journal.Full) → why ≡ journal.Full
why_full why e = cc

not_disk : (why : JournalFault) → why ≡ journal.Full → why ≢ journal.DiskFault
not_disk why is = λ e. cc

pub within : (gate size : ℕ) (x : Unit {0}) → (2 ^ 28 < (gate + 1) + (size + 1) → ◌≡◌ {A = Result (Unit {0}) JournalFault} (Ok x) (Err journal.Full)) → gate + 2 + size ≤ 2 ^ 28
within gate size x not_full = elim (cases_lt (2 ^ 28) ((gate + 1) + (size + 1))) [
  | inl over ↦ absurd (ok_full x (not_full over))
  | inr fits ↦ omega (arith, fits)
]

pub room_or_same : {D : Type 0} (tells : D → Option History) (gate size : ℕ) (why : JournalFault) (new old : JournalOn D)
    → (2 ^ 28 < (gate + 1) + (size + 1) → ◌≡◌ {A = Result (Unit {0}) JournalFault} (Err why) (Err journal.Full)) → (why ≢ journal.DiskFault → new ≡ old) → (gate + 2 + size ≤ 2 ^ 28) ⊎ (tells new.disk ≡ tells old.disk)
room_or_same {D} tells gate size why new old full kept = elim (cases_lt (2 ^ 28) ((gate + 1) + (size + 1))) [
  | inl over ↦ let same : new ≡ old = kept (not_disk why (why_full why (full over))) in inr (ap (λ (j : JournalOn D). tells j.disk) same)
  | inr fits ↦ inl (omega (arith, fits))
]
