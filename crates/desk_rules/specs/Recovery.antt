-- What the files of two disks stand for: the position that is found where they are opened.
use Rattle.std.specs.Prelude.{ℕ, ◌≡◌, ◌⊎◌, List, [], ◌∷◌, Option, Some, Result, Ok, Err}
use Rattle.racf_profiles.specs.declared.rows.Rows.{Rows}
use Rattle.journal_records.specs.declared.record.CommandRecord.{CommandRecord}
use Rattle.journal_records.specs.declared.record.RecordFault.{RecordFault}
use Rattle.journal_records.specs.Reading.{record_of}
use Rattle.racf_checkpoint.specs.declared.fault.StoreFault.{StoreFault}
use Rattle.racf_checkpoint.specs.declared.fault.StoreFault.TheVariants as fault
use Rattle.checkpoint_disks.specs.Files.{CheckpointRead}
use Rattle.racf_checkpoint.specs.Contents.{contents}
use Rattle.desk_rules.specs.declared.refusal.Refusal.{Refusal}
use Rattle.desk_rules.specs.Outcome.{first_of, rules_of, number_spent, judged}
use Rattle.desk_rules.specs.Position.{Position, at_checkpoint, position_behind, restarted}

-- what follows where nothing was faulty so far
abbrev pub unless_faulty : {X Y : Type 0} → Result X StoreFault → (X → Result Y StoreFault) → Result Y StoreFault
unless_faulty (Ok x) next = next x
unless_faulty (Err why) next = Err why

-- A record of the journal has the outcome that its command has where its issuer gives it, with the group that it names.
-- The journal's room isn't asked: the record stands there.
abbrev pub refusal_again : (number : ℕ) → Rows → CommandRecord → Option Refusal
refusal_again number rows given = first_of (rules_of rows given ∷ number_spent number ∷ [])

abbrev pub outcome_again : Position → CommandRecord → Result CommandRecord Refusal
outcome_again position given =
    let rows = position.image.state.rows in
    judged (refusal_again position.image.generation rows) rows given.issuer.id (Some given.issuer.group) given.command

-- One that is no record of a command, or whose command isn't accepted, is damage at its gate.
abbrev pub behind_outcome : Position → Result CommandRecord Refusal → Result Position StoreFault
behind_outcome position (Ok given) = Ok (position_behind position given)
behind_outcome position (Err why) = Err (fault.Damaged position.gate)

abbrev pub behind_record : Position → Result CommandRecord RecordFault → Result Position StoreFault
behind_record position (Ok given) = behind_outcome position (outcome_again position given)
behind_record position (Err why) = Err (fault.Damaged position.gate)

-- the position behind these records, each where the ones before it lead
abbrev pub behind_records : List (List ℕ) → Position → Result Position StoreFault
behind_records [] position = Ok position
behind_records (bytes ∷ records) position = unless_faulty (behind_record position (record_of bytes)) (behind_records records)

-- Where these records lead from a base, and each listed copy is made anew.
abbrev pub recovered_from : Position → List (List ℕ) → Result Position StoreFault
recovered_from base records = unless_faulty (behind_records records base) (λ position. Ok (restarted position))

-- where a checkpoint stands, and where the records behind it lead
abbrev pub base_of : CheckpointRead → Position
base_of kept = at_checkpoint kept.rows kept.number kept.start

abbrev pub recovered : CheckpointRead → Result Position StoreFault
recovered kept = recovered_from (base_of kept) kept.records

-- What two files stand for: where the records behind the checkpoint that counts lead, or the first fault. Faults of the
-- checkpoint and of the journal come before those of what the records say.
abbrev pub standing : (first second : List ℕ) → Result Position StoreFault
standing first second = unless_faulty (contents first second) recovered

-- Two files stand for a position as far as it outlives a restart: its number, its rows, and its journal.
abbrev pub StandsFor : Position → (first second : List ℕ) → Type 0
StandsFor position first second = standing first second ≡ Ok (restarted position)

abbrev pub StandsForEither : (position next : Position) → (first second : List ℕ) → Type 0
StandsForEither position next first second = StandsFor position first second ⊎ StandsFor next first second

-- A call fails for the fault that is what the files stand for, for a fault of a disk, or for want of memory.
abbrev pub Refuses : StoreFault → (first second : List ℕ) → Type 0
Refuses why first second = (standing first second ≡ Err why) ⊎ (why ≡ fault.DiskFault) ⊎ (why ≡ fault.NoMemory)
