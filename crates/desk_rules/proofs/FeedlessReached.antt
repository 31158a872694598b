-- Where the files of two disks lead no name holds a line feed.
use Rattle.std.proofs.Common.{◌≡◌, ℕ, Bool, true, false, List, [], ◌∷◌, take, drop, Option, None, Some, Result, Ok, Err, refl, subst, length}
use Rattle.std.specs.Prelude.{nat_lt, if◌then◌else◌}
use Rattle.access_levels.specs.Spelling.{id_of}
use Rattle.racf_profiles.specs.declared.class_rows.ClassRow.{ClassRow}
use Rattle.racf_profiles.specs.declared.rows.Rows.{Rows}
use Rattle.racf_profiles.specs.State.{restart}
use Rattle.checkpoint_disks.specs.Files.{CheckpointRead}
use Rattle.racf_checkpoint.specs.declared.fault.StoreFault.{StoreFault}
use Rattle.racf_checkpoint.specs.Contents.{contents}
use Rattle.command_fields.specs.declared.issuer.Issuer.{Issuer}
use Rattle.command_fields.specs.declared.fields.CommandFields.{CommandFields}
use Rattle.command_fields.specs.LawfulFields.{AreLawfulFields}
use Rattle.journal_records.specs.declared.record.CommandRecord.{CommandRecord}
use Rattle.journal_records.specs.declared.record.RecordFault.{RecordFault}
use Rattle.journal_records.specs.declared.record.RecordFault.TheVariants as faults
use Rattle.journal_records.specs.Reading.{issuer_in, canonical_command, ◌>>=◌, or_fault, item_from, item_in, record_of}
use Rattle.lawful_commands.proofs.RowLists.{all-filter}
use Rattle.desk_rules.specs.declared.refusal.Refusal.{Refusal}
use Rattle.desk_rules.specs.Position.{Position, position_behind, restarted}
use Rattle.desk_rules.specs.Recovery.{unless_faulty, outcome_again, behind_outcome, behind_record, behind_records, base_of, recovered, standing}
use Rattle.audit_records.specs.Feedless.{AreFeedlessProfiles, AreFeedless, IsFeedlessState}
use Rattle.audit_records.proofs.Feedless.{read_id-feedless}
use Rattle.desk_rules.specs.OneLine.{IsFeedlessIssuer, IsFeedlessAccepted, IsFeedlessOutcome}
use Rattle.desk_rules.proofs.FeedlessFields.{spelled_group-feedless}
use Rattle.desk_rules.proofs.FeedlessCopies.{copies-all}
use Rattle.desk_rules.proofs.FeedlessFiles.{says-feedless}
use Rattle.desk_rules.proofs.FeedlessOutcomes.{again-feedless, behind-feedless}

-- the listed copies that are made anew
restart-feedless : (rows : Rows) → AreFeedless rows → IsFeedlessState (restart rows)
restart-feedless rows are = record { rows = are; copies = copies-all _ (all-filter AreFeedlessProfiles (λ (class : ClassRow). class.listed) rows.classes are.classes) }

-- ---- a record that is read, where the fields of a command with a canonical text are lawful, and two fields are an
-- identifier's
module _ (lawful : (issuer text : List ℕ) (c : CommandFields) → canonical_command issuer text ≡ Some c → AreLawfulFields c)
    (named : (id group : List ℕ) (issuer : Issuer) → issuer_in id group ≡ Ok issuer → id_of issuer.id ≡ Ok issuer.id) where
  issuer-feedless : (id group : List ℕ) (issuer : Issuer) → issuer_in id group ≡ Ok issuer → IsFeedlessIssuer issuer
  issuer-feedless id group issuer is = record {
    id = read_id-feedless issuer.id issuer.id (named id group issuer is);
    group = spelled_group-feedless issuer.group issuer.group_spelled;
  }

  -- the text is a command's, and the record that command's
  command-feedless : (issuer : Issuer) (text : List ℕ) (given : CommandRecord) → IsFeedlessIssuer issuer
      → (or_fault (canonical_command issuer.id text) faults.BadText >>= λ command. Ok (record { issuer = issuer; command = command })) ≡ Ok given → IsFeedlessAccepted given
  command-feedless issuer text given is h = by (canonical_command issuer.id text) refl h
    where
      by : (o : Option CommandFields) → canonical_command issuer.id text ≡ o
          → (or_fault o faults.BadText >>= λ command. Ok (record { issuer = issuer; command = command })) ≡ Ok given → IsFeedlessAccepted given
      by (Some c) e k =
          let same : record { issuer = issuer; command = c } ≡ given = cc in
          subst IsFeedlessAccepted same (record { issuer = is; fields = lawful issuer.id text c e })
      by None e k = absurd cc

  item-feedless : (id group text : List ℕ) (given : CommandRecord) → item_from id group text ≡ Ok given → IsFeedlessAccepted given
  item-feedless id group text given h = by (issuer_in id group) refl h
    where
      by : (r : Result Issuer RecordFault) → issuer_in id group ≡ r
          → (r >>= λ issuer. or_fault (canonical_command issuer.id text) faults.BadText >>= λ command. Ok (record { issuer = issuer; command = command })) ≡ Ok given → IsFeedlessAccepted given
      by (Ok issuer) e k = command-feedless issuer text given (issuer-feedless id group issuer e) k
      by (Err fault) e k = absurd cc

  record-feedless : (bytes : List ℕ) (given : CommandRecord) → record_of bytes ≡ Ok given → IsFeedlessAccepted given
  unfolding record_of
  record-feedless bytes given h =
      let behind = drop 4 bytes in
      item-feedless (take 8 behind) (take 8 (drop 8 behind)) (drop 8 (drop 8 behind)) given
      (passed (nat_lt (length bytes) 4) _ (item_in behind) h)
    where
      passed : (short bad : Bool) (r : Result CommandRecord RecordFault) → (if short then Err faults.Short else if bad then Err faults.BadLength else r) ≡ Ok given → r ≡ Ok given
      passed true bad r k = absurd cc
      passed false true r k = absurd cc
      passed false false r k = k

  -- ---- where records lead
  again : (position next : Position) (given : CommandRecord) → IsFeedlessState position.image.state → IsFeedlessAccepted given
      → behind_outcome position (outcome_again position given) ≡ Ok next → IsFeedlessState next.image.state
  again position next given are is h = by (outcome_again position given) (again-feedless position given are.rows is) h
    where
      by : (o : Result CommandRecord Refusal) → IsFeedlessOutcome o → behind_outcome position o ≡ Ok next → IsFeedlessState next.image.state
      by (Ok other) k e =
          let same : position_behind position other ≡ next = cc in
          subst (λ (p : Position). IsFeedlessState p.image.state) same (behind-feedless position other k are)
      by (Err why) k e = absurd cc

  record-leads : (bytes : List ℕ) (position next : Position) → IsFeedlessState position.image.state → behind_record position (record_of bytes) ≡ Ok next → IsFeedlessState next.image.state
  record-leads bytes position next are h = by (record_of bytes) refl h
    where
      by : (r : Result CommandRecord RecordFault) → record_of bytes ≡ r → behind_record position r ≡ Ok next → IsFeedlessState next.image.state
      by (Ok given) e k = again position next given are (record-feedless bytes given e) k
      by (Err fault) e k = absurd cc

  records-lead : (records : List (List ℕ)) (position base : Position) → IsFeedlessState position.image.state → behind_records records position ≡ Ok base → IsFeedlessState base.image.state
  records-lead [] position base are h =
      let same : position ≡ base = cc in
      subst (λ (p : Position). IsFeedlessState p.image.state) same are
  records-lead (bytes ∷ records) position base are h = by (records-lead records) (behind_record position (record_of bytes)) refl h
    where
      by : ((next last : Position) → IsFeedlessState next.image.state → behind_records records next ≡ Ok last → IsFeedlessState last.image.state)
          → (r : Result Position StoreFault) → behind_record position (record_of bytes) ≡ r → unless_faulty r (behind_records records) ≡ Ok base → IsFeedlessState base.image.state
      by more (Ok next) e k = more next base (record-leads bytes position next are e) k
      by more (Err why) e k = absurd cc

  -- ---- where the records behind a checkpoint lead
  recovered-feedless : (kept : CheckpointRead) (base : Position) → AreFeedless kept.rows → recovered kept ≡ Ok base → IsFeedlessState base.image.state
  recovered-feedless kept base are h = by (behind_records kept.records (base_of kept)) refl h
    where
      by : (r : Result Position StoreFault) → behind_records kept.records (base_of kept) ≡ r → unless_faulty r (λ position. Ok (restarted position)) ≡ Ok base → IsFeedlessState base.image.state
      by (Ok position) e k =
          let led = records-lead kept.records (base_of kept) position (restart-feedless kept.rows are) e in
          let same : restarted position ≡ base = cc in
          subst (λ (p : Position). IsFeedlessState p.image.state) same (restart-feedless position.image.state.rows led.rows)
      by (Err why) e k = absurd cc

  pub reached-feedless : (first second : List ℕ) (base : Position) → standing first second ≡ Ok base → IsFeedlessState base.image.state
  reached-feedless first second base reached = by (contents first second) refl reached
    where
      by : (r : Result CheckpointRead StoreFault) → contents first second ≡ r → unless_faulty r recovered ≡ Ok base → IsFeedlessState base.image.state
      by (Ok kept) e k = recovered-feedless kept base (says-feedless kept first second e) k
      by (Err why) e k = absurd cc
