-- Where a recovery is behind the records that it repeated.
use Rattle.std.proofs.Common.{◌≡◌, ℕ, ◌+◌, ◌<◌, ◌≤◌, ◌^◌, ◌⊎◌, List, [], ◌∷◌, ◌++◌, length, take, drop, get_or, Option, Some, None, Result, Ok, Err, inl, inr, refl, sym, ◌∙◌, ap, subst, arith, length-append, drop-cons, add-one}
use Rattle.std.specs.Result.{result_ok}
use Rattle.std.proofs.lemmas.List.{take_more, take_all, take-append-drop}
use Rattle.racf_profiles.specs.declared.rows.Rows.{Rows}
use Rattle.racf_profiles.specs.NewDatabase.{new_database}
use Rattle.racf_profiles.specs.State.{restart}
use Rattle.raclist_image.specs.Imaged.{Imaged}
use Rattle.command_rules.specs.Conflicts.{conflict_of}
use Rattle.command_rules.specs.Effects.{step}
use Rattle.journal_records.specs.declared.record.CommandRecord.{CommandRecord}
use Rattle.journal_records.specs.Reading.{record_of}
use Rattle.journal_records.specs.Spelling.{spelled as record_bytes}
use Rattle.racf_journal.specs.Reading.{spelled}
use Rattle.racf_checkpoint.specs.declared.fault.StoreFault.{StoreFault}
use Rattle.racf_checkpoint.specs.declared.fault.StoreFault.TheVariants.{NoMemory}
use Rattle.racf_desk.specs.declared.recovery.Recovery.{Recovery}
use Rattle.desk_rules.specs.declared.refusal.Refusal.{Refusal}
use Rattle.desk_rules.specs.Outcome.{most_number, first_of, rules_of, number_spent, judged}
use Rattle.desk_rules.specs.Position.{Position, at_checkpoint, first_position, position_behind, restarted}
use Rattle.desk_rules.specs.Recovery.{unless_faulty, refusal_again, behind_outcome, behind_record, behind_records, recovered_from}
use Rattle.racf_desk.specs.Recovering.{IsAt}
use Rattle.racf_desk.proofs.MakingLaws.{unspent, within}
use Rattle.desk_rules.proofs.RecoveryLaws.{judged_parts, same_again, behind_append}

-- ---- one record

-- What is found there was accepted.
accepted_of : {X E : Type 0} (r : Result X E) (x : X) → Some x ≡ result_ok r → r ≡ Ok x
accepted_of (Ok other) x h = cc
accepted_of (Err why) x h = cc

-- Where nothing refuses a command, neither the rules nor the end of the numbers do.
unrefused : (rules spent : Option Refusal) → first_of (rules ∷ spent ∷ []) ≡ None → (rules ≡ None) × (spent ≡ None)
unrefused (Some why) spent h = cc
unrefused None (Some why) h = cc
unrefused None None h = (refl, refl)

-- What is accepted again is the record, it has no conflict, and there is a number for it.
pub accepted_again_is : (rows : Rows) (number : ℕ) (asked given : CommandRecord)
    → Some given ≡ result_ok (judged (refusal_again number rows) rows asked.issuer.id (Some asked.issuer.group) asked.command)
    → (given ≡ asked) × (conflict_of given.issuer given.command rows ≡ None) × (number + 1 ≤ most_number)
accepted_again_is rows number asked given h =
    let judges = accepted_of (judged (refusal_again number rows) rows asked.issuer.id (Some asked.issuer.group) asked.command) given h in
    let none = unrefused (rules_of rows given) (number_spent number) (judged_parts (refusal_again number rows) rows asked.issuer.id (Some asked.issuer.group) asked.command given judges).2 in
    let allowed : rules_of rows given ≡ None = none.0 in
    let no_conflict : conflict_of given.issuer given.command rows ≡ None = grind arith in (
      same_again (refusal_again number rows) rows asked given judges,
      no_conflict,
      within number (unspent number none.1),
    )

-- One record further, a recovery is at the position behind it.
pub repeated : (old new : Recovery) (asked given : CommandRecord) (bytes : List ℕ)
    → record_of bytes ≡ Ok asked → bytes ≡ record_bytes asked
    → Some given ≡ result_ok (judged (refusal_again old.number old.database.rows) old.database.rows asked.issuer.id (Some asked.issuer.group) asked.command)
    → new.database.rows ≡ step given.issuer given.command old.database.rows → new.number ≡ old.number + 1 → new.gate ≡ old.gate + (1 + length bytes)
    → (position : Position) → IsAt old position → (next : Position) × IsAt new next × (behind_record position (record_of bytes) ≡ Ok next)
repeated old new asked given bytes reads spells h rows number gate position at =
    let parts = accepted_again_is old.database.rows old.number asked given h in
    let long : length bytes ≡ length (record_bytes given) = ap length (spells ∙ ap record_bytes (sym parts.0)) in (
      position_behind position given,
      record {
        rows = rows ∙ ap (step given.issuer given.command) at.rows;
        number = number ∙ ap (λ n. n + 1) at.number;
        gate = let is = at.gate in omega arith;
        within = subst (λ n. n ≤ most_number) (sym number) parts.2;
      },
      ap (behind_record position) reads
          ∙ ap (behind_outcome position)
          (ap (λ (r : Rows). judged (refusal_again position.image.generation r) r asked.issuer.id (Some asked.issuer.group) asked.command) (sym at.rows)
          ∙ ap (λ n. judged (refusal_again n old.database.rows) old.database.rows asked.issuer.id (Some asked.issuer.group) asked.command) (sym at.number)
          ∙ accepted_of (judged (refusal_again old.number old.database.rows) old.database.rows asked.issuer.id (Some asked.issuer.group) asked.command) given h),
    )

-- ---- many records

-- Records with others behind them take as many bytes as both.
spelled_append : (records others : List (List ℕ)) → length (spelled (records ++ others)) ≡ length (spelled records) + length (spelled others)
spelled_append [] others = omega arith
spelled_append (first ∷ records) others =
    let after : length (spelled (records ++ others)) ≡ length (spelled records) + length (spelled others) = spelled_append records others in
    simp length-append (omega arith)

-- These records led a recovery from where it was, wherever that is.
pub record HasLed (records : List (List ℕ)) (old new : Recovery) : Type 0 where
  pub leads : (base : Position) → IsAt old base → (position : Position) × IsAt new position × (behind_records records base ≡ Ok position)
  pub gate : new.gate ≡ old.gate + length (spelled records)

-- No record leads it on.
pub none_led : (recovery : Recovery) → HasLed [] recovery recovery
none_led recovery = record { leads = λ base at. (base, at, refl); gate = omega arith }

-- The records are those before one, and it, and those behind it.
parted : (records : List (List ℕ)) (i : ℕ) (bytes : List ℕ) → i < length records → bytes ≡ get_or records i bytes → take i records ++ bytes ∷ drop (i + 1) records ≡ records
parted records i bytes within is =
    let from : drop i records ≡ get_or records i bytes ∷ drop (i + 1) records = rw add-one (drop-cons records i bytes within) in
    ap (λ (b : List ℕ). take i records ++ b ∷ drop (i + 1) records) is ∙ sym (ap (λ (rest : List (List ℕ)). take i records ++ rest) from) ∙ take-append-drop i records

-- Where an item of a list is equal to what stands there, so is what is equal to it.
pub item_at : (records : List (List ℕ)) (i : ℕ) (item bytes : List ℕ) → item ≡ get_or records i item → bytes ≡ item → bytes ≡ get_or records i bytes
item_at records i item bytes is same = subst (λ (b : List ℕ). b ≡ get_or records i b) (sym same) is

-- There is room for each.
pub fits : (records : List (List ℕ)) (i : ℕ) (bytes : List ℕ) (old mid : Recovery) → i < length records → bytes ≡ get_or records i bytes
    → old.gate + length (spelled records) < 2 ^ 64 → HasLed (take i records) old mid → mid.gate + 1 + length bytes < 2 ^ 64
fits records i bytes old mid within is room led =
    let gate = led.gate in
    let whole : length (spelled records) ≡ length (spelled (take i records)) + length (spelled (bytes ∷ drop (i + 1) records)) =
    sym (ap (λ (all : List (List ℕ)). length (spelled all)) (parted records i bytes within is)) ∙ spelled_append (take i records) (bytes ∷ drop (i + 1) records) in
    let first : length (spelled (bytes ∷ drop (i + 1) records)) ≡ 1 + (length bytes + length (spelled (drop (i + 1) records))) = simp length-append (omega arith) in
    omega arith

-- One more led it on,
pushed : (records : List (List ℕ)) (bytes : List ℕ) (old mid new : Recovery) → HasLed records old mid
    → ((position : Position) → IsAt mid position → (next : Position) × IsAt new next × (behind_record position (record_of bytes) ≡ Ok next))
    → new.gate ≡ mid.gate + 1 + length bytes → HasLed (records ++ bytes ∷ []) old new
pushed records bytes old mid new led leads gate =
    let before = led.gate in
    let more : length (spelled (records ++ bytes ∷ [])) ≡ length (spelled records) + (1 + length bytes) = spelled_append records (bytes ∷ []) ∙ simp length-append (omega arith) in
    record {
      leads = λ base at.
          let (position, is_at, there) = led.leads base at in
          let (next, is_next, to) = leads position is_at in (
            next,
            is_next,
            behind_append records (bytes ∷ []) base
                ∙ ap (λ (found : Result Position StoreFault). unless_faulty found (behind_records (bytes ∷ []))) there
                ∙ ap (λ (found : Result Position StoreFault). unless_faulty found (behind_records [])) to,
          );
      gate = omega arith;
    }

pub led_on : (records : List (List ℕ)) (i : ℕ) (bytes : List ℕ) (old mid new : Recovery) → i < length records → bytes ≡ get_or records i bytes → HasLed (take i records) old mid
    → ((position : Position) → IsAt mid position → (next : Position) × IsAt new next × (behind_record position (record_of bytes) ≡ Ok next))
    → new.gate ≡ mid.gate + 1 + length bytes → HasLed (take (i + 1) records) old new
led_on records i bytes old mid new within is led leads gate =
    subst (λ (all : List (List ℕ)). HasLed all old new) (sym (take_more records i bytes within ∙ ap (λ (b : List ℕ). take i records ++ b ∷ []) (sym is))) (pushed (take i records) bytes old mid new led leads gate)

-- or is damage.
pub led_to_damage : (records : List (List ℕ)) (i : ℕ) (bytes : List ℕ) (old mid : Recovery) (why : StoreFault) → i < length records → bytes ≡ get_or records i bytes → HasLed (take i records) old mid
    → (why ≡ NoMemory) ⊎ ((position : Position) → IsAt mid position → behind_record position (record_of bytes) ≡ Err why)
    → (why ≡ NoMemory) ⊎ ((base : Position) → IsAt old base → behind_records records base ≡ Err why)
led_to_damage records i bytes old mid why within is led (inl memory) = inl memory
led_to_damage records i bytes old mid why within is led (inr fault) =
    inr (λ base at.
    let (position, is_at, there) = led.leads base at in
    sym (ap (λ (all : List (List ℕ)). behind_records all base) (parted records i bytes within is))
    ∙ behind_append (take i records) (bytes ∷ drop (i + 1) records) base
    ∙ ap (λ (found : Result Position StoreFault). unless_faulty found (behind_records (bytes ∷ drop (i + 1) records))) there
    ∙ ap (λ (found : Result Position StoreFault). unless_faulty found (behind_records (drop (i + 1) records))) (fault position is_at))

-- Behind the last, all of them led it there.
pub all_led : (records : List (List ℕ)) (i : ℕ) (old new : Recovery) → length records ≤ i → HasLed (take i records) old new → HasLed records old new
all_led records i old new past = subst (λ (all : List (List ℕ)). HasLed all old new) (take_all i records past)

-- ---- what was recovered

-- Where records lead to the position that a recovery is at, that is what was recovered, with an image of its rows.
pub recovered_there : (base : Position) (records : List (List ℕ)) (recovery : Recovery) (image : Imaged) (gate : ℕ) → (position : Position) × IsAt recovery position × (behind_records records base ≡ Ok position)
    → image ≡ record { state = restart recovery.database.rows; generation = recovery.number } → gate ≡ recovery.gate → recovered_from base records ≡ Ok (record { image = image; gate = gate })
recovered_there base records recovery image gate (position, at, there) pictures ends =
    let remade : Rows → ℕ → ℕ → Result Position StoreFault = λ rows number end. Ok (record { image = record { state = restart rows; generation = number }; gate = end }) in
    ap (λ (found : Result Position StoreFault). unless_faulty found (λ p. Ok (restarted p))) there
    ∙ ap (λ (rows : Rows). remade rows position.image.generation position.gate) (sym at.rows)
    ∙ ap (λ n. remade recovery.database.rows n position.gate) (sym at.number)
    ∙ ap (λ n. remade recovery.database.rows recovery.number n) (sym at.gate ∙ sym ends)
    ∙ ap (λ (i : Imaged). Ok (record { image = i; gate = gate })) (sym pictures)

-- Where they are a fault from where a recovery was, so is what is recovered.
pub recovered_fault : (old : Recovery) (base : Position) (records : List (List ℕ)) (why : StoreFault) → IsAt old base
    → (why ≡ NoMemory) ⊎ ((from : Position) → IsAt old from → behind_records records from ≡ Err why) → (recovered_from base records ≡ Err why) ⊎ (why ≡ NoMemory)
recovered_fault old base records why at (inl memory) = inr memory
recovered_fault old base records why at (inr fails) = inl (ap (λ (found : Result Position StoreFault). unless_faulty found (λ p. Ok (restarted p))) (fails base at))

-- From the rows of a new database nothing leads to its image.
pub new_is_first : (rows : Rows) (image : Imaged) (gate : ℕ) → rows ≡ new_database → recovered_from (at_checkpoint rows 0 0) [] ≡ Ok (record { image = image; gate = gate }) → image ≡ first_position.image
new_is_first rows image gate new h =
    let here : ◌≡◌ {A = Result Position StoreFault} (Ok (restarted (at_checkpoint new_database 0 0))) (Ok (record { image = image; gate = gate })) =
    sym (ap (λ (r : Rows). Ok (restarted (at_checkpoint r 0 0))) new) ∙ h in
    let same : restarted (at_checkpoint new_database 0 0) ≡ record { image = image; gate = gate } = cc in
    sym (ap (λ (p : Position). p.image) same)
