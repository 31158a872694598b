-- What is judged again is accepted again, and where records lead.
use Rattle.std.proofs.Common.{◌≡◌, ℕ, ◌+◌, ◌<◌, ◌≤◌, ◌^◌, Bool, true, false, cond, List, [], ◌∷◌, ◌++◌, length, map, Option, Some, None, Result, Ok, Err, refl, sym, ◌∙◌, ap, subst, arith}
use Rattle.std.proofs.lemmas.Bool.{ltb-true}
use Rattle.std.specs.Prelude.{is_ok, nat_lt}
use Rattle.access_levels.specs.Spelling.{group_of}
use Rattle.racf_profiles.specs.declared.users.User.{User}
use Rattle.racf_profiles.specs.declared.rows.Rows.{Rows}
use Rattle.racf_profiles.specs.Lookup.{user_of}
use Rattle.command_fields.specs.declared.issuer.Issuer.{Issuer}
use Rattle.command_fields.specs.declared.fields.CommandFields.{CommandFields}
use Rattle.journal_records.specs.declared.record.CommandRecord.{CommandRecord}
use Rattle.journal_records.specs.declared.record.RecordFault.{RecordFault}
use Rattle.journal_records.specs.Reading.{record_of}
use Rattle.journal_records.specs.Spelling.{spelled}
use Rattle.racf_checkpoint.specs.declared.fault.StoreFault.{StoreFault}
use Rattle.racf_checkpoint.specs.Contents.{Says}
use Rattle.checkpoint_disks.specs.Files.{CheckpointRead}
use Rattle.desk_rules.specs.declared.refusal.Refusal.{Refusal}
use Rattle.desk_rules.specs.declared.refusal.Refusal.TheVariants.{IssuerRevoked, IssuerNotConnected, JournalFull}
use Rattle.desk_rules.specs.Issuers.{current_group, is_connected, issuer_in, issuer_among, issuer_of, unless_not_connected}
use Rattle.desk_rules.specs.Position.{Position, position_behind, restarted}
use Rattle.desk_rules.specs.Outcome.{first_of, rules_of, most_bytes, journal_full, number_spent, refusal_of, unless_met, unless_refused, command_of_text, judged, outcome_in, outcome}
use Rattle.desk_rules.specs.Recovery.{unless_faulty, refusal_again, outcome_again, behind_outcome, behind_record, behind_records, recovered_from, recovered, standing}
use Rattle.desk_rules.specs.History.{at, IsLegal, HadRoom}
use Rattle.desk_rules.proofs.IssuerLaws.{issuer_in_spelled}

-- ---- issuers

-- What is accepted behind a test is what follows it, whether the test refuses where it is met or where it isn't.
unmet : {X E : Type 0} (b : Bool) (why : E) (r : Result X E) (x : X) → cond b (Err why) r ≡ Ok x → r ≡ Ok x
unmet true why r x h = cc
unmet false why r x h = h

met : {X E : Type 0} (b : Bool) (why : E) (r : Result X E) (x : X) → cond b r (Err why) ≡ Ok x → r ≡ Ok x
met true why r x h = h
met false why r x h = cc

-- An issuer has the ID and the group that he was made with.
made_with : (id group : List ℕ) (b : Bool) (is : is_ok (group_of group) ≡ b) (issuer : Issuer) → issuer_in id group b is ≡ Ok issuer → (issuer.id ≡ id) × (issuer.group ≡ group)
made_with id group true is issuer h =
    let made : Issuer = record { id = id; group = group; group_spelled = is } in
    let same : made ≡ issuer = cc in
    (sym (ap (λ (i : Issuer). i.id) same), sym (ap (λ (i : Issuer). i.group) same))
made_with id group false is issuer h = cc

-- So has one who is connected there,
connected_with : (user : User) (id group : List ℕ) (issuer : Issuer) → unless_not_connected user id group ≡ Ok issuer → (issuer.id ≡ id) × (issuer.group ≡ group)
connected_with user id group issuer h =
    made_with id group (is_ok (group_of group)) refl issuer (met (is_connected user group) (IssuerNotConnected group) (issuer_in id group (is_ok (group_of group)) refl) issuer h)

-- and whoever is accepted among the users, where he is named by the group again.
among_again : (user : Option User) (id : List ℕ) (group : Option (List ℕ)) (issuer : Issuer) → issuer_among user id group ≡ Ok issuer
    → (issuer.id ≡ id) × (issuer_among user id (Some issuer.group) ≡ Ok issuer)
among_again None id group issuer h = cc
among_again (Some user) id group issuer h =
    let parts = connected_with user id (current_group user group) issuer
    (unmet user.attributes.revoked (IssuerRevoked id) (unless_not_connected user id (current_group user group)) issuer h) in
    (parts.0, subst (λ (g : List ℕ). issuer_among (Some user) id (Some g) ≡ Ok issuer) (sym parts.1) h)

-- The issuer has the ID that he was named by.
pub issuer_named : (rows : Rows) (id : List ℕ) (group : Option (List ℕ)) (issuer : Issuer) → issuer_of rows id group ≡ Ok issuer → issuer.id ≡ id
issuer_named rows id group issuer h = (among_again (user_of id rows) id group issuer h).0

-- Named by his ID and his group, he is the same again.
pub issuer_again : (rows : Rows) (id : List ℕ) (group : Option (List ℕ)) (issuer : Issuer) → issuer_of rows id group ≡ Ok issuer → issuer_of rows issuer.id (Some issuer.group) ≡ Ok issuer
issuer_again rows id group issuer h =
    let parts = among_again (user_of id rows) id group issuer h in
    subst (λ (i : List ℕ). issuer_of rows i (Some issuer.group) ≡ Ok issuer) (sym parts.0) parts.1

-- ---- a record that is judged again

-- A command that is accepted has its issuer, and nothing refuses it.
met_by_none : (refuses : CommandRecord → Option Refusal) (command : CommandFields) (issuer : Issuer) (given : CommandRecord)
    → (why : Option Refusal) → refuses (record { issuer = issuer; command = command }) ≡ why → unless_met why (record { issuer = issuer; command = command }) ≡ Ok given
    → (given ≡ record { issuer = issuer; command = command }) × (refuses given ≡ None)
met_by_none refuses command issuer given None is h =
    let same : record { issuer = issuer; command = command } ≡ given = cc in
    (sym same, subst (λ (g : CommandRecord). refuses g ≡ None) same is)
met_by_none refuses command issuer given (Some why) is h = cc

-- Behind this issuer, if he is one: it was given by him, it is the command that was judged, and nothing refuses it.
accepted_by : (refuses : CommandRecord → Option Refusal) (rows : Rows) (id : List ℕ) (group : Option (List ℕ)) (command : CommandFields) (given : CommandRecord)
    → (issuer : Result Issuer Refusal) → issuer_of rows id group ≡ issuer
    → unless_refused issuer (λ issuer. unless_met (refuses (record { issuer = issuer; command = command })) (record { issuer = issuer; command = command })) ≡ Ok given
    → (issuer_of rows id group ≡ Ok given.issuer) × (given.command ≡ command) × (refuses given ≡ None)
accepted_by refuses rows id group command given (Ok issuer) is h =
    let parts = met_by_none refuses command issuer given (refuses (record { issuer = issuer; command = command })) refl h in
    (is ∙ sym (ap (λ (g : CommandRecord). Ok g.issuer) parts.0), ap (λ (g : CommandRecord). g.command) parts.0, parts.1)
accepted_by refuses rows id group command given (Err why) is h = cc

-- The same of whoever is named.
pub judged_parts : (refuses : CommandRecord → Option Refusal) (rows : Rows) (id : List ℕ) (group : Option (List ℕ)) (command : CommandFields) (given : CommandRecord)
    → judged refuses rows id group command ≡ Ok given → (issuer_of rows id group ≡ Ok given.issuer) × (given.command ≡ command) × (refuses given ≡ None)
judged_parts refuses rows id group command given h = accepted_by refuses rows id group command given (issuer_of rows id group) refl h

-- Whoever is accepted is accepted where he is named by his ID and his group.
pub judged_again : (refuses others : CommandRecord → Option Refusal) (rows : Rows) (id : List ℕ) (group : Option (List ℕ)) (command : CommandFields) (given : CommandRecord)
    → ((one : CommandRecord) → refuses one ≡ None → others one ≡ None)
    → judged refuses rows id group command ≡ Ok given → judged others rows given.issuer.id (Some given.issuer.group) given.command ≡ Ok given
judged_again refuses others rows id group command given weaker h =
    let parts = judged_parts refuses rows id group command given h in
    let again = issuer_again rows id group given.issuer parts.0 in
    let next : Issuer → Result CommandRecord Refusal = λ issuer. unless_met (others (record { issuer = issuer; command = given.command })) (record { issuer = issuer; command = given.command }) in
    ap (λ (issuer : Result Issuer Refusal). unless_refused issuer next) again
    ∙ ap (λ (why : Option Refusal). unless_met why given) (weaker given parts.2)

-- The rules and the end of the numbers refuse nothing that neither they nor the journal's room refuses.
still_none : (rules room spent : Option Refusal) → first_of (rules ∷ room ∷ spent ∷ []) ≡ None → first_of (rules ∷ spent ∷ []) ≡ None
still_none (Some why) room spent h = cc
still_none None (Some why) spent h = cc
still_none None None spent h = h

-- The same of the command of a text.
accepted_text : (position : Position) (id : List ℕ) (group : Option (List ℕ)) (given : CommandRecord) (command : Result CommandFields Refusal)
    → unless_refused command (judged (refusal_of position.gate position.image.generation position.image.state.rows) position.image.state.rows id group) ≡ Ok given
    → outcome_again position given ≡ Ok given
accepted_text position id group given (Ok command) h =
    let rows = position.image.state.rows in
    let number = position.image.generation in
    judged_again (refusal_of position.gate number rows) (refusal_again number rows) rows id group command given
    (λ one. still_none (rules_of rows one) (journal_full position.gate one) (number_spent number)) h
accepted_text position id group given (Err why) h = cc

-- The record of an accepted command is accepted where its issuer gives it again.
pub accepted_leads : (position : Position) (id : List ℕ) (group : Option (List ℕ)) (text : List ℕ) (given : CommandRecord) → outcome position id group text ≡ Ok given → outcome_again position given ≡ Ok given
unfolding outcome_in
accepted_leads position id group text given h = accepted_text position id group given (command_of_text id text) h

-- Issuers with the same ID and group are the same.
same_issuer : (one other : Issuer) → one.id ≡ other.id → one.group ≡ other.group → one ≡ other
same_issuer one other ids groups =
    let both : ◌≡◌ {A = Result Issuer Refusal} (Ok one) (Ok other) = issuer_in_spelled one other.id other.group ids groups ∙ sym (issuer_in_spelled other other.id other.group refl refl) in cc

-- An issuer who was named by a group has it.
named_group : (rows : Rows) (id group : List ℕ) (issuer : Issuer) → issuer_of rows id (Some group) ≡ Ok issuer → issuer.group ≡ group
named_group rows id group issuer h = among (user_of id rows) h
  where
    among : (user : Option User) → issuer_among user id (Some group) ≡ Ok issuer → issuer.group ≡ group
    among None h = cc
    among (Some user) h = (connected_with user id group issuer (unmet user.attributes.revoked (IssuerRevoked id) (unless_not_connected user id group) issuer h)).1

-- What is accepted of a record is the record.
pub same_again : (refuses : CommandRecord → Option Refusal) (rows : Rows) (asked given : CommandRecord) → judged refuses rows asked.issuer.id (Some asked.issuer.group) asked.command ≡ Ok given → given ≡ asked
same_again refuses rows asked given h =
    let parts = judged_parts refuses rows asked.issuer.id (Some asked.issuer.group) asked.command given h in
    let issuer = same_issuer given.issuer asked.issuer (issuer_named rows asked.issuer.id (Some asked.issuer.group) given.issuer parts.0)
    (named_group rows asked.issuer.id asked.issuer.group given.issuer parts.0) in
    ap (λ (i : Issuer). record { issuer = i; command = given.command }) issuer
    ∙ ap (λ (command : CommandFields). record { issuer = asked.issuer; command = command }) parts.1

-- ---- where records lead

-- Records behind others lead on from where those lead.
pub behind_append : (records others : List (List ℕ)) (position : Position) → behind_records (records ++ others) position ≡ unless_faulty (behind_records records position) (behind_records others)
behind_append [] others position = refl
behind_append (bytes ∷ records) others position = by (behind_append records others) (behind_record position (record_of bytes))
  where
    by : ((next : Position) → behind_records (records ++ others) next ≡ unless_faulty (behind_records records next) (behind_records others)) → (next : Result Position StoreFault)
        → unless_faulty next (behind_records (records ++ others)) ≡ unless_faulty (unless_faulty next (behind_records records)) (behind_records others)
    by after (Ok next) = after next
    by after (Err why) = refl

-- One record more leads on by what it is accepted as.
leads_by : (position : Position) (given : CommandRecord) (found : Result Position StoreFault)
    → record_of (spelled given) ≡ Ok given → outcome_again position given ≡ Ok given
    → unless_faulty found (λ position. Ok (restarted position)) ≡ Ok (restarted position)
    → unless_faulty (unless_faulty found (behind_records (spelled given ∷ []))) (λ position. Ok (restarted position)) ≡ Ok (restarted (position_behind position given))
leads_by position given (Ok found) reads accepted h =
    let same : restarted found ≡ restarted position = cc in
    let outcomes : outcome_again found given ≡ Ok given = ap (λ (p : Position). outcome_again p given) same ∙ accepted in
    let restart_next : Result Position StoreFault → Result Position StoreFault = λ next. unless_faulty (unless_faulty next (behind_records [])) (λ position. Ok (restarted position)) in
    ap (λ (read : Result CommandRecord RecordFault). restart_next (behind_record found read)) reads
    ∙ ap (λ (outcome : Result CommandRecord Refusal). restart_next (behind_outcome found outcome)) outcomes
    ∙ ap (λ (p : Position). Ok (restarted (position_behind p given))) same
leads_by position given (Err why) reads accepted h = cc

-- The record of what is accepted leads on from a position to the one behind it, whatever the base.
pub leads_on : (base position : Position) (given : CommandRecord) (records : List (List ℕ)) → record_of (spelled given) ≡ Ok given → outcome_again position given ≡ Ok given
    → recovered_from base records ≡ Ok (restarted position) → recovered_from base (records ++ spelled given ∷ []) ≡ Ok (restarted (position_behind position given))
leads_on base position given records reads accepted leads =
    ap (λ (found : Result Position StoreFault). unless_faulty found (λ position. Ok (restarted position))) (behind_append records (spelled given ∷ []) base)
    ∙ leads_by position given (behind_records records base) reads accepted leads

-- Files stand for where the checkpoint leads that they say.
pub standing_is : (kept : CheckpointRead) (first second : List ℕ) → Says kept first second → standing first second ≡ recovered kept
standing_is kept first second says = ap (λ (read : Result CheckpointRead StoreFault). unless_faulty read recovered) says

-- ---- histories

-- What is opened again goes on to the same.
pub at_restarted : (base : Position) (history : List CommandRecord) → restarted (at (restarted base) history) ≡ restarted (at base history)
at_restarted base [] = refl
at_restarted base (given ∷ history) = sym (at_restarted (position_behind (restarted base) given) history) ∙ at_restarted (position_behind base given) history

-- Records that lead on are those of a legal history.
abbrev IsHistory : (base : Position) → (records : List (List ℕ)) → Position → Type 0
IsHistory base records position = (history : List CommandRecord) × IsLegal base history × (map record_of records ≡ map Ok history) × (position ≡ at base history)

-- One record more is one command more.
one_more : (base : Position) (bytes : List ℕ) (records : List (List ℕ)) (position : Position) (asked given : CommandRecord)
    → record_of bytes ≡ Ok asked → outcome_again base asked ≡ Ok given → IsHistory (position_behind base given) records position → IsHistory base (bytes ∷ records) position
one_more base bytes records position asked given reads accepted (history, legal, maps, is) =
    let rows = base.image.state.rows in
    let same : given ≡ asked = same_again (refusal_again base.image.generation rows) rows asked given accepted in
    let read : Result CommandRecord RecordFault = Ok given in (
      given ∷ history,
      (subst (λ (one : CommandRecord). outcome_again base one ≡ Ok given) (sym same) accepted, legal),
      ap (λ (one : Result CommandRecord RecordFault). one ∷ map record_of records) (reads ∙ ap (λ (one : CommandRecord). Ok one) (sym same)) ∙ ap (λ (others : List (Result CommandRecord RecordFault)). read ∷ others) maps,
      is,
    )

-- From any base on,
along : (records : List (List ℕ)) (base position : Position) → behind_records records base ≡ Ok position → IsHistory base records position
along [] base position h = let same : base ≡ position = cc in ([], tt, refl, sym same)
along (bytes ∷ records) base position h = read (along records) (record_of bytes) refl h
  where
    accepted : ((next position : Position) → behind_records records next ≡ Ok position → IsHistory next records position) → (asked : CommandRecord) → record_of bytes ≡ Ok asked
        → (is : Result CommandRecord Refusal) → outcome_again base asked ≡ is → unless_faulty (behind_outcome base is) (behind_records records) ≡ Ok position → IsHistory base (bytes ∷ records) position
    accepted after asked reads (Ok given) is h = one_more base bytes records position asked given reads is (after (position_behind base given) position h)
    accepted after asked reads (Err why) is h = cc

    read : ((next position : Position) → behind_records records next ≡ Ok position → IsHistory next records position) → (found : Result CommandRecord RecordFault) → record_of bytes ≡ found
        → unless_faulty (behind_record base found) (behind_records records) ≡ Ok position → IsHistory base (bytes ∷ records) position
    read after (Ok asked) is h = accepted after asked is (outcome_again base asked) refl h
    read after (Err why) is h = cc

-- as far as it outlives a restart.
pub lead_along : (base : Position) (records : List (List ℕ)) (position : Position) → recovered_from base records ≡ Ok position
    → (history : List CommandRecord) × IsLegal base history × (map record_of records ≡ map Ok history) × (position ≡ restarted (at base history))
lead_along base records position h = by (behind_records records base) refl h
  where
    by : (found : Result Position StoreFault) → behind_records records base ≡ found → unless_faulty found (λ p. Ok (restarted p)) ≡ Ok position
        → (history : List CommandRecord) × IsLegal base history × (map record_of records ≡ map Ok history) × (position ≡ restarted (at base history))
    by (Ok found) is h =
        let same : restarted found ≡ position = cc in
        let (history, legal, maps, ends) = along records base found is in
        (history, legal, maps, sym same ∙ ap restarted ends)
    by (Err why) is h = cc

-- ---- the journal's room
-- no command takes the gate back
gate_rises : (history : List CommandRecord) (base : Position) → base.gate ≤ (at base history).gate
gate_rises [] base = omega arith
gate_rises (given ∷ history) base = let more = gate_rises history (position_behind base given) in omega (arith, more)

-- where the gate behind a record is within the bound, there was room for it,
room_for_it : (gate : ℕ) (given : CommandRecord) → gate + 1 + length (spelled given) < 2 ^ 28 → journal_full gate given ≡ None
room_for_it gate given below = by (nat_lt most_bytes ((gate + 1) + (length (spelled given) + 1))) refl
  where
    by : (b : Bool) → nat_lt most_bytes ((gate + 1) + (length (spelled given) + 1)) ≡ b → cond b (Some JournalFull) None ≡ None
    by false is = refl
    by true is = let past = ltb-true most_bytes ((gate + 1) + (length (spelled given) + 1)) is in absurd (omega (arith, below, past))

-- and so for each of a history.
pub room_within : (base : Position) (history : List CommandRecord) → (at base history).gate < 2 ^ 28 → HadRoom base history
room_within base [] below = tt
room_within base (given ∷ history) below =
    let more = gate_rises history (position_behind base given) in
    (room_for_it base.gate given (omega (arith, more, below)), room_within (position_behind base given) history below)
