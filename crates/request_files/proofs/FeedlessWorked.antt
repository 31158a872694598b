-- What is printed for a line of requests is nothing, one line, or one and an AUDIT line, and no line feed stands in
-- their words.
use Rattle.std.proofs.Common.{ℕ, Bool, true, false, List, [], ◌++◌, Option, None, Some, Result, Ok, Err, refl, sym, ap, subst, inl, inr, is_some, length, cond, append-nil}
use Rattle.std.specs.Prelude.{◌==◌, nat_le, IfSome, IfOk, find}
use Rattle.access_levels.specs.declared.levels.Level.{Level}
use Rattle.generic_names.specs.Spelled.{Spelled}
use Rattle.raclist_image.specs.Imaged.{Imaged}
use Rattle.racf_profiles.proofs.EditLaws.{all-drop_row}
use Rattle.acee.specs.declared.acee.Acee.{Acee}
use Rattle.acee.specs.declared.request.VerifyRequest.{VerifyRequest}
use Rattle.acee.specs.declared.request.VerifyFault.{VerifyFault}
use Rattle.decision.specs.declared.outcome.Decision.{Decision}
use Rattle.decision.specs.Verify.{verified}
use Rattle.audit_records.specs.Logged.{logged}
use Rattle.audit_records.specs.Line.{audit_line}
use Rattle.audit_records.specs.Feedless.{IsFeedless, IsFeedlessState}
use Rattle.audit_records.specs.OneLine.{IsAuditLine}
use Rattle.audit_records.proofs.Feedless.{either, if-map, if-found, all-and_one}
use Rattle.request_files.specs.declared.acees.NamedAcee.{NamedAcee}
use Rattle.request_files.specs.declared.line.LineRefusal.{LineRefusal}
use Rattle.request_files.specs.declared.line.LineRefusal.TheVariants.{BadLine, NoAcee, AceeExists, AceesFull, BadName, LineTooLong}
use Rattle.request_files.specs.Acees.{is_named, acee_named, put_refusal, most_acees}
use Rattle.request_files.specs.Answers.{numbered, refused_words, verified_words, verify_fault_words, deleted_words, decision_words, answer_line, never_line}
use Rattle.request_files.specs.Grammar.{Access, Line, Verify, Auth, Fastauth, Delete, After, Skip, read}
use Rattle.request_files.specs.Worked as request
use Rattle.request_files.specs.OneLine.{IsFeedlessAcee, AreFeedlessAcees, AreLines, PrintsLines}
use Rattle.request_files.proofs.FeedlessDecisions.{decided-words, fast_decided-words, verified-acee}
use Rattle.request_files.proofs.FeedlessLines.{IsFeedlessAccess, IsFeedlessLine, IsFeedlessRefusal, IsFeedlessRead, read-feedless, refusal-words, verify-words}

pub line : (number : ℕ) (words : List ℕ) → IsFeedless words → AreLines number (numbered number words)
line number words h = inr (inl (record { words = words; no_feed = h; is_line = refl }))

audited-line : (number : ℕ) (words text : List ℕ) → IsFeedless words → IsAuditLine text → AreLines number (numbered number words ++ text)
audited-line number words text h is =
    inr (inr (inl (record { words = words; no_feed = h; audit = is.words; no_audit_feed = is.no_feed; are_lines = ap (λ (line : List ℕ). numbered number words ++ line) is.is_line })))

told-feedless : (acees : List NamedAcee) (why : LineRefusal) → IsFeedlessRefusal why → IsFeedlessRefusal (request.told acees why)
told-feedless acees (BadLine place) h = tt
told-feedless acees (NoAcee name) h = h
told-feedless acees (AceeExists name) h = h
told-feedless acees AceesFull h = tt
told-feedless acees (BadName name fault) h = either IsFeedlessRefusal (is_some (acee_named name acees)) (BadName name fault) (NoAcee name) h h
told-feedless acees LineTooLong h = tt

put-feedless : (name : List ℕ) (acees : List NamedAcee) → IsFeedless name → IfSome (put_refusal name acees) IsFeedlessRefusal
put-feedless name acees h =
    either (λ o. IfSome o IsFeedlessRefusal) (is_some (acee_named name acees)) (Some (AceeExists name)) _ h
    (either (λ o. IfSome o IsFeedlessRefusal) (length acees == most_acees) (Some AceesFull) None tt tt)

-- what an AUDIT line is
abbrev Audits : Type 0
Audits = (decision : Decision) (user class : List ℕ) (name : Spelled) (asked : Level) → IsFeedless user → IsFeedless class → IsFeedless name.text → IsAuditLine (audit_line decision user class name asked)

module _ (audits : Audits) (position : Imaged) (acees : List NamedAcee) (are : IsFeedlessState position.state) (groups : AreFeedlessAcees acees) where
  stays : (text : List ℕ) (refused : Bool) → AreLines position.generation text → PrintsLines position.generation (record { text = text; refused = refused; acees = acees })
  stays text refused h = record { lines = h; acees = groups }

  works-refused : (why : LineRefusal) → IsFeedlessRefusal why → PrintsLines position.generation (request.refused position acees why)
  works-refused why h = stays _ true (line position.generation (refused_words why) (refusal-words why h))

  verify-told : (name : List ℕ) (result : Result Acee VerifyFault) → IfOk result IsFeedlessAcee → PrintsLines position.generation (request.verify_told position acees name result)
  verify-told name (Ok acee) h = record {
    lines = line position.generation verified_words refl;
    acees = all-and_one (λ (entry : NamedAcee). IsFeedlessAcee entry.acee) acees (record { name = name; acee = acee }) groups h;
  }
  verify-told name (Err fault) h = stays _ false (line position.generation (verify_fault_words fault) (verify-words fault))

  verify-unless : (name : List ℕ) (asked : VerifyRequest) (why : Option LineRefusal) → IfSome why IsFeedlessRefusal → PrintsLines position.generation (request.verify_unless position acees name asked why)
  verify-unless name asked (Some why) h = works-refused why h
  verify-unless name asked None h = verify-told name (verified position.state position.generation asked) (verified-acee position.state position.generation asked are.rows)

  named-acee : (name : List ℕ) → IfSome (acee_named name acees) IsFeedlessAcee
  named-acee name =
      if-map IsFeedlessAcee (λ (entry : NamedAcee). entry.acee) (find (is_named name) acees) (if-found (λ (entry : NamedAcee). IsFeedlessAcee entry.acee) (is_named name) acees groups)

  works-answer : (name : List ℕ) (answer : Acee → request.Outcome) (acee : Option Acee) → ((user : Acee) → IsFeedlessAcee user → PrintsLines position.generation (answer user)) → IsFeedless name → IfSome acee IsFeedlessAcee → PrintsLines position.generation (request.answer_for position acees name answer acee)
  works-answer name answer None works h k = works-refused (NoAcee name) h
  works-answer name answer (Some acee) works h k = works acee k

  works-decision : (fast : Bool) (access : Access) (acee : Acee) (decision : Decision) → IsFeedlessAccess access → IsFeedlessAcee acee → IsFeedless (decision_words position.state.rows access.class decision) → PrintsLines position.generation (request.answered position acees (request.decision_text position fast access acee decision))
  unfolding answer_line request.audited
  works-decision fast access acee decision named user told = by (logged position.state acee access.class access.asked fast decision)
    where
      by : (b : Bool) → PrintsLines position.generation (request.answered position acees (numbered position.generation (decision_words position.state.rows access.class decision) ++ cond b (audit_line decision acee.user access.class access.name access.asked) []))
      by true =
          stays _ false (audited-line position.generation (decision_words position.state.rows access.class decision) _ told
          (audits decision acee.user access.class access.name access.asked user.user named.class named.name))
      by false =
          let words = decision_words position.state.rows access.class decision in
          stays _ false (subst (AreLines position.generation) (sym (append-nil (numbered position.generation words))) (line position.generation words told))

  works-delete : (name : List ℕ) (acee : Option Acee) → IsFeedless name → PrintsLines position.generation (request.delete_for position acees name acee)
  works-delete name None h = works-refused (NoAcee name) h
  works-delete name (Some acee) h = record {
    lines = line position.generation deleted_words refl;
    acees = all-drop_row (λ (entry : NamedAcee). IsFeedlessAcee entry.acee) (is_named name) acees groups;
  }

  works-line : (read : Line) → IsFeedlessLine read → PrintsLines position.generation (request.line_worked position acees read)
  works-line (Verify name asked) h =
      verify-unless name asked (put_refusal name acees) (put-feedless name acees h)
  works-line (Auth name access) h =
      works-answer name (request.auth_for position acees access) (acee_named name acees)
      (λ acee k. works-decision false access acee (request.by_auth position access acee) h.1 k (decided-words position.state acee k access.class access.name access.asked position.generation are)) h.0 (named-acee name)
  works-line (Fastauth name access) h =
      works-answer name (request.fastauth_for position acees access) (acee_named name acees)
      (λ acee k. works-decision true access acee (request.by_fastauth position access acee) h.1 k (fast_decided-words position.state acee k access.class access.name access.asked position.generation are)) h.0 (named-acee name)
  works-line (Delete name) h = works-delete name (acee_named name acees) h
  works-line (After other) h = either (PrintsLines position.generation) (nat_le other position.generation) _ _ (stays [] false (inl refl)) (stays (never_line position.generation) true (inr (inr (inr refl))))
  works-line Skip h = stays [] false (inl refl)

  works-read : (read : Result Line LineRefusal) → IsFeedlessRead read → PrintsLines position.generation (request.worked position acees read)
  works-read (Ok read) h = works-line read h
  works-read (Err why) h = works-refused (request.told acees why) (told-feedless acees why h)

pub prints-read : Audits → (image : Imaged) (acees : List NamedAcee) (bytes : List ℕ) → IsFeedlessState image.state → AreFeedlessAcees acees → PrintsLines image.generation (request.worked image acees (read bytes))
prints-read audits image acees bytes are groups = works-read audits image acees are groups (read bytes) (read-feedless bytes)
