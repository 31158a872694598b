-- What the printed line of each statement says of it.
use Rattle.std.proofs.Common.{◌≡◌, ℕ, ◌+◌, ◌<◌, ◌≤◌, Bool, true, false, ◌||◌, List, [], ◌∷◌, ◌++◌, None, Some, Ok, Err, refl, sym, ◌∙◌, ap, arith, append_assoc}
use Rattle.std.specs.Prelude.{◌==◌, nat_eq, nat_le, Option, Result, codes, decimal, if◌then◌else◌}
use Rattle.std.specs.List.{starts_with}
use Rattle.std.proofs.lemmas.Bool.{ne_eqb, or_right}
use Rattle.std.proofs.Math.Bool.{or-false}
use Rattle.racf_profiles.specs.declared.rows.Rows.{Rows}
use Rattle.acee.specs.declared.acee.Acee.{Acee}
use Rattle.acee.specs.declared.request.VerifyRequest.{VerifyRequest}
use Rattle.acee.specs.declared.request.VerifyFault.{VerifyFault}
use Rattle.acee.specs.declared.request.VerifyFault.TheVariants as verify
use Rattle.raclist_image.specs.Imaged.{Imaged}
use Rattle.decision.specs.declared.outcome.Decision.{Decision}
use Rattle.decision.specs.Verify.{verified}
use Rattle.request_files.specs.declared.acees.NamedAcee.{NamedAcee}
use Rattle.request_files.specs.declared.line.LineRefusal.{LineRefusal}
use Rattle.request_files.specs.declared.line.LineRefusal.TheVariants as fault
use Rattle.request_files.specs.Answers as words
use Rattle.request_files.specs.Answers.{numbered, verified_words, verify_fault_words, deleted_words, rule_words, decision_words, answer_line, never_line}
use Rattle.request_files.specs.Acees.{acee_named, put_refusal}
use Rattle.request_files.specs.Grammar.{Access, Line, Verify, Auth, Fastauth, Delete, After, Skip, read}
use Rattle.request_files.specs.Worked as request
use Rattle.journal_records.specs.declared.record.CommandRecord.{CommandRecord}
use Rattle.desk_rules.specs.declared.refusal.Refusal.{Refusal as OfCommand}
use Rattle.statements.specs.declared.statement.Statement.{Statement}
use Rattle.statements.specs.declared.statement.Statement.TheVariants as item
use Rattle.statements.specs.declared.reply.Refusal.{Refusal}
use Rattle.statements.specs.declared.reply.Refusal.TheVariants as refusal
use Rattle.statements.specs.Replies.{refusal_words, reply_line}
use Rattle.request_files.specs.declared.issuer_line.NamedIssuer.{NamedIssuer}
use Rattle.statements.specs.IssuerLines.{issuer_named}
use Rattle.audit_records.proofs.Digits.{AllDigits, decimal-AllDigits}
use Rattle.racf_stream.specs.Stream as s
use Rattle.racf_stream.specs.Stream.{State, Answer, number_of}
use Rattle.racf_stream.specs.Printed.{behind_blank, says_refused}

-- ---- decimal numbers
no_blank : (d : ℕ) → 48 ≤ d → (d == 32) ≡ false
no_blank d h = ne_eqb d 32 (λ e. omega arith)

pub behind_digits : (ds rest : List ℕ) → AllDigits ds → behind_blank (ds ++ 32 ∷ rest) ≡ rest
behind_digits [] rest h = refl
behind_digits (d ∷ ds) rest h = rw (no_blank d h.0) (behind_digits ds rest h.2)

never_other : (d : ℕ) → d < 58 → nat_eq 78 d ≡ false
never_other d h = ne_eqb 78 d (λ e. omega arith)

refused_other : (d : ℕ) → d < 58 → nat_eq 82 d ≡ false
refused_other d h = ne_eqb 82 d (λ e. omega arith)

digits_not_never : (ds rest : List ℕ) → AllDigits ds → starts_with nat_eq (ds ++ 32 ∷ rest) (codes "NEVER ") ≡ false
digits_not_never [] rest h = refl
digits_not_never (d ∷ ds) rest h = rw (never_other d h.1) refl

digits_not_refused : (ds rest : List ℕ) → AllDigits ds → starts_with nat_eq (ds ++ 32 ∷ rest) (codes "REFUSED ") ≡ false
digits_not_refused [] rest h = refl
digits_not_refused (d ∷ ds) rest h = rw (refused_other d h.1) refl

-- ---- what a line says, by its words

pub numbered_parts : (n : ℕ) (words : List ℕ) → numbered n words ≡ decimal n ++ 32 ∷ (words ++ codes "\n")
numbered_parts n words =
    append_assoc (decimal n ++ codes " ") words (codes "\n") ∙ append_assoc (decimal n) (codes " ") (words ++ codes "\n")

by_words : (ds rest : List ℕ) → AllDigits ds → says_refused (ds ++ 32 ∷ rest) ≡ starts_with nat_eq rest (codes "REFUSED ")
by_words ds rest h = rw (digits_not_never ds rest h, behind_digits ds rest h) refl

numbered_says : (n : ℕ) (words : List ℕ) → says_refused (numbered n words) ≡ starts_with nat_eq (words ++ codes "\n") (codes "REFUSED ")
numbered_says n words = ap says_refused (numbered_parts n words) ∙ by_words (decimal n) (words ++ codes "\n") (decimal-AllDigits n)

refused_says : (n : ℕ) (words : List ℕ) → says_refused (numbered n (codes "REFUSED " ++ words)) ≡ true
refused_says n words = numbered_says n (codes "REFUSED " ++ words)

-- whatever stands behind the line
pub numbered_front : (n : ℕ) (words rest : List ℕ) → numbered n words ++ rest ≡ decimal n ++ 32 ∷ ((words ++ codes "\n") ++ rest)
numbered_front n words rest =
    ap (λ (line : List ℕ). line ++ rest) (numbered_parts n words) ∙ append_assoc (decimal n) (32 ∷ (words ++ codes "\n")) rest

decision_starts : (rc : ℕ) (words rest : List ℕ) → starts_with nat_eq ((((decimal rc ++ codes " ") ++ words) ++ codes "\n") ++ rest) (codes "REFUSED ") ≡ false
decision_starts rc words rest =
    ap (λ line. starts_with nat_eq line (codes "REFUSED ")) (numbered_front rc words rest)
    ∙ digits_not_refused (decimal rc) ((words ++ codes "\n") ++ rest) (decimal-AllDigits rc)

decision_says : (n : ℕ) (rows : Rows) (class : List ℕ) (d : Decision) (rest : List ℕ) → false ≡ says_refused (answer_line n rows class d ++ rest)
unfolding answer_line
decision_says n rows class d rest =
    let words = decision_words rows class d in
    sym (ap says_refused (numbered_front n words rest) ∙ by_words (decimal n) ((words ++ codes "\n") ++ rest) (decimal-AllDigits n) ∙ decision_starts d.rc (rule_words rows class d.rule d) rest)

-- ---- requests

-- an outcome's text says whether it refuses
abbrev Tells : request.Outcome → Type 0
Tells o = o.refused ≡ says_refused o.text

tells_either : (b : Bool) (x y : request.Outcome) → Tells x → Tells y → Tells (if b then x else y)
tells_either true x y p q = p
tells_either false x y p q = q

module _ (image : Imaged) (acees : List NamedAcee) where
  tells_refused : (why : LineRefusal) → Tells (request.refused image acees why)
  tells_refused why = sym (refused_says image.generation (words.refusal_words why))

  fault_says : (cause : VerifyFault) → false ≡ starts_with nat_eq (verify_fault_words cause ++ codes "\n") (codes "REFUSED ")
  fault_says verify.NotDefined = refl
  fault_says verify.NotConnected = refl
  fault_says verify.Revoked = refl
  fault_says verify.ConnectRevoked = refl
  fault_says verify.Port = refl
  fault_says verify.Application = refl
  fault_says verify.Label = refl
  fault_says verify.NoMemory = refl

  tells_verify_told : (name : List ℕ) (result : Result Acee VerifyFault) → Tells (request.verify_told image acees name result)
  tells_verify_told name (Ok acee) = sym (numbered_says image.generation verified_words)
  tells_verify_told name (Err cause) = fault_says cause ∙ sym (numbered_says image.generation (verify_fault_words cause))

  tells_verify_unless : (name : List ℕ) (asked : VerifyRequest) (why : Option LineRefusal) → Tells (request.verify_unless image acees name asked why)
  tells_verify_unless name asked (Some why) = tells_refused why
  tells_verify_unless name asked None = tells_verify_told name (verified image.state image.generation asked)

  tells_answer : (name : List ℕ) (answer : Acee → request.Outcome) (acee : Option Acee) → ((user : Acee) → Tells (answer user)) → Tells (request.answer_for image acees name answer acee)
  tells_answer name answer None tells = tells_refused (fault.NoAcee name)
  tells_answer name answer (Some acee) tells = tells acee

  tells_decision : (fast : Bool) (access : Access) (acee : Acee) (decision : Decision) → Tells (request.answered image acees (request.decision_text image fast access acee decision))
  tells_decision fast access acee decision = decision_says image.generation image.state.rows access.class decision (request.audited image fast access acee decision)

  tells_delete : (name : List ℕ) (acee : Option Acee) → Tells (request.delete_for image acees name acee)
  tells_delete name None = tells_refused (fault.NoAcee name)
  tells_delete name (Some acee) = sym (numbered_says image.generation deleted_words)

  tells_nothing : Tells (request.answered image acees [])
  tells_nothing = refl

  tells_line : (line : Line) → Tells (request.line_worked image acees line)
  tells_line (Verify name asked) = tells_verify_unless name asked (put_refusal name acees)
  tells_line (Auth name access) =
      tells_answer name (request.auth_for image acees access) (acee_named name acees) (λ acee. tells_decision false access acee (request.by_auth image access acee))
  tells_line (Fastauth name access) =
      tells_answer name (request.fastauth_for image acees access) (acee_named name acees) (λ acee. tells_decision true access acee (request.by_fastauth image access acee))
  tells_line (Delete name) = tells_delete name (acee_named name acees)
  tells_line (After number) =
      tells_either (nat_le number image.generation) (request.answered image acees []) (request.refused_with image acees (never_line image.generation)) tells_nothing refl
  tells_line Skip = tells_nothing

  tells_worked : (line : Result Line LineRefusal) → Tells (request.worked image acees line)
  tells_worked (Ok line) = tells_line line
  tells_worked (Err why) = tells_refused (request.told acees why)

-- ---- answers to statements

-- An answer's text says whether it refuses.
abbrev Says : State → Answer → Type 0
Says before a = a.state.has_refused ≡ (before.has_refused || says_refused a.text)

says_either : (before : State) (b : Bool) (x y : Answer) → Says before x → Says before y → Says before (if b then x else y)
says_either before true x y p q = p
says_either before false x y p q = q

says_refuse : (why : Refusal) (before : State) → Says before (s.refuse why before)
unfolding reply_line
says_refuse why before = sym (or_right before.has_refused true refl) ∙ ap (λ b. before.has_refused || b) (sym (refused_says (number_of before) (refusal_words why)))

says_accept : (given : CommandRecord) (before : State) → Says before (s.accept given before)
unfolding reply_line
says_accept given before = sym (or-false before.has_refused) ∙ ap (λ b. before.has_refused || b) (sym (numbered_says (number_of before + 1) (codes "ACCEPTED")))

says_fail : (before : State) → Says before (s.fail before)
unfolding reply_line
says_fail before = sym (or-false before.has_refused) ∙ ap (λ b. before.has_refused || b) (sym (numbered_says (number_of before) (codes "DISKFAULT")))

says_halt : (before : State) → Says before (s.halt before)
unfolding reply_line
says_halt before = sym (or-false before.has_refused) ∙ ap (λ b. before.has_refused || b) (sym (numbered_says (number_of before) (codes "HALTED")))

says_outcome : (fault : Option ℕ) (o : Result CommandRecord OfCommand) (before : State) → Says before (s.answer_outcome fault o before)
says_outcome fault (Err why) before = says_refuse (refusal.Command why) before
says_outcome fault (Ok given) before = says_either before (s.fails_behind fault (number_of before)) (s.fail before) (s.accept given before) (says_fail before) (says_accept given before)

says_command : (fault : Option ℕ) (text : List ℕ) (before : State) → Says before (s.command fault text before)
unfolding s.command
says_command fault text before =
    says_either before before.halted (s.halt before) (s.answer_outcome fault (s.outcome_of text before) before) (says_halt before) (says_outcome fault (s.outcome_of text before) before)

says_issue : (read : Result NamedIssuer Refusal) (before : State) → Says before (s.issue_by read before)
says_issue (Ok issuer) before = sym (or-false before.has_refused)
says_issue (Err why) before = says_refuse why before

says_with : (o : request.Outcome) (before : State) → Tells o → Says before (s.answer_with o before)
says_with o before t = ap (λ b. before.has_refused || b) t

says_request : (text : List ℕ) (before : State) → Says before (s.request text before)
unfolding s.request
says_request text before =
    says_with (request.worked before.position.image before.acees (read text)) before (tells_worked before.position.image before.acees (read text))

says_answer : (fault : Option ℕ) (i : Statement) (before : State) → Says before (s.answer fault i before)
says_answer fault (item.Command text) before = says_command fault text before
says_answer fault (item.Request text) before = says_request text before
says_answer fault (item.Issuer text) before = says_issue (issuer_named before.issuing text) before
says_answer fault item.LineTooLong before = says_refuse refusal.LineTooLong before

pub item_says : (fault : Option ℕ) (i : Statement) (before : State) → (s.step fault i before).has_refused ≡ (before.has_refused || says_refused (s.text fault i before))
unfolding s.step s.text
item_says fault i before = says_answer fault i before
