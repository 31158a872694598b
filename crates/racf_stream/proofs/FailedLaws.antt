-- A line says that a disk failed a command exactly where one did.
use Rattle.std.proofs.Common.{◌≡◌, ℕ, ◌+◌, ◌<◌, Bool, true, false, ◌||◌, List, [], ◌∷◌, ◌++◌, None, Some, Ok, Err, refl, sym, ◌∙◌, ap, arith}
use Rattle.std.specs.Prelude.{nat_eq, nat_le, Option, Result, codes, decimal, if◌then◌else◌}
use Rattle.std.specs.List.{starts_with}
use Rattle.std.proofs.lemmas.Bool.{ne_eqb, or_right}
use Rattle.std.proofs.Math.Bool.{or-false}
use Rattle.racf_profiles.specs.declared.rows.Rows.{Rows}
use Rattle.acee.specs.declared.acee.Acee.{Acee}
use Rattle.acee.specs.declared.request.VerifyRequest.{VerifyRequest}
use Rattle.acee.specs.declared.request.VerifyFault.{VerifyFault}
use Rattle.acee.specs.declared.request.VerifyFault.TheVariants as verify
use Rattle.raclist_image.specs.Imaged.{Imaged}
use Rattle.decision.specs.declared.outcome.Decision.{Decision}
use Rattle.decision.specs.Verify.{verified}
use Rattle.journal_records.specs.declared.record.CommandRecord.{CommandRecord}
use Rattle.request_files.specs.declared.acees.NamedAcee.{NamedAcee}
use Rattle.request_files.specs.declared.line.LineRefusal.{LineRefusal}
use Rattle.request_files.specs.declared.line.LineRefusal.TheVariants as fault
use Rattle.request_files.specs.Answers as words
use Rattle.request_files.specs.Answers.{numbered, verified_words, verify_fault_words, deleted_words, rule_words, decision_words, answer_line, never_line}
use Rattle.request_files.specs.Acees.{acee_named, put_refusal}
use Rattle.request_files.specs.Grammar.{Access, Line, Verify, Auth, Fastauth, Delete, After, Skip, read}
use Rattle.request_files.specs.Worked as request
use Rattle.request_files.specs.declared.issuer_line.NamedIssuer.{NamedIssuer}
use Rattle.desk_rules.specs.declared.refusal.Refusal.{Refusal as OfCommand}
use Rattle.statements.specs.declared.statement.Statement.{Statement}
use Rattle.statements.specs.declared.statement.Statement.TheVariants as item
use Rattle.statements.specs.declared.reply.Refusal.{Refusal}
use Rattle.statements.specs.declared.reply.Refusal.TheVariants as refusal
use Rattle.statements.specs.Replies.{refusal_words, reply_line}
use Rattle.statements.specs.IssuerLines.{issuer_named}
use Rattle.racf_stream.specs.Stream as s
use Rattle.racf_stream.specs.Stream.{State, Answer, number_of}
use Rattle.racf_stream.specs.Printed.{says_failed}
use Rattle.audit_records.proofs.Digits.{AllDigits, decimal-AllDigits}
use Rattle.racf_stream.proofs.PrintedLaws.{behind_digits, numbered_parts, numbered_front}

-- ---- what a line says, by its words

by_words : (ds rest : List ℕ) → AllDigits ds → says_failed (ds ++ 32 ∷ rest) ≡ starts_with nat_eq rest (codes "DISKFAULT")
by_words ds rest h = ap (λ text. starts_with nat_eq text (codes "DISKFAULT")) (behind_digits ds rest h)

numbered_says : (n : ℕ) (words : List ℕ) → says_failed (numbered n words) ≡ starts_with nat_eq (words ++ codes "\n") (codes "DISKFAULT")
numbered_says n words = ap says_failed (numbered_parts n words) ∙ by_words (decimal n) (words ++ codes "\n") (decimal-AllDigits n)

-- a number begins otherwise
other_digit : (d : ℕ) → d < 58 → nat_eq 68 d ≡ false
other_digit d h = ne_eqb 68 d (λ e. omega arith)

digits_say : (ds rest : List ℕ) → AllDigits ds → starts_with nat_eq (ds ++ 32 ∷ rest) (codes "DISKFAULT") ≡ false
digits_say [] rest h = refl
digits_say (d ∷ ds) rest h = rw (other_digit d h.1) refl

decision_starts : (rc : ℕ) (words rest : List ℕ) → starts_with nat_eq ((((decimal rc ++ codes " ") ++ words) ++ codes "\n") ++ rest) (codes "DISKFAULT") ≡ false
decision_starts rc words rest =
    ap (λ line. starts_with nat_eq line (codes "DISKFAULT")) (numbered_front rc words rest)
    ∙ digits_say (decimal rc) ((words ++ codes "\n") ++ rest) (decimal-AllDigits rc)

-- ---- requests

-- A text doesn't say that a disk failed.
abbrev IsOther : List ℕ → Type 0
IsOther text = says_failed text ≡ false

either_other : (b : Bool) (x y : request.Outcome) → IsOther x.text → IsOther y.text → IsOther (if b then x else y).text
either_other true x y p q = p
either_other false x y p q = q

decision_other : (n : ℕ) (rows : Rows) (class : List ℕ) (d : Decision) (rest : List ℕ) → IsOther (answer_line n rows class d ++ rest)
unfolding answer_line
decision_other n rows class d rest =
    let words = decision_words rows class d in
    ap says_failed (numbered_front n words rest) ∙ by_words (decimal n) ((words ++ codes "\n") ++ rest) (decimal-AllDigits n) ∙ decision_starts d.rc (rule_words rows class d.rule d) rest

never_other : (n : ℕ) → IsOther (never_line n)
never_other n = digits_say_alone (decimal n) (decimal-AllDigits n)
  where
    digits_say_alone : (ds : List ℕ) → AllDigits ds → starts_with nat_eq (ds ++ codes "\n") (codes "DISKFAULT") ≡ false
    digits_say_alone [] h = refl
    digits_say_alone (d ∷ ds) h = rw (other_digit d h.1) refl

module _ (image : Imaged) (acees : List NamedAcee) where
  refused_other : (why : LineRefusal) → IsOther (request.refused image acees why).text
  refused_other why = numbered_says image.generation (codes "REFUSED " ++ words.refusal_words why)

  fault_other : (cause : VerifyFault) → starts_with nat_eq (verify_fault_words cause ++ codes "\n") (codes "DISKFAULT") ≡ false
  fault_other verify.NotDefined = refl
  fault_other verify.NotConnected = refl
  fault_other verify.Revoked = refl
  fault_other verify.ConnectRevoked = refl
  fault_other verify.Port = refl
  fault_other verify.Application = refl
  fault_other verify.Label = refl
  fault_other verify.NoMemory = refl

  verify_told_other : (name : List ℕ) (result : Result Acee VerifyFault) → IsOther (request.verify_told image acees name result).text
  verify_told_other name (Ok acee) = numbered_says image.generation verified_words
  verify_told_other name (Err cause) = numbered_says image.generation (verify_fault_words cause) ∙ fault_other cause

  verify_other : (name : List ℕ) (asked : VerifyRequest) (why : Option LineRefusal) → IsOther (request.verify_unless image acees name asked why).text
  verify_other name asked (Some why) = refused_other why
  verify_other name asked None = verify_told_other name (verified image.state image.generation asked)

  answer_other : (name : List ℕ) (answer : Acee → request.Outcome) (acee : Option Acee) → ((user : Acee) → IsOther (answer user).text) → IsOther (request.answer_for image acees name answer acee).text
  answer_other name answer None each = refused_other (fault.NoAcee name)
  answer_other name answer (Some acee) each = each acee

  text_other : (fast : Bool) (access : Access) (acee : Acee) (decision : Decision) → IsOther (request.decision_text image fast access acee decision)
  text_other fast access acee decision = decision_other image.generation image.state.rows access.class decision (request.audited image fast access acee decision)

  delete_other : (name : List ℕ) (acee : Option Acee) → IsOther (request.delete_for image acees name acee).text
  delete_other name None = refused_other (fault.NoAcee name)
  delete_other name (Some acee) = numbered_says image.generation deleted_words

  line_other : (line : Line) → IsOther (request.line_worked image acees line).text
  line_other (Verify name asked) = verify_other name asked (put_refusal name acees)
  line_other (Auth name access) =
      answer_other name (request.auth_for image acees access) (acee_named name acees) (λ acee. text_other false access acee (request.by_auth image access acee))
  line_other (Fastauth name access) =
      answer_other name (request.fastauth_for image acees access) (acee_named name acees) (λ acee. text_other true access acee (request.by_fastauth image access acee))
  line_other (Delete name) = delete_other name (acee_named name acees)
  line_other (After number) =
      either_other (nat_le number image.generation) (request.answered image acees []) (request.refused_with image acees (never_line image.generation)) refl (never_other image.generation)
  line_other Skip = refl

  worked_other : (line : Result Line LineRefusal) → IsOther (request.worked image acees line).text
  worked_other (Ok line) = line_other line
  worked_other (Err why) = refused_other (request.told acees why)

-- ---- answers to statements

-- An answer's text says whether a disk failed.
abbrev Says : State → Answer → Type 0
Says before a = a.state.halted ≡ (before.halted || says_failed a.text)

-- An answer that leaves a desk as it is, and says nothing of disks.
says_other : (before : State) (text : List ℕ) → IsOther text → before.halted ≡ (before.halted || says_failed text)
says_other before text other = sym (or-false before.halted) ∙ ap (λ b. before.halted || b) (sym other)

says_either : (before : State) (b : Bool) (x y : Answer) → Says before x → Says before y → Says before (if b then x else y)
says_either before true x y p q = p
says_either before false x y p q = q

says_refuse : (why : Refusal) (before : State) → Says before (s.refuse why before)
unfolding reply_line
says_refuse why before = says_other before (numbered (number_of before) (codes "REFUSED " ++ refusal_words why)) (numbered_says (number_of before) (codes "REFUSED " ++ refusal_words why))

says_accept : (given : CommandRecord) (before : State) → Says before (s.accept given before)
unfolding reply_line
says_accept given before = says_other before (numbered (number_of before + 1) (codes "ACCEPTED")) (numbered_says (number_of before + 1) (codes "ACCEPTED"))

says_halt : (before : State) → Says before (s.halt before)
unfolding reply_line
says_halt before = says_other before (numbered (number_of before) (codes "HALTED")) (numbered_says (number_of before) (codes "HALTED"))

says_fail : (before : State) → Says before (s.fail before)
unfolding reply_line
says_fail before = sym (or_right before.halted true refl) ∙ ap (λ b. before.halted || b) (sym (numbered_says (number_of before) (codes "DISKFAULT")))

says_outcome : (fault : Option ℕ) (o : Result CommandRecord OfCommand) (before : State) → Says before (s.answer_outcome fault o before)
says_outcome fault (Err why) before = says_refuse (refusal.Command why) before
says_outcome fault (Ok given) before = says_either before (s.fails_behind fault (number_of before)) (s.fail before) (s.accept given before) (says_fail before) (says_accept given before)

says_command : (fault : Option ℕ) (text : List ℕ) (before : State) → Says before (s.command fault text before)
unfolding s.command
says_command fault text before =
    says_either before before.halted (s.halt before) (s.answer_outcome fault (s.outcome_of text before) before) (says_halt before) (says_outcome fault (s.outcome_of text before) before)

says_issue : (read : Result NamedIssuer Refusal) (before : State) → Says before (s.issue_by read before)
says_issue (Ok issuer) before = says_other before [] refl
says_issue (Err why) before = says_refuse why before

says_request : (text : List ℕ) (before : State) → Says before (s.request text before)
unfolding s.request
says_request text before =
    let outcome = request.worked before.position.image before.acees (read text) in
    says_other before outcome.text (worked_other before.position.image before.acees (read text))

says_answer : (fault : Option ℕ) (i : Statement) (before : State) → Says before (s.answer fault i before)
says_answer fault (item.Command text) before = says_command fault text before
says_answer fault (item.Request text) before = says_request text before
says_answer fault (item.Issuer text) before = says_issue (issuer_named before.issuing text) before
says_answer fault item.LineTooLong before = says_refuse refusal.LineTooLong before

pub item_fails : (fault : Option ℕ) (i : Statement) (before : State) → (s.step fault i before).halted ≡ (before.halted || says_failed (s.text fault i before))
unfolding s.step s.text
item_fails fault i before = says_answer fault i before
