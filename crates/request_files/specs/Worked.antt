-- What the working of a line does: what it prints, whether the line was refused, and the ACEEs after it.
use Rattle.std.specs.Prelude.{◌≡◌, ℕ, nat_le, Bool, true, false, List, [], ◌++◌, Option, Some, None, is_some, Result, Ok, Err, if◌then◌else◌}
use Rattle.acee.specs.declared.acee.Acee.{Acee}
use Rattle.acee.specs.declared.request.VerifyRequest.{VerifyRequest}
use Rattle.acee.specs.declared.request.VerifyFault.{VerifyFault}
use Rattle.raclist_image.specs.Imaged.{Imaged}
use Rattle.decision.specs.declared.outcome.Decision.{Decision}
use Rattle.decision.specs.Table.{decided, fast_decided}
use Rattle.decision.specs.Verify.{verified}
use Rattle.audit_records.specs.Logged.{logged}
use Rattle.audit_records.specs.Line.{audit_line}
use Rattle.request_files.specs.declared.acees.NamedAcee.{NamedAcee}
use Rattle.request_files.specs.declared.line.LineRefusal.{LineRefusal}
use Rattle.request_files.specs.declared.line.LineRefusal.TheVariants as refusal
use Rattle.request_files.specs.Acees.{acee_named, put_refusal, with_acee, without_acee}
use Rattle.request_files.specs.Answers.{numbered, refused_words, verified_words, verify_fault_words, deleted_words, answer_line, never_line}
use Rattle.request_files.specs.Grammar.{Access, Line, Verify, Auth, Fastauth, Delete, After, Skip}

pub record Outcome : Type 0 where
  pub text : List ℕ
  pub refused : Bool
  pub acees : List NamedAcee

-- A name's fault is told only where the ACEE is there.
abbrev pub told : List NamedAcee → LineRefusal → LineRefusal
told acees (refusal.BadLine place) = refusal.BadLine place
told acees (refusal.NoAcee name) = refusal.NoAcee name
told acees (refusal.AceeExists name) = refusal.AceeExists name
told acees refusal.AceesFull = refusal.AceesFull
told acees (refusal.BadName name fault) = if is_some (acee_named name acees) then refusal.BadName name fault else refusal.NoAcee name
told acees refusal.LineTooLong = refusal.LineTooLong

-- ---- AUTH and FASTAUTH on an image, for an ACEE
module _ (image : Imaged) where
  abbrev pub by_auth : Access → Acee → Decision
  by_auth access acee = decided image.state image.generation acee access.class access.name access.asked

  abbrev pub by_fastauth : Access → Acee → Decision
  by_fastauth access acee = fast_decided image.state image.generation acee access.class access.name access.asked

  -- Behind the answer stands its AUDIT line, where the decision is logged.
  unfoldable pub audited : (fast : Bool) → Access → Acee → Decision → List ℕ
  audited fast access acee decision =
      if logged image.state acee access.class access.asked fast decision then audit_line decision acee.user access.class access.name access.asked else []

  abbrev pub decision_text : (fast : Bool) → Access → Acee → Decision → List ℕ
  decision_text fast access acee decision = answer_line image.generation image.state.rows access.class decision ++ audited fast access acee decision

-- ---- a line, on an image and with the ACEEs in use. The number printed is the image's.
module _ (image : Imaged) (acees : List NamedAcee) where
  -- a line that is answered, with what is printed, and one that is refused; neither changes the ACEEs
  abbrev pub answered : List ℕ → Outcome
  answered text = record { text = text; refused = false; acees = acees }

  abbrev pub refused_with : List ℕ → Outcome
  refused_with text = record { text = text; refused = true; acees = acees }

  abbrev pub refused : LineRefusal → Outcome
  refused why = refused_with (numbered image.generation (refused_words why))

  -- VERIFY puts the ACEE of a user who is verified. It asks whether one can be put before it verifies.
  abbrev pub verify_told : List ℕ → Result Acee VerifyFault → Outcome
  verify_told name (Ok acee) = record { text = numbered image.generation verified_words; refused = false; acees = with_acee name acee acees }
  verify_told name (Err fault) = answered (numbered image.generation (verify_fault_words fault))

  abbrev pub verify_unless : List ℕ → VerifyRequest → Option LineRefusal → Outcome
  verify_unless name request (Some why) = refused why
  verify_unless name request None = verify_told name (verified image.state image.generation request)

  abbrev pub verify_worked : List ℕ → VerifyRequest → Outcome
  verify_worked name request = verify_unless name request (put_refusal name acees)

  -- AUTH and FASTAUTH decide for the user of their ACEE.
  abbrev pub answer_for : List ℕ → (Acee → Outcome) → Option Acee → Outcome
  answer_for name answer None = refused (refusal.NoAcee name)
  answer_for name answer (Some acee) = answer acee

  abbrev pub auth_for : Access → Acee → Outcome
  auth_for access acee = answered (decision_text image false access acee (by_auth image access acee))

  abbrev pub fastauth_for : Access → Acee → Outcome
  fastauth_for access acee = answered (decision_text image true access acee (by_fastauth image access acee))

  -- DELETE takes its ACEE out.
  abbrev pub delete_for : List ℕ → Option Acee → Outcome
  delete_for name None = refused (refusal.NoAcee name)
  delete_for name (Some acee) = record { text = numbered image.generation deleted_words; refused = false; acees = without_acee name acees }

  -- `*AFTER` prints nothing where its number is reached.
  abbrev pub after_worked : ℕ → Outcome
  after_worked number = if nat_le number image.generation then answered [] else refused_with (never_line image.generation)

  abbrev pub line_worked : Line → Outcome
  line_worked (Verify name request) = verify_worked name request
  line_worked (Auth name access) = answer_for name (auth_for access) (acee_named name acees)
  line_worked (Fastauth name access) = answer_for name (fastauth_for access) (acee_named name acees)
  line_worked (Delete name) = delete_for name (acee_named name acees)
  line_worked (After number) = after_worked number
  line_worked Skip = answered []

  abbrev pub worked : Result Line LineRefusal → Outcome
  worked (Ok line) = line_worked line
  worked (Err why) = refused (told acees why)

-- An outcome shows in the output, in the ACEEs, and in whether the line was refused.
pub record Shows (outcome : Outcome) (before after : List ℕ) (table : List NamedAcee) (was_refused : Bool) : Type 0 where
  pub text : after ≡ before ++ outcome.text
  pub acees : table ≡ outcome.acees
  pub refused : was_refused ≡ outcome.refused

-- Where memory is short, the output and the ACEEs stay.
pub record Untouched (before after : List ℕ) (table table_after : List NamedAcee) : Type 0 where
  pub text : after ≡ before
  pub acees : table_after ≡ table
