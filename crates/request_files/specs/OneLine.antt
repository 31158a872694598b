-- What is printed for a line of requests stands on lines of its own: no line feed is in their words.
use Rattle.std.specs.Prelude.{◌≡◌, ◌⊎◌, ℕ, List, [], ◌++◌, IfSome}
use Rattle.std.specs.List.{AllByRecursion}
use Rattle.acee.specs.declared.acee.Acee.{Acee}
use Rattle.acee.specs.declared.groups.AceeGroup.{AceeGroup}
use Rattle.audit_records.specs.Feedless.{IsFeedless}
use Rattle.audit_records.specs.OneLine.{audit_text}
use Rattle.request_files.specs.declared.acees.NamedAcee.{NamedAcee}
use Rattle.request_files.specs.declared.issuer_line.NamedIssuer.{NamedIssuer}
use Rattle.request_files.specs.Answers.{numbered, never_line}
use Rattle.request_files.specs.Worked.{Outcome}

-- ---- ACEEs, and issuers, whose IDs hold no line feed
pub record IsFeedlessAcee (acee : Acee) : Type 0 where
  pub user : IsFeedless acee.user
  pub groups : AllByRecursion (λ (group : AceeGroup). IsFeedless group.group) acee.groups

abbrev pub AreFeedlessAcees : List NamedAcee → Type 0
AreFeedlessAcees acees = AllByRecursion (λ (entry : NamedAcee). IsFeedlessAcee entry.acee) acees

pub record IsFeedlessNamed (issuer : NamedIssuer) : Type 0 where
  pub id : IsFeedless issuer.id
  pub group : IfSome issuer.group IsFeedless

-- ---- one line, whose words hold no line feed, behind a number
pub record IsNumbered (number : ℕ) (text : List ℕ) : Type 0 where
  pub words : List ℕ
  pub no_feed : IsFeedless words
  pub is_line : text ≡ numbered number words

-- such a line, and an AUDIT line behind it
pub record IsAudited (number : ℕ) (text : List ℕ) : Type 0 where
  pub words : List ℕ
  pub no_feed : IsFeedless words
  pub audit : List ℕ
  pub no_audit_feed : IsFeedless audit
  pub are_lines : text ≡ numbered number words ++ audit_text audit

-- nothing, one line, such two, or that a number never comes
abbrev pub AreLines : ℕ → List ℕ → Type 0
AreLines number text = (text ≡ []) ⊎ (IsNumbered number text ⊎ (IsAudited number text ⊎ (text ≡ never_line number)))

-- what the working of a line prints, and leaves
pub record PrintsLines (number : ℕ) (outcome : Outcome) : Type 0 where
  pub lines : AreLines number outcome.text
  pub acees : AreFeedlessAcees outcome.acees
