-- An AUDIT line is one line.
use Rattle.std.specs.Prelude.{◌≡◌, ℕ, List, ◌++◌, codes}
use Rattle.audit_records.specs.Feedless.{IsFeedless}

-- words without a line feed, behind AUDIT, and the line feed that ends them
abbrev pub audit_text : List ℕ → List ℕ
audit_text words = codes "AUDIT " ++ words ++ codes "\n"

pub record IsAuditLine (text : List ℕ) : Type 0 where
  pub words : List ℕ
  pub no_feed : IsFeedless words
  pub is_line : text ≡ audit_text words
