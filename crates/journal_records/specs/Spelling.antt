-- The bytes of a record.
use Rattle.std.specs.Prelude.{◌≡◌, ℕ, ◌<◌, ◌-◌, List, ◌++◌, length, get_or, replicate, Ok}
use Rattle.byteorder.specs.Endian.{big_bytes}
use Rattle.access_levels.specs.Spelling.{id_of}
use Rattle.command_parser.specs.Canonical.{canonical, IsWritten}
use Rattle.journal_records.specs.declared.record.CommandRecord.{CommandRecord}

-- An identifier takes eight bytes: its spelling, and blanks behind it.
abbrev pub filled : List ℕ → List ℕ
filled id = id ++ replicate (8 - length id) 32

-- What follows the length: the issuer, his current group, and the canonical text of the command.
abbrev pub content : CommandRecord → List ℕ
content item = filled item.issuer.id ++ filled item.issuer.group ++ canonical item.command

-- A record: the length of what follows, in four bytes, the highest first, and what follows.
unfoldable pub spelled : CommandRecord → List ℕ
spelled item = big_bytes 4 (length (content item)) ++ content item

-- What the type of records keeps: the issuer is an identifier, and the command has a canonical text. That the group is
-- spelled as one stands in the issuer.
pub record IsLawful (item : CommandRecord) : Type 0 where
  pub issuer : id_of item.issuer.id ≡ Ok item.issuer.id
  pub command : IsWritten item.command (canonical item.command)

-- The numbers of a text are bytes.
abbrev pub AreBytes : List ℕ → Type 0
AreBytes bytes = (i : ℕ) → get_or bytes i 0 < 256
