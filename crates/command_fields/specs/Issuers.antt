-- What a command takes from its issuer where it names nothing.
use Rattle.std.specs.Prelude.{ℕ, List, Option, unwrap_or}
use Rattle.command_fields.specs.declared.issuer.Issuer.{Issuer}

-- The default group of ADDUSER, the superior group of ADDGROUP, and the group of CONNECT and of REMOVE are by default
-- the issuer's current group.
abbrev pub group_or_current : Issuer → Option (List ℕ) → List ℕ
group_or_current issuer given = unwrap_or given issuer.group
