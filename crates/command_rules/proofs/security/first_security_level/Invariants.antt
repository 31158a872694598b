use Rattle.std.proofs.Common.{◌≡◌, drop}
use Rattle.command_rules.specs.Security.{first_security_level}
use Rattle.command_rules.proofs.security.first_security_level.Given as goal

-- none of those that were passed has the name
abbrev pub invariant-loop-member : goal.invariant-loop-member
invariant-loop-member l = first_security_level l.name (drop l.member-index l.members) ≡ first_security_level l.name l.members
