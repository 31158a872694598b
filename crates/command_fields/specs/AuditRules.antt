-- The rules of AUDIT and GLOBALAUDIT that a text can spell.
use Rattle.std.specs.Prelude.{Bool, true, ◌&&◌, nat_le, Option, None, Some}
use Rattle.access_levels.specs.declared.levels.Level.{Level}
use Rattle.access_levels.specs.Level.{level_rank}
use Rattle.racf_profiles.specs.declared.profiles.AuditRule.{AuditRule}

-- The levels of auditing are READ, UPDATE, CONTROL and ALTER.
abbrev pub is_audit_level : Level → Bool
is_audit_level l = nat_le 2 (level_rank l)

abbrev pub is_half : Option Level → Bool
is_half None = true
is_half (Some l) = is_audit_level l

abbrev pub is_audit_rule : AuditRule → Bool
is_audit_rule rule = is_half rule.success && is_half rule.failures
