-- Which decisions are logged, worked out: cases where two of them would fit, and the lines.
use Rattle.std.proofs.Common.{◌≡◌, ℕ, Bool, true, false, List, [], Some, None, map, refl}
use Rattle.std.specs.Prelude.{codes}
use Rattle.access_levels.specs.declared.levels.Level.{Level}
use Rattle.access_levels.specs.declared.levels.Level.TheVariants.{NoAccess, Read, Update, Alter}
use Rattle.access_levels.specs.declared.entries.Attributes.{Attributes}
use Rattle.generic_names.specs.Spelled.{Spelled}
use Rattle.generic_names.specs.declared.kind.NameKind.TheVariants.{DataSet}
use Rattle.racf_profiles.specs.declared.profiles.AuditRule.{AuditRule}
use Rattle.racf_profiles.specs.declared.class_rows.ClassRow.{ClassRow}
use Rattle.racf_profiles.specs.declared.class_rows.LogOption.{LogOption}
use Rattle.racf_profiles.specs.declared.class_rows.LogOption.TheVariants.{ByProfile, Always, Never, Successes, Failures}
use Rattle.racf_profiles.specs.NewDatabase.{new_database}
use Rattle.racf_profiles.specs.State.{State, restart}
use Rattle.acee.specs.declared.acee.Acee.{Acee}
use Rattle.decision.specs.declared.outcome.Rule.{Rule}
use Rattle.decision.specs.declared.outcome.Rule.TheVariants as rule
use Rattle.decision.specs.declared.outcome.Audits.{Audits}
use Rattle.decision.specs.declared.outcome.Decision.{Decision}
use Rattle.audit_records.specs.Logged.{logged}
use Rattle.audit_records.specs.Line.{audit_line}

abbrev plain : Attributes
plain = record { special = false; operations = false; auditor = false; restricted = false; revoked = false; uaudit = false }

abbrev joe : Acee
joe = record {
  user = codes "JOE";
  current = codes "G1";
  groups = [];
  attributes = plain;
  level = 0;
  categories = 0;
  label = None;
  port = None;
  application = None;
  generation = 0;
}

abbrev watched : Acee
watched = record joe { attributes = record plain { uaudit = true } }

abbrev a : Spelled
a = record { kind = DataSet; text = codes "SYS1.A" }

-- A new database under that log option in each class.
abbrev under : LogOption → State
under option = restart (record new_database { classes = map (λ (row : ClassRow). record row { log = option }) new_database.classes })

-- ---- what profiles ask for
abbrev nothing : AuditRule
nothing = record { success = None; failures = None }

abbrev failures_from : Level → AuditRule
failures_from level = record { success = None; failures = Some level }

abbrev successes_from : Level → AuditRule
successes_from level = record { success = Some level; failures = None }

-- AUDIT(FAILURES(READ)) is what a profile has that was defined without AUDIT.
abbrev by_default : Audits
by_default = record { audit = failures_from Read; global_audit = nothing }

abbrev silent : Audits
silent = record { audit = nothing; global_audit = nothing }

-- ---- decisions
abbrev before_a_profile : Rule → ℕ → Decision
before_a_profile by rc = record { rc = rc; rule = by; profile = None; audits = None; found = NoAccess; warned = false; generation = 7 }

abbrev by_a_profile : Rule → ℕ → Audits → Decision
by_a_profile by rc audits = record { rc = rc; rule = by; profile = Some a; audits = Some audits; found = Alter; warned = false; generation = 7 }

abbrev refused : Audits → Decision
refused audits = by_a_profile rule.Insufficient 8 audits

abbrev allowed : Audits → Decision
allowed audits = by_a_profile rule.Uacc 0 audits

abbrev warned : Decision
warned = record (by_a_profile rule.Warning 0 silent) { warned = true }

-- Whether a decision of JOE on a data set is logged.
abbrev of_joe : LogOption → (asked : Level) → Decision → Bool
of_joe option asked decision = logged (under option) joe (codes "DATASET") asked false decision

-- 1 before 2: FASTAUTH, of a profile that warns and under ALWAYS.
fast : logged (under Always) joe (codes "DATASET") Read true warned ≡ false
unfolding logged
fast = refl

-- 2 before 5: a warning under NEVER.
warning : of_joe Never Read warned ≡ true
unfolding logged
warning = refl

-- 3 before 4: the global access table under ALWAYS.
global : of_joe Always Read (before_a_profile (rule.Global 0) 0) ≡ false
unfolding logged
global = refl

-- 4 before 6: a class that is off under ALWAYS; what isn't a class has no option.
class_off : logged (under Always) joe (codes "FACILITY") Read false (before_a_profile rule.ClassOff 4) ≡ true
unfolding logged
class_off = refl

no_class : logged (under Always) watched (codes "NOSUCH") Read false (before_a_profile rule.NoClass 4) ≡ false
unfolding logged
no_class = refl

always : of_joe Always Read (allowed silent) ≡ true
unfolding logged
always = refl

-- 5 before 7 and 8: UAUDIT under NEVER, and a data set without a profile.
never-uaudit : logged (under Never) watched (codes "DATASET") Read false (refused by_default) ≡ false
unfolding logged
never-uaudit = refl

never-protect_all : of_joe Never Read (before_a_profile rule.ProtectAll 8) ≡ false
unfolding logged
never-protect_all = refl

-- 6 before 7: nothing is decided, for a user with UAUDIT.
undecided : logged (under ByProfile) watched (codes "DATASET") Read false (before_a_profile rule.NoProfile 4) ≡ false
unfolding logged
undecided = refl

-- 7: UAUDIT where the profile asks for nothing.
uaudit : logged (under ByProfile) watched (codes "DATASET") Read false (allowed silent) ≡ true
unfolding logged
uaudit = refl

-- 8: PROTECTALL, under SUCCESSES too.
protect_all : of_joe Successes Read (before_a_profile rule.ProtectAll 8) ≡ true
unfolding logged
protect_all = refl

-- 9: the option asks for one code, and leaves the other to the profile.
successes : of_joe Successes Read (allowed silent) ≡ true
unfolding logged
successes = refl

successes-failure : of_joe Successes Read (refused silent) ≡ false
unfolding logged
successes-failure = refl

failures : of_joe Failures Read (refused silent) ≡ true
unfolding logged
failures = refl

failures-success : of_joe Failures Read (allowed by_default) ≡ false
unfolding logged
failures-success = refl

-- 10 and 11: the default asks for failures from READ on; the level counts that was asked, and not the one found.
by_default-failure : of_joe ByProfile Read (refused by_default) ≡ true
unfolding logged
by_default-failure = refl

by_default-success : of_joe ByProfile Read (allowed by_default) ≡ false
unfolding logged
by_default-success = refl

below_the_level : of_joe ByProfile Read (allowed (record { audit = successes_from Update; global_audit = nothing })) ≡ false
unfolding logged
below_the_level = refl

at_the_level : of_joe ByProfile Update (allowed (record { audit = successes_from Update; global_audit = nothing })) ≡ true
unfolding logged
at_the_level = refl

-- GLOBALAUDIT alone, of successes and of failures.
global_audit : of_joe ByProfile Read (allowed (record { audit = failures_from Read; global_audit = successes_from Read })) ≡ true
unfolding logged
global_audit = refl

global_audit-failure : of_joe ByProfile Alter (refused (record { audit = nothing; global_audit = failures_from Update })) ≡ true
unfolding logged
global_audit-failure = refl

-- ---- lines
abbrev line : (class : List ℕ) → (asked : Level) → Decision → List ℕ
line class asked decision = audit_line decision joe.user class a asked

line-success : line (codes "DATASET") Read (allowed silent) ≡ codes "AUDIT SUCCESS JOE DATASET SYS1.A READ\n"
unfolding audit_line
line-success = refl

line-failure : line (codes "DATASET") Update (refused by_default) ≡ codes "AUDIT FAILURE JOE DATASET SYS1.A UPDATE\n"
unfolding audit_line
line-failure = refl

line-undecided : line (codes "FACILITY") Read (before_a_profile rule.ClassOff 4) ≡ codes "AUDIT UNDECIDED JOE FACILITY SYS1.A READ\n"
unfolding audit_line
line-undecided = refl

line-warning : line (codes "DATASET") Alter warned ≡ codes "AUDIT WARNING JOE DATASET SYS1.A ALTER\n"
unfolding audit_line
line-warning = refl
