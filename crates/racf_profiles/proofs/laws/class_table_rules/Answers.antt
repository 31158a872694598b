-- By the table, class by class.
use Rattle.racf_profiles.proofs.Tables.{facts_of-each, is_consistent-each}
use Rattle.racf_profiles.proofs.laws.class_table_rules.Goals as goal

pub returns-clause-each : goal.returns-clause-each
returns-clause-each c = facts_of-each

pub returns-clause-consistent : goal.returns-clause-consistent
returns-clause-consistent c = is_consistent-each
