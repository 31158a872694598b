use Rattle.std.proofs.Common.{◌≡◌, ℕ, List, Option, not, is_some, drop}
use Rattle.std.specs.Prelude.{find}
use Rattle.std.specs.List.{flat_map}
use Rattle.racf_profiles.specs.declared.rows.Rows.{Rows}
use Rattle.racf_profiles.specs.Lookup.{class_of}
use Rattle.command_fields.specs.declared.log_clauses.LogClause.{LogClause}
use Rattle.command_conflicts.proofs.check.options.first_absent_logged.Given as goal

abbrev pub first_absent_in : Rows → List LogClause → Option (List ℕ)
first_absent_in rows clauses = find (λ class. not (is_some (class_of class rows))) (flat_map (λ (clause : LogClause). clause.classes) clauses)

-- the classes under the words that were passed are in the table
abbrev pub invariant-loop-clause : goal.invariant-loop-clause
invariant-loop-clause l = first_absent_in l.tables.rows (drop l.clause-index l.clauses) ≡ first_absent_in l.tables.rows l.clauses
