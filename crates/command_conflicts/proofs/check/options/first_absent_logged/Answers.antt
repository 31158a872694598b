-- One word further: the first class that is absent is one of this word, or of those behind it.
use Rattle.std.proofs.Common.{◌≡◌, ◌∙◌, ◌+◌, ◌<◌, ℕ, List, Option, Some, None, not, is_some, length, drop, get_or, ap, sym, arith}
use Rattle.std.specs.List.{find, flat_map}
use Rattle.std.specs.Option.{option_or}
use Rattle.std.proofs.lemmas.List.{at_drop_more}
use Rattle.std.proofs.lemmas.List.Folds.{find-append}
use Rattle.racf_profiles.specs.declared.rows.Rows.{Rows}
use Rattle.racf_profiles.specs.Lookup.{class_of}
use Rattle.command_fields.specs.declared.log_clauses.LogClause.{LogClause}
use Rattle.command_conflicts.proofs.check.options.first_absent_logged.Invariants.{first_absent_in}
use Rattle.command_conflicts.proofs.check.options.first_absent_logged.Goals as goal

-- from the word at `i` on, with what was found among its classes
found-from : (rows : Rows) (clauses : List LogClause) (i : ℕ) (clause : LogClause) (classes : List (List ℕ)) (found : Option (List ℕ)) → i < length clauses → clause ≡ get_or clauses i clause → classes ≡ clause.classes
    → found ≡ find (λ class. not (is_some (class_of class rows))) classes → first_absent_in rows (drop i clauses) ≡ option_or found (first_absent_in rows (drop (i + 1) clauses))
found-from rows clauses i clause classes found within item same here =
    let behind : List LogClause = drop (i + 1) clauses in
    at_drop_more (first_absent_in rows) clauses i clause within
    ∙ find-append (λ class. not (is_some (class_of class rows))) (get_or clauses i clause).classes (flat_map (λ (clause : LogClause). clause.classes) behind)
    ∙ ap (λ (front : List (List ℕ)). option_or (find (λ class. not (is_some (class_of class rows))) front) (first_absent_in rows behind)) (ap (λ (clause : LogClause). clause.classes) (sym item) ∙ sym same)
    ∙ ap (λ o. option_or o (first_absent_in rows behind)) (sym here)

pub returns-in-Some : goal.returns-in-Some
returns-in-Some c =
    let classes = c.as_slice.ensures.value ∙ ap (λ (clause : LogClause). clause.classes) c.clause.view_is in
    sym (found-from c.args.tables.now.rows c.args.clauses.now c.loop-clause.clause-index c.clause-item.result c.as_slice.result.now (Some c.in-Some.class) (omega arith) c.clause-item.is classes (sym c.in-Some.is ∙ c.first_absent.ensures))
    ∙ c.loop-clause.invariant

pub loop-clause-preserved : goal.loop-clause-preserved
loop-clause-preserved c =
    let classes = c.as_slice.ensures.value ∙ ap (λ (clause : LogClause). clause.classes) c.clause.view_is in
    sym (found-from c.args.tables.now.rows c.args.clauses.now c.loop-clause.clause-index c.clause-item.result c.as_slice.result.now None (omega arith) c.clause-item.is classes (sym c.in_default.is ∙ c.first_absent.ensures))
    ∙ c.loop-clause.invariant
