-- The edits of the options, of the flags, of the lists and of what is unlisted, one behind the other.
use Rattle.std.proofs.Common.{◌∙◌, Result, Ok, Err}
use Rattle.std.specs.Prelude.{IfOk}
use Rattle.class_profiles.specs.Summed.{rows_in}
use Rattle.command_rules.proofs.SetRoptsEdits.{parts-joined}
use Rattle.command_effects.proofs.edits.options.edits_of_set_ropts.Goals as goal

if-ok : {X E : Type 0} (P Q : X → Type 0) (r : Result X E) → ((x : X) → P x → Q x) → IfOk r P → IfOk r Q
if-ok P Q (Ok x) so holds = so x holds
if-ok P Q (Err e) so holds = holds

pub returns : goal.returns
returns c =
    if-ok _ _ c.with_unlists.result
    (λ all is. parts-joined c.args.command.now c.options.result.now (rows_in c.as_slice-classes.result.now) c.args.tables.now.rows c.in_ok-options.options.items c.in_ok-flags.flags.items c.in_ok-listed.listed.items all.items
    c.options.ensures.options (c.as_slice-classes.ensures ∙ c.classes.ensures) c.in_ok-options.ensures c.in_ok-flags.ensures c.in_ok-listed.ensures is)
    c.with_unlists.ensures
