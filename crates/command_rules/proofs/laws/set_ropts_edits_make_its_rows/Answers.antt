use Rattle.command_rules.proofs.SetRoptsEdits.{set_ropts-rows}
use Rattle.command_rules.proofs.laws.set_ropts_edits_make_its_rows.Goals as goal

pub returns : goal.returns
returns c = λ command rows lawful refreshes. set_ropts-rows command rows lawful refreshes
