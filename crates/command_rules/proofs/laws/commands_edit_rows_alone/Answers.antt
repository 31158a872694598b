-- By cases on the command.
use Rattle.command_rules.proofs.EditsOfCommands.{edits-others, edits-classes}
use Rattle.command_rules.proofs.laws.commands_edit_rows_alone.Goals as goal

pub returns-clause-listed : goal.returns-clause-listed
returns-clause-listed c = λ issuer command rows other. edits-others issuer command rows other

pub returns-clause-classes : goal.returns-clause-classes
returns-clause-classes c = λ issuer command rows lawful after. edits-classes c.order_is_total.ensures.passed_on rows lawful issuer command after
