use Rattle.lawful_commands.proofs.ProfileRows.{PutsAreCounted}
use Rattle.lawful_commands.proofs.EachCommand.{step-lawful}
use Rattle.lawful_commands.proofs.commands_leave_lawful_rows.Goals as goal

pub returns : goal.returns
returns c =
    let puts : PutsAreCounted = record { length = c.puts_are_counted.ensures.length; profiles = c.puts_are_counted.ensures.profiles; entries = c.puts_are_counted.ensures.entries } in
    step-lawful c.order_is_total.ensures.either puts c.order_is_total.ensures.passed_on c.order_is_total.ensures.not_both c.text_reads_back.ensures.pattern
