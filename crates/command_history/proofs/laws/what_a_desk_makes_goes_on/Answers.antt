use Rattle.command_history.proofs.Makings.{goes_on}
use Rattle.command_history.specs.Reached.{reached}
use Rattle.command_history.proofs.laws.what_a_desk_makes_goes_on.Goals as goal

pub returns : goal.returns
returns c = λ base events entry made id group text legal judged issuer same.
    goes_on base events entry made id group text
    (c.accepted_commands_are_written.ensures (reached base events) id group text)
    (λ given. c.an_entry_has_the_record_of_its_command.ensures entry given) legal issuer same judged
