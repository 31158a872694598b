use Rattle.racf_stream.proofs.CommandLaws.{command_told, command_moved, halted_text, halted_state, issuer_left}
use Rattle.racf_stream.proofs.laws.commands_are_judged.Goals as goal

-- what a command prints is its outcome's answer
pub returns-clause-told : goal.returns-clause-told
returns-clause-told c = command_told

-- and it leads where the outcome does
pub returns-clause-moved : goal.returns-clause-moved
returns-clause-moved c = command_moved

-- behind a disk that failed it is told so, and nothing changes
pub returns-clause-halted : goal.returns-clause-halted
returns-clause-halted c = λ turn text is halts. (halted_text turn text is halts, halted_state turn text is halts)

-- a line of an issuer who fits is the issuer of the next statements
pub returns-clause-named : goal.returns-clause-named
returns-clause-named c = issuer_left
