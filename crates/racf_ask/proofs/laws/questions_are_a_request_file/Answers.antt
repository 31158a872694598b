use Rattle.racf_ask.proofs.PlainLaws.{plain_output, plain_status, only_text}
use Rattle.racf_ask.proofs.laws.questions_are_a_request_file.Goals as goal

pub returns-clause-output : goal.returns-clause-output
returns-clause-output c = plain_output

pub returns-clause-status : goal.returns-clause-status
returns-clause-status c = λ numbered base bytes. plain_status base numbered bytes

pub returns-clause-only : goal.returns-clause-only
returns-clause-only c = only_text
