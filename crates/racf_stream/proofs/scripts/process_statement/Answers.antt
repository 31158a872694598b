use Rattle.std.proofs.Common.{Some, refl}
use Rattle.racf_stream.proofs.Processing.{worked_by}
use Rattle.racf_stream.proofs.scripts.process_statement.Goals as goal

pub returns-clause-processes : goal.returns-clause-processes
returns-clause-processes g c = λ issuing base. worked_by issuing base c.gather-done.result c.args.item (Some c.args.item) _ _ _ _ refl c.gather-done.ensures.ok c.gather-done.ensures.err
