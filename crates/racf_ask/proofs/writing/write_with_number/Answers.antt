use Rattle.racf_ask.proofs.Numbering.{written}
use Rattle.racf_ask.proofs.writing.write_with_number.Goals as goal

pub returns : goal.returns
returns c = written c.byte.begins c.args.number c.byte.rest.now c.byte.out.items c.args.out.now.items c.args.text.now c.in_default.len_below c.byte.invariant
