use Rattle.std.proofs.Common.{◌≡◌, [], drop}
use Rattle.command_words.specs.Tokens.{tokens}
use Rattle.command_grammar.specs.Reading.{positions_at}
use Rattle.command_grammar.proofs.reading.positions.Given as goal

abbrev pub invariant-loop-position_wanted : goal.invariant-loop-position_wanted
invariant-loop-position_wanted l =
    positions_at l.scope l.rows (drop l.position_wanted-index l.wanted) l.found.items (tokens l.left) ≡ positions_at l.fn.at l.rows l.wanted [] (tokens l.fn.text)
