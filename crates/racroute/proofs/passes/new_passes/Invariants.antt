use Rattle.std.proofs.Common.{◌≡◌, ◌+◌}
use Rattle.racroute.specs.Core.{new_passes}
use Rattle.racroute.proofs.passes.new_passes.Given as goal

-- Those so far have their parts.
abbrev pub invariant-loop-deck : goal.invariant-loop-deck
invariant-loop-deck g l =
    record {
      commands : (l.commands.parts + l.deck ≡ l.decks + 1) × (l.commands.amount ≡ 0);
      faults : (l.faults.parts + l.deck ≡ l.decks + 1) × (l.faults.amount ≡ 0);
      left : (l.left.parts + l.deck ≡ l.decks + 1) × (l.left.amount ≡ 0);
      out : l.out.total ≡ l.deck;
      made : l.made.items ≡ new_passes l.deck;
    }
