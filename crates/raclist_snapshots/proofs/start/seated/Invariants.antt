use Rattle.std.proofs.Common.{◌≡◌, length}
use Rattle.std.specs.List.{All}
use Rattle.raclist_snapshots.specs.Publishing.{Seeing}
use Rattle.raclist_snapshots.proofs.start.seated.Given as goal

-- those so far
abbrev pub invariant-loop-count : goal.invariant-loop-count
invariant-loop-count g l = record {
  callers : All (λ (caller : Seeing). caller ≡ record { events = l.note; learned = 0 }) l.made.items;
  count : length l.made.items ≡ l.count;
}
