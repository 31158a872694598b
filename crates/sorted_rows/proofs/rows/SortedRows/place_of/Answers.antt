use Rattle.sorted_rows.proofs.PlaceLaws.{rises_in_order}
use Rattle.sorted_rows.proofs.rows.SortedRows.place_of.Goals as goal

pub first-place-requires : goal.first-place-requires
first-place-requires g c = rises_in_order g.R.Keyed.key c.args.key.now c.self.inside.rows c.self.invariant
