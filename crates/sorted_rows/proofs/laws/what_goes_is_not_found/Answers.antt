use Rattle.sorted_rows.proofs.FoundLaws.{found_behind_without}
use Rattle.sorted_rows.proofs.laws.what_goes_is_not_found.Goals as goal

pub returns : goal.returns
returns g c = λ gone rows k. found_behind_without g.R.Keyed.key gone rows k
