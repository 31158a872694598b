use Rattle.sorted_rows.proofs.FoundLaws.{found_behind_with}
use Rattle.sorted_rows.proofs.laws.what_is_put_is_found.Goals as goal

pub returns : goal.returns
returns g c = λ row rows k. found_behind_with g.R.Keyed.key row rows k
