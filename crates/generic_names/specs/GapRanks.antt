-- How a gap is kept: by the text of a pattern, how many of its ranks it begins with, and the least rank behind them.
use Rattle.std.specs.Prelude.{ℕ, ◌<◌, ◌≤◌, List, length}
use Rattle.generic_names.specs.Spelled.{qualifiers}
use Rattle.generic_names.specs.Before.{ranks}
use Rattle.generic_names.specs.OrderKey.{IsRank, AreRanks}

-- the text has more ranks than those, fits a name, and all these are ranks of patterns
pub record IsWithin (text : List ℕ) (count least : ℕ) : Type 0 where
  pub room : count < length (ranks (qualifiers text))
  pub fits : length text ≤ 246
  pub ranked : AreRanks (ranks (qualifiers text))
  pub last : IsRank least
