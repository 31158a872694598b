-- The keys of patterns are bytes, so that their begins compare as they do, where they differ.
use Rattle.std.proofs.Common.{ltb, ◌≢◌, ◌≡◌, ℕ, ◌<◌, List, [], ◌∷◌, map, arith}
use Rattle.std.proofs.lemmas.Bool.Decides.{nat_tests}
use Rattle.generic_names.specs.Spelled.{Spelled, qualifiers}
use Rattle.generic_names.specs.Before.{ranks}
use Rattle.generic_names.specs.Laws.{IsPattern}
use Rattle.generic_names.specs.OrderKey.{squeezed, order_key, is_lower, IsRank, AreRanks}
use Rattle.generic_names.proofs.KeyLaws.{pattern-ranks}
use Rattle.pages.specs.KeyBegin.{begin_of, AreBytes}
use Rattle.pages.proofs.KeyBeginLaws as begins

-- the key of a pattern is bytes
squeezed-byte : (rank : ℕ) → IsRank rank → squeezed rank < 256
squeezed-byte rank is = grind (arith, nat_tests)

squeezed-bytes : (some : List ℕ) → AreRanks some → AreBytes (map squeezed some)
squeezed-bytes [] are = tt
squeezed-bytes (rank ∷ some) are = (squeezed-byte rank are.0, squeezed-bytes some are.1)

pub pattern-bytes : (name : Spelled) → IsPattern name → AreBytes (order_key name.text)
pattern-bytes name lawful = squeezed-bytes (ranks (qualifiers name.text)) (pattern-ranks name lawful)

-- where the begins differ, they decide
pub begin-decides : (name : Spelled) (key : List ℕ) (x y : ℕ) → IsPattern name → AreBytes key → x ≡ begin_of (order_key name.text) → y ≡ begin_of key → x ≢ y → ltb x y ≡ is_lower name key
begin-decides name key x y lawful bytes own other differ = begins.begin-decides (order_key name.text) key x y (pattern-bytes name lawful) bytes own other differ
