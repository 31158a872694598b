-- An identifier as a number of eight bytes, by which it is compared and hashed.
use Rattle.std.specs.Prelude.{◌≡◌, ℕ, ◌-◌, ◌++◌, List, length, replicate, IsTrue}
use Rattle.std.specs.Int.{w64, from_be_bytes}
use Rattle.std.specs.Str.{bytes_eq}
use Rattle.std.specs.Hash as fed
use Rattle.std.proofs.Common.{ap}
use Rattle.std.proofs.lemmas.Slice.Eq.{bytes_eq-Decides}

-- The spelling, and zeros behind it.
abbrev pub padding : List ℕ → List ℕ
padding text = text ++ replicate (8 - length text) 0

-- The first byte is the highest.
unfoldable pub as_number : List ℕ → ℕ
as_number text = from_be_bytes w64 (padding text)

-- Equal identifiers hash alike.
pub same_hash : (a b : List ℕ) → IsTrue (bytes_eq a b) → fed.u64 (as_number a) ≡ fed.u64 (as_number b)
same_hash a b same = ap (λ id. fed.u64 (as_number id)) ((bytes_eq-Decides a b).0 same)
