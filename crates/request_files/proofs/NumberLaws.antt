-- Numbers grow with their digits.
use Rattle.std.proofs.Common.{ℕ, ◌+◌, ◌-◌, ◌*◌, ◌<◌, ◌≤◌, ◌^◌, List, [], ◌∷◌, length, arith}
use Rattle.request_files.specs.Spellings.{number_behind}

pub number_behind-grows : (digits : List ℕ) (number : ℕ) → number ≤ number_behind number digits
number_behind-grows [] number = omega arith
number_behind-grows (digit ∷ digits) number =
    let behind = number_behind-grows digits (10 * number + (digit - 48)) in
    omega (arith, behind)

-- one digit more behind a tenth of 2^62 is past it
pub number_behind-past : (digits : List ℕ) (number : ℕ) → 461168601842738790 < number → 0 < length digits → 2 ^ 62 < number_behind number digits
number_behind-past [] number large some = absurd (omega arith)
number_behind-past (digit ∷ digits) number large some =
    let behind = number_behind-grows digits (10 * number + (digit - 48)) in
    omega (arith, behind)
