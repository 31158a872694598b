-- How counts of faults rise over several calls.
use Rattle.std.proofs.Common.{ℕ, ◌≤◌, arith}
use Rattle.racf_outside.specs.Causes.{Rose}

-- what rose in a later call rose since before an earlier one
pub Rose-later : (first before now : ℕ) → first ≤ before → Rose before now → Rose first now
Rose-later first before now h rose = grind arith
