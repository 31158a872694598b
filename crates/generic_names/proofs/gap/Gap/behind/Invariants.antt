use Rattle.std.proofs.Common.{◌≡◌, true}
use Rattle.generic_names.specs.Gap.{begin_apart}
use Rattle.generic_names.proofs.GapLaws.{Met}
use Rattle.generic_names.proofs.gap.Gap.behind.Given as goal

-- Where the two begin apart, the search ends at the first byte.
abbrev pub invariant-loop-count : goal.invariant-loop-count
invariant-loop-count l = Met l.pattern l.text l.begun l.count l.these × (begin_apart l.pattern l.text ≡ true → l.count ≡ 0)
