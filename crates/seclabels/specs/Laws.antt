-- What holds of dominance, whatever the labels.
use Rattle.std.specs.Prelude.{◌≡◌, ◌≤◌, ◌<◌, ◌^◌, IsTrue}
use Rattle.seclabels.specs.declared.labels.Label.{Label}
use Rattle.seclabels.specs.Labels.{dominates, system_high, system_low}

-- A label of the code: a level that fits a byte, and categories from 0 to 255.
abbrev pub IsLabel : Label → Type 0
IsLabel label = (label.level ≤ 255) × (label.categories < 2 ^ 256)

-- Every label dominates itself.
abbrev pub DominatesItself : Type 0
DominatesItself = (label : Label) → IsTrue (dominates label label)

-- What dominates a label that dominates another dominates that one too.
abbrev pub DominancePassedOn : Type 0
DominancePassedOn = (a b c : Label) → IsTrue (dominates a b) → IsTrue (dominates b c) → IsTrue (dominates a c)

-- Two labels that dominate each other are one label.
abbrev pub EachOtherAreOne : Type 0
EachOtherAreOne = (a b : Label) → IsLabel a → IsLabel b → IsTrue (dominates a b) → IsTrue (dominates b a) → a ≡ b

-- SYSHIGH dominates every label, and every label dominates SYSLOW.
abbrev pub HighDominatesAll : Type 0
HighDominatesAll = (label : Label) → IsLabel label → IsTrue (dominates system_high label)

abbrev pub AllDominateLow : Type 0
AllDominateLow = (label : Label) → IsTrue (dominates label system_low)
