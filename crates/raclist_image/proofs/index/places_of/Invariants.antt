use Rattle.std.proofs.Common.{take}
use Rattle.raclist_image.specs.KeptClasses.{ArePlacesOf}
use Rattle.raclist_image.proofs.index.places_of.Given as goal

-- the places of the classes so far
abbrev pub invariant-loop-place : goal.invariant-loop-place
invariant-loop-place l = ArePlacesOf (take l.place l.classes) l.places
