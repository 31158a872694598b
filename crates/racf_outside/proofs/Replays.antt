-- The history of a disk in memory, one call more.
use Rattle.std.proofs.Common.{◌≡◌, List, [], ◌∷◌, ◌++◌, refl, ◌∙◌, ap}
use Rattle.racf_outside.specs.MemoryDisk.{Replay, takes, replayed}
use Rattle.racf_outside.specs.declared.memory_disk.Step.{Step}

replayed-append : (steps : List Step) (step : Step) (r : Replay) → replayed (steps ++ step ∷ []) r ≡ takes step (replayed steps r)
replayed-append [] step r = refl
replayed-append (first ∷ steps) step r = replayed-append steps step (takes first r)

pub replayed-noted : (steps new : List Step) (step : Step) → new ≡ steps ++ step ∷ [] → (r : Replay) → replayed new r ≡ takes step (replayed steps r)
replayed-noted steps new step is r = ap (λ s. replayed s r) is ∙ replayed-append steps step r
