use Rattle.std.proofs.Common.{◌≡◌, ◌+◌, length, take}
use Rattle.std.specs.List.{flat_map}
use Rattle.pages.proofs.shared_page.SharedPagePart.locate.Given as goal

abbrev pub invariant-loop-k : goal.invariant-loop-k
invariant-loop-k g l = length (flat_map (λ page. page) (take l.k l.parts)) + l.rest ≡ l.place
