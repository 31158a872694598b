use Rattle.std.proofs.Common.{◌≡◌, length, take}
use Rattle.std.specs.List.{flat_map}
use Rattle.pages.proofs.shared_page.SharedPagePart.total.Given as goal

abbrev pub invariant-loop-page : goal.invariant-loop-page
invariant-loop-page g l = l.total ≡ length (flat_map (λ page. page) (take l.page-index l.parts))
