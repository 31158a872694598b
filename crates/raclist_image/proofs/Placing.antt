-- What edits place, edit by edit.
use Rattle.std.proofs.Common.{◌≡◌, ◌≤◌, ◌<◌, ◌+◌, ◌∙◌, ◌++◌, ◌∷◌, [], ℕ, List, length, take, get_or, ap, sym, arith}
use Rattle.std.proofs.lemmas.List.Sums.{sum_by_push}
use Rattle.std.proofs.lemmas.List.{take_more}
use Rattle.racf_profiles.specs.declared.edits.Edit.{Edit}
use Rattle.raclist_image.specs.PlacedNames.{placed_at_most, most_placed_by}

-- the edits up to a place and with it
pub placed_more : (edits : List Edit) (i : ℕ) (edit : Edit) → edit ≡ get_or edits i edit → i < length edits → (before now sum : ℕ)
    → before ≤ most_placed_by (take i edits) → now ≤ placed_at_most edit → sum ≤ before + now → sum ≤ most_placed_by (take (i + 1) edits)
placed_more edits i edit is h before now sum some one all =
    let more = ap most_placed_by (take_more edits i edit h ∙ ap (λ (e : Edit). take i edits ++ e ∷ []) (sym is)) ∙ sum_by_push placed_at_most (take i edits) edit in
    omega (arith, more, some, one, all)
