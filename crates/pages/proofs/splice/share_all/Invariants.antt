use Rattle.std.proofs.Common.{◌≡◌, ◌+◌, ◌++◌, take, vec_len}
use Rattle.std.specs.List.{flat_map}
use Rattle.pages.proofs.splice.share_all.Given as goal

abbrev pub invariant-loop-part : goal.invariant-loop-part
invariant-loop-part g l =
    let items = g.P.Part.items in
    (flat_map items l.into.items ≡ flat_map items l.initial.into.items ++ flat_map items (take l.part-index l.parts))
    × (vec_len l.into ≡ vec_len l.initial.into + l.part-index)
