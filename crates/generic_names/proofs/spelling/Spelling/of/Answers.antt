use Rattle.std.proofs.Common.{◌≡◌, ℕ, ◌-◌, ◌≤◌, List, ◌++◌, length, drop, replicate, length-append, arith}
use Rattle.std.proofs.Math.Seq.{drop-append_seam}
use Rattle.std.proofs.lemmas.List.{drop-replicate}
use Rattle.generic_names.proofs.spelling.Spelling.of.Goals as goal

-- a text with zeros behind it
padded : (text zeros : List ℕ) → (length text ≤ length (text ++ zeros)) × (drop (length text) (text ++ zeros) ≡ zeros)
padded text zeros = (let size = length-append text zeros in omega (arith, size), drop-append_seam text zeros)

pub invariant_of-result : goal.invariant_of-result
invariant_of-result c = rw (c.copy_from_slice.ensures.after, drop-replicate) (padded c.args.text.now (replicate (246 - length c.args.text.now) 0))
