-- Bytes that are written piece by piece.
use Rattle.std.proofs.Common.{◌≡◌, ℕ, ◌+◌, ◌-◌, List, length, take, drop, sym, ◌∙◌, ap}
use Rattle.std.specs.Prelude.{Option}
use Rattle.std.specs.Io.KnownBytes.{append_known}
use Rattle.std.proofs.Math.Seq.{take-add}
use Rattle.std.proofs.lemmas.List.{take_rest}
use Rattle.statements.proofs.Folds.{append_known-append}

-- a piece of n bytes of the rest was written behind the first `at`
pub written_more : (before now then : Option (List ℕ)) (bytes : List ℕ) (at n : ℕ) → now ≡ append_known before (take at bytes) → then ≡ append_known now (take n (take (length bytes - at) (drop at bytes))) → then ≡ append_known before (take (at + n) bytes)
written_more before now then bytes at n sofar wrote =
    wrote
    ∙ ap (λ rest. append_known now (take n rest)) (take_rest bytes at)
    ∙ ap (λ known. append_known known (take n (drop at bytes))) sofar
    ∙ sym (append_known-append before (take at bytes) (take n (drop at bytes)))
    ∙ ap (append_known before) (sym (take-add at n bytes))
