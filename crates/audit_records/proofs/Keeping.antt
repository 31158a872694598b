-- What is kept by each of two steps is kept by both.
use Rattle.std.proofs.Common.{◌∙◌, ◌≤◌, ℕ, List, length, take, ap, sym, arith}
use Rattle.std.proofs.lemmas.List.{length-take, take-take}
use Rattle.audit_records.specs.Writing.{Keeps}

pub keeps_on : (first second third : List ℕ) → Keeps first second → Keeps second third → Keeps first third
keeps_on first second third one other =
    let within : length first ≤ length second = omega (arith, ap length one, length-take (length first) second) in
    sym (take-take (length first) (length second) third within) ∙ ap (take (length first)) other ∙ one
