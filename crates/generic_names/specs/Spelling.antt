-- A spelling in an array of fixed size: its bytes, and zeros behind them.
use Rattle.std.specs.Prelude.{◌≡◌, ℕ, ◌-◌, ◌≤◌, List, ◌++◌, length, take, drop, replicate}
use Rattle.std.proofs.Common.{ap, ◌∙◌}
use Rattle.std.proofs.lemmas.List.{length-take-le, take-append-drop}
use Rattle.generic_names.specs.Spelled.{Spelled}
use Rattle.generic_names.specs.declared.spelling.Spelling.TheInside.{Inside}

abbrev pub spelled : Inside → Spelled
spelled s = record { kind = s.kind; text = take s.length s.bytes }

-- the length lies in the array, and zeros stand behind it
abbrev pub IsPadded : Inside → Type 0
IsPadded s = (s.length ≤ length s.bytes) × (drop s.length s.bytes ≡ replicate (246 - s.length) 0)

abbrev pub padded : Spelled → Inside
padded name = record { kind = name.kind; length = length name.text; bytes = name.text ++ replicate (246 - length name.text) 0 }

pub padded-spelled : (s : Inside) → IsPadded s → padded (spelled s) ≡ s
padded-spelled s h =
    let made : ℕ → List ℕ → Inside = λ n bytes. record { kind = s.kind; length = n; bytes = bytes } in
    let text : List ℕ = take s.length s.bytes in
    let same : length text ≡ s.length = length-take-le s.length s.bytes h.0 in
    let whole : text ++ replicate (246 - s.length) 0 ≡ s.bytes = rw (← h.1) (take-append-drop s.length s.bytes) in
    ap (λ (n : ℕ). made n (text ++ replicate (246 - n) 0)) same ∙ ap (λ (bytes : List ℕ). made s.length bytes) whole
