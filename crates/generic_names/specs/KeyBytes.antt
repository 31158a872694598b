-- An order key in an array of fixed size: its bytes, and zeros behind them.
use Rattle.std.specs.Prelude.{◌≡◌, ℕ, ◌-◌, ◌≤◌, List, ◌++◌, length, take, drop, replicate}
use Rattle.std.proofs.Common.{ap, ◌∙◌}
use Rattle.std.proofs.lemmas.List.{length-take-le, take-append-drop}
use Rattle.generic_names.specs.declared.order_key.OrderKey.TheInside.{Inside}

abbrev pub key_bytes : Inside → List ℕ
key_bytes k = take k.length k.bytes

-- the length lies in the array, and zeros stand behind it
abbrev pub IsPadded : Inside → Type 0
IsPadded k = (k.length ≤ length k.bytes) × (drop k.length k.bytes ≡ replicate (248 - k.length) 0)

abbrev pub padded : List ℕ → Inside
padded key = record { length = length key; bytes = key ++ replicate (248 - length key) 0 }

pub padded-key_bytes : (k : Inside) → IsPadded k → padded (key_bytes k) ≡ k
padded-key_bytes k h =
    let made : ℕ → List ℕ → Inside = λ n bytes. record { length = n; bytes = bytes } in
    let key : List ℕ = take k.length k.bytes in
    let same : length key ≡ k.length = length-take-le k.length k.bytes h.0 in
    let whole : key ++ replicate (248 - k.length) 0 ≡ k.bytes = rw (← h.1) (take-append-drop k.length k.bytes) in
    ap (λ (n : ℕ). made n (key ++ replicate (248 - n) 0)) same ∙ ap (λ (bytes : List ℕ). made k.length bytes) whole
