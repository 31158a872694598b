-- An identifier within eight bytes: its spelling, and zeros behind it.
use Rattle.std.specs.Prelude.{◌≡◌, ℕ, ◌-◌, ◌<◌, ◌≤◌, ◌++◌, List, length, take, drop, replicate, Ok}
use Rattle.std.proofs.Common.{sym, ◌∙◌, ap, arith, get_or}
use Rattle.std.proofs.lemmas.List.{length-take-le, take-append-drop}
use Rattle.access_levels.specs.Number.{padding}
use Rattle.access_levels.specs.Spelling.{id_of}
use Rattle.access_levels.specs.declared.ids.Id.TheInside.{Inside}

abbrev pub spelling : Inside → List ℕ
spelling id = take id.len id.bytes

pub record IsPadded (id : Inside) : Type 0 where
  pub full : length id.bytes ≡ 8
  pub within : id.len ≤ 8
  pub zeros : drop id.len id.bytes ≡ replicate (8 - id.len) 0
  pub bytes_fit : (k : ℕ) → get_or id.bytes k 0 < 256
  pub spelled : id_of (spelling id) ≡ Ok (spelling id)

abbrev pub padded : List ℕ → Inside
padded text = record { bytes = padding text; len = length text }

rejoined : (bytes : List ℕ) (len : ℕ) (text : List ℕ) (count : ℕ) → count ≡ len → text ++ replicate (8 - len) 0 ≡ bytes → let made : Inside = record { bytes = text ++ replicate (8 - count) 0; len = count } in let was : Inside = record { bytes = bytes; len = len } in made ≡ was
rejoined bytes len text count e w = cc

-- The spelling gives the eight bytes back.
pub padded-spelling : (id : Inside) → IsPadded id → padded (spelling id) ≡ id
padded-spelling id h =
    let fits : id.len ≤ length id.bytes = omega (arith, h.full, h.within) in
    let count : length (take id.len id.bytes) ≡ id.len = length-take-le id.len id.bytes fits in
    let whole : take id.len id.bytes ++ replicate (8 - id.len) 0 ≡ id.bytes =
    ap (λ zeros. take id.len id.bytes ++ zeros) (sym h.zeros) ∙ take-append-drop id.len id.bytes in
    rejoined id.bytes id.len _ _ count whole
