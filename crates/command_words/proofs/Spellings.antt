-- Spellings that are told apart by their lengths.
use Rattle.std.proofs.Common.{◌≡◌, ◌≢◌, ℕ, List, [], ◌∷◌, length, map, Bool, true, false, refl, arith}
use Rattle.std.specs.Prelude.{◌&&◌, bytes_eq, nat_eq}
use Rattle.command_words.specs.Bytes.{upper}

and-false : (c d : Bool) → d ≡ false → (c && d) ≡ false
and-false true d h = h
and-false false d h = refl

pub other_length : (v w : List ℕ) → length v ≢ length w → bytes_eq (map upper v) w ≡ false
other_length [] [] h = grind arith
other_length [] (c ∷ w) h = refl
other_length (b ∷ v) [] h = refl
other_length (b ∷ v) (c ∷ w) h =
    let less : length v ≢ length w = omega arith in
    and-false (nat_eq (upper b) c) (bytes_eq (map upper v) w) (other_length v w less)
