-- A number in front of each line of a text, byte by byte.
use Rattle.std.proofs.Common.{◌≡◌, ℕ, ◌<◌, eqb, Bool, true, false, List, [], ◌∷◌, ◌++◌, length, refl, arith, sym, ◌∙◌, ap, append_assoc, append-nil}
use Rattle.std.specs.Prelude.{if◌then◌else◌}
use Rattle.std.specs.List.{flat_map, onto_first}
use Rattle.racf_ask.specs.Asking.{split_lines, number_front, with_number}

-- what the rest of a text gives, where a line begins with it, or has begun before
abbrev pub numbered_rest : (begins : Bool) → ℕ → List ℕ → List ℕ
numbered_rest begins number [] = []
numbered_rest begins number (byte ∷ bytes) = (if begins then number_front number else []) ++ byte ∷ numbered_rest (eqb byte 10) number bytes

-- lines, of which the first has begun before
abbrev begun_lines : ℕ → List (List ℕ) → List ℕ
begun_lines number [] = []
begun_lines number (line ∷ lines) = line ++ flat_map (λ (l : List ℕ). number_front number ++ l) lines

abbrev fresh_lines : ℕ → List (List ℕ) → List ℕ
fresh_lines number lines = flat_map (λ (l : List ℕ). number_front number ++ l) lines

fresh_onto : (number byte : ℕ) (lines : List (List ℕ)) → fresh_lines number (onto_first byte lines) ≡ number_front number ++ byte ∷ begun_lines number lines
fresh_onto number byte [] = append-nil (number_front number ++ byte ∷ [])
fresh_onto number byte (line ∷ lines) = append_assoc (number_front number) (byte ∷ line) (fresh_lines number lines)

begun_onto : (number byte : ℕ) (lines : List (List ℕ)) → begun_lines number (onto_first byte lines) ≡ byte ∷ begun_lines number lines
begun_onto number byte [] = refl
begun_onto number byte (line ∷ lines) = refl

fresh_by : (number byte : ℕ) (bytes : List ℕ) (ends : Bool) → numbered_rest ends number bytes ≡ (if ends then fresh_lines number (split_lines bytes) else begun_lines number (split_lines bytes))
    → number_front number ++ byte ∷ numbered_rest ends number bytes ≡ fresh_lines number (if ends then (byte ∷ []) ∷ split_lines bytes else onto_first byte (split_lines bytes))
fresh_by number byte bytes true h = ap (λ rest. number_front number ++ byte ∷ rest) h ∙ sym (append_assoc (number_front number) (byte ∷ []) (fresh_lines number (split_lines bytes)))
fresh_by number byte bytes false h = ap (λ rest. number_front number ++ byte ∷ rest) h ∙ sym (fresh_onto number byte (split_lines bytes))

begun_by : (number byte : ℕ) (bytes : List ℕ) (ends : Bool) → numbered_rest ends number bytes ≡ (if ends then fresh_lines number (split_lines bytes) else begun_lines number (split_lines bytes))
    → byte ∷ numbered_rest ends number bytes ≡ begun_lines number (if ends then (byte ∷ []) ∷ split_lines bytes else onto_first byte (split_lines bytes))
begun_by number byte bytes true h = ap (λ rest. byte ∷ rest) h
begun_by number byte bytes false h = ap (λ rest. byte ∷ rest) h ∙ sym (begun_onto number byte (split_lines bytes))

either_rest : (number : ℕ) (bytes : List ℕ) (begins : Bool) → numbered_rest begins number bytes ≡ (if begins then fresh_lines number (split_lines bytes) else begun_lines number (split_lines bytes))
either_rest number [] true = refl
either_rest number [] false = refl
either_rest number (byte ∷ bytes) true = fresh_by number byte bytes (eqb byte 10) (either_rest number bytes (eqb byte 10))
either_rest number (byte ∷ bytes) false = begun_by number byte bytes (eqb byte 10) (either_rest number bytes (eqb byte 10))

pub with_number_is : (number : ℕ) (bytes : List ℕ) → numbered_rest true number bytes ≡ with_number number bytes
unfolding with_number
with_number_is number bytes = either_rest number bytes true

-- behind the last byte
pub written : (begins : Bool) (number : ℕ) (rest out before text : List ℕ) → length rest < 1 → out ++ numbered_rest begins number rest ≡ before ++ numbered_rest true number text → out ≡ before ++ with_number number text
written begins number [] out before text few h = sym (append-nil out) ∙ h ∙ ap (λ bytes. before ++ bytes) (with_number_is number text)
written begins number (byte ∷ rest) out before text few h = absurd (grind arith)
