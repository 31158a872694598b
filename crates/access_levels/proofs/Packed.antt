-- A short text before zeros is an identifier's eight bytes.
use Rattle.std.proofs.Common.{zero, suc, [], ◌∷◌, get_or, ◌<◌, lit<, ◌≡◌, ℕ, ◌+◌, ◌-◌, ◌≤◌, List, ◌++◌, length, take, drop, replicate, Ok, ap, sym, ◌∙◌, subst, arith}
use Rattle.std.proofs.Math.Seq.{take-append_seam, drop-append_seam}
use Rattle.std.proofs.lemmas.List.{length-append, length-replicate, drop-replicate}
use Rattle.access_levels.specs.Spelling.{id_of}
use Rattle.access_levels.specs.Padding.{IsPadded}
use Rattle.access_levels.specs.declared.ids.Id.TheInside.{Inside}

zeros_fit : (n k : ℕ) → get_or (replicate n 0) k 0 < 256
zeros_fit zero k = lit< tt
zeros_fit (suc n) zero = lit< tt
zeros_fit (suc n) (suc k) = zeros_fit n k

bytes_fit-append : (xs ys : List ℕ) → ((k : ℕ) → get_or xs k 0 < 256) → ((k : ℕ) → get_or ys k 0 < 256) → (k : ℕ) → get_or (xs ++ ys) k 0 < 256
bytes_fit-append [] ys fit rest k = rest k
bytes_fit-append (x ∷ xs) ys fit rest zero = fit 0
bytes_fit-append (x ∷ xs) ys fit rest (suc k) = bytes_fit-append xs ys (λ j. fit (suc j)) rest k

pub IsPadded-before_zeros : (text : List ℕ) → length text ≤ 8 → ((k : ℕ) → get_or text k 0 < 256) → id_of text ≡ Ok text → let id : Inside = record { bytes = text ++ drop (length text) (replicate 8 0); len = length text } in IsPadded id
IsPadded-before_zeros text short fit spelled =
    let zeros : drop (length text) (replicate 8 0) ≡ replicate (8 - length text) 0 = drop-replicate (length text) 8 0 in
    let front : take (length text) (text ++ drop (length text) (replicate 8 0)) ≡ text = take-append_seam text (drop (length text) (replicate 8 0)) in
    record {
      full = length-append text (drop (length text) (replicate 8 0)) ∙ ap (λ zs. length text + length zs) zeros ∙ ap (λ n. length text + n) (length-replicate (8 - length text) 0) ∙ omega arith;
      within = short;
      zeros = drop-append_seam text (drop (length text) (replicate 8 0)) ∙ zeros;
      bytes_fit = bytes_fit-append text _ fit (let P : List ℕ → Type 0 = λ zs. (k : ℕ) → get_or zs k 0 < 256 in subst P (sym zeros) (zeros_fit (8 - length text)));
      spelled = let P : List ℕ → Type 0 = λ t. id_of t ≡ Ok t in subst P (sym front) spelled;
    }
