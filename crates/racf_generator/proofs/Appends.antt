-- Text that is written piece by piece.
use Rattle.std.proofs.Common.{ℕ, ◌≡◌, ◌∙◌, cond, List, ◌++◌, ap, append_assoc}
use Rattle.std.specs.Prelude.{Result, Ok, Err, is_ok, OnOk}

-- one piece after another
pub then : (first second third p q : List ℕ) → second ≡ first ++ p → third ≡ second ++ q → third ≡ first ++ (p ++ q)
then first second third p q e f = f ∙ ap (λ xs. xs ++ q) e ∙ append_assoc first p q

-- the last piece, where it is written
pub ends : {T E : Type 0} (r : Result T E) (first second third p q whole : List ℕ) → second ≡ first ++ p → third ≡ cond (is_ok r) (second ++ q) second → p ++ q ≡ whole → OnOk r (third ≡ first ++ whole)
ends (Ok x) first second third p q whole e f same = then first second third p q e f ∙ ap (λ xs. first ++ xs) same
ends (Err x) first second third p q whole e f same = tt

pub ends_with : {T E : Type 0} (r : Result T E) (first second third p q whole : List ℕ) → second ≡ first ++ p → OnOk r (third ≡ second ++ q) → p ++ q ≡ whole → OnOk r (third ≡ first ++ whole)
ends_with (Ok x) first second third p q whole e f same = then first second third p q e f ∙ ap (λ xs. first ++ xs) same
ends_with (Err x) first second third p q whole e f same = tt

-- one piece that is the whole
pub puts : {T E : Type 0} (r : Result T E) (old new piece whole : List ℕ) → new ≡ cond (is_ok r) (old ++ piece) old → piece ≡ whole → OnOk r (new ≡ old ++ whole)
puts (Ok x) old new piece whole e same = e ∙ ap (λ xs. old ++ xs) same
puts (Err x) old new piece whole e same = tt
