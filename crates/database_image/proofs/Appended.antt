-- What was appended in two steps.
use Rattle.std.proofs.Common.{◌≡◌, ℕ, List, [], ◌++◌, sym, ap, ◌∙◌, append_assoc}
use Rattle.std.proofs.lemmas.List.{append-nil}

pub then : (a b c x y : List ℕ) → b ≡ a ++ x → c ≡ b ++ y → c ≡ a ++ (x ++ y)
then a b c x y e f = f ∙ ap (λ (t : List ℕ). t ++ y) e ∙ append_assoc a x y

pub last : (a b x : List ℕ) → b ≡ a ++ x → b ≡ a ++ (x ++ [])
last a b x e = e ∙ ap (λ (t : List ℕ). a ++ t) (sym (append-nil x))
