-- A list's front, that grows by what comes first of the rest.
use Rattle.std.proofs.Common.{◌≡◌, List, [], ◌∷◌, ◌++◌, map, sym, ap, ◌∙◌, append_assoc}
use Rattle.std.specs.List.{AllByRecursion}

-- what holds of all holds of the first behind the front, and of the front
pub among : {X Y : Type 0} (P : Y → Type 0) (f : X → Y) (front : List X) (x : X) (rest : List X) → AllByRecursion P (map f (front ++ x ∷ rest)) → P (f x)
among P f [] x rest all = all.0
among P f (y ∷ ys) x rest all = among P f ys x rest all.1

pub of_next : {X : Type 0} (P : X → Type 0) (front : List X) (x : X) (rest : List X) → AllByRecursion P (front ++ x ∷ rest) → P x
of_next P [] x rest all = all.0
of_next P (y ∷ ys) x rest all = of_next P ys x rest all.1

pub of_front : {X : Type 0} (P : X → Type 0) (front rest : List X) → AllByRecursion P (front ++ rest) → AllByRecursion P front
of_front P [] rest all = tt
of_front P (y ∷ ys) rest all = (all.0, of_front P ys rest all.1)

-- the front and the rest are the same list, once the first of the rest is the front's last
pub one-further : {X : Type 0} (all front items : List X) (x : X) (rest : List X) → front ++ items ≡ all → items ≡ x ∷ rest → (front ++ x ∷ []) ++ rest ≡ all
one-further all front items x rest whole is = append_assoc front (x ∷ []) rest ∙ sym (ap (λ ys. front ++ ys) is) ∙ whole
