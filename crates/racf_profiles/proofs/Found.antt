-- Searches of a list, by cases on its first entry.
use Rattle.std.proofs.Common.{◌≡◌, Bool, true, false, cond, List, [], ◌∷◌, Some, sym, ◌∙◌, ap, subst, ⊎_elim}
use Rattle.std.specs.List.{find, list_all, AllByRecursion}
use Rattle.std.proofs.lemmas.Bool.{cases_Bool, and_parts}

pub find-hit : {X : Type 0} (p : X → Bool) (x : X) (xs : List X) → p x ≡ true → find p (x ∷ xs) ≡ Some x
find-hit p x xs hit = ap (λ b. cond b (Some x) (find p xs)) hit

pub find-miss : {X : Type 0} (p : X → Bool) (x : X) (xs : List X) → p x ≡ false → find p (x ∷ xs) ≡ find p xs
find-miss p x xs miss = ap (λ b. cond b (Some x) (find p xs)) miss

-- What passes for each entry of a list is so of the one that is found in it.
pub found_passes : {X : Type 0} (p passes : X → Bool) (xs : List X) (x : X) → list_all passes xs ≡ true → find p xs ≡ Some x → passes x ≡ true
found_passes p passes [] x all found = cc
found_passes p passes (y ∷ ys) x all found = ⊎_elim
    (λ (hit : p y ≡ true). let some : Some y ≡ Some x = sym (find-hit p y ys hit) ∙ found in let same : y ≡ x = cc in subst (λ z. passes z ≡ true) same (and_parts (passes y) (list_all passes ys) all).0)
    (λ (miss : p y ≡ false). found_passes p passes ys x (and_parts (passes y) (list_all passes ys) all).1 (sym (find-miss p y ys miss) ∙ found))
    (cases_Bool (p y))

-- What holds of each entry holds of the one that is found.
pub all-found : {X : Type 0} (P : X → Type 0) (it : X → Bool) (xs : List X) (x : X) → AllByRecursion P xs → find it xs ≡ Some x → P x
all-found P it [] x h found = cc
all-found P it (y ∷ ys) x h found = by (it y) found (λ f. all-found P it ys x h.1 f)
  where
    by : (b : Bool) → cond b (Some y) (find it ys) ≡ Some x → (find it ys ≡ Some x → P x) → P x
    by true f rest = let same : y ≡ x = cc in subst P same h.0
    by false f rest = rest f
