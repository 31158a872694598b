-- Names, their outputs, and what stands among them.
use Rattle.std.proofs.Common.{◌≡◌, ◌-◌, ℕ, true, false, ◌||◌, List, [], ◌∷◌, ◌++◌, length, map, take, drop, bytes_eq, refl, sym, ◌∙◌, ap, arith}
use Rattle.std.specs.Prelude.{codes}
use Rattle.std.specs.List.{list_any}
use Rattle.std.proofs.lemmas.Bool.{false≢true, false_from_ne_true}
use Rattle.std.proofs.lemmas.Bool.Decides.{same_from_decides}
use Rattle.std.proofs.lemmas.List.{append_cancel_right, take-append-drop, length-append, drop_at}
use Rattle.std.proofs.lemmas.Slice.Eq.{bytes_eq-Decides}
use Rattle.racf_run.specs.Opening.{output_name, is_among}

-- whether it is among what a function gives of each
pub among_map : {X : Type 0} (f : X → List ℕ) (name : List ℕ) (xs : List X) → is_among name (map f xs) ≡ list_any (λ x. bytes_eq name (f x)) xs
among_map f name [] = refl
among_map f name (x ∷ xs) = ap (λ b. bytes_eq name (f x) || b) (among_map f name xs)

-- a name that ends as outputs do is that of what stands before the ending, and no other is
pub output_ending : (name output : List ℕ) → bytes_eq (drop (length output - 4) output) (codes ".out") ≡ true → bytes_eq (take (length output - 4) output) name ≡ bytes_eq (output_name name) output
output_ending name output ends =
    let ending : drop (length output - 4) output ≡ codes ".out" = (bytes_eq-Decides (drop (length output - 4) output) (codes ".out")).0 ends in
    let whole : take (length output - 4) output ++ codes ".out" ≡ output = ap (λ xs. take (length output - 4) output ++ xs) (sym ending) ∙ take-append-drop (length output - 4) output in
    same_from_decides (bytes_eq (take (length output - 4) output) name) (bytes_eq (output_name name) output) (bytes_eq-Decides (take (length output - 4) output) name) (
      λ h. append_cancel_right (take (length output - 4) output) name (codes ".out") (whole ∙ sym ((bytes_eq-Decides (output_name name) output).0 h)),
      λ h. (bytes_eq-Decides (output_name name) output).1 (ap (λ xs. xs ++ codes ".out") (sym h) ∙ whole),
    )

pub no_output_ending : (name output : List ℕ) → bytes_eq (drop (length output - 4) output) (codes ".out") ≡ false → false ≡ bytes_eq (output_name name) output
no_output_ending name output ends =
    sym (false_from_ne_true (bytes_eq (output_name name) output)
    (λ same.
    let is : output_name name ≡ output = (bytes_eq-Decides (output_name name) output).0 same in
    let long : length output - 4 ≡ length name = omega (arith, ap length is, length-append name (codes ".out")) in
    let tail : drop (length output - 4) output ≡ codes ".out" = ap (λ k. drop k output) long ∙ ap (drop (length name)) (sym is) ∙ drop_at name (codes ".out") (length name) refl in
    false≢true (sym ends ∙ (bytes_eq-Decides (drop (length output - 4) output) (codes ".out")).1 tail)))
