-- Workers side by side, as a call of `for_each_mut` leaves them.
use Rattle.std.proofs.Common.{◌≡◌, ℕ, suc, ◌<◌, List, [], ◌∷◌, ◌++◌, length, slice_index_or, subst, sym, arith}
use Rattle.std.specs.Prelude.{reverse}
use Rattle.std.specs.List.{AllZip}
use Rattle.std.proofs.lemmas.List.{reverse-append, reverse-reverse}
use Rattle.std.proofs.lemmas.List.Elements.{AllZip-push}

-- what a closure captures, all five, as a lemma for `search`
pub each_of_five : {A B C D E : Type 0} → A → B → C → D → E → A × (B × (C × (D × (E × Unit {0}))))
each_of_five a b c d e = (a, (b, (c, (d, (e, tt)))))

module _ {X : Type 0} (R : X → X → Type 0) where
  -- the same at each place, as of the whole lists
  pub at_each : (xs ys : List X) → length ys ≡ length xs → ((i : ℕ) (d : X) → i < length xs → R (slice_index_or xs i d) (slice_index_or ys i d)) → AllZip R xs ys
  at_each [] [] same at = tt
  at_each [] (y ∷ ys) same at = absurd (omega arith)
  at_each (x ∷ xs) [] same at = absurd (omega arith)
  at_each (x ∷ xs) (y ∷ ys) same at = (at 0 x (omega arith), at_each xs ys (omega arith) (λ i d h. at (suc i) d (omega arith)))

  pub carried : (a b x y : X) → a ≡ x → b ≡ y → R a b → R x y
  carried a b x y first second did = subst (λ z. R x z) second (subst (λ z. R z b) first did)

  zip_reverse : (xs ys : List X) → AllZip R xs ys → AllZip R (reverse xs) (reverse ys)
  zip_reverse [] [] did = tt
  zip_reverse [] (y ∷ ys) did = absurd did
  zip_reverse (x ∷ xs) [] did = absurd did
  zip_reverse (x ∷ xs) (y ∷ ys) did =
      subst (λ (l : List X). AllZip R l (reverse (y ∷ ys))) (sym (reverse-append (x ∷ []) xs))
      (subst (λ (l : List X). AllZip R (reverse xs ++ x ∷ []) l) (sym (reverse-append (y ∷ []) ys))
      (AllZip-push R (reverse xs) (reverse ys) x y (zip_reverse xs ys did.1) did.0))

  -- What holds place by place of two lists that are turned round holds of them turned back.
  pub turned_back : (xs ys : List X) → AllZip R (reverse xs) ys → AllZip R xs (reverse ys)
  turned_back xs ys did = subst (λ (l : List X). AllZip R l (reverse ys)) (reverse-reverse xs) (zip_reverse (reverse xs) ys did)
