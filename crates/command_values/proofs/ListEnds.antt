-- Where the parenthesis of a list that was written closes.
use Rattle.std.proofs.Common.{◌≡◌, ℕ, suc, ◌+◌, List, [], ◌∷◌, ◌++◌, length, map, Ok, refl, sym, ap, ◌∙◌, arith, add-zero, append_assoc, length-append}
use Rattle.command_words.specs.declared.quoting.Quoting.TheVariants.{Outside, Met}
use Rattle.command_words.specs.Tokens.{group_end}
use Rattle.command_values.specs.Values.{more_text, ids_text}
use Rattle.command_values.specs.LawfulValues.{AreSome}
use Rattle.command_fields.specs.LawfulMembers.{Each}

-- what an element of a list is followed by: where quotes were closed right before, they stay closed
abbrev pub IsBehind : List ℕ → Type 0
IsBehind rest = (outer n o : ℕ) → group_end outer (Met o) 0 n rest ≡ group_end outer Outside 0 n rest

-- an element in which no parenthesis closes but those that open in it
abbrev pub IsPassed : {X : Type 0} → (X → List ℕ) → X → Type 0
IsPassed text x = (outer p : ℕ) (rest : List ℕ) → IsBehind rest → group_end outer Outside 0 p (text x ++ rest) ≡ group_end outer Outside 0 (p + length (text x)) rest

pub each-so : {X : Type 0} (P Q : X → Type 0) → ((x : X) → P x → Q x) → (xs : List X) → Each P xs → Each Q xs
each-so P Q implies [] h = tt
each-so P Q implies (x ∷ xs) h = (implies x h.0, each-so P Q implies xs h.1)

module _ {X : Type 0} (text : X → List ℕ) where
  list_behind : (xs : List X) (rest : List ℕ) → IsBehind (more_text (map text xs) ++ 41 ∷ rest)
  list_behind [] rest = λ outer n o. refl
  list_behind (x ∷ xs) rest = λ outer n o. refl

  more_end : (outer p : ℕ) (xs : List X) (rest : List ℕ) → Each (IsPassed text) xs → group_end outer Outside 0 p (more_text (map text xs) ++ 41 ∷ rest) ≡ Ok (p + length (more_text (map text xs)))
  more_end outer p [] rest h = ap Ok (sym (add-zero p))
  more_end outer p (x ∷ xs) rest h =
      let count : suc p + length (text x) + length (more_text (map text xs)) ≡ p + length (32 ∷ (text x ++ more_text (map text xs))) = omega (arith, length-append (text x) (more_text (map text xs))) in
      ap (λ bs. group_end outer Outside 0 (suc p) bs) (append_assoc (text x) (more_text (map text xs)) (41 ∷ rest))
      ∙ h.0 outer (suc p) (more_text (map text xs) ++ 41 ∷ rest) (list_behind xs rest)
      ∙ more_end outer (suc p + length (text x)) xs rest h.1
      ∙ ap Ok count

  pub list_end : (outer p : ℕ) (xs : List X) (rest : List ℕ) → AreSome xs → Each (IsPassed text) xs → group_end outer Outside 0 p (ids_text (map text xs) ++ 41 ∷ rest) ≡ Ok (p + length (ids_text (map text xs)))
  list_end outer p [] rest some h = absurd some
  list_end outer p (x ∷ xs) rest some h =
      let count : p + length (text x) + length (more_text (map text xs)) ≡ p + length (text x ++ more_text (map text xs)) = omega (arith, length-append (text x) (more_text (map text xs))) in
      ap (λ bs. group_end outer Outside 0 p bs) (append_assoc (text x) (more_text (map text xs)) (41 ∷ rest))
      ∙ h.0 outer p (more_text (map text xs) ++ 41 ∷ rest) (list_behind xs rest)
      ∙ more_end outer (p + length (text x)) xs rest h.1
      ∙ ap Ok count
