-- A front of the output of some items is the output of the first of them, and a front of the next one's text.
use Rattle.std.proofs.Common.{◌≡◌, ℕ, ◌+◌, ◌-◌, ◌<◌, ◌≤◌, ltb, Bool, true, false, List, [], ◌∷◌, ◌++◌, length, take, refl, sym, ◌∙◌, ap, arith, append_assoc, length-append}
use Rattle.std.proofs.lemmas.Bool.{ltb-true, ltb-false}
use Rattle.std.proofs.lemmas.List.{take-append-le}
use Rattle.std.proofs.Math.Seq.{take-append-add}
use Rattle.statements.specs.Runs.{Machine, after, output}

-- These bytes are the output of the items before one of them, and a front of that one's text.
pub record IsFrontOf {S I : Type 0} (m : Machine S I) (items : List I) (s : S) (bytes : List ℕ) : Type 0 where
  pub done : List I
  pub last : I
  pub rest : List I
  pub count : ℕ
  pub split : items ≡ done ++ last ∷ rest
  pub is_front : bytes ≡ output m done s ++ take count (m.text last (after m done s))

take-past : (n : ℕ) (xs ys : List ℕ) → length xs ≤ n → take n (xs ++ ys) ≡ xs ++ take (n - length xs) ys
take-past n xs ys h = let e : length xs + (n - length xs) ≡ n = omega arith in ap (λ k. take k (xs ++ ys)) (sym e) ∙ take-append-add xs ys (n - length xs)

in_later : {S I : Type 0} (m : Machine S I) (item : I) (items : List I) (s : S) (n : ℕ) → length (m.text item s) ≤ n → IsFrontOf m items (m.step item s) (take (n - length (m.text item s)) (output m items (m.step item s))) → IsFrontOf m (item ∷ items) s (take n (output m (item ∷ items) s))
in_later m item items s n h front =
    record {
      done = item ∷ front.done;
      last = front.last;
      rest = front.rest;
      count = front.count;
      split = ap (λ is. item ∷ is) front.split;
      is_front =
          take-past n (m.text item s) (output m items (m.step item s)) h
          ∙ ap (λ text. m.text item s ++ text) front.is_front
          ∙ sym (append_assoc (m.text item s) (output m front.done (m.step item s)) (take front.count (m.text front.last (after m front.done (m.step item s)))));
    }

pub front_of : {S I : Type 0} (m : Machine S I) (items : List I) (s : S) (n : ℕ) → n < length (output m items s) → IsFrontOf m items s (take n (output m items s))
front_of m [] s n h = absurd (omega arith)
front_of m (item ∷ items) s n h = by_text (λ k l. front_of m items (m.step item s) k l) (ltb n (length (m.text item s))) refl
  where
    by_text : ((k : ℕ) → k < length (output m items (m.step item s)) → IsFrontOf m items (m.step item s) (take k (output m items (m.step item s)))) → (b : Bool) → ltb n (length (m.text item s)) ≡ b → IsFrontOf m (item ∷ items) s (take n (m.text item s ++ output m items (m.step item s)))
    by_text later true e =
        let within : n < length (m.text item s) = ltb-true n (length (m.text item s)) e in
        record { done = []; last = item; rest = items; count = n; split = refl; is_front = take-append-le n (m.text item s) (output m items (m.step item s)) (omega arith) }
    by_text later false e =
        let past : length (m.text item s) ≤ n = ltb-false n (length (m.text item s)) e in
        in_later m item items s n past (later (n - length (m.text item s)) (omega (arith, h, length-append (m.text item s) (output m items (m.step item s)))))
