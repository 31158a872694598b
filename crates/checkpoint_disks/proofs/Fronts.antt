-- What the first bytes of a file tell.
use Rattle.std.proofs.Common.{ℕ, ◌+◌, ◌-◌, ◌<◌, ◌≤◌, ◌^◌, ◌≡◌, ◌∙◌, inl, inr, ltb, eqb, List, [], ◌∷◌, length, take, drop, Err, refl, sym, ap, arith}
use Rattle.std.specs.Prelude.{bytes_eq}
use Rattle.std.proofs.lemmas.List.{take_all, take-take, drop-take, length-take, length-drop, get_or-take}
use Rattle.std.proofs.lemmas.Bool.{lt-ltb, le-ltb, cases_lt, cond-true, cond-false}
use Rattle.byteorder.specs.Endian.{big_number}
use Rattle.checkpoint_disks.specs.declared.fault.CheckpointFault.TheVariants.{Damaged}
use Rattle.checkpoint_disks.specs.Files.{magic, is_formatted, head_is_open, number_at, epoch_of, head_of, contents}
use Rattle.checkpoint_disks.specs.Counting.{which}
use Rattle.checkpoint_disks.proofs.Contents.{contents-head}

pub formatted_front : (n : ℕ) (file : List ℕ) → 17 ≤ n → is_formatted (take n file) ≡ is_formatted file
formatted_front n file least = ap (λ (l : List ℕ). bytes_eq l magic) (take-take 8 n file (omega arith))

pub open_front : (n : ℕ) (file : List ℕ) → 17 ≤ n → head_is_open (take n file) ≡ head_is_open file
open_front n file least = ap (λ g. eqb g 1) (get_or-take n file 8 0 (omega arith))

-- a number of eight bytes
big_front : (xs : List ℕ) → 8 ≤ length xs → big_number 8 (take 8 xs) ≡ big_number 8 xs
big_front [] long = absurd (omega arith)
big_front (a ∷ []) long = absurd (omega arith)
big_front (a ∷ b ∷ []) long = absurd (omega arith)
big_front (a ∷ b ∷ c ∷ []) long = absurd (omega arith)
big_front (a ∷ b ∷ c ∷ d ∷ []) long = absurd (omega arith)
big_front (a ∷ b ∷ c ∷ d ∷ e ∷ []) long = absurd (omega arith)
big_front (a ∷ b ∷ c ∷ d ∷ e ∷ f ∷ []) long = absurd (omega arith)
big_front (a ∷ b ∷ c ∷ d ∷ e ∷ f ∷ g ∷ []) long = absurd (omega arith)
big_front (a ∷ b ∷ c ∷ d ∷ e ∷ f ∷ g ∷ h ∷ rest) long = refl

number_front : (n : ℕ) (file : List ℕ) → 17 ≤ n → 17 ≤ length file → number_at 9 (take n file) ≡ number_at 9 file
unfolding number_at
number_front n file least long =
    let k : ℕ = n - 9 in
    let rest : List ℕ = drop 9 file in
    let at : n ≡ 9 + k = omega (arith, least) in
    let cut : drop 9 (take n file) ≡ take k rest = ap (λ m. drop 9 (take m file)) at ∙ drop-take 9 k file in
    let some : 8 ≤ length (take k rest) = omega (arith, at, least, long, length-take k rest, length-drop 9 file) in
    let few : 8 ≤ k = omega (arith, at, least) in
    ap (big_number 8) cut
    ∙ sym (big_front (take k rest) some)
    ∙ ap (big_number 8) (take-take 8 k rest few)
    ∙ big_front rest (omega (arith, long, length-drop 9 file))

pub epoch_front : (n : ℕ) (file : List ℕ) → 17 ≤ n → epoch_of (take n file) ≡ epoch_of file
unfolding epoch_of
epoch_front n file least = elim (cases_lt (length file) 17) [
  | inl short ↦ ap epoch_of (take_all n file (omega (arith, short, least)))
  | inr long ↦
      cond-false (ltb (length (take n file)) 17) _ _ (le-ltb (length (take n file)) 17 (omega (arith, length-take n file, long, least)))
      ∙ number_front n file least long
      ∙ sym (cond-false (ltb (length file) 17) _ _ (le-ltb (length file) 17 long))
]

pub which_fronts : (n k : ℕ) (first second : List ℕ) → 17 ≤ n → 17 ≤ k → which (take n first) (take k second) ≡ which first second
which_fronts n k first second one two = rw (open_front n first one, open_front k second two, epoch_front n first one, epoch_front k second two) refl

-- ---- all that is read of a file

long_head : (file : List ℕ) → 2 ^ 28 < length file → head_of file ≡ Err (Damaged (2 ^ 28))
unfolding head_of
long_head file long = cond-true (ltb (2 ^ 28) (length file)) _ _ (lt-ltb (2 ^ 28) (length file) long)

pub contents_front : (file : List ℕ) → contents (take (2 ^ 28 + 1) file) ≡ contents file
contents_front file = elim (cases_lt (2 ^ 28) (length file)) [
  | inl long ↦
      contents-head (take (2 ^ 28 + 1) file) (Damaged (2 ^ 28)) (long_head (take (2 ^ 28 + 1) file) (omega (arith, length-take (2 ^ 28 + 1) file, long)))
      ∙ sym (contents-head file (Damaged (2 ^ 28)) (long_head file long))
  | inr short ↦ ap contents (take_all (2 ^ 28 + 1) file (omega (arith, short)))
]

pub whole_front : (part file : List ℕ) → part ≡ take (2 ^ 28 + 1) file → length part ≤ 2 ^ 28 → file ≡ part
whole_front part file is short =
    let few : length file ≤ 2 ^ 28 + 1 = omega (arith, short, ap length is, length-take (2 ^ 28 + 1) file) in
    sym (is ∙ take_all (2 ^ 28 + 1) file few)
