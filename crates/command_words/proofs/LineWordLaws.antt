-- How a line is taken apart, word by word.
use Rattle.std.proofs.Common.{◌≡◌, ℕ, suc, ◌+◌, ◌<◌, Bool, true, false, not, cond, List, [], ◌∷◌, length, take, drop, filter, refl, ap, sym, subst, ◌∙◌, arith, add-zero}
use Rattle.std.specs.List.{onto_first, slice_split, prefix_len}
use Rattle.std.proofs.lemmas.Bool.Decides.{nat_tests}
use Rattle.std.specs.Prelude.{nat_lt, ◌==◌}
use Rattle.command_words.specs.Bytes.{is_blank_byte}
use Rattle.command_words.specs.LineWords.{words_at, placed, is_word}
use Rattle.command_words.specs.TakingWords.{BeginsWithNoBlank}

abbrev pub stays : ℕ → Bool
stays byte = not (is_blank_byte byte)

-- a blank in front is no part of a word
pub words_at-blank : (place byte : ℕ) (bytes : List ℕ) → is_blank_byte byte ≡ true → words_at place (byte ∷ bytes) ≡ words_at (place + 1) bytes
unfolding words_at
words_at-blank place byte bytes h =
    ap (λ v. filter is_word (placed place (cond v ([] ∷ slice_split is_blank_byte bytes) (onto_first byte (slice_split is_blank_byte bytes))))) h
    ∙ ap (λ p. filter is_word (placed (p + 1) (slice_split is_blank_byte bytes))) (add-zero place)

pub words_at-empty : (place : ℕ) → words_at place [] ≡ []
unfolding words_at
words_at-empty place = refl

-- the pieces behind the first
abbrev pub pieces_of : List ℕ → List (List ℕ)
pieces_of [] = []
pieces_of (byte ∷ bytes) = slice_split is_blank_byte bytes

split_step : (byte : ℕ) (bytes : List ℕ) → slice_split is_blank_byte bytes ≡ take (prefix_len stays bytes) bytes ∷ pieces_of (drop (prefix_len stays bytes) bytes) → (v : Bool) → cond v ([] ∷ slice_split is_blank_byte bytes) (onto_first byte (slice_split is_blank_byte bytes)) ≡ take (cond (not v) (1 + prefix_len stays bytes) 0) (byte ∷ bytes) ∷ pieces_of (drop (cond (not v) (1 + prefix_len stays bytes) 0) (byte ∷ bytes))
split_step byte bytes h true = refl
split_step byte bytes h false =
    let more : 1 + prefix_len stays bytes ≡ suc (prefix_len stays bytes) = omega arith in
    ap (λ parts. onto_first byte parts) h
    ∙ ap (λ n. take n (byte ∷ bytes) ∷ pieces_of (drop n (byte ∷ bytes))) (sym more)

-- the first piece runs to the first blank
pub slice_split-first : (bytes : List ℕ) → slice_split is_blank_byte bytes ≡ take (prefix_len stays bytes) bytes ∷ pieces_of (drop (prefix_len stays bytes) bytes)
slice_split-first [] = refl
slice_split-first (byte ∷ bytes) = split_step byte bytes (slice_split-first bytes) (is_blank_byte byte)

-- behind it a blank stands, or nothing
abbrev pub BeginsWithBlank : List ℕ → Type 0
BeginsWithBlank [] = Unit {0}
BeginsWithBlank (byte ∷ bytes) = is_blank_byte byte ≡ true

ends_step : (byte : ℕ) (bytes : List ℕ) → BeginsWithBlank (drop (prefix_len stays bytes) bytes) → (v : Bool) → is_blank_byte byte ≡ v → BeginsWithBlank (drop (cond (not v) (1 + prefix_len stays bytes) 0) (byte ∷ bytes))
ends_step byte bytes h true e = e
ends_step byte bytes h false e =
    let more : suc (prefix_len stays bytes) ≡ 1 + prefix_len stays bytes = omega arith in
    subst (λ n. BeginsWithBlank (drop n (byte ∷ bytes))) more h

pub BeginsWithBlank-behind : (bytes : List ℕ) → BeginsWithBlank (drop (prefix_len stays bytes) bytes)
BeginsWithBlank-behind [] = tt
BeginsWithBlank-behind (byte ∷ bytes) = ends_step byte bytes (BeginsWithBlank-behind bytes) (is_blank_byte byte) refl

-- the words behind a first piece
pub words_behind : (place : ℕ) (rest : List ℕ) → BeginsWithBlank rest → filter is_word (placed (place + 1) (pieces_of rest)) ≡ words_at place rest
unfolding words_at
words_behind place [] h = refl
words_behind place (byte ∷ bytes) h = sym (words_at-blank place byte bytes h)

-- where a word stands in front, it is the first
pub words_at-word : (place : ℕ) (bytes text rest : List ℕ) → text ≡ take (prefix_len stays bytes) bytes → rest ≡ drop (prefix_len stays bytes) bytes → 0 < length text → words_at place bytes ≡ record { place = place; text = text } ∷ words_at (place + length text) rest
unfolding words_at
words_at-word place bytes text rest front behind some =
    let there : nat_lt 0 (length text) ≡ true = grind (arith, nat_tests) in
    let blank : BeginsWithBlank rest = subst BeginsWithBlank (sym behind) (BeginsWithBlank-behind bytes) in
    let parts : slice_split is_blank_byte bytes ≡ text ∷ pieces_of rest = rw (front, behind) (slice_split-first bytes) in
    ap (λ pieces. filter is_word (placed place pieces)) parts
    ∙ ap (λ v. cond v (record { place = place; text = text } ∷ filter is_word (placed (place + length text + 1) (pieces_of rest))) (filter is_word (placed (place + length text + 1) (pieces_of rest)))) there
    ∙ ap (λ words. record { place = place; text = text } ∷ words) (words_behind (place + length text) rest blank)

-- a word in front has a byte
pub prefix_len-some : (byte : ℕ) (bytes : List ℕ) → is_blank_byte byte ≡ false → 0 < prefix_len stays (byte ∷ bytes)
prefix_len-some byte bytes h = subst (λ v. 0 < cond (not v) (1 + prefix_len stays bytes) 0) (sym h) (omega arith)

pub word-some : (bytes : List ℕ) → BeginsWithNoBlank bytes → (length bytes == 0) ≡ false → 0 < prefix_len stays bytes
word-some [] front some = cc
word-some (byte ∷ bytes) front some = prefix_len-some byte bytes front
