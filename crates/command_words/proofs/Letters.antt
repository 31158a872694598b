-- Bytes of words that quotes and parentheses have no part in.
use Rattle.std.proofs.Common.{◌≡◌, ℕ, suc, List, [], ◌∷◌, ◌++◌, length, Bool, true, false, ◌&&◌, not, refl, ap, arith}
use Rattle.std.specs.Prelude.{◌==◌}
use Rattle.std.specs.List.{list_all}
use Rattle.std.proofs.lemmas.Bool.Decides.{nat_tests}
use Rattle.std.proofs.lemmas.Bool.{and_parts}
use Rattle.command_words.specs.declared.quoting.Quoting.{Quoting}
use Rattle.command_words.specs.declared.quoting.Quoting.TheVariants.{Ignored, Outside, BeforeName}
use Rattle.command_words.specs.Bytes.{is_gap_byte, is_word_byte}
use Rattle.command_words.specs.Quotes.{after, hides, word_len}

-- a byte of a word, and no quote
abbrev pub is_letter : ℕ → Bool
is_letter b = is_word_byte b && not (b == 39)

pub letter-word : (b : ℕ) → is_letter b ≡ true → is_word_byte b ≡ true
letter-word b h = grind (arith, nat_tests)

pub letter-gap : (b : ℕ) → is_letter b ≡ true → is_gap_byte b ≡ false
letter-gap b h = grind (arith, nat_tests)

pub letter-quote : (b : ℕ) → is_letter b ≡ true → (b == 39) ≡ false
letter-quote b h = grind (arith, nat_tests)

pub letter-open : (b : ℕ) → is_letter b ≡ true → (b == 40) ≡ false
letter-open b h = grind (arith, nat_tests)

pub letter-close : (b : ℕ) → is_letter b ≡ true → (b == 41) ≡ false
letter-close b h = grind (arith, nat_tests)

-- bytes other than quotes leave these as they are
pub record IsSteady (q : Quoting) : Type 0 where
  pub open_to_all : hides q ≡ false
  pub stays : (p b : ℕ) → (b == 39) ≡ false → after q p b ≡ q

pub Ignored-steady : IsSteady Ignored
Ignored-steady = record { open_to_all = refl; stays = λ p b h. refl }

pub Outside-steady : IsSteady Outside
Outside-steady = record { open_to_all = refl; stays = λ p b h. rw h refl }

pub BeforeName-steady : IsSteady BeforeName
BeforeName-steady = record { open_to_all = refl; stays = λ p b h. refl }

-- where quotes are bytes like others, the length of a word doesn't hang on its place
pub ignored_anywhere : (p q : ℕ) (bs : List ℕ) → word_len Ignored p bs ≡ word_len Ignored q bs
ignored_anywhere p q [] = refl
ignored_anywhere p q (b ∷ bs) = rw (ignored_anywhere (suc p) (suc q) bs) refl

-- what may follow a word
abbrev pub EndsWord : List ℕ → Type 0
EndsWord [] = Unit {0}
EndsWord (b ∷ bs) = is_word_byte b ≡ false

pub word_len-letters : (q : Quoting) → IsSteady q → (p : ℕ) (w rest : List ℕ) → list_all is_letter w ≡ true → EndsWord rest → word_len q p (w ++ rest) ≡ length w
word_len-letters q s p [] [] h e = refl
word_len-letters q s p [] (b ∷ bs) h e = rw (s.open_to_all, e) refl
word_len-letters q s p (b ∷ w) rest h e =
    let letter : is_letter b ≡ true = (and_parts _ _ h).0 in
    let letters : list_all is_letter w ≡ true = (and_parts _ _ h).1 in
    let word : is_word_byte b ≡ true = letter-word b letter in
    let same : after q p b ≡ q = s.stays p b (letter-quote b letter) in
    let more : word_len q (suc p) (w ++ rest) ≡ length w = word_len-letters q s (suc p) w rest letters e in
    rw (s.open_to_all, word, same) (ap suc more)
