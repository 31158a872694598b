-- A set of categories as four words of 64 bits.
use Rattle.std.specs.Prelude.{◌≡◌, ℕ, ◌+◌, ◌-◌, ◌*◌, ◌^◌, ◌<◌, ◌≤◌, ◌/◌, ◌%◌, List, [], ◌∷◌, length}
use Rattle.std.specs.Int.{bit_at}
use Rattle.std.proofs.Common.{zero, suc, sym, ◌∙◌, ap, arith, get_or, refl, ⊎_elim}
use Rattle.std.proofs.lemmas.Bool.{cases_lt}
use Rattle.std.proofs.lemmas.Nat.Bits.{bit_at-zero, bit_at_cat_low, bit_at_cat_high}
use Rattle.access_levels.specs.declared.categories.Categories.TheInside.{Inside}

-- The words of a set, the lowest first, make one number.
abbrev pub joined : List ℕ → ℕ
joined [] = 0
joined (word ∷ words) = joined words * 2 ^ 64 + word

-- The lowest words of a set.
abbrev pub lowest_words : ℕ → ℕ → List ℕ
lowest_words zero set = []
lowest_words (suc count) set = set % 2 ^ 64 ∷ lowest_words count (set / 2 ^ 64)

pub record AreWords (words : List ℕ) : Type 0 where
  pub four : length words ≡ 4
  pub fit : (k : ℕ) → get_or words k 0 < 2 ^ 64

low : (r a : ℕ) → a < 2 ^ 64 → (r * 2 ^ 64 + a) % 2 ^ 64 ≡ a
low r a h = omega arith

high : (r a : ℕ) → a < 2 ^ 64 → (r * 2 ^ 64 + a) / 2 ^ 64 ≡ r
high r a h = omega arith

lowest-joined : (words : List ℕ) → ((k : ℕ) → get_or words k 0 < 2 ^ 64) → lowest_words (length words) (joined words) ≡ words
lowest-joined [] fit = refl
lowest-joined (word ∷ words) fit =
    let here : word < 2 ^ 64 = fit 0 in
    let rest : lowest_words (length words) (joined words) ≡ words = lowest-joined words (λ k. fit (suc k)) in
    rw (low (joined words) word here, high (joined words) word here, rest) refl

four-joined : (words : List ℕ) → AreWords words → lowest_words 4 (joined words) ≡ words
four-joined words h = ap (λ n. lowest_words n (joined words)) (sym h.four) ∙ lowest-joined words h.fit

abbrev pub set_of : Inside → ℕ
set_of set = joined set.words

abbrev pub in_words : ℕ → Inside
in_words set = record { words = lowest_words 4 set }

-- A set's number gives its four words back.
pub in_words-set_of : (set : Inside) → AreWords set.words → in_words (set_of set) ≡ set
in_words-set_of set h = ap (λ (words : List ℕ). record { words = words }) (four-joined set.words h)

in_first : (word : ℕ) (words : List ℕ) (n : ℕ) → n < 64 → bit_at word n ≡ bit_at (get_or (word ∷ words) (n / 64) 0) (n % 64)
in_first word words n h =
    let quotient : n / 64 ≡ 0 = omega arith in
    let rest : n % 64 ≡ n = omega arith in
    rw (quotient, rest) refl

in_rest : (word : ℕ) (words : List ℕ) (n : ℕ) → 64 ≤ n → bit_at (get_or words ((n - 64) / 64) 0) ((n - 64) % 64) ≡ bit_at (get_or (word ∷ words) (n / 64) 0) (n % 64)
in_rest word words n h =
    let quotient : n / 64 ≡ suc ((n - 64) / 64) = omega arith in
    let rest : n % 64 ≡ (n - 64) % 64 = omega arith in
    rw (quotient, rest) refl

-- A number's bit stands in the word of its quotient, at its rest.
pub bit_at-joined : (words : List ℕ) (n : ℕ) → ((k : ℕ) → get_or words k 0 < 2 ^ 64) → bit_at (joined words) n ≡ bit_at (get_or words (n / 64) 0) (n % 64)
bit_at-joined [] n fit = bit_at-zero n ∙ sym (bit_at-zero (n % 64))
bit_at-joined (word ∷ words) n fit =
    ⊎_elim (λ below. bit_at_cat_low (joined words) 64 word n below ∙ in_first word words n below)
    (λ above. bit_at_cat_high (joined words) 64 word n (fit 0) above ∙ bit_at-joined words (n - 64) (λ k. fit (suc k)) ∙ in_rest word words n above)
    (cases_lt n 64)
