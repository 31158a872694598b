-- Two sets are equal exactly where their words are.
use Rattle.std.proofs.Common.{◌≡◌, ℕ, eqb, sym, ◌∙◌, ap, subst}
use Rattle.std.specs.Str.{bytes_eq}
use Rattle.std.proofs.lemmas.Bool.Decides.{same_from_decides, Decides-eqb, Decides-like}
use Rattle.std.proofs.lemmas.Slice.Eq.{bytes_eq-Decides}
use Rattle.access_levels.specs.Words.{AreWords, set_of, in_words, in_words-set_of}
use Rattle.access_levels.specs.declared.categories.Categories.TheInside.{Inside}

same_words : (a b : Inside) → AreWords a.words → AreWords b.words → set_of a ≡ set_of b → a.words ≡ b.words
same_words a b h k same = ap (λ (set : Inside). set.words) (sym (in_words-set_of a h) ∙ ap in_words same ∙ in_words-set_of b k)

same_sets : (a b : Inside) → AreWords a.words → AreWords b.words → bytes_eq a.words b.words ≡ eqb (set_of a) (set_of b)
same_sets a b h k = same_from_decides _ _
    (Decides-like _ (λ same. ap (λ words. set_of (record { words = words })) same) (same_words a b h k) (bytes_eq-Decides a.words b.words))
    (Decides-eqb (set_of a) (set_of b))

pub eqb-words : (a b : Inside) (x y : ℕ) → set_of a ≡ x → set_of b ≡ y → AreWords a.words → AreWords b.words → bytes_eq a.words b.words ≡ eqb x y
eqb-words a b x y is_x is_y h k =
    let P : ℕ → ℕ → Type 0 = λ s t. bytes_eq a.words b.words ≡ eqb s t in
    subst (λ s. P s y) is_x (subst (P (set_of a)) is_y (same_sets a b h k))
