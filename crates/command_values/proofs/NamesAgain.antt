-- Lists of names are read again from how they are written.
use Rattle.std.proofs.Common.{◌≡◌, ℕ, suc, ◌+◌, List, [], ◌∷◌, ◌++◌, length, Bool, true, false, None, Some, Ok, refl, sym, ap, ◌∙◌, append_assoc}
use Rattle.std.specs.List.{list_all}
use Rattle.std.proofs.lemmas.List.{append-nil}
use Rattle.std.proofs.lemmas.List.Folds.{list_all-append}
use Rattle.access_levels.specs.Spelling.{id_of}
use Rattle.command_words.specs.declared.quoting.Quoting.TheVariants.{Ignored, Outside}
use Rattle.command_words.specs.Tokens.{within, tokens, tokens_from}
use Rattle.command_words.specs.ValuedWords.{ValuedWord, valued_words, opens_value, faulty_at}
use Rattle.command_words.proofs.Letters.{Outside-steady, EndsWord}
use Rattle.command_words.proofs.Spelled.{is_calm, word_token, calm-letters}
use Rattle.command_values.specs.declared.value_kinds.ValueKind.{ValueKind}
use Rattle.command_values.specs.Values.{name_of, names, some_names, more_text, ids_text}
use Rattle.command_values.specs.LawfulValues.{AreNames, IsNonEmpty}
use Rattle.command_values.proofs.Names.{name-plain}
use Rattle.command_values.proofs.WordItems.{word_items}

-- names parted by blanks
pub more_ends : (xs : List (List ℕ)) → EndsWord (more_text xs)
more_ends [] = tt
more_ends (x ∷ xs) = refl

pub no_empty : (k : ValueKind) → name_of k [] ≡ Some [] → ⊥
no_empty k h = let no : id_of [] ≡ Ok [] = (name-plain k [] [] h).spelled in cc

pub more_opens : (k : ValueKind) (p : ℕ) (tied : Bool) (xs : List (List ℕ)) → AreNames k xs → opens_value (tokens_from Outside tied 0 p (more_text xs)) ≡ false
more_opens k p tied [] h = refl
more_opens k p tied ([] ∷ xs) h = absurd (no_empty k h.0)
more_opens k p tied ((b ∷ w) ∷ xs) h =
    ap opens_value (word_token Outside Outside-steady false (suc p) b w (more_text xs) (name-plain k (b ∷ w) (b ∷ w) h.0).letters (more_ends xs))

pub names_step : (k : ValueKind) (front : List (List ℕ)) (tied : Bool) (p : ℕ) (x : List ℕ) (xs : List (List ℕ)) → name_of k x ≡ Some x → AreNames k xs
    → names k front (valued_words (tokens_from Outside tied 0 p (x ++ more_text xs))) ≡ names k (front ++ x ∷ []) (valued_words (tokens_from Outside true 0 (p + length x) (more_text xs)))
names_step k front tied p [] xs h hs = absurd (no_empty k h)
names_step k front tied p (b ∷ w) xs h hs =
    let plain = name-plain k (b ∷ w) (b ∷ w) h in
    let sound : faulty_at Ignored p (b ∷ w) ≡ None = plain.sound p in
    ap (λ ts. names k front (valued_words ts)) (word_token Outside Outside-steady tied p b w (more_text xs) plain.letters (more_ends xs))
    ∙ ap (names k front) (word_items (tokens_from Outside true 0 (p + length (b ∷ w)) (more_text xs)) p (b ∷ w) (more_opens k (p + length (b ∷ w)) true xs hs))
    ∙ rw (sound, h) refl

pub names_again : (k : ValueKind) (front : List (List ℕ)) (tied : Bool) (p : ℕ) (xs : List (List ℕ)) → AreNames k xs
    → names k front (valued_words (tokens_from Outside tied 0 p (more_text xs))) ≡ Ok (front ++ xs)
names_again k front tied p [] h = ap Ok (sym (append-nil front))
names_again k front tied p (x ∷ xs) h =
    names_step k front false (suc p) x xs h.0 h.1 ∙ names_again k (front ++ x ∷ []) true (suc p + length x) xs h.1 ∙ ap Ok (append_assoc front (x ∷ []) xs)

-- the first item of a list is there
some_names-some : (k : ValueKind) (p : ℕ) (is : List ValuedWord) (x : List ℕ) (xs : List (List ℕ)) → names k [] is ≡ Ok (x ∷ xs) → some_names k p is ≡ Ok (x ∷ xs)
some_names-some k p [] x xs h = cc
some_names-some k p (i ∷ is) x xs h = h

pub some_names_again : (k : ValueKind) (p q : ℕ) (xs : List (List ℕ)) → IsNonEmpty xs → AreNames k xs → some_names k p (valued_words (tokens (within q (ids_text xs)))) ≡ Ok xs
unfolding tokens
some_names_again k p q [] some h = absurd some
some_names_again k p q (x ∷ xs) some h =
    some_names-some k p (valued_words (tokens_from Outside false 0 (suc q) (x ++ more_text xs))) x xs
    (names_step k [] false (suc q) x xs h.0 h.1 ∙ names_again k (x ∷ []) true (suc q + length x) xs h.1)

-- neither quotes nor parentheses stand in them
more_calm : (k : ValueKind) (xs : List (List ℕ)) → AreNames k xs → list_all is_calm (more_text xs) ≡ true
more_calm k [] h = refl
more_calm k (x ∷ xs) h =
    list_all-append is_calm x (more_text xs) ∙ rw (calm-letters x (name-plain k x x h.0).letters, more_calm k xs h.1) refl

pub ids_calm : (k : ValueKind) (xs : List (List ℕ)) → AreNames k xs → list_all is_calm (ids_text xs) ≡ true
ids_calm k [] h = refl
ids_calm k (x ∷ xs) h =
    list_all-append is_calm x (more_text xs) ∙ rw (calm-letters x (name-plain k x x h.0).letters, more_calm k xs h.1) refl
