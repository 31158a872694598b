-- The tokens of texts that were written: words, values in parentheses, texts in quotes.
use Rattle.std.proofs.Common.{◌≡◌, ℕ, suc, ◌+◌, ◌-◌, ◌<◌, List, [], ◌∷◌, ◌++◌, length, take, drop, Bool, true, false, ◌&&◌, not, Ok, refl, sym, ap, ◌∙◌, arith, add-zero, add-one, length-append, append_assoc}
use Rattle.std.specs.Prelude.{◌==◌}
use Rattle.std.specs.List.{list_all}
use Rattle.std.proofs.lemmas.List.{append-nil}
use Rattle.std.proofs.Math.Seq.{take-append_seam, take-length, drop-append_seam, drop-length}
use Rattle.std.proofs.lemmas.Bool.Decides.{nat_tests}
use Rattle.std.proofs.lemmas.Bool.{and_parts}
use Rattle.command_words.specs.declared.quoting.Quoting.{Quoting}
use Rattle.command_words.specs.declared.quoting.Quoting.TheVariants.{Ignored, Outside, Inside, Met, AtName, InName}
use Rattle.command_words.specs.Bytes.{is_word_byte}
use Rattle.command_words.specs.Quotes.{after, next_word, word_len, doubled}
use Rattle.command_words.specs.Tokens.{Word, Group, within, group_end, tokens_from, word_then}
use Rattle.command_words.proofs.Letters.{is_letter, letter-word, letter-gap, letter-open, letter-close, letter-quote, IsSteady, Ignored-steady, Outside-steady, EndsWord, word_len-letters}
use Rattle.command_words.proofs.Skips.{grouped-ok, worded-at}

-- a word of letters, and what follows it
pub word_token : (q : Quoting) → IsSteady q → (tied : Bool) (p b : ℕ) (w rest : List ℕ) → list_all is_letter (b ∷ w) ≡ true → EndsWord rest
    → tokens_from q tied 0 p (b ∷ (w ++ rest)) ≡ Word p (b ∷ w) ∷ tokens_from (next_word q) true 0 (p + length (b ∷ w)) rest
word_token q s tied p b w rest h e =
    let letter : is_letter b ≡ true = (and_parts _ _ h).0 in
    let letters : list_all is_letter w ≡ true = (and_parts _ _ h).1 in
    let same : after q p b ≡ q = s.stays p b (letter-quote b letter) in
    let measured : length w ≡ word_len (after q p b) (p + 1) (w ++ rest) = rw same (sym (word_len-letters q s (p + 1) w rest letters e)) in
    let next : p + 1 + length w ≡ p + length (b ∷ w) = omega arith in
    let whole : take (length w + 1) (b ∷ (w ++ rest)) ≡ b ∷ w = rw (add-one, take-append_seam) refl in
    let first : tokens_from q tied 0 p (b ∷ (w ++ rest)) ≡ word_then q b p (w ++ rest) = rw (letter-gap b letter, letter-close b letter, letter-open b letter) refl in
    first ∙ worded-at q b p (length w) (w ++ rest) measured
    ∙ ap (λ v. Word p v ∷ tokens_from (next_word q) true 0 (p + 1 + length w) (drop (length w) (w ++ rest))) whole
    ∙ ap (λ n. Word p (b ∷ w) ∷ tokens_from (next_word q) true 0 n (drop (length w) (w ++ rest))) next
    ∙ ap (λ bs. Word p (b ∷ w) ∷ tokens_from (next_word q) true 0 (p + length (b ∷ w)) bs) (drop-append_seam w rest)

-- a value in parentheses, where the one that closes it is known
pub group_token : (q : Quoting) (tied : Bool) (p : ℕ) (inside rest : List ℕ) → group_end p Outside 0 (suc p) (inside ++ 41 ∷ rest) ≡ Ok (suc p + length inside)
    → tokens_from q tied 0 p (40 ∷ (inside ++ 41 ∷ rest)) ≡ Group tied p (within p inside) ∷ tokens_from (next_word q) false 0 (p + length inside + 2) rest
group_token q tied p inside rest bounded =
    let above : p < suc p + length inside = omega arith in
    let closed : Ok (suc p + length inside) ≡ group_end p Outside 0 (p + 1) (inside ++ 41 ∷ rest) = rw add-one (sym bounded) in
    let count : suc p + length inside - p - 1 ≡ length inside = omega arith in
    let count' : suc p + length inside - p ≡ length inside + 1 = omega arith in
    let next : suc p + length inside + 1 ≡ p + length inside + 2 = omega arith in
    let held : take (suc p + length inside - p - 1) (inside ++ 41 ∷ rest) ≡ inside = rw count (take-append_seam inside (41 ∷ rest)) in
    let left : drop (suc p + length inside - p) (inside ++ 41 ∷ rest) ≡ rest =
    rw count' (ap (λ bs. drop (length inside + 1) bs) (sym (append_assoc inside (41 ∷ []) rest))
    ∙ ap (λ n. drop n ((inside ++ 41 ∷ []) ++ rest)) (sym (length-append inside (41 ∷ [])))
    ∙ drop-append_seam (inside ++ 41 ∷ []) rest) in
    grouped-ok q tied p (suc p + length inside) (inside ++ 41 ∷ rest) closed above
    ∙ ap (λ bs. Group tied p (within p bs) ∷ tokens_from (next_word q) false 0 (suc p + length inside + 1) (drop (suc p + length inside - p) (inside ++ 41 ∷ rest))) held
    ∙ ap (λ bs. Group tied p (within p inside) ∷ tokens_from (next_word q) false 0 (suc p + length inside + 1) bs) left
    ∙ ap (λ n. Group tied p (within p inside) ∷ tokens_from (next_word q) false 0 n rest) next

-- bytes that neither quotes nor parentheses are
abbrev pub is_calm : ℕ → Bool
is_calm b = not (b == 39) && (not (b == 40) && not (b == 41))

calm-quote : (b : ℕ) → is_calm b ≡ true → (b == 39) ≡ false
calm-quote b h = grind (arith, nat_tests)

calm-open : (b : ℕ) → is_calm b ≡ true → (b == 40) ≡ false
calm-open b h = grind (arith, nat_tests)

calm-close : (b : ℕ) → is_calm b ≡ true → (b == 41) ≡ false
calm-close b h = grind (arith, nat_tests)

pub letter-calm : (b : ℕ) → is_letter b ≡ true → is_calm b ≡ true
letter-calm b h = rw (letter-quote b h, letter-open b h, letter-close b h) refl

pub group_end-calm : (outer p : ℕ) (inside rest : List ℕ) → list_all is_calm inside ≡ true → group_end outer Outside 0 p (inside ++ 41 ∷ rest) ≡ Ok (p + length inside)
group_end-calm outer p [] rest h = rw add-zero refl
group_end-calm outer p (b ∷ inside) rest h =
    let calm : is_calm b ≡ true = (and_parts _ _ h).0 in
    let next : suc p + length inside ≡ p + length (b ∷ inside) = omega arith in
    rw (calm-quote b calm, calm-open b calm, calm-close b calm)
    (group_end-calm outer (suc p) inside rest (and_parts _ _ h).1 ∙ ap Ok next)

-- calm bytes leave the parentheses as they are
pub group_end-through : (outer depth p : ℕ) (inside rest : List ℕ) → list_all is_calm inside ≡ true → group_end outer Outside depth p (inside ++ rest) ≡ group_end outer Outside depth (p + length inside) rest
group_end-through outer depth p [] rest h = rw add-zero refl
group_end-through outer depth p (b ∷ inside) rest h =
    let calm : is_calm b ≡ true = (and_parts _ _ h).0 in
    let next : suc p + length inside ≡ p + length (b ∷ inside) = omega arith in
    rw (calm-quote b calm, calm-open b calm, calm-close b calm)
    (group_end-through outer depth (suc p) inside rest (and_parts _ _ h).1 ∙ ap (λ n. group_end outer Outside depth n rest) next)

-- past a word with a value of its own
pub group_end-nested : (outer p : ℕ) (word inside rest : List ℕ) → list_all is_calm word ≡ true → list_all is_calm inside ≡ true
    → group_end outer Outside 0 p (word ++ (40 ∷ (inside ++ 41 ∷ rest))) ≡ group_end outer Outside 0 (p + length word + length inside + 2) rest
group_end-nested outer p word inside rest h k =
    let next : suc (suc (p + length word) + length inside) ≡ p + length word + length inside + 2 = omega arith in
    group_end-through outer 0 p word (40 ∷ (inside ++ 41 ∷ rest)) h
    ∙ group_end-through outer 1 (suc (p + length word)) inside (41 ∷ rest) k
    ∙ ap (λ n. group_end outer Outside 0 n rest) next

-- through the text between quotes, and past its closing quote
group_end-one : (outer open_at p b : ℕ) (t rest : List ℕ) (c : Bool) → (b == 39) ≡ c
    → ((p : ℕ) → group_end outer (Inside open_at) 0 p (doubled t ++ (39 ∷ (41 ∷ rest))) ≡ Ok (p + length (doubled t) + 1))
    → group_end outer (Inside open_at) 0 p (doubled (b ∷ t) ++ (39 ∷ (41 ∷ rest))) ≡ Ok (p + length (doubled (b ∷ t)) + 1)
group_end-one outer open_at p b t rest true quote more =
    let next : suc (suc p) + length (doubled t) + 1 ≡ p + length (39 ∷ 39 ∷ doubled t) + 1 = omega arith in
    rw quote (more (suc (suc p)) ∙ ap Ok next)
group_end-one outer open_at p b t rest false other more =
    let next : suc p + length (doubled t) + 1 ≡ p + length (b ∷ doubled t) + 1 = omega arith in
    rw other (rw other (more (suc p) ∙ ap Ok next))

group_end-inside : (outer open_at p : ℕ) (t rest : List ℕ) → group_end outer (Inside open_at) 0 p (doubled t ++ (39 ∷ (41 ∷ rest))) ≡ Ok (p + length (doubled t) + 1)
group_end-inside outer open_at p [] rest = ap Ok (omega arith)
group_end-inside outer open_at p (b ∷ t) rest = group_end-one outer open_at p b t rest (b == 39) refl (λ n. group_end-inside outer open_at n t rest)

abbrev pub quoted : List ℕ → List ℕ
quoted t = 39 ∷ (doubled t ++ 39 ∷ [])

pub group_end-quoted : (outer p : ℕ) (t rest : List ℕ) → group_end outer Outside 0 p (quoted t ++ 41 ∷ rest) ≡ Ok (p + length (quoted t))
group_end-quoted outer p t rest =
    let next : suc p + length (doubled t) + 1 ≡ p + length (quoted t) = omega (arith, length-append (doubled t) (39 ∷ [])) in
    ap (λ bs. group_end outer (Inside p) 0 (suc p) bs) (append_assoc (doubled t) (39 ∷ []) (41 ∷ rest))
    ∙ group_end-inside outer p (suc p) t rest ∙ ap Ok next

-- a word of a value that is a text in quotes goes to its closing quote
word_len-one : (open_at p b : ℕ) (t : List ℕ) (c : Bool) → (b == 39) ≡ c
    → ((p : ℕ) → word_len (Inside open_at) p (doubled t ++ 39 ∷ []) ≡ length (doubled t ++ 39 ∷ []))
    → word_len (Inside open_at) p (doubled (b ∷ t) ++ 39 ∷ []) ≡ length (doubled (b ∷ t) ++ 39 ∷ [])
word_len-one open_at p b t true quote more = rw quote (ap (λ n. suc (suc n)) (more (suc (suc p))))
word_len-one open_at p b t false other more = rw other (rw other (ap suc (more (suc p))))

word_len-inside : (open_at p : ℕ) (t : List ℕ) → word_len (Inside open_at) p (doubled t ++ 39 ∷ []) ≡ length (doubled t ++ 39 ∷ [])
word_len-inside open_at p [] = refl
word_len-inside open_at p (b ∷ t) = word_len-one open_at p b t (b == 39) refl (λ n. word_len-inside open_at n t)

pub quoted_token : (tied : Bool) (p : ℕ) (t : List ℕ) → tokens_from Outside tied 0 p (quoted t) ≡ Word p (quoted t) ∷ []
quoted_token tied p t =
    let measured : length (doubled t ++ 39 ∷ []) ≡ word_len (after Outside p 39) (p + 1) (doubled t ++ 39 ∷ []) = sym (word_len-inside p (p + 1) t) in
    let whole : take (length (doubled t ++ 39 ∷ []) + 1) (quoted t) ≡ quoted t = rw (add-one, take-length) refl in
    worded-at Outside 39 p (length (doubled t ++ 39 ∷ [])) (doubled t ++ 39 ∷ []) measured
    ∙ ap (λ v. Word p v ∷ tokens_from Outside true 0 (p + 1 + length (doubled t ++ 39 ∷ [])) (drop (length (doubled t ++ 39 ∷ [])) (doubled t ++ 39 ∷ []))) whole
    ∙ ap (λ bs. Word p (quoted t) ∷ tokens_from Outside true 0 (p + 1 + length (doubled t ++ 39 ∷ [])) bs) (drop-length (doubled t ++ 39 ∷ []))

-- a word alone
pub word_alone : (q : Quoting) → IsSteady q → (tied : Bool) (p b : ℕ) (w : List ℕ) → list_all is_letter (b ∷ w) ≡ true → tokens_from q tied 0 p (b ∷ w) ≡ Word p (b ∷ w) ∷ []
word_alone q s tied p b w h = ap (λ bs. tokens_from q tied 0 p (b ∷ bs)) (sym (append-nil w)) ∙ word_token q s tied p b w [] h tt

-- a name in quotes, and what follows it
word_len-name : (open_at p : ℕ) (t rest : List ℕ) → list_all is_letter t ≡ true → EndsWord rest → word_len (InName open_at) p (t ++ 39 ∷ rest) ≡ length t + 1
word_len-name open_at p [] [] h e = refl
word_len-name open_at p [] (b ∷ rest) h e = rw e refl
word_len-name open_at p (b ∷ t) rest h e =
    let next : suc (length t + 1) ≡ length (b ∷ t) + 1 = omega arith in
    rw (letter-quote b (and_parts _ _ h).0) (ap suc (word_len-name open_at (suc p) t rest (and_parts _ _ h).1 e) ∙ next)

pub name_token : (tied : Bool) (p : ℕ) (t rest : List ℕ) → list_all is_letter t ≡ true → EndsWord rest
    → tokens_from AtName tied 0 p (39 ∷ (t ++ 39 ∷ rest)) ≡ Word p (39 ∷ (t ++ 39 ∷ [])) ∷ tokens_from Ignored true 0 (p + length (39 ∷ (t ++ 39 ∷ []))) rest
name_token tied p t rest h e =
    let measured : length t + 1 ≡ word_len (after AtName p 39) (p + 1) (t ++ 39 ∷ rest) = sym (word_len-name p (p + 1) t rest h e) in
    let count : length (t ++ 39 ∷ []) ≡ length t + 1 = length-append t (39 ∷ []) in
    let parted : t ++ 39 ∷ rest ≡ (t ++ 39 ∷ []) ++ rest = sym (append_assoc t (39 ∷ []) rest) in
    let whole : take (length t + 1 + 1) (39 ∷ (t ++ 39 ∷ rest)) ≡ 39 ∷ (t ++ 39 ∷ []) =
    rw (parted, ← count, add-one (length (t ++ 39 ∷ [])), take-append_seam (t ++ 39 ∷ []) rest) refl in
    let left : drop (length t + 1) (t ++ 39 ∷ rest) ≡ rest = rw (parted, ← count) (drop-append_seam (t ++ 39 ∷ []) rest) in
    let next : p + 1 + (length t + 1) ≡ p + length (39 ∷ (t ++ 39 ∷ [])) = omega (arith, count) in
    worded-at AtName 39 p (length t + 1) (t ++ 39 ∷ rest) measured
    ∙ ap (λ v. Word p v ∷ tokens_from Ignored true 0 (p + 1 + (length t + 1)) (drop (length t + 1) (t ++ 39 ∷ rest))) whole
    ∙ ap (λ bs. Word p (39 ∷ (t ++ 39 ∷ [])) ∷ tokens_from Ignored true 0 (p + 1 + (length t + 1)) bs) left
    ∙ ap (λ n. Word p (39 ∷ (t ++ 39 ∷ [])) ∷ tokens_from Ignored true 0 n rest) next

-- a word of letters where a name in quotes might stand
pub bare_name_token : (tied : Bool) (p b : ℕ) (w rest : List ℕ) → list_all is_letter (b ∷ w) ≡ true → EndsWord rest
    → tokens_from AtName tied 0 p (b ∷ (w ++ rest)) ≡ Word p (b ∷ w) ∷ tokens_from Ignored true 0 (p + length (b ∷ w)) rest
bare_name_token tied p b w rest h e =
    let letter : is_letter b ≡ true = (and_parts _ _ h).0 in
    let letters : list_all is_letter w ≡ true = (and_parts _ _ h).1 in
    let same : after AtName p b ≡ Ignored = rw (letter-quote b letter) refl in
    let measured : length w ≡ word_len (after AtName p b) (p + 1) (w ++ rest) = rw same (sym (word_len-letters Ignored Ignored-steady (p + 1) w rest letters e)) in
    let next : p + 1 + length w ≡ p + length (b ∷ w) = omega arith in
    let whole : take (length w + 1) (b ∷ (w ++ rest)) ≡ b ∷ w = rw (add-one, take-append_seam) refl in
    let first : tokens_from AtName tied 0 p (b ∷ (w ++ rest)) ≡ word_then AtName b p (w ++ rest) = rw (letter-gap b letter, letter-close b letter, letter-open b letter) refl in
    first ∙ worded-at AtName b p (length w) (w ++ rest) measured
    ∙ ap (λ v. Word p v ∷ tokens_from Ignored true 0 (p + 1 + length w) (drop (length w) (w ++ rest))) whole
    ∙ ap (λ n. Word p (b ∷ w) ∷ tokens_from Ignored true 0 n (drop (length w) (w ++ rest))) next
    ∙ ap (λ bs. Word p (b ∷ w) ∷ tokens_from Ignored true 0 (p + length (b ∷ w)) bs) (drop-append_seam w rest)

-- a word of a value that begins with a text in quotes, in which there is no quote
word_len-quoted : (open_at p : ℕ) (t u rest : List ℕ) → list_all is_letter t ≡ true → list_all is_letter u ≡ true → EndsWord rest → word_len (Inside open_at) p (t ++ 39 ∷ (u ++ rest)) ≡ length t + 1 + length u
word_len-quoted open_at p [] [] [] h k e = refl
word_len-quoted open_at p [] [] (b ∷ rest) h k e = rw e refl
word_len-quoted open_at p [] (b ∷ u) rest h k e =
    let letter : is_letter b ≡ true = (and_parts _ _ k).0 in
    let word : is_word_byte b ≡ true = letter-word b letter in
    let more : word_len Outside (suc (suc p)) (u ++ rest) ≡ length u = word_len-letters Outside Outside-steady (suc (suc p)) u rest (and_parts _ _ k).1 e in
    let next : suc (suc (length u)) ≡ 0 + 1 + length (b ∷ u) = omega arith in
    rw (word, letter-quote b letter) (ap (λ n. suc (suc n)) more ∙ next)
word_len-quoted open_at p (b ∷ t) u rest h k e =
    let next : suc (length t + 1 + length u) ≡ length (b ∷ t) + 1 + length u = omega arith in
    rw (letter-quote b (and_parts _ _ h).0) (ap suc (word_len-quoted open_at (suc p) t u rest (and_parts _ _ h).1 k e) ∙ next)

pub quoted_word_token : (tied : Bool) (p : ℕ) (t u rest : List ℕ) → list_all is_letter t ≡ true → list_all is_letter u ≡ true → EndsWord rest
    → tokens_from Outside tied 0 p (39 ∷ (t ++ 39 ∷ (u ++ rest))) ≡ Word p (39 ∷ (t ++ 39 ∷ u)) ∷ tokens_from Outside true 0 (p + length (39 ∷ (t ++ 39 ∷ u))) rest
quoted_word_token tied p t u rest h k e =
    let measured : length t + 1 + length u ≡ word_len (after Outside p 39) (p + 1) (t ++ 39 ∷ (u ++ rest)) = sym (word_len-quoted p (p + 1) t u rest h k e) in
    let count : length (t ++ 39 ∷ u) ≡ length t + 1 + length u = length-append t (39 ∷ u) ∙ omega arith in
    let parted : t ++ 39 ∷ (u ++ rest) ≡ (t ++ 39 ∷ u) ++ rest = sym (append_assoc t (39 ∷ u) rest) in
    let whole : take (length t + 1 + length u + 1) (39 ∷ (t ++ 39 ∷ (u ++ rest))) ≡ 39 ∷ (t ++ 39 ∷ u) =
    rw (parted, ← count, add-one (length (t ++ 39 ∷ u)), take-append_seam (t ++ 39 ∷ u) rest) refl in
    let left : drop (length t + 1 + length u) (t ++ 39 ∷ (u ++ rest)) ≡ rest = rw (parted, ← count) (drop-append_seam (t ++ 39 ∷ u) rest) in
    let next : p + 1 + (length t + 1 + length u) ≡ p + length (39 ∷ (t ++ 39 ∷ u)) = omega (arith, count) in
    worded-at Outside 39 p (length t + 1 + length u) (t ++ 39 ∷ (u ++ rest)) measured
    ∙ ap (λ v. Word p v ∷ tokens_from Outside true 0 (p + 1 + (length t + 1 + length u)) (drop (length t + 1 + length u) (t ++ 39 ∷ (u ++ rest)))) whole
    ∙ ap (λ bs. Word p (39 ∷ (t ++ 39 ∷ u)) ∷ tokens_from Outside true 0 (p + 1 + (length t + 1 + length u)) bs) left
    ∙ ap (λ n. Word p (39 ∷ (t ++ 39 ∷ u)) ∷ tokens_from Outside true 0 n rest) next

-- past such a word to the parenthesis that closes, or to the blank behind it
inside-through : (outer open_at p : ℕ) (t rest : List ℕ) → list_all is_letter t ≡ true → group_end outer (Inside open_at) 0 p (t ++ 39 ∷ rest) ≡ group_end outer (Met open_at) 0 (p + length t + 1) rest
inside-through outer open_at p [] rest h = ap (λ n. group_end outer (Met open_at) 0 n rest) (omega arith)
inside-through outer open_at p (b ∷ t) rest h =
    let next : suc p + length t + 1 ≡ p + length (b ∷ t) + 1 = omega arith in
    rw (letter-quote b (and_parts _ _ h).0) (inside-through outer open_at (suc p) t rest (and_parts _ _ h).1 ∙ ap (λ n. group_end outer (Met open_at) 0 n rest) next)

pub calm-letters : (w : List ℕ) → list_all is_letter w ≡ true → list_all is_calm w ≡ true
calm-letters [] h = refl
calm-letters (b ∷ w) h = rw (letter-calm b (and_parts _ _ h).0) (calm-letters w (and_parts _ _ h).1)

met-through : (outer open_at p : ℕ) (u rest : List ℕ) → list_all is_letter u ≡ true → ((n : ℕ) → group_end outer (Met open_at) 0 n rest ≡ group_end outer Outside 0 n rest) → group_end outer (Met open_at) 0 p (u ++ rest) ≡ group_end outer Outside 0 (p + length u) rest
met-through outer open_at p [] rest h same = rw add-zero (same p)
met-through outer open_at p (b ∷ u) rest h same =
    let letter : is_letter b ≡ true = (and_parts _ _ h).0 in
    let next : suc p + length u ≡ p + length (b ∷ u) = omega arith in
    let calm : list_all is_calm u ≡ true = calm-letters u (and_parts _ _ h).1 in
    rw (letter-quote b letter, letter-open b letter, letter-close b letter)
    (group_end-through outer 0 (suc p) u rest calm ∙ ap (λ n. group_end outer Outside 0 n rest) next)

pub quoted_word-through : (outer p : ℕ) (t u rest : List ℕ) → list_all is_letter t ≡ true → list_all is_letter u ≡ true
    → ((n open_at : ℕ) → group_end outer (Met open_at) 0 n rest ≡ group_end outer Outside 0 n rest)
    → group_end outer Outside 0 p (39 ∷ (t ++ 39 ∷ (u ++ rest))) ≡ group_end outer Outside 0 (p + length (39 ∷ (t ++ 39 ∷ u))) rest
quoted_word-through outer p t u rest h k same =
    let count : suc p + length t + 1 + length u ≡ p + length (39 ∷ (t ++ 39 ∷ u)) = omega (arith, length-append t (39 ∷ u)) in
    inside-through outer p (suc p) t (u ++ rest) h
    ∙ met-through outer p (suc p + length t + 1) u rest k (λ n. same n p)
    ∙ ap (λ n. group_end outer Outside 0 n rest) count
