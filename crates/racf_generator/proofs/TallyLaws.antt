-- What is kept of lines that are counted, line by line.
use Rattle.std.proofs.Common.{ℕ, ◌+◌, ◌-◌, ◌≡◌, ◌∙◌, cond, List, [], ◌∷◌, ◌++◌, length, take, Option, None, Some, refl, ap, arith, append_assoc, append-nil, length-append}
use Rattle.std.specs.Prelude.{codes, decimal, option_map, unwrap_or}
use Rattle.std.specs.List.{AllByRecursion, last_or}
use Rattle.std.proofs.lemmas.List.{take_at}
use Rattle.std.proofs.lemmas.List.Concat.{flat_map-append}
use Rattle.std.proofs.lemmas.List.Sums.{sum_by_push}
use Rattle.racf_outside.specs.Lines.{NoFeed, parts}
use Rattle.racf_outside.proofs.LineLaws.{parts-feed, parts-none}
use Rattle.racf_generator.specs.Counting.{counted, counted_next, counts_text}
use Rattle.racf_generator.specs.MadeText.{text_of}
use Rattle.racf_generator.specs.Tally.{ended_lines, first_word, says_accepted, says_refused, says_answered, says_denied, summary, tally}

-- the lines that ended, and the front of one that didn't
parts-lines : (ls : List (List ℕ)) (line : List ℕ) → AllByRecursion NoFeed ls → NoFeed line → parts (text_of ls ++ line) ≡ ls ++ line ∷ []
parts-lines [] line hs h = parts-none line h
parts-lines (first ∷ ls) line hs h =
    ap parts (append_assoc (first ++ 10 ∷ []) (text_of ls) line ∙ append_assoc first (10 ∷ []) (text_of ls ++ line))
    ∙ parts-feed first (text_of ls ++ line) hs.0 ∙ ap (λ rest. first ∷ rest) (parts-lines ls line hs.1 h)

pub ended_lines-lines : (ls : List (List ℕ)) (line : List ℕ) → AllByRecursion NoFeed ls → NoFeed line → ended_lines (text_of ls ++ line) ≡ ls
unfolding ended_lines
ended_lines-lines ls line hs h =
    ap (λ found. take (length found - 1) found) (parts-lines ls line hs h)
    ∙ take_at ls (line ∷ []) (length (ls ++ line ∷ []) - 1) (omega (arith, length-append ls (line ∷ [])))

-- one line more
pub text_of-push : (ls : List (List ℕ)) (line : List ℕ) → text_of (ls ++ line ∷ []) ≡ text_of ls ++ (line ++ 10 ∷ [])
text_of-push ls line = flat_map-append (λ l. l ++ 10 ∷ []) ls (line ∷ []) ∙ ap (λ text. text_of ls ++ text) (append-nil (line ++ 10 ∷ []))

pub feedless-push : (ls : List (List ℕ)) (line : List ℕ) → AllByRecursion NoFeed ls → NoFeed line → AllByRecursion NoFeed (ls ++ line ∷ [])
feedless-push [] line hs h = (h, tt)
feedless-push (first ∷ ls) line hs h = (hs.0, feedless-push ls line hs.1 h)

pub last_or-push : (o : Option (List ℕ)) (ls : List (List ℕ)) (line : List ℕ) → last_or o (ls ++ line ∷ []) ≡ Some line
last_or-push o [] line = refl
last_or-push o (first ∷ ls) line = last_or-push (Some first) ls line

pub counted-push : (ls : List (List ℕ)) (line : List ℕ) → counted (ls ++ line ∷ []) ≡ counted_next (counted ls) line
unfolding counted
counted-push ls line =
    let size : length (ls ++ line ∷ []) ≡ length ls + 1 = length-append ls (line ∷ []) in
    let accepted = sum_by_push (λ l. cond (says_accepted l) 1 0) ls line in
    let refused = sum_by_push (λ l. cond (says_refused l) 1 0) ls line in
    let answered = sum_by_push (λ l. cond (says_answered l) 1 0) ls line in
    let denied = sum_by_push (λ l. cond (says_denied l) 1 0) ls line in
    cc

-- the number of the last line, and the line that tells the counts, from what is kept
pub number-kept : (ls : List (List ℕ)) (line : List ℕ) → AllByRecursion NoFeed ls → NoFeed line → (tally (ended_lines (text_of ls ++ line))).number ≡ unwrap_or (option_map first_word (last_or None ls)) (codes "0")
unfolding tally
number-kept ls line hs h = ap (λ found. unwrap_or (option_map first_word (last_or None found)) (codes "0")) (ended_lines-lines ls line hs h)

pub number-none : (ls : List (List ℕ)) (line : List ℕ) → AllByRecursion NoFeed ls → NoFeed line → length ls ≡ 0 → (tally (ended_lines (text_of ls ++ line))).number ≡ codes "0"
number-none [] line hs h none = number-kept [] line hs h
number-none (first ∷ ls) line hs h none = absurd (omega arith)

pub number-some : (ls : List (List ℕ)) (line last : List ℕ) → AllByRecursion NoFeed ls → NoFeed line → last_or None ls ≡ Some last → (tally (ended_lines (text_of ls ++ line))).number ≡ first_word last
number-some ls line last hs h is = number-kept ls line hs h ∙ ap (λ o. unwrap_or (option_map first_word o) (codes "0")) is

regroup : (a n b v c w d x e y f m g : List ℕ) → ((((a ++ n) ++ ((b ++ v) ++ (c ++ w) ++ (d ++ x) ++ (e ++ y))) ++ f) ++ m) ++ g ≡ a ++ n ++ b ++ v ++ c ++ w ++ d ++ x ++ e ++ y ++ f ++ m ++ g
regroup a n b v c w d x e y f m g = simp append_assoc

pub summary-kept : (n : ℕ) (ls : List (List ℕ)) → ((((codes "/* LINES " ++ decimal n) ++ counts_text (counted ls)) ++ codes " NUMBER ") ++ (tally ls).number) ++ codes "\n" ≡ summary n (tally ls)
unfolding counted tally
summary-kept n ls =
    regroup (codes "/* LINES ") (decimal n) (codes " ACCEPTED ") (decimal (tally ls).accepted) (codes " REFUSED ") (decimal (tally ls).refused)
    (codes " ANSWERED ") (decimal (tally ls).answered) (codes " DENIED ") (decimal (tally ls).denied) (codes " NUMBER ") (tally ls).number (codes "\n")
