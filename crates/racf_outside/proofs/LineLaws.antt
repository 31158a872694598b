-- How the lines of an input go on, line by line.
use Rattle.std.proofs.Common.{ℕ, ◌<◌, ◌≡◌, ◌≢◌, eqb, false, List, [], ◌∷◌, ◌++◌, length, refl, sym, ◌∙◌, ap, arith, append_assoc}
use Rattle.std.specs.Prelude.{All}
use Rattle.std.proofs.lemmas.Bool.{ne_eqb}
use Rattle.std.proofs.lemmas.List.Elements.{All-weaker}
use Rattle.std.proofs.lemmas.List.Splits.{slice_split_at, slice_split_none, length-slice_split}
use Rattle.racf_outside.specs.Lines.{Line, line_of, parts, whole_of, all_of, whole_lines, lines, NoFeed, IsWalked}

-- the bytes before the next line feed, as the test of `parts` says it
pub no_feed_tests : (raw : List ℕ) → NoFeed raw → All (λ b. eqb b 10 ≡ false) raw
no_feed_tests raw h = All-weaker (λ b. b ≢ 10) (λ b. eqb b 10 ≡ false) (λ b other. ne_eqb b 10 other) raw h

-- a part and what follows it
pub parts-feed : (raw more : List ℕ) → NoFeed raw → parts (raw ++ 10 ∷ more) ≡ raw ∷ parts more
parts-feed raw more h = slice_split_at (λ b. eqb b 10) raw 10 more (no_feed_tests raw h) refl

pub parts-none : (raw : List ℕ) → NoFeed raw → parts raw ≡ raw ∷ []
parts-none raw h = slice_split_none (λ b. eqb b 10) raw (no_feed_tests raw h)

whole_of-cons : (part : List ℕ) (rest : List (List ℕ)) → 0 < length rest → whole_of (part ∷ rest) ≡ line_of part ∷ whole_of rest
whole_of-cons part [] h = absurd (omega arith)
whole_of-cons part (next ∷ more) h = refl

all_of-cons : (part : List ℕ) (rest : List (List ℕ)) → 0 < length rest → all_of (part ∷ rest) ≡ line_of part ∷ all_of rest
all_of-cons part [] h = absurd (omega arith)
all_of-cons [] (next ∷ more) h = refl
all_of-cons (b ∷ bs) (next ∷ more) h = refl

some_part : (bytes : List ℕ) → 0 < length (parts bytes)
some_part bytes = omega (arith, length-slice_split (λ b. eqb b 10) bytes)

-- a line that a line feed ended is the first
pub whole_lines-feed : (raw more : List ℕ) → NoFeed raw → whole_lines (raw ++ 10 ∷ more) ≡ line_of raw ∷ whole_lines more
whole_lines-feed raw more h = ap whole_of (parts-feed raw more h) ∙ whole_of-cons raw (parts more) (some_part more)

pub lines-feed : (raw more : List ℕ) → NoFeed raw → lines (raw ++ 10 ∷ more) ≡ line_of raw ∷ lines more
lines-feed raw more h = ap all_of (parts-feed raw more h) ∙ all_of-cons raw (parts more) (some_part more)

-- the front of a line is no whole line
pub whole_lines-front : (raw : List ℕ) → NoFeed raw → whole_lines raw ≡ []
whole_lines-front raw h = ap whole_of (parts-none raw h)

all_of-one : (raw : List ℕ) → 0 < length raw → all_of (raw ∷ []) ≡ line_of raw ∷ []
all_of-one [] h = absurd (omega arith)
all_of-one (b ∷ bs) h = refl

-- what the input's end ends is a line where it isn't empty
pub lines-last : (raw : List ℕ) → NoFeed raw → 0 < length raw → lines raw ≡ line_of raw ∷ []
lines-last raw h some = ap all_of (parts-none raw h) ∙ all_of-one raw some

-- before an input is read, none of its lines is walked
pub IsWalked-none : IsWalked [] []
IsWalked-none = record { whole = λ more. refl; all = λ more. refl }

-- a line that a line feed ended is walked next
pub IsWalked-feed : (read raw : List ℕ) (walked : List Line) → IsWalked read walked → NoFeed raw → IsWalked (read ++ (raw ++ 10 ∷ [])) (walked ++ line_of raw ∷ [])
IsWalked-feed read raw walked w h =
    record {
      whole = λ more. ap whole_lines (joined more) ∙ w.whole (raw ++ 10 ∷ more) ∙ ap (λ ls. walked ++ ls) (whole_lines-feed raw more h) ∙ sym (append_assoc walked (line_of raw ∷ []) (whole_lines more));
      all = λ more. ap lines (joined more) ∙ w.all (raw ++ 10 ∷ more) ∙ ap (λ ls. walked ++ ls) (lines-feed raw more h) ∙ sym (append_assoc walked (line_of raw ∷ []) (lines more));
    }
  where
    joined : (more : List ℕ) → (read ++ (raw ++ 10 ∷ [])) ++ more ≡ read ++ (raw ++ 10 ∷ more)
    joined more = append_assoc read (raw ++ 10 ∷ []) more ∙ ap (λ bs. read ++ bs) (append_assoc raw (10 ∷ []) more)
