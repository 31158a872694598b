-- The lines of an output are those that the turns print.
use Rattle.std.proofs.Common.{◌≡◌, ℕ, Bool, true, false, cond, not, ◌&&◌, List, [], ◌∷◌, ◌++◌, refl, sym, ap, subst, ◌∙◌, true≢false, inl, inr, codes, append_assoc, append-nil}
use Rattle.std.specs.Prelude.{◌==◌, map, decimal}
use Rattle.std.specs.List.{AllByRecursion, concat, flat_map, onto_first}
use Rattle.std.proofs.lemmas.Bool.{ne_eqb}
use Rattle.std.proofs.lemmas.List.Sums.{list_all-from_AllPass}
use Rattle.racf_outside.specs.Lines.{NoFeed}
use Rattle.audit_records.specs.Feedless.{IsFeedless, is_feedless}
use Rattle.audit_records.proofs.Feedless.{joined, decimal-feedless}
use Rattle.request_files.specs.Answers.{numbered}
use Rattle.racf_stream.specs.Stream.{number_of}
use Rattle.racf_stream.specs.Printed.{Turn, printed, behind, audit_text, PrintsItsLines, printed_lines, split_lines}

-- a row, computed: a line may hold its line feed alone
split_row : split_lines (codes "1 ACCEPTED\n\n1 0 VERIFIED\n") ≡ codes "1 ACCEPTED\n" ∷ codes "\n" ∷ codes "1 0 VERIFIED\n" ∷ []
split_row = refl

feedless : (words : List ℕ) → NoFeed words → IsFeedless words
feedless words h = list_all-from_AllPass (λ byte. not (byte == 10)) words (λ k d below. ap not (ne_eqb _ 10 (h k d below)))

-- a line is the first one, whatever comes next
first_line : (words rest : List ℕ) → IsFeedless words → split_lines ((words ++ codes "\n") ++ rest) ≡ (words ++ codes "\n") ∷ split_lines rest
first_line [] rest h = refl
first_line (byte ∷ words) rest h = by (byte == 10) h (first_line words rest)
  where
    by : (c : Bool) → (not c && is_feedless words) ≡ true → (IsFeedless words → split_lines ((words ++ codes "\n") ++ rest) ≡ (words ++ codes "\n") ∷ split_lines rest)
        → cond c ((byte ∷ []) ∷ split_lines ((words ++ codes "\n") ++ rest)) (onto_first byte (split_lines ((words ++ codes "\n") ++ rest))) ≡ (byte ∷ (words ++ codes "\n")) ∷ split_lines rest
    by true k more = absurd (true≢false (sym k))
    by false k more = ap (onto_first byte) (more k)

-- a text whose last line has ended: whatever comes behind it begins a line of its own
abbrev Splits : List ℕ → Type 0
Splits text = (rest : List ℕ) → split_lines (text ++ rest) ≡ split_lines text ++ split_lines rest

nothing-splits : Splits []
nothing-splits rest = refl

line-splits : (words : List ℕ) → IsFeedless words → Splits (words ++ codes "\n")
line-splits words h rest =
    let alone : split_lines (words ++ codes "\n") ≡ (words ++ codes "\n") ∷ [] =
    ap split_lines (sym (append-nil (words ++ codes "\n"))) ∙ first_line words [] h in
    first_line words rest h ∙ ap (λ (lines : List (List ℕ)). lines ++ split_lines rest) (sym alone)

both-split : (text more : List ℕ) → Splits text → Splits more → Splits (text ++ more)
both-split text more h k rest =
    ap split_lines (append_assoc text more rest)
    ∙ h (more ++ rest)
    ∙ ap (λ (lines : List (List ℕ)). split_lines text ++ lines) (k rest)
    ∙ sym (append_assoc (split_lines text) (split_lines more) (split_lines rest))
    ∙ ap (λ (lines : List (List ℕ)). lines ++ split_lines rest) (sym (h more))

numbered-splits : (number : ℕ) (words : List ℕ) → NoFeed words → Splits (numbered number words)
numbered-splits number words h =
    line-splits ((decimal number ++ codes " ") ++ words)
    (joined (decimal number ++ codes " ") words (joined (decimal number) (codes " ") (decimal-feedless number) refl) (feedless words h))

printed-splits : (turn : Turn) → PrintsItsLines turn → Splits (printed turn)
printed-splits turn (inl none) = subst Splits (sym none) nothing-splits
printed-splits turn (inr (inl line)) = subst Splits (sym line.is_line) (numbered-splits (number_of (behind turn)) line.words line.no_feed)
printed-splits turn (inr (inr (inl lines))) =
    subst Splits (sym lines.are_lines)
    (both-split (numbered (number_of (behind turn)) lines.words) (audit_text lines.audit) (numbered-splits (number_of (behind turn)) lines.words lines.no_feed)
    (line-splits (codes "AUDIT " ++ lines.audit) (feedless lines.audit lines.no_audit_feed)))
printed-splits turn (inr (inr (inr never))) =
    subst Splits (sym never) (line-splits (codes "NEVER " ++ decimal (number_of (behind turn))) (decimal-feedless (number_of (behind turn))))

pub lines_of_turns : (list : List Turn) → AllByRecursion PrintsItsLines list → split_lines (concat (map printed list)) ≡ flat_map printed_lines list
lines_of_turns [] h = refl
lines_of_turns (turn ∷ list) h =
    printed-splits turn h.0 (concat (map printed list)) ∙ ap (λ (lines : List (List ℕ)). split_lines (printed turn) ++ lines) (lines_of_turns list h.1)
