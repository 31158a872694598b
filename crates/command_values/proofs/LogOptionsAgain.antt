-- What LOGOPTIONS holds is read again from how it is written.
use Rattle.std.proofs.Common.{◌≡◌, ℕ, suc, ◌+◌, List, [], ◌∷◌, ◌++◌, length, map, Bool, true, false, None, Some, Ok, refl, sym, ap, ◌∙◌, arith, append_assoc, length-append}
use Rattle.std.specs.Prelude.{◌==◌, nat_lt}
use Rattle.std.specs.List.{list_all}
use Rattle.std.proofs.lemmas.List.{append-nil}
use Rattle.std.proofs.lemmas.List.Folds.{list_all-append}
use Rattle.std.proofs.lemmas.Bool.{and_from, and_parts}
use Rattle.std.proofs.lemmas.Bool.Decides.{nat_tests}
use Rattle.racf_profiles.specs.declared.class_rows.LogOption.{LogOption}
use Rattle.racf_profiles.specs.declared.class_rows.LogOption.TheVariants as log
use Rattle.command_words.specs.declared.quoting.Quoting.TheVariants.{Ignored, Outside}
use Rattle.command_words.specs.Bytes.{upper}
use Rattle.command_words.specs.Tokens.{within, group_end, tokens, tokens_from}
use Rattle.command_words.specs.ValuedWords.{ValuedWord, Valued, valued_words, faulty_at}
use Rattle.command_words.proofs.Letters.{is_letter}
use Rattle.command_words.proofs.Spelled.{group_end-nested, calm-letters}
use Rattle.command_values.specs.declared.value_kinds.ValueKind.TheVariants as kinds
use Rattle.command_fields.specs.declared.log_clauses.LogClause.{LogClause}
use Rattle.command_values.specs.Results.{◌>>=◌}
use Rattle.command_values.specs.LogOptions.{log_option_name, log_option_rank, log_option_of, applies_before, applies_behind, is_given, put_clause, is_in_order}
use Rattle.command_values.specs.Values.{some_names, clause_at, clauses_from, log_clauses, clause_text, more_text, ids_text}
use Rattle.command_values.specs.LawfulValues.{IsClause, AreClauses}
use Rattle.command_fields.specs.LawfulMembers.{Each}
use Rattle.command_values.proofs.Patterns.{IsSome}
use Rattle.command_values.proofs.WordItems.{valued_items}
use Rattle.command_values.proofs.NamesAgain.{some_names_again, ids_calm}
use Rattle.command_values.proofs.ListEnds.{IsPassed, list_end, each-so}

-- the words
record IsOptionWord (option : LogOption) : Type 0 where
  some : IsSome (log_option_name option)
  letters : list_all is_letter (log_option_name option) ≡ true
  sound : (p : ℕ) → faulty_at Ignored p (log_option_name option) ≡ None
  back : log_option_of (map upper (log_option_name option)) ≡ Some option

option-word : (option : LogOption) → IsOptionWord option
option-word log.Always = record { some = tt; letters = refl; sound = λ p. refl; back = refl }
option-word log.Never = record { some = tt; letters = refl; sound = λ p. refl; back = refl }
option-word log.Successes = record { some = tt; letters = refl; sound = λ p. refl; back = refl }
option-word log.Failures = record { some = tt; letters = refl; sound = λ p. refl; back = refl }
option-word log.ByProfile = record { some = tt; letters = refl; sound = λ p. refl; back = refl }

-- a word with its classes, as an item at place p
abbrev clause_item : ℕ → LogClause → ValuedWord
clause_item p clause = Valued p (log_option_name clause.option) (within (p + length (log_option_name clause.option)) (ids_text clause.classes))

clause_items : (tied : Bool) (p : ℕ) (clause : LogClause) (rest : List ℕ) → IsClause clause
    → valued_words (tokens_from Outside tied 0 p (clause_text clause ++ rest)) ≡ clause_item p clause ∷ valued_words (tokens_from Outside false 0 (p + length (clause_text clause)) rest)
clause_items tied p clause rest h =
    let name : List ℕ = log_option_name clause.option in
    let word = option-word clause.option in
    let count : p + length name + length (ids_text clause.classes) + 2 ≡ p + length (clause_text clause) = omega (arith, length-append name (40 ∷ (ids_text clause.classes ++ 41 ∷ [])), length-append (ids_text clause.classes) (41 ∷ [])) in
    ap (λ bs. valued_words (tokens_from Outside tied 0 p bs)) (append_assoc name (40 ∷ (ids_text clause.classes ++ 41 ∷ [])) rest ∙ ap (λ bs. name ++ (40 ∷ bs)) (append_assoc (ids_text clause.classes) (41 ∷ []) rest))
    ∙ valued_items tied p name (ids_text clause.classes) rest word.some word.letters (ids_calm kinds.Ids clause.classes h.1)
    ∙ ap (λ n. clause_item p clause ∷ valued_words (tokens_from Outside false 0 n rest)) count

-- behind words that apply before it, it wasn't given, and it is put last
lower-other : (m n : ℕ) → nat_lt m n ≡ true → (m == n) ≡ false
lower-other m n h = grind (arith, nat_tests)

lower-not : (m n : ℕ) → nat_lt m n ≡ true → nat_lt n m ≡ false
lower-not m n h = grind (arith, nat_tests)

abbrev are_before : List LogClause → LogOption → Bool
are_before clauses option = list_all (λ (other : LogClause). applies_before other.option option) clauses

before-new : (clauses : List LogClause) (option : LogOption) → are_before clauses option ≡ true → is_given option clauses ≡ false
before-new [] option h = refl
before-new (clause ∷ clauses) option h =
    let parts = and_parts (applies_before clause.option option) (are_before clauses option) h in
    rw (lower-other (log_option_rank clause.option) (log_option_rank option) parts.0) (before-new clauses option parts.1)

put-last : (clauses : List LogClause) (clause : LogClause) → are_before clauses clause.option ≡ true → put_clause clause clauses ≡ clauses ++ clause ∷ []
put-last [] clause h = refl
put-last (other ∷ others) clause h =
    let parts = and_parts (applies_before other.option clause.option) (are_before others clause.option) h in
    rw (lower-not (log_option_rank other.option) (log_option_rank clause.option) parts.0) (ap (λ cs. other ∷ cs) (put-last others clause parts.1))

clause_again : (front : List LogClause) (p n : ℕ) (clause : LogClause) → IsClause clause → is_given clause.option front ≡ false → clause_at front (Valued p (log_option_name clause.option) (within n (ids_text clause.classes))) ≡ Ok clause
clause_again front p n clause h new =
    let word = option-word clause.option in
    let sound : faulty_at Ignored p (log_option_name clause.option) ≡ None = word.sound p in
    let back : log_option_of (map upper (log_option_name clause.option)) ≡ Some clause.option = word.back in
    let names : some_names kinds.Ids p (valued_words (tokens (within n (ids_text clause.classes)))) ≡ Ok clause.classes = some_names_again kinds.Ids p n clause.classes h.0 h.1 in
    rw (sound, back, new) (ap (λ r. r >>= λ xs. Ok (record { option = clause.option; classes = xs })) names)

step_again : (front : List LogClause) (p : ℕ) (clause : LogClause) (is : List ValuedWord) → IsClause clause → are_before front clause.option ≡ true → clauses_from front (clause_item p clause ∷ is) ≡ clauses_from (front ++ clause ∷ []) is
step_again front p clause is h before =
    ap (λ r. r >>= λ c. clauses_from (put_clause c front) is) (clause_again front p (p + length (log_option_name clause.option)) clause h (before-new front clause.option before))
    ∙ ap (λ cs. clauses_from cs is) (put-last front clause before)

-- all words that were read are before all that come
abbrev are_all_before : List LogClause → List LogClause → Bool
are_all_before front clauses = list_all (λ (clause : LogClause). are_before front clause.option) clauses

before-more : (front : List LogClause) (clause : LogClause) (clauses : List LogClause) → are_all_before front clauses ≡ true → list_all (applies_behind clause.option) clauses ≡ true → are_all_before (front ++ clause ∷ []) clauses ≡ true
before-more front clause [] h k = refl
before-more front clause (other ∷ others) h k =
    let hs = and_parts (are_before front other.option) (are_all_before front others) h in
    let ks = and_parts (applies_before clause.option other.option) (list_all (applies_behind clause.option) others) k in
    let one : are_before (front ++ clause ∷ []) other.option ≡ true = list_all-append (λ (o : LogClause). applies_before o.option other.option) front (clause ∷ []) ∙ rw (hs.0, ks.0) refl in
    and_from (are_before (front ++ clause ∷ []) other.option) (are_all_before (front ++ clause ∷ []) others) one (before-more front clause others hs.1 ks.1)

clauses_again : (front : List LogClause) (tied : Bool) (p : ℕ) (clauses : List LogClause) → Each IsClause clauses → is_in_order clauses ≡ true → are_all_before front clauses ≡ true
    → clauses_from front (valued_words (tokens_from Outside tied 0 p (more_text (map clause_text clauses)))) ≡ Ok (front ++ clauses)
clauses_again front tied p [] h ordered before = ap Ok (sym (append-nil front))
clauses_again front tied p (clause ∷ clauses) h ordered before =
    let order = and_parts (list_all (applies_behind clause.option) clauses) (is_in_order clauses) ordered in
    let befores = and_parts (are_before front clause.option) (are_all_before front clauses) before in
    let rest : List ℕ = more_text (map clause_text clauses) in
    ap (clauses_from front) (clause_items false (suc p) clause rest h.0)
    ∙ step_again front (suc p) clause (valued_words (tokens_from Outside false 0 (suc p + length (clause_text clause)) rest)) h.0 befores.0
    ∙ clauses_again (front ++ clause ∷ []) false (suc p + length (clause_text clause)) clauses h.1 order.1 (before-more front clause clauses befores.1 order.0)
    ∙ ap Ok (append_assoc front (clause ∷ []) clauses)

none-before : (clauses : List LogClause) → are_all_before [] clauses ≡ true
none-before [] = refl
none-before (clause ∷ clauses) = none-before clauses

pub log_clauses_again : (p q : ℕ) (clauses : List LogClause) → AreClauses clauses → log_clauses p (valued_words (tokens (within q (ids_text (map clause_text clauses))))) ≡ Ok clauses
unfolding tokens
log_clauses_again p q [] h = absurd h.0
log_clauses_again p q (clause ∷ clauses) h =
    let order = and_parts (list_all (applies_behind clause.option) clauses) (is_in_order clauses) h.1 in
    let rest : List ℕ = more_text (map clause_text clauses) in
    ap (log_clauses p) (clause_items false (suc q) clause rest h.2.0)
    ∙ step_again [] (suc q) clause (valued_words (tokens_from Outside false 0 (suc q + length (clause_text clause)) rest)) h.2.0 refl
    ∙ clauses_again (clause ∷ []) false (suc q + length (clause_text clause)) clauses h.2.1 order.1 (before-more [] clause clauses (none-before clauses) order.0)

-- where the parenthesis closes
clause_passed : (clause : LogClause) → IsClause clause → IsPassed clause_text clause
clause_passed clause h = λ outer p rest behind.
    let name : List ℕ = log_option_name clause.option in
    let count : p + length name + length (ids_text clause.classes) + 2 ≡ p + length (clause_text clause) = omega (arith, length-append name (40 ∷ (ids_text clause.classes ++ 41 ∷ [])), length-append (ids_text clause.classes) (41 ∷ [])) in
    ap (λ bs. group_end outer Outside 0 p bs) (append_assoc name (40 ∷ (ids_text clause.classes ++ 41 ∷ [])) rest ∙ ap (λ bs. name ++ (40 ∷ bs)) (append_assoc (ids_text clause.classes) (41 ∷ []) rest))
    ∙ group_end-nested outer p name (ids_text clause.classes) rest (calm-letters name (option-word clause.option).letters) (ids_calm kinds.Ids clause.classes h.1)
    ∙ ap (λ n. group_end outer Outside 0 n rest) count

pub log_clauses_end : (outer p : ℕ) (clauses : List LogClause) (rest : List ℕ) → AreClauses clauses → group_end outer Outside 0 p (ids_text (map clause_text clauses) ++ 41 ∷ rest) ≡ Ok (p + length (ids_text (map clause_text clauses)))
log_clauses_end outer p clauses rest h = list_end clause_text outer p clauses rest h.0 (each-so IsClause (IsPassed clause_text) clause_passed clauses h.2)
