-- What is read of LOGOPTIONS is lawful.
use Rattle.std.proofs.Common.{◌≡◌, ℕ, List, [], ◌∷◌, map, Bool, true, false, cond, ◌||◌, Option, None, Some, Ok, refl, subst, arith}
use Rattle.std.specs.Prelude.{◌==◌, nat_lt}
use Rattle.std.specs.List.{list_all}
use Rattle.std.proofs.lemmas.Bool.{and_from, and_parts}
use Rattle.std.proofs.lemmas.Bool.Decides.{nat_tests}
use Rattle.racf_profiles.specs.declared.class_rows.LogOption.{LogOption}
use Rattle.command_words.specs.declared.quoting.Quoting.TheVariants.{Ignored}
use Rattle.command_words.specs.Bytes.{upper}
use Rattle.command_words.specs.Tokens.{tokens}
use Rattle.command_words.specs.ValuedWords.{ValuedWord, Alone, Valued, Unclosed, Parenthesis, valued_words}
use Rattle.command_values.specs.declared.faults.Syntax.TheVariants as faults
use Rattle.command_values.specs.declared.value_kinds.ValueKind.TheVariants as kinds
use Rattle.command_fields.specs.declared.log_clauses.LogClause.{LogClause}
use Rattle.command_values.specs.Results.{◌>>=◌, or_fault}
use Rattle.command_values.specs.WordsOfValues.{clean}
use Rattle.command_values.specs.LogOptions.{log_option_rank, log_option_of, applies_before, applies_behind, is_given, unless_given, put_clause, is_in_order}
use Rattle.command_values.specs.Values.{some_names, log_option_at, clause_at, clauses_from, log_clauses}
use Rattle.command_values.specs.LawfulValues.{AreSome, IsClause, AreClauses}
use Rattle.command_fields.specs.LawfulMembers.{Each}
use Rattle.command_values.proofs.Names.{if-none}
use Rattle.command_values.proofs.Outcomes.{bind-ok, or_fault-ok}
use Rattle.command_values.proofs.NamesLawful.{some_names-fit}

-- ranks
lower-else : (m n : ℕ) → nat_lt m n ≡ false → (n == m) ≡ false → nat_lt n m ≡ true
lower-else m n h k = grind (arith, nat_tests)

lower-then : (k m n : ℕ) → nat_lt k m ≡ true → nat_lt m n ≡ true → nat_lt k n ≡ true
lower-then k m n g h = grind (arith, nat_tests)

or-none : (a b : Bool) → (a || b) ≡ false → (a ≡ false) × (b ≡ false)
or-none true b h = cc
or-none false b h = (refl, h)

-- a word put into an order keeps it
abbrev is_before_all : LogOption → List LogClause → Bool
is_before_all option clauses = list_all (applies_behind option) clauses

put-all : (f : LogClause → Bool) (clause : LogClause) (clauses : List LogClause) → f clause ≡ true → list_all f clauses ≡ true → list_all f (put_clause clause clauses) ≡ true
put-all f clause [] h all = rw h refl
put-all f clause (other ∷ others) h all =
    let parts = and_parts (f other) (list_all f others) all in
    put-one (applies_before clause.option other.option) (put-all f clause others h parts.1)
  where
    put-one : (c : Bool) → list_all f (put_clause clause others) ≡ true → list_all f (cond c (clause ∷ other ∷ others) (other ∷ put_clause clause others)) ≡ true
    put-one true more = and_from (f clause) (list_all f (other ∷ others)) h all
    put-one false more = and_from (f other) (list_all f (put_clause clause others)) (and_parts (f other) (list_all f others) all).0 more

before-all : (one other : LogOption) (clauses : List LogClause) → applies_before one other ≡ true → is_before_all other clauses ≡ true → is_before_all one clauses ≡ true
before-all one other [] h all = refl
before-all one other (clause ∷ clauses) h all =
    let parts = and_parts (applies_before other clause.option) (is_before_all other clauses) all in
    and_from (applies_before one clause.option) (is_before_all one clauses) (lower-then (log_option_rank one) (log_option_rank other) (log_option_rank clause.option) h parts.0) (before-all one other clauses h parts.1)

put-ordered : (clause : LogClause) (clauses : List LogClause) → is_given clause.option clauses ≡ false → is_in_order clauses ≡ true → is_in_order (put_clause clause clauses) ≡ true
put-ordered clause [] new ordered = refl
put-ordered clause (other ∷ others) new ordered =
    let others-new = or-none (log_option_rank other.option == log_option_rank clause.option) (is_given clause.option others) new in
    let parts = and_parts (is_before_all other.option others) (is_in_order others) ordered in
    put-one (applies_before clause.option other.option) refl others-new.0 parts.0 (put-ordered clause others others-new.1 parts.1)
  where
    put-one : (c : Bool) → applies_before clause.option other.option ≡ c → (log_option_rank other.option == log_option_rank clause.option) ≡ false → is_before_all other.option others ≡ true → is_in_order (put_clause clause others) ≡ true
        → is_in_order (cond c (clause ∷ other ∷ others) (other ∷ put_clause clause others)) ≡ true
    put-one true first different before more =
        and_from (is_before_all clause.option (other ∷ others)) (is_in_order (other ∷ others))
        (and_from (applies_before clause.option other.option) (is_before_all clause.option others) first (before-all clause.option other.option others first before)) ordered
    put-one false later different before more =
        let first : applies_before other.option clause.option ≡ true = lower-else (log_option_rank clause.option) (log_option_rank other.option) later different in
        and_from (is_before_all other.option (put_clause clause others)) (is_in_order (put_clause clause others))
        (put-all (applies_behind other.option) clause others first before) more

put-each : (P : LogClause → Type 0) (clause : LogClause) (clauses : List LogClause) → P clause → Each P clauses → Each P (put_clause clause clauses)
put-each P clause [] h each = (h, tt)
put-each P clause (other ∷ others) h each = put-one (applies_before clause.option other.option) (put-each P clause others h each.1)
  where
    put-one : (c : Bool) → Each P (put_clause clause others) → Each P (cond c (clause ∷ other ∷ others) (other ∷ put_clause clause others))
    put-one true more = (h, each)
    put-one false more = (each.0, more)

put-some : (clause : LogClause) (clauses : List LogClause) → AreSome (put_clause clause clauses)
put-some clause [] = tt
put-some clause (other ∷ others) = put-one (applies_before clause.option other.option)
  where
    put-one : (c : Bool) → AreSome (cond c (clause ∷ other ∷ others) (other ∷ put_clause clause others))
    put-one true = tt
    put-one false = tt

-- a word that was read wasn't given before, and has its classes
unless_given-some : (clauses : List LogClause) (o : Option LogOption) (option : LogOption) → unless_given clauses o ≡ Some option → is_given option clauses ≡ false
unless_given-some clauses None option h = cc
unless_given-some clauses (Some other) option h =
    let new = if-none (is_given other clauses) (Some other) option h in
    let same : other ≡ option = cc in
    subst (λ (x : LogOption). is_given x clauses ≡ false) same new.0

option-new : (clauses : List LogClause) (p : ℕ) (w : List ℕ) (option : LogOption) → log_option_at clauses p w ≡ Ok option → is_given option clauses ≡ false
option-new clauses p w option h =
    let word = bind-ok (clean Ignored p w) (λ w. or_fault (unless_given clauses (log_option_of (map upper w))) (faults.BadValue p)) option h in
    unless_given-some clauses (log_option_of (map upper word.0)) option (or_fault-ok (unless_given clauses (log_option_of (map upper word.0))) (faults.BadValue p) option word.2)

clause-fits : (clauses : List LogClause) (i : ValuedWord) (clause : LogClause) → clause_at clauses i ≡ Ok clause → IsClause clause × (is_given clause.option clauses ≡ false)
clause-fits clauses (Valued p w t) clause h =
    let option = bind-ok (log_option_at clauses p w) (λ option. some_names kinds.Ids p (valued_words (tokens t)) >>= λ xs. Ok (record { option = option; classes = xs })) clause h in
    let names = bind-ok (some_names kinds.Ids p (valued_words (tokens t))) (λ xs. Ok (record { option = option.0; classes = xs })) clause option.2 in
    let made : LogClause = record { option = option.0; classes = names.0 } in
    let same : made ≡ clause = cc in
    subst (λ (c : LogClause). IsClause c × (is_given c.option clauses ≡ false)) same (some_names-fit kinds.Ids p (valued_words (tokens t)) names.0 names.1, option-new clauses p w option.0 option.1)
clause-fits clauses (Alone p w) clause h = cc
clause-fits clauses (Unclosed p w place) clause h = cc
clause-fits clauses (Parenthesis p) clause h = cc

clauses-fit : (front : List LogClause) (is : List ValuedWord) (clauses : List LogClause) → clauses_from front is ≡ Ok clauses → AreClauses front → AreClauses clauses
clauses-fit front [] clauses h fit = let same : front ≡ clauses = cc in subst AreClauses same fit
clauses-fit front (i ∷ is) clauses h fit =
    let clause = bind-ok (clause_at front i) (λ clause. clauses_from (put_clause clause front) is) clauses h in
    let read = clause-fits front i clause.0 clause.1 in
    clauses-fit (put_clause clause.0 front) is clauses clause.2 (put-some clause.0 front, put-ordered clause.0 front read.1 fit.1, put-each IsClause clause.0 front read.0 fit.2)

pub log_clauses-fit : (p : ℕ) (is : List ValuedWord) (clauses : List LogClause) → log_clauses p is ≡ Ok clauses → AreClauses clauses
log_clauses-fit p [] clauses h = cc
log_clauses-fit p (i ∷ is) clauses h =
    let clause = bind-ok (clause_at [] i) (λ clause. clauses_from (put_clause clause []) is) clauses h in
    let read = clause-fits [] i clause.0 clause.1 in
    clauses-fit (clause.0 ∷ []) is clauses clause.2 (tt, refl, (read.0, tt))
