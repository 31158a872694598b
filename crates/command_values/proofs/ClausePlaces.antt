-- A word of LOGOPTIONS is put at the place of the first that applies behind it.
use Rattle.std.proofs.Common.{◌≡◌, suc, ◌+◌, List, [], ◌∷◌, length, Bool, true, false, cond, not, refl, ap, ◌∙◌, arith}
use Rattle.std.specs.Prelude.{position, unwrap_or}
use Rattle.std.specs.List.{insert, position_or_len}
use Rattle.std.proofs.lemmas.Bool.Decides.{nat_tests}
use Rattle.std.proofs.lemmas.List.Sums.{prefix_len-le-length}
use Rattle.command_fields.specs.declared.log_clauses.LogClause.{LogClause}
use Rattle.command_values.specs.LogOptions.{applies_before, applies_behind, put_clause}

place-or-end : {X : Type 0} (f : X → Bool) (xs : List X) → unwrap_or (position f xs) (length xs) ≡ position_or_len f xs
place-or-end f xs = grind (arith, nat_tests, prefix_len-le-length (λ x. not (f x)) xs)

put-there : (clause : LogClause) (clauses : List LogClause) → insert clauses (position_or_len (applies_behind clause.option) clauses) clause ≡ put_clause clause clauses
put-there clause [] = refl
put-there clause (other ∷ others) = put-one (applies_before clause.option other.option) (put-there clause others)
  where
    put-one : (c : Bool) → insert others (position_or_len (applies_behind clause.option) others) clause ≡ put_clause clause others
        → insert (other ∷ others) (cond (not c) (1 + position_or_len (applies_behind clause.option) others) 0) clause ≡ cond c (clause ∷ other ∷ others) (other ∷ put_clause clause others)
    put-one true h = refl
    put-one false h =
        let next : 1 + position_or_len (applies_behind clause.option) others ≡ suc (position_or_len (applies_behind clause.option) others) = omega arith in
        ap (λ n. insert (other ∷ others) n clause) next ∙ ap (λ cs. other ∷ cs) h

pub put-place : (clause : LogClause) (clauses : List LogClause) → insert clauses (unwrap_or (position (applies_behind clause.option) clauses) (length clauses)) clause ≡ put_clause clause clauses
put-place clause clauses = ap (λ n. insert clauses n clause) (place-or-end (applies_behind clause.option) clauses) ∙ put-there clause clauses
