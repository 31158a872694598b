-- What an ID's spelling is of.
use Rattle.std.proofs.Common.{◌≡◌, ℕ, ◌≤◌, Bool, true, false, cond, List, Option, None, Some, Result, Ok, Err, length, refl, arith}
use Rattle.std.proofs.lemmas.Bool.Decides.{nat_tests}
use Rattle.std.specs.Prelude.{◌==◌, nat_lt}
use Rattle.access_levels.specs.Spelling.{id_of, unless_bad, bad_byte}
use Rattle.access_levels.specs.declared.ids.IdFault.{IdFault}
use Rattle.access_levels.specs.declared.ids.IdFault.TheVariants.{Empty, TooLong}

pub id_of-itself : (text id : List ℕ) → id_of text ≡ Ok id → text ≡ id
id_of-itself text id h = by (length text == 0) (nat_lt 8 (length text)) (bad_byte text) h
  where
    by : (b d : Bool) (o : Option ℕ) → let read : Result (List ℕ) IdFault = cond b (Err Empty) (cond d (Err TooLong) (unless_bad o text)) in read ≡ Ok id → text ≡ id
    by true d o e = cc
    by false true o e = cc
    by false false None e = cc
    by false false (Some place) e = cc

pub id_of-short : (text id : List ℕ) → id_of text ≡ Ok id → length text ≤ 8
id_of-short text id h = by (length text == 0) (nat_lt 8 (length text)) (bad_byte text) refl h
  where
    by : (b d : Bool) (o : Option ℕ) → nat_lt 8 (length text) ≡ d → let read : Result (List ℕ) IdFault = cond b (Err Empty) (cond d (Err TooLong) (unless_bad o text)) in read ≡ Ok id → length text ≤ 8
    by true d o is e = cc
    by false true o is e = cc
    by false false o is e = grind (arith, nat_tests)
