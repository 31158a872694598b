use Rattle.std.proofs.Common.{◌≡◌, ◌<◌, ◌^◌, Some, None, false, cond, sym, ap, subst, arith, length, drop, length-drop}
use Rattle.std.specs.Prelude.{nat_le}
use Rattle.std.proofs.lemmas.Bool.Decides.{nat_tests}
use Rattle.request_files.specs.Spellings.{number_behind}
use Rattle.request_files.proofs.NumberLaws.{number_behind-past}
use Rattle.request_files.proofs.numbers.number_in.Goals as goal

pub returns-then-number : goal.returns-then-number
returns-then-number c =
    let rest = drop c.loop-digit.digit-index c.args.digits.now in
    let some : 0 < length rest = omega (arith, length-drop c.loop-digit.digit-index c.args.digits.now) in
    let large : 2 ^ 62 < number_behind c.loop-digit.number rest = number_behind-past rest c.loop-digit.number (omega arith) some in
    let past : 2 ^ 62 < number_behind 0 c.args.digits.now = subst (λ n. 2 ^ 62 < n) c.loop-digit.invariant.same large in
    let no : nat_le (number_behind 0 c.args.digits.now) (2 ^ 62) ≡ false = grind (arith, nat_tests, past) in
    sym (ap (λ v. cond v (Some (number_behind 0 c.args.digits.now)) None) no)
