-- How many commands a crash may leave, statement by statement.
use Rattle.std.proofs.Common.{◌≡◌, ℕ, ◌+◌, ◌≤◌, Bool, true, false, cond, List, None, Ok, Err, refl, sym, subst, arith}
use Rattle.std.specs.Prelude.{Option, Result}
use Rattle.std.proofs.Math.Nat.{le_trans}
use Rattle.journal_records.specs.declared.record.CommandRecord.{CommandRecord}
use Rattle.desk_rules.specs.declared.refusal.Refusal.{Refusal as OfCommand}
use Rattle.statements.specs.declared.reply.Refusal.TheVariants as refusal
use Rattle.statements.specs.declared.statement.Statement.{Statement}
use Rattle.statements.specs.declared.statement.Statement.TheVariants as item
use Rattle.racf_stream.specs.Durable.{most_left, most_left_of}
use Rattle.racf_stream.specs.Stream.{State, number_of, refuse, accept, fail, halt, fails_behind, answer_outcome, outcome_of, command, name_issuer, request, answer}
use Rattle.racf_stream.proofs.Faults.{answer_keeps, answer_rests}

-- As many may be left as were accepted.
pub left_at_least : (halted : Bool) (number : ℕ) → number ≤ most_left halted number
left_at_least true number = omega arith
left_at_least false number = omega arith

-- Behind a statement, whether a disk failed it or not, as many may be left as it would lead to where none does,
outcome_left : (fault : Option ℕ) (o : Result CommandRecord OfCommand) (s : State) → number_of (answer_outcome None o s).state ≤ most_left_of (answer_outcome fault o s).state
outcome_left fault (Err why) s = left_at_least s.halted (number_of s)
outcome_left fault (Ok given) s = by (fails_behind fault (number_of s))
  where
    by : (b : Bool) → number_of s + 1 ≤ most_left_of (cond b (fail s) (accept given s)).state
    by true = omega arith
    by false = left_at_least s.halted (number_of s + 1)

command_left : (fault : Option ℕ) (line : List ℕ) (s : State) → s.halted ≡ false → number_of (command None line s).state ≤ most_left_of (command fault line s).state
unfolding command
command_left fault line s runs = by s.halted runs
  where
    by : (b : Bool) → b ≡ false → number_of (cond b (halt s) (answer_outcome None (outcome_of line s) s)).state ≤ most_left_of (cond b (halt s) (answer_outcome fault (outcome_of line s) s)).state
    by true never = cc
    by false is = outcome_left fault (outcome_of line s) s

pub answer_left : (fault : Option ℕ) (i : Statement) (s : State) → s.halted ≡ false → number_of (answer None i s).state ≤ most_left_of (answer fault i s).state
answer_left fault (item.Command line) s runs = command_left fault line s runs
answer_left fault (item.Issuer line) s runs = left_at_least (name_issuer line s).state.halted (number_of (name_issuer line s).state)
answer_left fault (item.Request line) s runs = left_at_least (request line s).state.halted (number_of (request line s).state)
answer_left fault item.LineTooLong s runs = left_at_least s.halted (number_of s)

-- and never fewer than before it.
pub left_grows : (fault : Option ℕ) (i : Statement) (s : State) → most_left_of s ≤ most_left_of (answer fault i s).state
left_grows fault i s = by s.halted refl
  where
    by : (b : Bool) → s.halted ≡ b → most_left_of s ≤ most_left_of (answer fault i s).state
    by false is =
        subst (λ b. most_left b (number_of s) ≤ most_left_of (answer fault i s).state) (sym is)
        (le_trans (answer_keeps i s).grows (answer_left fault i s is))
    by true is =
        let rests = answer_rests fault i s is in
        let left = left_of_same (most_left_of s) in
        subst (λ h. most_left_of s ≤ most_left h (number_of (answer fault i s).state)) (sym rests.halted)
        (subst (λ n. most_left_of s ≤ most_left s.halted n) (sym rests.number) left)
      where
        left_of_same : (n : ℕ) → n ≤ n
        left_of_same n = omega arith
