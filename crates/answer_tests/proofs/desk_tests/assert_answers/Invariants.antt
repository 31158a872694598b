use Rattle.std.proofs.Common.{◌≡◌, false}
use Rattle.answer_tests.proofs.desk_tests.assert_answers.Given as goal

abbrev pub invariant-loop-row : goal.invariant-loop-row
invariant-loop-row g l = l.desk.committed ≡ false
