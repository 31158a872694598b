use Rattle.std.proofs.Common.{◌≡◌, vec_len}
use Rattle.thread_tests.proofs.tests.runs.files.Given as goal

-- a file for each text so far
abbrev pub invariant-loop-text : goal.invariant-loop-text
invariant-loop-text l = vec_len l.files ≡ l.text-index
