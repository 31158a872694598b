use Rattle.std.proofs.Common.{◌≡◌, take, drop}
use Rattle.profile_index.specs.Buckets.{with_entries}
use Rattle.profile_index.proofs.bucket_rows.Filling.push_all.Given as goal

abbrev pub invariant-loop-place : goal.invariant-loop-place
invariant-loop-place g l = with_entries l.self (drop l.place (take l.end l.from)) ≡ with_entries l.initial.self (drop l.start (take l.end l.from))
