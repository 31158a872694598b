use Rattle.std.proofs.Common.{◌≡◌, drop, filter}
use Rattle.generic_names.specs.Best.{most_specific}
use Rattle.global_table.specs.Grants.{resolved_from, covers_name}
use Rattle.global_table.proofs.table.deciding.Given as goal

abbrev pub invariant-loop-place : goal.invariant-loop-place
invariant-loop-place l = l.best ≡ most_specific (λ member. member.name) (filter (covers_name l.name) (resolved_from l.user l.group l.place (drop l.place l.members)))
