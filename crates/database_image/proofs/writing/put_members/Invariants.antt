use Rattle.std.proofs.Common.{◌≡◌, ◌++◌, ℕ, List, [], take}
use Rattle.std.specs.List.{flat_map, AllByRecursion}
use Rattle.database_image.specs.Description.{member}
use Rattle.database_image.specs.Spelled.{IsSpelledMember}
use Rattle.database_image.proofs.writing.put_members.Given as goal

abbrev pub invariant-loop-row : goal.invariant-loop-row
invariant-loop-row l = record {
  bytes : (names : List (List ℕ)) (class profile : List ℕ) → l.out.items ≡ l.fn.out.items ++ flat_map (member names class profile []).bytes (take l.row-index l.members);
  spelled : AllByRecursion IsSpelledMember (take l.row-index l.members);
}
