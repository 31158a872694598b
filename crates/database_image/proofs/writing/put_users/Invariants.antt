use Rattle.std.proofs.Common.{◌≡◌, ◌++◌, ℕ, [], take}
use Rattle.std.specs.List.{flat_map, AllByRecursion}
use Rattle.database_image.specs.Description.{user}
use Rattle.database_image.specs.Spelled.{IsSpelledUser}
use Rattle.database_image.proofs.writing.put_users.Given as goal

abbrev pub invariant-loop-user : goal.invariant-loop-user
invariant-loop-user l = record {
  bytes : (n : ℕ) → l.out.items ≡ l.fn.out.items ++ flat_map (user n []).bytes (take l.user-index l.users);
  spelled : AllByRecursion IsSpelledUser (take l.user-index l.users);
}
