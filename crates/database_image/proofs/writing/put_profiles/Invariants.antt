use Rattle.std.proofs.Common.{◌≡◌, ◌++◌, ℕ, List, [], take}
use Rattle.std.specs.List.{flat_map, AllByRecursion}
use Rattle.database_image.specs.Description.{profile}
use Rattle.database_image.specs.Spelled.{IsSpelledProfile}
use Rattle.database_image.proofs.writing.put_profiles.Given as goal

abbrev pub invariant-loop-row : goal.invariant-loop-row
invariant-loop-row l = record {
  bytes : (names : List (List ℕ)) (class : List ℕ) (entries : ℕ) → l.out.items ≡ l.fn.out.items ++ flat_map (profile names class entries []).bytes (take l.row-index l.profiles);
  spelled : AllByRecursion IsSpelledProfile (take l.row-index l.profiles);
}
