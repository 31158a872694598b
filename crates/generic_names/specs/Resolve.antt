-- What a member of the global table stands for, for one user and its current group.
use Rattle.std.specs.Prelude.{ℕ, if◌then◌else◌, List, map, Option, codes}
use Rattle.std.specs.List.{join_with_byte}
use Rattle.std.specs.Result.{result_ok}
use Rattle.std.specs.Str.{bytes_eq}
use Rattle.generic_names.specs.Spelled.{Spelled, period, qualifiers}
use Rattle.generic_names.specs.Faults.{pattern_of}

-- what a qualifier stands for: `&RACUID` for the user, `&RACGPID` for the group, any other for itself
abbrev pub stands_for : List ℕ → List ℕ → List ℕ → List ℕ
stands_for user group q =
    if bytes_eq q (codes "&RACUID") then user
    else if bytes_eq q (codes "&RACGPID") then group
    else q

-- the text with the symbols replaced
abbrev pub replaced : List ℕ → List ℕ → List ℕ → List ℕ
replaced user group text = join_with_byte period (map (stands_for user group) (qualifiers text))

-- the pattern that this text spells, if it spells one
abbrev pub resolve : Spelled → List ℕ → List ℕ → Option Spelled
resolve member user group = result_ok (pattern_of member.kind (replaced user group member.text))
