-- Which ranks a pattern may go on with where it has been met by a name so far. Words of the crate's own functions.
use Rattle.std.specs.Prelude.{ℕ, ◌==◌, Bool, ◌&&◌, ◌||◌, List, [], ◌∷◌}

-- the first of the name's qualifiers that are left may have been begun
abbrev pub may_follow : Bool → List (List ℕ) → ℕ → Bool
may_follow begins [] c = (c == 259) || (c == 260)
may_follow begins ([] ∷ ns) c = (c == 257) || (c == 258) || (begins && (c == 260))
may_follow begins ((b ∷ n) ∷ ns) c = (c == b) || (c == 256) || (c == 258) || (begins && (c == 260))
