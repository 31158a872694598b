-- The names that users may have, beside their IDs.
use Rattle.std.specs.Prelude.{ℕ, List, Bool, ◌&&◌, nat_le, length}
use Rattle.std.specs.List.{list_all}

-- a user's name has 1 to 20 bytes from X'20' to X'7E'
abbrev pub is_printable : ℕ → Bool
is_printable b = nat_le 32 b && nat_le b 126

abbrev pub is_name : List ℕ → Bool
is_name t = nat_le 1 (length t) && nat_le (length t) 20 && list_all is_printable t
