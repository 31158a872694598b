-- What a text keeps that is written on.
use Rattle.std.specs.Prelude.{◌≡◌, ℕ, List, length, take}

-- What stood there stands in front, also where memory ran out in the midst of what is written.
abbrev pub Keeps : (before behind : List ℕ) → Type 0
Keeps before behind = take (length before) behind ≡ before
