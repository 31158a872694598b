-- What single bytes mean in the text of a command.
use Rattle.std.specs.Prelude.{ℕ, ◌-◌, Bool, ◌||◌, ◌&&◌, not, ◌==◌, nat_lt, nat_le, if◌then◌else◌}

-- a blank or a tab
abbrev pub is_blank_byte : ℕ → Bool
is_blank_byte b = b == 32 || b == 9

-- what parts words: a blank, a tab or a comma
abbrev pub is_gap_byte : ℕ → Bool
is_gap_byte b = is_blank_byte b || b == 44

-- what words are made of: any byte but those that part words, and parentheses
abbrev pub is_word_byte : ℕ → Bool
is_word_byte b = not (is_gap_byte b || b == 40 || b == 41)

-- a byte that no text may have: outside X'20' to X'7E', and no tab
abbrev pub is_faulty_byte : ℕ → Bool
is_faulty_byte b = (nat_lt b 32 || nat_lt 126 b) && not (b == 9)

-- a letter in upper case, and any other byte as it is
abbrev pub upper : ℕ → ℕ
upper b = if nat_le 97 b && nat_le b 122 then b - 32 else b
