-- Which texts are names, and what is wrong with the others. A text is the list of its bytes.
use Rattle.std.specs.Prelude.{ℕ, Bool, ◌==◌, ◌||◌, not, nat_lt, List, [], ◌∷◌, length, false, Option, Some, None, Result, Ok, Err, if◌then◌else◌, bytes_eq}
use Rattle.std.specs.Char.{is_ascii_uppercase, is_ascii_digit}
use Rattle.std.specs.List.{position_from, find}
use Rattle.access_levels.specs.Level.{level_name, levels, authority_name, authorities, port_class_name, port_classes}
use Rattle.access_levels.specs.declared.ids.IdFault.{IdFault}
use Rattle.access_levels.specs.declared.ids.IdFault.TheVariants.{Empty, TooLong, BadByte}
use Rattle.access_levels.specs.declared.levels.Level.{Level}
use Rattle.access_levels.specs.declared.authorities.GroupAuthority.{GroupAuthority}
use Rattle.access_levels.specs.declared.entries.PortClass.{PortClass}

-- A name is made of the letters A to Z, digits, and # (35), $ (36) and @ (64).
abbrev pub is_id_byte : ℕ → Bool
is_id_byte byte = is_ascii_uppercase byte || is_ascii_digit byte || byte == 35 || byte == 36 || byte == 64

-- The place, from 1, of the first byte that no name has.
abbrev pub bad_byte : List ℕ → Option ℕ
bad_byte text = position_from (λ byte. not (is_id_byte byte)) 1 text

-- A group's name doesn't begin with a digit either.
abbrev pub begins_with_digit : List ℕ → Bool
begins_with_digit [] = false
begins_with_digit (byte ∷ rest) = is_ascii_digit byte

abbrev pub bad_group_byte : List ℕ → Option ℕ
bad_group_byte text = if begins_with_digit text then Some 1 else bad_byte text

-- A name has one to eight bytes, and none that is bad.
abbrev pub unless_bad : Option ℕ → List ℕ → Result (List ℕ) IdFault
unless_bad None text = Ok text
unless_bad (Some place) text = Err (BadByte place)

abbrev pub name_of : Option ℕ → List ℕ → Result (List ℕ) IdFault
name_of bad text = if length text == 0 then Err Empty else (if nat_lt 8 (length text) then Err TooLong else unless_bad bad text)

-- The user ID, or any other identifier, that a text spells, or its first fault.
abbrev pub id_of : List ℕ → Result (List ℕ) IdFault
id_of text = name_of (bad_byte text) text

-- The group name that a text spells, or its first fault.
abbrev pub group_of : List ℕ → Result (List ℕ) IdFault
group_of text = name_of (bad_group_byte text) text

-- The access level, and the group authority, whose word a text is.
abbrev pub level_of : List ℕ → Option Level
level_of text = find (λ level. bytes_eq (level_name level) text) levels

abbrev pub authority_of : List ℕ → Option GroupAuthority
authority_of text = find (λ authority. bytes_eq (authority_name authority) text) authorities

-- The class of ports of entry whose name a text is.
abbrev pub port_class_of : List ℕ → Option PortClass
port_class_of text = find (λ class. bytes_eq (port_class_name class) text) port_classes
