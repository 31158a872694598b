-- What a single word of a line says. Letters are folded to upper case.
use Rattle.std.specs.Prelude.{ℕ, ◌+◌, ◌-◌, ◌*◌, ◌^◌, ◌==◌, nat_le, Bool, false, not, ◌&&◌, if◌then◌else◌, List, [], ◌∷◌, length, take, map, Option, Some, None, Result, option_map, option_and_then, codes, bytes_eq}
use Rattle.std.specs.List.{list_all, before_first, after_first}
use Rattle.std.specs.Io.BufRead.{ends_with_byte}
use Rattle.access_levels.specs.Spelling.{port_class_of}
use Rattle.access_levels.specs.declared.levels.Level.{Level}
use Rattle.access_levels.specs.declared.entries.PortClass.{PortClass}
use Rattle.command_words.specs.Bytes.{upper}
use Rattle.command_values.specs.NamedWords.{id_named, group_named, level_named}
use Rattle.generic_names.specs.Spelled.{Spelled}
use Rattle.generic_names.specs.Faults.{is_digit, resource_of}
use Rattle.generic_names.specs.declared.kind.NameKind.{NameKind}
use Rattle.generic_names.specs.declared.fault.NameFault.{NameFault}
use Rattle.decision.specs.Asked.{may_be_asked}
use Rattle.request_files.specs.declared.operands.Operand.{Operand}
use Rattle.request_files.specs.declared.operands.Operand.TheVariants as operand

abbrev pub folded : List ℕ → List ℕ
folded text = map upper text

-- The name of a resource of this kind: any word fits, whatever is wrong with it as a name. In class DATASET it is read
-- as the name of a data set, with every other class word as a general one.
abbrev pub name_word : NameKind → List ℕ → Option (Result Spelled NameFault)
name_word kind text = Some (resource_of kind (folded text))

-- READ, UPDATE, CONTROL or ALTER
abbrev pub if_asked : Level → Option Level
if_asked level = if may_be_asked level then Some level else None

abbrev pub level_word : List ℕ → Option Level
level_word text = option_and_then if_asked (level_named text)

-- ---- numbers

-- decimal digits, with no 0 in front of another
abbrev pub is_decimal : List ℕ → Bool
is_decimal [] = false
is_decimal (digit ∷ []) = is_digit digit
is_decimal (first ∷ second ∷ digits) = not (first == 48) && list_all is_digit (first ∷ second ∷ digits)

-- the number that digits write behind those of another number
abbrev pub number_behind : ℕ → List ℕ → ℕ
number_behind number [] = number
number_behind number (digit ∷ digits) = number_behind (10 * number + (digit - 48)) digits

-- a number of at most 2^62
abbrev pub number_word : List ℕ → Option ℕ
number_word text =
    if is_decimal text && nat_le (number_behind 0 text) (2 ^ 62) then Some (number_behind 0 text) else None

-- ---- the operands of VERIFY: a key, and a value in parentheses

abbrev pub opens : ℕ → Bool
opens byte = byte == 40

-- what stands before the first parenthesis, and what stands between it and the one that ends the word
abbrev pub key_of : List ℕ → List ℕ
key_of text = folded (before_first opens text)

abbrev pub closed : List ℕ → Option (List ℕ)
closed rest = if ends_with_byte 41 rest then Some (take (length rest - 1) rest) else None

abbrev pub value_of : List ℕ → Option (List ℕ)
value_of text = closed (after_first opens text)

-- a port of entry, by its class
abbrev pub port_at : List ℕ → PortClass → Option Operand
port_at value class = option_map (λ name. operand.Port record { class = class; name = name }) (id_named value)

-- GROUP, APPL, SECLABEL and the ports
abbrev pub keyed : List ℕ → List ℕ → Option Operand
keyed key value =
    if bytes_eq key (codes "GROUP") then option_map operand.Group (group_named value)
    else if bytes_eq key (codes "APPL") then option_map operand.Application (id_named value)
    else if bytes_eq key (codes "SECLABEL") then option_map operand.Label (id_named value)
    else option_and_then (port_at value) (port_class_of key)

abbrev pub operand_word : List ℕ → Option Operand
operand_word text = option_and_then (keyed (key_of text)) (value_of text)
