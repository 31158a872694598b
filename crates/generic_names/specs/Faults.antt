-- Which texts are names, and what is wrong with the others.
use Rattle.std.specs.Prelude.{ℕ, ◌+◌, ◌==◌, nat_lt, nat_le, Bool, true, false, not, ◌&&◌, ◌||◌, if◌then◌else◌, List, [], ◌∷◌, length, Option, Some, None, Result, Ok, Err, codes}
use Rattle.std.specs.List.{list_any}
use Rattle.std.specs.Option.{option_or}
use Rattle.std.specs.Str.{bytes_eq}
use Rattle.generic_names.specs.declared.kind.NameKind.{NameKind}
use Rattle.generic_names.specs.declared.kind.NameKind.TheVariants.{DataSet, General}
use Rattle.generic_names.specs.declared.form.Form.{Form}
use Rattle.generic_names.specs.declared.form.Form.TheVariants.{Discrete, Generic, Symbolic}
use Rattle.generic_names.specs.declared.fault.NameFault.{NameFault}
use Rattle.generic_names.specs.declared.fault.NameFault.TheVariants.{Empty, TooLong, EmptyQualifier, QualifierTooLong, BadByte, StarInside, GenericFirst}
use Rattle.generic_names.specs.Spelled.{Spelled, percent, asterisk, qualifiers}

-- A to Z, or one of the national characters #, $ and @
abbrev pub is_letter : ℕ → Bool
is_letter b = (nat_le 65 b && nat_le b 90) || (b == 35) || (b == 36) || (b == 64)

-- 0 to 9
abbrev pub is_digit : ℕ → Bool
is_digit b = nat_le 48 b && nat_le b 57

-- whether a byte stands for itself in a qualifier. A data set's qualifier begins with a letter
abbrev pub is_ordinary : NameKind → Bool → ℕ → Bool
is_ordinary DataSet first b = is_letter b || (not first && (is_digit b || (b == 45)))
is_ordinary General first b = is_letter b || is_digit b || (b == 45) || (b == 95) || (b == 47) || (b == 58)

-- whether generic characters may stand in it
abbrev pub has_generic : Form → Bool
has_generic Discrete = false
has_generic Generic = true
has_generic Symbolic = true

-- the qualifiers that are lawful as a whole: `**`, and in a member's name the symbols too
abbrev pub is_whole : Form → List ℕ → Bool
is_whole Discrete q = false
is_whole Generic q = bytes_eq q (codes "**")
is_whole Symbolic q = bytes_eq q (codes "**") || bytes_eq q (codes "&RACUID") || bytes_eq q (codes "&RACGPID")

-- what is wrong with a byte at this place, which may be the first or the last of its qualifier
abbrev pub byte_fault : Form → NameKind → Bool → Bool → ℕ → ℕ → Option NameFault
byte_fault form kind first last place b =
    if has_generic form && (b == percent) then None
    else if has_generic form && (b == asterisk) then (if last then None else Some (StarInside place))
    else if is_ordinary kind first b then None
    else Some (BadByte place)

-- the first fault of what is left of a qualifier, whose next byte stands at this place
abbrev pub bytes_fault : Form → NameKind → Bool → ℕ → List ℕ → Option NameFault
bytes_fault form kind first place [] = None
bytes_fault form kind first place (b ∷ behind) =
    option_or (byte_fault form kind first (length behind == 0) place b)
    (bytes_fault form kind false (place + 1) behind)

-- a data set's qualifier has at most eight bytes, generic characters counted
abbrev pub is_too_long : NameKind → List ℕ → Bool
is_too_long DataSet q = nat_lt 8 (length q)
is_too_long General q = false

-- the first qualifier of a data set's profile has no generic character
abbrev pub is_generic_first : NameKind → ℕ → List ℕ → Bool
is_generic_first DataSet number q = (number == 1) && list_any (λ b. (b == percent) || (b == asterisk)) q
is_generic_first General number q = false

-- the first fault of a qualifier, which has this number and begins at this place
abbrev pub qualifier_fault : Form → NameKind → ℕ → ℕ → List ℕ → Option NameFault
qualifier_fault form kind number place q =
    if length q == 0 then Some (EmptyQualifier number)
    else if is_too_long kind q then Some (QualifierTooLong number)
    else option_or (if is_whole form q then None else bytes_fault form kind true place q)
    (if is_generic_first kind number q then Some GenericFirst else None)

-- the first fault of these qualifiers, the first of which has this number and begins at this place
abbrev pub qualifiers_fault : Form → NameKind → ℕ → ℕ → List (List ℕ) → Option NameFault
qualifiers_fault form kind number place [] = None
qualifiers_fault form kind number place (q ∷ qs) =
    option_or (qualifier_fault form kind number place q)
    (qualifiers_fault form kind (number + 1) (place + length q + 1) qs)

-- the most bytes that a name may have
abbrev pub longest : NameKind → ℕ
longest DataSet = 44
longest General = 246

-- the first fault of a text
abbrev pub fault_of : Form → NameKind → List ℕ → Option NameFault
fault_of form kind text =
    if length text == 0 then Some Empty
    else if nat_lt (longest kind) (length text) then Some TooLong
    else qualifiers_fault form kind 1 1 (qualifiers text)

-- the name, or the fault that keeps the text from being one
abbrev pub unless : Option NameFault → Spelled → Result Spelled NameFault
unless None name = Ok name
unless (Some fault) name = Err fault

-- the name that a text spells, unless something is wrong with it
abbrev pub name_of : Form → NameKind → List ℕ → Result Spelled NameFault
name_of form kind text = unless (fault_of form kind text) (record { kind = kind; text = text })

-- the names of resources: no generic character
abbrev pub resource_of : NameKind → List ℕ → Result Spelled NameFault
resource_of kind text = name_of Discrete kind text

-- the names of profiles
abbrev pub pattern_of : NameKind → List ℕ → Result Spelled NameFault
pattern_of kind text = name_of Generic kind text

-- the names of members of the global table: patterns with symbols for the user and its group
abbrev pub member_of : NameKind → List ℕ → Result Spelled NameFault
member_of kind text = name_of Symbolic kind text
