-- Security levels, categories and labels, by the live profiles that define them, whether their classes are active or
-- not.
use Rattle.std.specs.Prelude.{ℕ, Bool, false, ◌||◌, List, [], ◌∷◌, Option, None, Some, is_some, position, codes, bytes_eq, if◌then◌else◌}
use Rattle.std.specs.List.{list_any}
use Rattle.std.specs.Option.{option_map_or, option_or}
use Rattle.access_levels.specs.Category.{including, excluding}
use Rattle.generic_names.specs.declared.kind.NameKind.TheVariants.{General}
use Rattle.generic_names.specs.Spelled.{Spelled}
use Rattle.racf_profiles.specs.declared.profiles.Profile.{Profile}
use Rattle.racf_profiles.specs.declared.profiles.Member.{Member}
use Rattle.racf_profiles.specs.declared.profiles.Member.TheVariants.{Access, SecurityLevel, Category, Traits}
use Rattle.racf_profiles.specs.declared.rows.Rows.{Rows}
use Rattle.racf_profiles.specs.Lookup.{profile_of}

abbrev pub general_name : List ℕ → Spelled
general_name text = record { kind = General; text = text }

-- The members of a profile of class SECDATA; none where there is no such profile.
abbrev pub secdata_members : List ℕ → Rows → List Member
secdata_members name rows = option_map_or (λ (profile : Profile). profile.members) (profile_of (codes "SECDATA") (general_name name) rows) []

-- The number of the security level that a member defines, where it has that name.
abbrev pub security_level_of : List ℕ → Member → Option ℕ
security_level_of name (Access resources level) = None
security_level_of name (SecurityLevel other number) = if bytes_eq other name then Some number else None
security_level_of name (Category other) = None
security_level_of name (Traits traits) = None

abbrev pub first_security_level : List ℕ → List Member → Option ℕ
first_security_level name [] = None
first_security_level name (member ∷ members) = option_or (security_level_of name member) (first_security_level name members)

-- The number of a security level.
abbrev pub level_number : Rows → List ℕ → Option ℕ
level_number rows name = first_security_level name (secdata_members (codes "SECLEVEL") rows)

abbrev pub is_category_member : List ℕ → Member → Bool
is_category_member name (Access resources level) = false
is_category_member name (SecurityLevel other number) = false
is_category_member name (Category other) = bytes_eq other name
is_category_member name (Traits traits) = false

-- A category that can be given now.
abbrev pub is_category : Rows → List ℕ → Bool
is_category rows name = list_any (is_category_member name) (secdata_members (codes "CATEGORY") rows)

-- A category that was defined at some time, and its number: its place among all that ever were.
abbrev pub category_number : Rows → List ℕ → Option ℕ
category_number rows name = position (λ other. bytes_eq other name) rows.options.categories

-- A label: SYSHIGH, SYSLOW, or the name of a profile of class SECLABEL.
abbrev pub is_label : Rows → List ℕ → Bool
is_label rows name = bytes_eq name (codes "SYSHIGH") || bytes_eq name (codes "SYSLOW") || is_some (profile_of (codes "SECLABEL") (general_name name) rows)

-- A set of categories with, and without, the one of that name.
abbrev pub with_category : Rows → ℕ → List ℕ → ℕ
with_category rows set name = option_map_or (including set) (category_number rows name) set

abbrev pub without_category : Rows → ℕ → List ℕ → ℕ
without_category rows set name = option_map_or (excluding set) (category_number rows name) set
