-- The global access table of a class.
use Rattle.std.specs.Prelude.{ℕ, List, [], codes}
use Rattle.std.specs.Option.{option_map_or}
use Rattle.generic_names.specs.declared.kind.NameKind.TheVariants.{General}
use Rattle.racf_profiles.specs.declared.profiles.Member.{Member}
use Rattle.racf_profiles.specs.declared.profiles.Profile.{Profile}
use Rattle.racf_profiles.specs.declared.rows.Rows.{Rows}
use Rattle.racf_profiles.specs.Lookup.{profile_of}

-- The members of the live profile of class GLOBAL that has the name of the class, so that a changed member counts at
-- once; none where there is no such profile.
abbrev pub global_members : (class : List ℕ) → Rows → List Member
global_members class rows = option_map_or (λ (profile : Profile). profile.members) (profile_of (codes "GLOBAL") (record { kind = General; text = class }) rows) []
