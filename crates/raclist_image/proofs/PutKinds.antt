-- The kind of the names among which a profile was put.
use Rattle.std.proofs.Common.{◌≡◌, Bool, true, false, cond, List, [], ◌∷◌}
use Rattle.generic_names.specs.declared.kind.NameKind.{NameKind}
use Rattle.generic_names.specs.Before.{before}
use Rattle.racf_profiles.specs.declared.profiles.Profile.{Profile}
use Rattle.racf_profiles.specs.Lookup.{is_profile}
use Rattle.racf_profiles.specs.Edits.{put_profile, AreNamed}

-- a profile that stands among profiles of a kind behind its being put has that kind
pub kind-put : (kind : NameKind) (profile : Profile) (profiles : List Profile) → AreNamed kind (put_profile profile profiles) → profile.name.kind ≡ kind
kind-put kind profile [] named = named.0.1
kind-put kind profile (other ∷ profiles) named = by (is_profile profile.name other) (before profile.name other.name) named (kind-put kind profile profiles)
  where
    by : (same first : Bool) → AreNamed kind (cond same (profile ∷ profiles) (cond first (profile ∷ other ∷ profiles) (other ∷ put_profile profile profiles))) → (AreNamed kind (put_profile profile profiles) → profile.name.kind ≡ kind)
        → profile.name.kind ≡ kind
    by true first h rest = h.0.1
    by false true h rest = h.0.1
    by false false h rest = rest h.1
