-- What a decision reads of a profile.
use Rattle.std.specs.Prelude.{◌≡◌, Option, None, MatchOption, IsSomeAnd}
use Rattle.racf_profiles.specs.declared.profiles.Profile.{Profile}
use Rattle.raclist_image.specs.declared.facts.Facts.{Facts}

-- These are the facts of that profile: each is the profile's field of that name.
pub record AreFacts (profile : Profile) (facts : Facts) : Type 0 where
  pub name : facts.name.now ≡ profile.name
  pub owner : facts.owner ≡ profile.owner
  pub uacc : facts.uacc ≡ profile.uacc
  pub warning : facts.warning ≡ profile.warning
  pub standard : facts.standard.now ≡ profile.standard
  pub conditional : facts.conditional.now ≡ profile.conditional
  pub level : facts.level ≡ profile.level
  pub categories : facts.categories ≡ profile.categories
  pub label : facts.label ≡ profile.label
  pub audit : facts.audit ≡ profile.audit
  pub global_audit : facts.global_audit ≡ profile.global_audit

-- The answer for a profile that may be there: its facts where it is, and none where it isn't.
abbrev pub AreFactsOf : Option Profile → Option Facts → Type 0
AreFactsOf profile answer = MatchOption answer (profile ≡ None) (λ facts. IsSomeAnd profile (λ p. AreFacts p facts))
