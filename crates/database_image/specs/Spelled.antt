-- What their types keep of rows: how identifiers and names are spelled, and how large numbers are.
use Rattle.std.specs.Prelude.{◌≡◌, ℕ, ◌<◌, List, Option, Some, None, Ok}
use Rattle.std.specs.List.{AllByRecursion}
use Rattle.access_levels.specs.Spelling.{id_of}
use Rattle.access_levels.specs.declared.entries.Who.{Who}
use Rattle.access_levels.specs.declared.entries.Who.TheVariants.{Star, Named}
use Rattle.access_levels.specs.declared.entries.Entry.{Entry}
use Rattle.access_levels.specs.declared.entries.CondEntry.{CondEntry}
use Rattle.generic_names.specs.Faults.{pattern_of, member_of}
use Rattle.generic_names.specs.Spelled.{Spelled}
use Rattle.racf_profiles.specs.declared.users.User.{User}
use Rattle.racf_profiles.specs.declared.users.Connect.{Connect as Connection}
use Rattle.racf_profiles.specs.declared.groups.Group.{Group}
use Rattle.racf_profiles.specs.declared.profiles.Profile.{Profile}
use Rattle.racf_profiles.specs.declared.profiles.Member.{Member}
use Rattle.racf_profiles.specs.declared.profiles.Member.TheVariants.{Access, SecurityLevel, Category, Traits}
use Rattle.racf_profiles.specs.declared.class_rows.ClassRow.{ClassRow}
use Rattle.racf_profiles.specs.declared.rows.Rows.{Rows}

-- An identifier, and one that may be left out.
abbrev pub IsId : List ℕ → Type 0
IsId text = id_of text ≡ Ok text

abbrev pub IsIdOrNone : Option (List ℕ) → Type 0
IsIdOrNone None = Unit {0}
IsIdOrNone (Some text) = IsId text

-- whom an entry speaks of
abbrev pub IsWho : Who → Type 0
IsWho Star = Unit {0}
IsWho (Named text) = IsId text

-- the names of profiles, and of members
abbrev pub IsPatternName : Spelled → Type 0
IsPatternName name = pattern_of name.kind name.text ≡ Ok name

abbrev pub IsMemberName : Spelled → Type 0
IsMemberName name = member_of name.kind name.text ≡ Ok name

-- ---- rows
pub record IsSpelledGroup (group : Group) : Type 0 where
  pub id : IsId group.id
  pub superior : IsIdOrNone group.superior
  pub owner : IsId group.owner

pub record IsSpelledUser (user : User) : Type 0 where
  pub id : IsId user.id
  pub default_group : IsId user.default_group
  pub owner : IsId user.owner
  pub level : user.level < 256
  pub label : IsIdOrNone user.label
  pub classes : AllByRecursion IsId user.classes
  pub connects : AllByRecursion (λ (connection : Connection). IsId connection.group) user.connects

abbrev pub IsSpelledMember : Member → Type 0
IsSpelledMember (Access resources level) = IsMemberName resources
IsSpelledMember (SecurityLevel name number) = IsId name × (number < 256)
IsSpelledMember (Category name) = IsId name
IsSpelledMember (Traits traits) = traits.longest < 256

pub record IsSpelledProfile (profile : Profile) : Type 0 where
  pub name : IsPatternName profile.name
  pub owner : IsId profile.owner
  pub level : profile.level < 256
  pub label : IsIdOrNone profile.label
  pub standard : AllByRecursion (λ (entry : Entry). IsWho entry.who) profile.standard
  pub conditional : AllByRecursion (λ (entry : CondEntry). IsId entry.condition.name × IsWho entry.who) profile.conditional
  pub members : AllByRecursion IsSpelledMember profile.members

pub record IsSpelledClass (class : ClassRow) : Type 0 where
  pub name : IsId class.name
  pub profiles : AllByRecursion IsSpelledProfile class.profiles

pub record AreSpelled (rows : Rows) : Type 0 where
  pub categories : AllByRecursion IsId rows.options.categories
  pub groups : AllByRecursion IsSpelledGroup rows.groups
  pub users : AllByRecursion IsSpelledUser rows.users
  pub classes : AllByRecursion IsSpelledClass rows.classes
