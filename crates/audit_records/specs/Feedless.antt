-- Texts, names and rows that hold no line feed: what is printed of them stands on one line.
use Rattle.std.specs.Prelude.{◌≡◌, ℕ, ◌==◌, Bool, true, not, List, IfSome}
use Rattle.std.specs.List.{AllByRecursion, list_all}
use Rattle.access_levels.specs.declared.entries.Who.{Who}
use Rattle.access_levels.specs.declared.entries.Who.TheVariants.{Star, Named}
use Rattle.access_levels.specs.declared.entries.Entry.{Entry}
use Rattle.access_levels.specs.declared.entries.CondEntry.{CondEntry}
use Rattle.racf_profiles.specs.declared.users.User.{User}
use Rattle.racf_profiles.specs.declared.users.Connect.{Connect as Connection}
use Rattle.racf_profiles.specs.declared.groups.Group.{Group}
use Rattle.racf_profiles.specs.declared.profiles.Profile.{Profile}
use Rattle.racf_profiles.specs.declared.profiles.Member.{Member}
use Rattle.racf_profiles.specs.declared.profiles.Member.TheVariants as member
use Rattle.racf_profiles.specs.declared.class_rows.ClassRow.{ClassRow}
use Rattle.racf_profiles.specs.declared.rows.Rows.{Rows}
use Rattle.racf_profiles.specs.State.{State, ListedCopy}

-- whether a text has no line feed (10)
abbrev pub is_feedless : List ℕ → Bool
is_feedless text = list_all (λ byte. not (byte == 10)) text

abbrev pub IsFeedless : List ℕ → Type 0
IsFeedless text = is_feedless text ≡ true

-- ---- the IDs and names of rows
pub record IsFeedlessUser (user : User) : Type 0 where
  pub id : IsFeedless user.id
  pub default_group : IsFeedless user.default_group
  pub groups : AllByRecursion (λ (connection : Connection). IsFeedless connection.group) user.connects

pub record IsFeedlessGroup (group : Group) : Type 0 where
  pub id : IsFeedless group.id
  pub superior : IfSome group.superior IsFeedless
  pub owner : IsFeedless group.owner

abbrev pub IsFeedlessWho : Who → Type 0
IsFeedlessWho Star = Unit {0}
IsFeedlessWho (Named id) = IsFeedless id

abbrev pub IsFeedlessMember : Member → Type 0
IsFeedlessMember (member.Access resources level) = IsFeedless resources.text
IsFeedlessMember (member.SecurityLevel name number) = IsFeedless name
IsFeedlessMember (member.Category name) = IsFeedless name
IsFeedlessMember (member.Traits traits) = Unit {0}

pub record IsFeedlessProfile (profile : Profile) : Type 0 where
  pub name : IsFeedless profile.name.text
  pub standard : AllByRecursion (λ (entry : Entry). IsFeedlessWho entry.who) profile.standard
  pub conditional : AllByRecursion (λ (entry : CondEntry). IsFeedless entry.condition.name) profile.conditional
  pub members : AllByRecursion IsFeedlessMember profile.members

abbrev pub AreFeedlessProfiles : ClassRow → Type 0
AreFeedlessProfiles class = AllByRecursion IsFeedlessProfile class.profiles

pub record AreFeedless (rows : Rows) : Type 0 where
  pub users : AllByRecursion IsFeedlessUser rows.users
  pub groups : AllByRecursion IsFeedlessGroup rows.groups
  pub classes : AllByRecursion AreFeedlessProfiles rows.classes
  pub categories : AllByRecursion IsFeedless rows.options.categories

-- of a state: its listed copies too
pub record IsFeedlessState (state : State) : Type 0 where
  pub rows : AreFeedless state.rows
  pub copies : AllByRecursion (λ (copy : ListedCopy). AllByRecursion IsFeedlessProfile copy.profiles) state.copies
