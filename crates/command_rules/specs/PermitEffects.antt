-- What PERMIT makes of a profile's access lists.
use Rattle.std.specs.Prelude.{List, [], Option, None, Some, fold, unwrap_or, if◌then◌else◌, ◌≡◌, ◌≤◌, false, length, IfSome}
use Rattle.access_levels.specs.declared.levels.Level.{Level}
use Rattle.access_levels.specs.declared.levels.Level.TheVariants.{Read}
use Rattle.access_levels.specs.declared.entries.Who.{Who}
use Rattle.access_levels.specs.declared.entries.Entry.{Entry}
use Rattle.access_levels.specs.declared.entries.Condition.{Condition}
use Rattle.access_levels.specs.declared.entries.CondEntry.{CondEntry}
use Rattle.access_lists.specs.Lists.{permitted, withdrawn, permitted_when, withdrawn_when, most_entries}
use Rattle.racf_profiles.specs.declared.profiles.Profile.{Profile}
use Rattle.racf_profiles.specs.declared.rows.Rows.{Rows}
use Rattle.racf_profiles.specs.Lookup.{profile_of}
use Rattle.command_fields.specs.declared.resets.Reset.{Reset}
use Rattle.command_fields.specs.declared.resets.Reset.TheVariants as reset
use Rattle.command_fields.specs.declared.profile_fields.Permit.{Permit}
use Rattle.command_rules.specs.ProfileEffects.{profile_changed}

-- RESET comes first: ALL empties both lists, STANDARD the standard one, WHEN the conditional one.
abbrev pub standard_reset : Option Reset → List Entry → List Entry
standard_reset None list = list
standard_reset (Some reset.All) list = []
standard_reset (Some reset.Standard) list = []
standard_reset (Some reset.When) list = list

abbrev pub conditional_reset : Option Reset → List CondEntry → List CondEntry
conditional_reset None list = list
conditional_reset (Some reset.All) list = []
conditional_reset (Some reset.Standard) list = list
conditional_reset (Some reset.When) list = []

-- Then each ID in its order gets the access, or with DELETE loses its entry. Without ACCESS it is READ.
abbrev pub level_of : Permit → Level
level_of c = unwrap_or c.access Read

abbrev pub with_entry : Permit → List Entry → Who → List Entry
with_entry c list who = if c.delete then withdrawn who list else permitted (record { who = who; level = level_of c }) list

abbrev pub with_conditional : Permit → Condition → List CondEntry → Who → List CondEntry
with_conditional c condition list who = if c.delete then withdrawn_when condition who list else permitted_when (record { condition = condition; who = who; level = level_of c }) list

-- Without WHEN it is the standard list that the IDs stand in, with it the conditional one.
abbrev pub standard_entries : Permit → Option Condition → List Entry → List Entry
standard_entries c None list = fold (with_entry c) list c.id
standard_entries c (Some condition) list = list

abbrev pub conditional_entries : Permit → Option Condition → List CondEntry → List CondEntry
conditional_entries c None list = list
conditional_entries c (Some condition) list = fold (with_conditional c condition) list c.id

abbrev pub standard_after : Permit → List Entry → List Entry
standard_after c list = standard_entries c c.when (standard_reset c.reset list)

abbrev pub conditional_after : Permit → List CondEntry → List CondEntry
conditional_after c list = conditional_entries c c.when (conditional_reset c.reset list)

abbrev pub permitted_profile : Permit → Profile → Profile
permitted_profile c old = record old { standard = standard_after c old.standard; conditional = conditional_after c old.conditional }

abbrev pub after_permit : Permit → Rows → Rows
after_permit c rows = profile_changed c.class c.profile (permitted_profile c) rows

-- A PERMIT that gives access leaves both lists within the limit.
pub record ListsFit (c : Permit) (old : Profile) : Type 0 where
  pub standard : length (standard_after c old.standard) ≤ most_entries
  pub conditional : length (conditional_after c old.conditional) ≤ most_entries

abbrev pub PermitFits : Permit → Rows → Type 0
PermitFits c rows = c.delete ≡ false → IfSome (profile_of c.class c.profile rows) (ListsFit c)
