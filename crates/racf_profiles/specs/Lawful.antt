-- What holds of the rows of every database: this is all that an image on a disk asks of them.
use Rattle.std.specs.Prelude.{◌≡◌, ◌≤◌, List, [], ◌∷◌, length, Ok, IsTrue, bytes_eq}
use Rattle.std.specs.List.{AllByRecursion, IsDistinct, list_any}
use Rattle.access_levels.specs.Spelling.{group_of as group_spelled}
use Rattle.racf_profiles.specs.declared.groups.Group.{Group}
use Rattle.racf_profiles.specs.declared.options.Options.{Options}
use Rattle.racf_profiles.specs.declared.rows.Rows.{Rows}
use Rattle.racf_profiles.specs.declared.edits.Edit.{Edit}
use Rattle.racf_profiles.specs.Edits.{edited}
use Rattle.racf_profiles.specs.Limits.{most_connections_in_all, most_profiles, most_entries_in_all, most_categories}
use Rattle.racf_profiles.specs.Names.{connections, is_special_user}
use Rattle.racf_profiles.specs.Counts.{profile_count, entry_count}
use Rattle.racf_profiles.specs.Tree.{IsTree}
use Rattle.racf_profiles.specs.LawfulUsers.{AreUsers, IsUser}
use Rattle.racf_profiles.specs.LawfulProfiles.{AreClasses, AreDynamic, IsClass}

-- The names of categories are defined once each, and aren't too many.
pub record AreCategories (options : Options) : Type 0 where
  pub distinct : IsDistinct bytes_eq options.categories
  pub few : length options.categories ≤ most_categories

-- The groups are a tree, and their names are spelled as groups' names are. Each user is lawful, and one who isn't
-- revoked has SPECIAL. The classes are the fixed ones and then the dynamic ones, which class CDT defines, each with lawful
-- profiles. The limits over all are kept. An
-- owner, and an entry of an access list, may name a user or a group that is gone. The spelling of an ID and of a name
-- is kept by their types.
pub record AreLawful (rows : Rows) : Type 0 where
  pub groups : IsTree rows.groups
  pub group_names : AllByRecursion (λ (group : Group). group_spelled group.id ≡ Ok group.id) rows.groups
  pub users : AreUsers rows.users
  pub each_user : AllByRecursion (IsUser rows) rows.users
  pub special_user : IsTrue (list_any is_special_user rows.users)
  pub few_connections : connections rows.users ≤ most_connections_in_all
  pub classes : AreClasses rows.classes
  pub each_class : AllByRecursion (IsClass rows) rows.classes
  pub dynamic : AreDynamic rows
  pub few_profiles : profile_count rows.classes ≤ most_profiles
  pub few_entries : entry_count rows.classes ≤ most_entries_in_all
  pub categories : AreCategories rows.options

-- Behind each of the edits, made in their order, the classes are a class table, each with lawful profiles.
abbrev pub LeaveLawfulClasses : List Edit → Rows → Type 0
LeaveLawfulClasses [] rows = Unit {0}
LeaveLawfulClasses (edit ∷ edits) rows = AreClasses (edited edit rows).classes × LeaveLawfulClasses edits (edited edit rows)
