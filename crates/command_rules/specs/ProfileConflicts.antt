-- What the commands on profiles conflict with.
use Rattle.std.specs.Prelude.{ℕ, ◌+◌, ◌-◌, Bool, true, false, ◌&&◌, ◌||◌, not, List, [], ◌∷◌, ◌++◌, length, slice_get, Option, None, Some, is_some, is_ok, find, option_map, option_and_then, codes, bytes_eq, if◌then◌else◌}
use Rattle.std.specs.Option.{option_map_or, option_or}
use Rattle.std.specs.Result.{result_ok}
use Rattle.access_levels.specs.Spelling.{id_of}
use Rattle.access_levels.specs.declared.entries.Who.{Who}
use Rattle.access_levels.specs.declared.entries.Who.TheVariants.{Star, Named}
use Rattle.generic_names.specs.Spelled.{Spelled, first_qualifier}
use Rattle.generic_names.specs.Covers.{is_generic}
use Rattle.racf_profiles.specs.declared.profiles.Profile.{Profile}
use Rattle.racf_profiles.specs.declared.fixed_classes.ClassFacts.{ClassFacts}
use Rattle.racf_profiles.specs.declared.class_rows.ClassRow.{ClassRow}
use Rattle.racf_profiles.specs.declared.rows.Rows.{Rows}
use Rattle.racf_profiles.specs.ClassTable.{fixed_classes}
use Rattle.racf_profiles.specs.DynamicClasses.{cdt, general, facts_in, is_fixed, is_short}
use Rattle.racf_profiles.specs.declared.fixed_classes.NameForm.{NameForm}
use Rattle.racf_profiles.specs.declared.fixed_classes.NameForm.TheVariants as names
use Rattle.racf_profiles.specs.Lookup.{class_of, profile_of}
use Rattle.racf_profiles.specs.Limits.{most_dynamic_classes, most_class_profiles, most_profiles, most_members, most_categories, most_list_entries, most_entries_in_all}
use Rattle.command_fields.specs.declared.issuer.Issuer.{Issuer}
use Rattle.command_fields.specs.declared.fields.CommandFields.{CommandFields}
use Rattle.command_fields.specs.declared.fields.CommandFields.TheVariants as fields
use Rattle.command_fields.specs.declared.profile_fields.AddSd.{AddSd}
use Rattle.command_fields.specs.declared.profile_fields.AltSd.{AltSd}
use Rattle.command_fields.specs.declared.profile_fields.DelSd.{DelSd}
use Rattle.command_fields.specs.declared.profile_fields.RDefine.{RDefine}
use Rattle.command_fields.specs.declared.profile_fields.RAlter.{RAlter}
use Rattle.command_fields.specs.declared.profile_fields.RDelete.{RDelete}
use Rattle.command_fields.specs.declared.class_fields.DefineClass.{DefineClass}
use Rattle.command_fields.specs.declared.class_fields.AlterClass.{AlterClass}
use Rattle.command_fields.specs.declared.profile_fields.Permit.{Permit}
use Rattle.command_rules.specs.declared.conflict.Conflict.{Conflict}
use Rattle.command_rules.specs.declared.conflict.Conflict.TheVariants.{NoUser, NoProfile, NoClass, Exists, InUse, NotGeneric, NameNotAllowed}
use Rattle.command_rules.specs.declared.conflict.Holder.TheVariants.{Profile as ProfileOf}
use Rattle.command_rules.specs.declared.conflict.Named.TheVariants as named
use Rattle.command_rules.specs.declared.conflict.Limit.TheVariants.{ClassProfiles, Profiles, Entries, AllEntries, Members, Categories, Classes}
use Rattle.racf_profiles.specs.Names.{is_taken, is_class_word}
use Rattle.racf_profiles.specs.Counts.{profile_count, entry_count}
use Rattle.command_rules.specs.ProfileEffects.{dataset, named_class, deleted_class}
use Rattle.command_rules.specs.Members.{members_after, categories_defined}
use Rattle.command_rules.specs.Effects.{step}
use Rattle.command_rules.specs.Required.{if_met, no_owner, unknown_level, unknown_category, never_category, unknown_label, over}

-- ---- who and what has to be there
-- The first qualifier of a data set profile is a user or a group. A name whose first qualifier isn't spelled as an ID
-- is never given.
unfoldable pub no_first_qualifier : Spelled → Rows → Option Conflict
no_first_qualifier name rows = no_owner (result_ok (id_of (first_qualifier name.text))) rows

-- PERMIT gives access to `*`, to users and to groups alone: the first ID that is none of these.
abbrev pub is_unknown : Rows → Who → Bool
is_unknown rows Star = false
is_unknown rows (Named id) = not (is_taken id rows)

abbrev pub named_unknown : Who → Option Conflict
named_unknown Star = None
named_unknown (Named id) = Some (NoUser id)

unfoldable pub no_permitted : Bool → List Who → Rows → Option Conflict
no_permitted delete whos rows = if delete then None else option_and_then named_unknown (find (is_unknown rows) whos)

-- The class is in the table; RDEFINE, RALTER and RDELETE know no data sets.
unfoldable pub no_such_class : List ℕ → Rows → Option Conflict
no_such_class class rows = if_met (not (is_some (class_of class rows))) (NoClass class)

unfoldable pub no_resource_class : List ℕ → Rows → Option Conflict
no_resource_class class rows = if_met (bytes_eq class dataset || not (is_some (class_of class rows))) (NoClass class)

-- A profile of class GLOBAL has the name of a class. One whose name isn't spelled as an ID is never given.
abbrev pub classless : Bool → Option (List ℕ) → Rows → Option Conflict
classless global None rows = None
classless global (Some id) rows = if_met (global && not (is_some (class_of id rows))) (NoClass id)

unfoldable pub no_global_class : List ℕ → Spelled → Rows → Option Conflict
no_global_class class name rows = classless (bytes_eq class (codes "GLOBAL")) (result_ok (id_of name.text)) rows

-- A class without the profile: met only where the class is there.
unfoldable pub no_profile : List ℕ → Spelled → Rows → Option Conflict
no_profile class name rows = if_met (is_some (class_of class rows) && not (is_some (profile_of class name rows))) (NoProfile class name)

unfoldable pub no_resource_profile : List ℕ → Spelled → Rows → Option Conflict
no_resource_profile class name rows = if bytes_eq class dataset then None else no_profile class name rows

-- What is to be defined isn't there.
unfoldable pub profile_taken : List ℕ → Spelled → Rows → Option Conflict
profile_taken class name rows = if_met (is_some (profile_of class name rows)) (Exists (named.Profile name))

-- A generic name stands only in a class that has generic profiles.
abbrev pub has_generic : List ℕ → Rows → Bool
has_generic class rows = option_map_or (λ (facts : ClassFacts). facts.generic) (facts_in class rows) false

unfoldable pub not_generic : List ℕ → Spelled → Rows → Option Conflict
not_generic class name rows = if_met (is_generic name && not (has_generic class rows)) (NotGeneric class)

-- In a dynamic class a name has at most the bytes that the class allows, and a discrete one an ID's spelling where the
-- class says so.
abbrev pub keeps_form : NameForm → List ℕ → Bool
keeps_form names.Identifier text = is_ok (id_of text)
keeps_form _ text = true

abbrev pub may_be_named : Spelled → ClassFacts → Bool
may_be_named name facts = is_short facts name.text && (is_generic name || keeps_form facts.names name.text)

unfoldable pub name_not_allowed : List ℕ → Spelled → Rows → Option Conflict
name_not_allowed class name rows = if_met (not (is_fixed class) && not (option_map_or (may_be_named name) (facts_in class rows) true)) (NameNotAllowed class)

-- ---- the classes that class CDT defines
abbrev pub profiles_in : List ℕ → Rows → List Profile
profiles_in class rows = option_map_or (λ (row : ClassRow). row.profiles) (class_of class rows) []

-- The class that is to be defined isn't in the table, and has no profile and another name than USER, which CLAUTH has a
-- meaning for.
unfoldable pub class_taken : Spelled → Rows → Option Conflict
class_taken name rows = if_met (is_some (profile_of cdt name rows) || option_map_or (is_class_word rows) (named_class name) false) (Exists (named.Profile name))

-- A class stays that has a profile, of which the first is told, or else one that the global access table is there for.
abbrev pub first_profile : List ℕ → Rows → Option Profile
first_profile class rows = slice_get (profiles_in class rows) 0

abbrev pub uses_class : Rows → List ℕ → Option Profile
uses_class rows class = option_or (first_profile class rows) (profile_of (codes "GLOBAL") (general class) rows)

unfoldable pub class_in_use : RDelete → Rows → Option Conflict
class_in_use c rows = option_map (λ (p : Profile). InUse (ProfileOf p.name)) (option_and_then (uses_class rows) (deleted_class c))

-- ---- limits: of the rows after the command, each kind as the users' are
unfoldable pub class_profiles_full : Issuer → CommandFields → List ℕ → Rows → Option Conflict
class_profiles_full issuer command class rows = over ClassProfiles most_class_profiles (length (profiles_in class (step issuer command rows)))

unfoldable pub profiles_full : Issuer → CommandFields → Rows → Option Conflict
profiles_full issuer command rows = over Profiles most_profiles (profile_count (step issuer command rows).classes)

-- of the profile that PERMIT changes: either list, and all lists
abbrev pub list_full : (Profile → ℕ) → Option Profile → Option Conflict
list_full entries profile = option_and_then (λ (p : Profile). over Entries most_list_entries (entries p)) profile

unfoldable pub standard_full : Issuer → Permit → Rows → Option Conflict
standard_full issuer c rows = list_full (λ p. length p.standard) (profile_of c.class c.profile (step issuer (fields.Permit c) rows))

unfoldable pub conditional_full : Issuer → Permit → Rows → Option Conflict
conditional_full issuer c rows = list_full (λ p. length p.conditional) (profile_of c.class c.profile (step issuer (fields.Permit c) rows))

unfoldable pub entries_full : Issuer → Permit → Rows → Option Conflict
entries_full issuer c rows = over AllEntries most_entries_in_all (entry_count (step issuer (fields.Permit c) rows).classes)

-- of the profile that RDEFINE makes, or that RALTER changes; and the names of categories
unfoldable pub members_full : Issuer → CommandFields → List ℕ → Spelled → Rows → Option Conflict
members_full issuer command class name rows = option_and_then (λ (p : Profile). over Members most_members (length p.members)) (profile_of class name (step issuer command rows))

unfoldable pub categories_full : Issuer → CommandFields → Rows → Option Conflict
categories_full issuer command rows = over Categories most_categories (length (step issuer command rows).options.categories)

-- and of so many classes those beside the fixed ones
abbrev pub dynamic_among : ℕ → ℕ
dynamic_among classes = classes - length fixed_classes

unfoldable pub classes_full : Issuer → CommandFields → Rows → Option Conflict
classes_full issuer command rows = over Classes most_dynamic_classes (dynamic_among (length (step issuer command rows).classes))

-- ---- the conflicts of each command, in the order in which they are tested
unfoldable pub add_sd_requirements : AddSd → Rows → List (Option Conflict)
add_sd_requirements c rows =
    no_first_qualifier c.profile rows
    ∷ no_owner c.owner rows
    ∷ profile_taken dataset c.profile rows
    ∷ unknown_level c.seclevel rows
    ∷ unknown_category c.addcategory rows
    ∷ unknown_label c.seclabel rows
    ∷ []

unfoldable pub add_sd_limits : Issuer → AddSd → Rows → List (Option Conflict)
add_sd_limits issuer c rows =
    class_profiles_full issuer (fields.AddSd c) dataset rows
    ∷ profiles_full issuer (fields.AddSd c) rows
    ∷ []

abbrev pub add_sd_conflicts : Issuer → AddSd → Rows → List (Option Conflict)
add_sd_conflicts issuer c rows = add_sd_requirements c rows ++ add_sd_limits issuer c rows

unfoldable pub alt_sd_conflicts : AltSd → Rows → List (Option Conflict)
alt_sd_conflicts c rows =
    no_owner c.owner rows
    ∷ no_profile dataset c.profile rows
    ∷ unknown_level c.seclevel rows
    ∷ unknown_category c.addcategory rows
    ∷ never_category c.delcategory rows
    ∷ unknown_label c.seclabel rows
    ∷ []

unfoldable pub del_sd_conflicts : DelSd → Rows → List (Option Conflict)
del_sd_conflicts c rows = no_profile dataset c.profile rows ∷ []

unfoldable pub r_define_requirements : RDefine → Rows → List (Option Conflict)
r_define_requirements c rows =
    no_owner c.owner rows
    ∷ no_resource_class c.class rows
    ∷ no_global_class c.class c.profile rows
    ∷ profile_taken c.class c.profile rows
    ∷ not_generic c.class c.profile rows
    ∷ unknown_level c.seclevel rows
    ∷ unknown_category c.addcategory rows
    ∷ unknown_label c.seclabel rows
    ∷ []

unfoldable pub r_define_limits : Issuer → RDefine → Rows → List (Option Conflict)
r_define_limits issuer c rows =
    class_profiles_full issuer (fields.RDefine c) c.class rows
    ∷ profiles_full issuer (fields.RDefine c) rows
    ∷ members_full issuer (fields.RDefine c) c.class c.profile rows
    ∷ categories_full issuer (fields.RDefine c) rows
    ∷ []

-- The same limits by counts: one profile more, and the members that RDEFINE names.
abbrev pub new_profile_limits : List ℕ → Rows → List (Option Conflict)
new_profile_limits class rows =
    over ClassProfiles most_class_profiles (length (profiles_in class rows) + 1)
    ∷ over Profiles most_profiles (profile_count rows.classes + 1)
    ∷ []

abbrev pub new_resource_limits : RDefine → Rows → List (Option Conflict)
new_resource_limits c rows =
    over ClassProfiles most_class_profiles (length (profiles_in c.class rows) + 1)
    ∷ over Profiles most_profiles (profile_count rows.classes + 1)
    ∷ over Members most_members (length (members_after c.addmem [] []))
    ∷ over Categories most_categories (length (categories_defined c.addmem rows.options.categories))
    ∷ []

abbrev pub r_define_conflicts : Issuer → RDefine → Rows → List (Option Conflict)
r_define_conflicts issuer c rows = r_define_requirements c rows ++ (r_define_limits issuer c rows ++ name_not_allowed c.class c.profile rows ∷ [])

unfoldable pub r_alter_conflicts : Issuer → RAlter → Rows → List (Option Conflict)
r_alter_conflicts issuer c rows =
    no_owner c.owner rows
    ∷ no_resource_profile c.class c.profile rows
    ∷ no_resource_class c.class rows
    ∷ unknown_level c.seclevel rows
    ∷ unknown_category c.addcategory rows
    ∷ never_category c.delcategory rows
    ∷ unknown_label c.seclabel rows
    ∷ members_full issuer (fields.RAlter c) c.class c.profile rows
    ∷ categories_full issuer (fields.RAlter c) rows
    ∷ []

-- RDEFINE and RALTER in class CDT.
unfoldable pub define_class_requirements : DefineClass → Rows → List (Option Conflict)
define_class_requirements c rows =
    no_owner c.owner rows
    ∷ no_resource_class cdt rows
    ∷ class_taken c.profile rows
    ∷ []

unfoldable pub define_class_limits : Issuer → DefineClass → Rows → List (Option Conflict)
define_class_limits issuer c rows =
    class_profiles_full issuer (fields.DefineClass c) cdt rows
    ∷ profiles_full issuer (fields.DefineClass c) rows
    ∷ classes_full issuer (fields.DefineClass c) rows
    ∷ []

-- The same limits by counts: one profile more, and a class where the name can be that of one.
abbrev pub classes_more : Option (List ℕ) → ℕ
classes_more class = if is_some class then 1 else 0

abbrev pub new_class_limits : DefineClass → Rows → List (Option Conflict)
new_class_limits c rows =
    over ClassProfiles most_class_profiles (length (profiles_in cdt rows) + 1)
    ∷ over Profiles most_profiles (profile_count rows.classes + 1)
    ∷ over Classes most_dynamic_classes (dynamic_among (length rows.classes + classes_more (named_class c.profile)))
    ∷ []

abbrev pub define_class_conflicts : Issuer → DefineClass → Rows → List (Option Conflict)
define_class_conflicts issuer c rows = define_class_requirements c rows ++ define_class_limits issuer c rows

unfoldable pub alter_class_conflicts : AlterClass → Rows → List (Option Conflict)
alter_class_conflicts c rows = no_owner c.owner rows ∷ no_resource_profile cdt c.profile rows ∷ no_resource_class cdt rows ∷ []

unfoldable pub r_delete_conflicts : RDelete → Rows → List (Option Conflict)
r_delete_conflicts c rows = no_resource_profile c.class c.profile rows ∷ no_resource_class c.class rows ∷ class_in_use c rows ∷ []

unfoldable pub permit_conflicts : Issuer → Permit → Rows → List (Option Conflict)
permit_conflicts issuer c rows =
    no_permitted c.delete c.id rows
    ∷ no_profile c.class c.profile rows
    ∷ no_such_class c.class rows
    ∷ standard_full issuer c rows
    ∷ conditional_full issuer c rows
    ∷ entries_full issuer c rows
    ∷ []
