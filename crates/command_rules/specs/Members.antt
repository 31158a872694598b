-- The members of profiles of GLOBAL and SECDATA, and the categories that they define.
use Rattle.std.specs.Prelude.{ℕ, Bool, ◌||◌, not, List, fold, filter, bytes_eq, if◌then◌else◌}
use Rattle.std.specs.List.{list_any}
use Rattle.access_lists.specs.Lists.{entry_put}
use Rattle.generic_names.specs.Spelled.{Spelled}
use Rattle.racf_profiles.specs.declared.profiles.Member.{Member}
use Rattle.racf_profiles.specs.declared.profiles.Member.TheVariants.{Access, SecurityLevel, Category, Traits}
use Rattle.racf_profiles.specs.declared.options.Options.{Options}
pub use Rattle.racf_profiles.specs.LawfulProfiles.{member_name}
use Rattle.command_rules.specs.Security.{is_category_member}
use Rattle.command_rules.specs.UserEffects.{with_class}

abbrev pub is_member_named : List ℕ → Member → Bool
is_member_named name member = bytes_eq (member_name member) name

-- ADDMEM: the member in place of the one of its name, or else last.
abbrev pub with_member : List Member → Member → List Member
with_member members member = entry_put (is_member_named (member_name member)) member members

-- DELMEM: the members without those of these names.
abbrev pub is_named_in : List Spelled → Member → Bool
is_named_in names member = list_any (λ (name : Spelled). is_member_named name.text member) names

abbrev pub without_members : List Spelled → List Member → List Member
without_members gone members = filter (λ member. not (is_named_in gone member)) members

-- DELMEM comes before ADDMEM.
abbrev pub members_after : List Member → List Spelled → List Member → List Member
members_after added gone members = fold with_member (without_members gone members) added

-- The first time that a category is a member its name becomes the last of those ever defined. A category is a member of
-- SECDATA's CATEGORY alone.
abbrev pub with_category_name : List (List ℕ) → Member → List (List ℕ)
with_category_name names (Access resources level) = names
with_category_name names (SecurityLevel name number) = names
with_category_name names (Category name) = with_class names name
with_category_name names (Traits traits) = names

abbrev pub categories_defined : List Member → List (List ℕ) → List (List ℕ)
categories_defined added names = fold with_category_name names added

abbrev pub options_after : List Member → Options → Options
options_after added options = record options { categories = categories_defined added options.categories }

-- 1 for a member that defines no category anew, since it is none, or one that is among these or among the members
-- before it; else 0.
abbrev pub category_repeats : Member → List Member → List (List ℕ) → ℕ
category_repeats (Access resources level) before names = 1
category_repeats (SecurityLevel name number) before names = 1
category_repeats (Traits traits) before names = 1
category_repeats (Category name) before names = if list_any (λ other. bytes_eq other name) names || list_any (is_category_member name) before then 1 else 0
