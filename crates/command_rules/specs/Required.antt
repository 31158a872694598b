-- What a command requires of the rows: who and what has to be there, or not, and how much there may be.
use Rattle.std.specs.Prelude.{ℕ, Bool, not, nat_lt, List, [], ◌∷◌, Option, None, Some, is_some, find, option_map, if◌then◌else◌}
use Rattle.std.specs.List.{list_any}
use Rattle.racf_profiles.specs.declared.rows.Rows.{Rows}
use Rattle.racf_profiles.specs.Lookup.{user_of, group_of}
use Rattle.command_rules.specs.declared.conflict.Conflict.{Conflict}
use Rattle.command_rules.specs.declared.conflict.Conflict.TheVariants.{NoUser, NoGroup, NoClass, Exists, NotConnected, UnknownName, Full}
use Rattle.command_rules.specs.declared.conflict.Named.TheVariants as named
use Rattle.command_rules.specs.declared.conflict.Limit.{Limit}
use Rattle.racf_profiles.specs.Names.{is_taken, is_class_word, is_to, connects_of}
use Rattle.command_rules.specs.Security.{level_number, is_category, category_number, is_label}

-- The conflict, where it is met.
abbrev pub if_met : Bool → Conflict → Option Conflict
if_met met conflict = if met then Some conflict else None

-- ---- who and what has to be there
unfoldable pub no_user : List ℕ → Rows → Option Conflict
no_user id rows = if_met (not (is_some (user_of id rows))) (NoUser id)

unfoldable pub no_group : List ℕ → Rows → Option Conflict
no_group id rows = if_met (not (is_some (group_of id rows))) (NoGroup id)

-- OWNER names a user or a group.
unfoldable pub no_owner : Option (List ℕ) → Rows → Option Conflict
no_owner None rows = None
no_owner (Some owner) rows = if_met (not (is_taken owner rows)) (NoUser owner)

-- DFLTGRP of ALTUSER, and SUPGROUP of ALTGROUP, name a group.
unfoldable pub no_named_group : Option (List ℕ) → Rows → Option Conflict
no_named_group None rows = None
no_named_group (Some group) rows = no_group group rows

-- The first class of a list that isn't in the table.
unfoldable pub no_class : List (List ℕ) → Rows → Option Conflict
no_class classes rows = option_map NoClass (find (λ name. not (is_class_word rows name)) classes)

-- What is to be defined isn't there.
unfoldable pub name_taken : List ℕ → Rows → Option Conflict
name_taken id rows = if_met (is_taken id rows) (Exists (named.Id id))

unfoldable pub not_connected : List ℕ → List ℕ → Rows → Option Conflict
not_connected user group rows = if_met (not (list_any (is_to group) (connects_of user rows))) (NotConnected group)

-- ALTUSER: the new default group is one that the user is connected to.
unfoldable pub default_not_connected : List ℕ → Option (List ℕ) → Rows → Option Conflict
default_not_connected user None rows = None
default_not_connected user (Some group) rows = not_connected user group rows

-- The first that is met.
abbrev pub first_met : List (Option Conflict) → Option Conflict
first_met [] = None
first_met (None ∷ tests) = first_met tests
first_met (Some conflict ∷ tests) = Some conflict

-- ---- levels, categories and labels
unfoldable pub unknown_level : Option (List ℕ) → Rows → Option Conflict
unknown_level None rows = None
unknown_level (Some name) rows = if_met (not (is_some (level_number rows name))) (UnknownName name)

-- The first of ADDCATEGORY that is no category; the first of DELCATEGORY that never was one.
unfoldable pub unknown_category : List (List ℕ) → Rows → Option Conflict
unknown_category names rows = option_map UnknownName (find (λ name. not (is_category rows name)) names)

unfoldable pub never_category : List (List ℕ) → Rows → Option Conflict
never_category names rows = option_map UnknownName (find (λ name. not (is_some (category_number rows name))) names)

unfoldable pub unknown_label : Option (List ℕ) → Rows → Option Conflict
unknown_label None rows = None
unknown_label (Some name) rows = if_met (not (is_label rows name)) (UnknownName name)

-- ---- limits: more of a kind than the limit
abbrev pub over : Limit → ℕ → ℕ → Option Conflict
over kind limit count = if_met (nat_lt limit count) (Full kind limit)
