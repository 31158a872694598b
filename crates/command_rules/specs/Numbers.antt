-- The conflicts have numbers, and of several that are met the one of the least number is told.
use Rattle.std.specs.Prelude.{ℕ, nat_le, Bool, true, ◌&&◌, List, [], ◌∷◌, Option, None, Some}
use Rattle.std.specs.List.{list_all}
use Rattle.command_rules.specs.declared.conflict.Conflict.{Conflict}
use Rattle.command_rules.specs.declared.conflict.Conflict.TheVariants.{NoUser, NoGroup, NoProfile, NoClass, Exists, NotConnected, Root, InUse, Cycle, OwnerNotSuperior, NotGeneric, NotListed, ClassFixed, DefaultGroup, LastSpecial, UnknownName, Full, NameNotAllowed}

abbrev pub number_of : Conflict → ℕ
number_of (NoUser id) = 1
number_of (NoGroup id) = 2
number_of (NoProfile class profile) = 3
number_of (NoClass class) = 4
number_of (Exists name) = 5
number_of (NotConnected group) = 6
number_of Root = 7
number_of (InUse holder) = 8
number_of (Cycle group) = 9
number_of (OwnerNotSuperior owner) = 10
number_of (NotGeneric class) = 11
number_of (NotListed class) = 12
number_of (ClassFixed class) = 13
number_of (DefaultGroup group) = 14
number_of (LastSpecial user) = 15
number_of (UnknownName name) = 16
number_of (Full kind limit) = 17
number_of (NameNotAllowed class) = 18

-- A conflict that is told before the issuer's authority is judged: one that comes before Root.
abbrev pub is_early : Conflict → Bool
is_early conflict = nat_le (number_of conflict) 6

-- The conflicts that are met, in the order of the tests.
abbrev pub met : List (Option Conflict) → List Conflict
met [] = []
met (None ∷ tests) = met tests
met (Some conflict ∷ tests) = conflict ∷ met tests

-- None has a greater number than one behind it.
abbrev pub is_ascending : List Conflict → Bool
is_ascending [] = true
is_ascending (conflict ∷ conflicts) = list_all (λ other. nat_le (number_of conflict) (number_of other)) conflicts && is_ascending conflicts
