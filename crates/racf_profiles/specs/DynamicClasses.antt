-- The dynamic classes: what RDEFINE in class CDT said of each, and what a class of either kind allows.
use Rattle.std.specs.Prelude.{ℕ, Bool, true, false, not, nat_le, List, [], ◌∷◌, length, Option, None, Some, is_some, option_map, option_and_then, codes, if◌then◌else◌}
use Rattle.std.specs.Option.{option_map_or, option_or}
use Rattle.generic_names.specs.declared.kind.NameKind.TheVariants.{General}
use Rattle.generic_names.specs.Spelled.{Spelled}
use Rattle.racf_profiles.specs.declared.fixed_classes.NameForm.TheVariants as names
use Rattle.racf_profiles.specs.declared.fixed_classes.ClassFacts.{ClassFacts}
use Rattle.racf_profiles.specs.declared.profiles.ClassTraits.{ClassTraits}
use Rattle.racf_profiles.specs.declared.profiles.Member.{Member}
use Rattle.racf_profiles.specs.declared.profiles.Member.TheVariants.{Traits}
use Rattle.racf_profiles.specs.declared.profiles.Profile.{Profile}
use Rattle.racf_profiles.specs.declared.rows.Rows.{Rows}
use Rattle.racf_profiles.specs.ClassTable.{fixed_class, facts_of}
use Rattle.racf_profiles.specs.Lookup.{profile_of}

abbrev pub cdt : List ℕ
cdt = codes "CDT"

-- The name of a class's profile in CDT.
abbrev pub general : List ℕ → Spelled
general text = record { kind = General; text = text }

-- The traits in a CDT profile, which are its one member.
abbrev pub traits_of : List Member → Option ClassTraits
traits_of (Traits traits ∷ []) = Some traits
traits_of _ = None

-- The traits of the class of that name: those of its live profile in CDT.
abbrev pub traits_in : List ℕ → Rows → Option ClassTraits
traits_in name rows = option_and_then (λ (profile : Profile). traits_of profile.members) (profile_of cdt (general name) rows)

-- What a class of these traits allows: it may be RACLISTed, and has generic profiles unless its names are IDs.
abbrev pub facts_of_traits : ClassTraits → ClassFacts
facts_of_traits traits = record {
  names = if traits.ids then names.Identifier else names.General;
  longest = Some traits.longest;
  operations = traits.operations;
  generic = not traits.ids;
  raclist = true;
}

-- What the class of that name allows: of a fixed class the class table says it, of a dynamic one its traits.
abbrev pub facts_in : List ℕ → Rows → Option ClassFacts
facts_in name rows = option_or (facts_of name) (option_map facts_of_traits (traits_in name rows))

-- Whether OPERATIONS gives access in the class.
abbrev pub allows_operations : List ℕ → Rows → Bool
allows_operations name rows = option_map_or (λ (facts : ClassFacts). facts.operations) (facts_in name rows) false

-- Whether the name is that of a class of the fixed table.
abbrev pub is_fixed : List ℕ → Bool
is_fixed name = is_some (fixed_class name)

-- A name has at most the bytes that its class allows.
abbrev pub is_short : ClassFacts → List ℕ → Bool
is_short facts text = option_map_or (λ longest. nat_le (length text) longest) facts.longest true
