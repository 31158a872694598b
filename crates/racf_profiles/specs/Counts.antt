-- How many profiles and access list entries there are.
use Rattle.std.specs.Prelude.{ℕ, ◌+◌, List, length}
use Rattle.std.specs.List.{sum_by}
use Rattle.racf_profiles.specs.declared.profiles.Profile.{Profile}
use Rattle.racf_profiles.specs.declared.class_rows.ClassRow.{ClassRow}

-- The entries of a profile's two access lists.
abbrev pub entries_in : Profile → ℕ
entries_in profile = length profile.standard + length profile.conditional

-- How many profiles the classes have together, and how many entries.
abbrev pub profile_count : List ClassRow → ℕ
profile_count classes = sum_by (λ (class : ClassRow). length class.profiles) classes

abbrev pub entry_count : List ClassRow → ℕ
entry_count classes = sum_by (λ (class : ClassRow). sum_by entries_in class.profiles) classes
