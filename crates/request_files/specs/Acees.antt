-- The ACEEs in use, each under its name, in the order in which they were put.
use Rattle.std.specs.Prelude.{ℕ, ◌==◌, Bool, List, [], ◌∷◌, ◌++◌, find, Option, Some, None, option_map, length, is_some, bytes_eq, if◌then◌else◌}
use Rattle.racf_profiles.specs.Edits.{drop_row}
use Rattle.acee.specs.declared.acee.Acee.{Acee}
use Rattle.request_files.specs.declared.acees.NamedAcee.{NamedAcee}
use Rattle.request_files.specs.declared.line.LineRefusal.{LineRefusal}
use Rattle.request_files.specs.declared.line.LineRefusal.TheVariants.{AceeExists, AceesFull}

abbrev pub most_acees : ℕ
most_acees = 256

abbrev pub is_named : List ℕ → NamedAcee → Bool
is_named name entry = bytes_eq entry.name name

-- the ACEE of that name
abbrev pub acee_named : List ℕ → List NamedAcee → Option Acee
acee_named name acees = option_map (λ (entry : NamedAcee). entry.acee) (find (is_named name) acees)

-- why no ACEE can be put under that name: it is in use, or 256 ACEEs are there
abbrev pub put_refusal : List ℕ → List NamedAcee → Option LineRefusal
put_refusal name acees =
    if is_some (acee_named name acees) then Some (AceeExists name)
    else if length acees == most_acees then Some AceesFull
    else None

-- the ACEEs with one put last, and without the one of that name
abbrev pub with_acee : List ℕ → Acee → List NamedAcee → List NamedAcee
with_acee name acee acees = acees ++ record { name = name; acee = acee } ∷ []

abbrev pub without_acee : List ℕ → List NamedAcee → List NamedAcee
without_acee name acees = drop_row (is_named name) acees
