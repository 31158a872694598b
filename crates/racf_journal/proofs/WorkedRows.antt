-- What files say, worked out.
use Rattle.std.proofs.Common.{◌≡◌, ℕ, List, [], ◌∷◌, ◌++◌, Ok, Err, Result, true, false, refl}
use Rattle.std.specs.Prelude.{codes}
use Rattle.racf_journal.specs.declared.fault.JournalFault.{JournalFault}
use Rattle.racf_journal.specs.declared.fault.JournalFault.TheVariants.{NotFormatted, Damaged}
use Rattle.racf_journal.specs.Reading.{Reading, reading, magic, claims, is_open, spelled}

abbrev reads : List (List ℕ) → ℕ → Result Reading JournalFault
reads records gate = Ok (record { records = records; gate = gate })

abbrev fails : JournalFault → Result Reading JournalFault
fails fault = Err fault

-- two records, of two bytes and of one
abbrev ab : List ℕ
ab = 0 ∷ 0 ∷ 0 ∷ 2 ∷ codes "AB"

abbrev c : List ℕ
c = 0 ∷ 0 ∷ 0 ∷ 1 ∷ codes "C"

-- ---- whole journals

new_journal : reading 8 (magic ++ 0 ∷ []) ≡ reads [] 8
new_journal = refl

two_records : reading 8 (magic ++ spelled (ab ∷ c ∷ []) ++ 0 ∷ []) ≡ reads (ab ∷ c ∷ []) 21
two_records = refl

spelled_two : spelled (ab ∷ c ∷ []) ≡ 1 ∷ 0 ∷ 0 ∷ 0 ∷ 2 ∷ 65 ∷ 66 ∷ 1 ∷ 0 ∷ 0 ∷ 0 ∷ 1 ∷ 67 ∷ []
spelled_two = refl

-- the first commands of a database, as they lay on a disk
abbrev add_group : List ℕ
add_group = 0 ∷ 0 ∷ 0 ∷ 42 ∷ codes "IBMUSER SYS1    ADDGROUP G3 SUPGROUP(SYS1)"

abbrev add_user : List ℕ
add_user = 0 ∷ 0 ∷ 0 ∷ 37 ∷ codes "IBMUSER SYS1    ADDUSER U3 RESTRICTED"

found_on_a_disk : reading 8 (magic ++ 1 ∷ add_group ++ 1 ∷ add_user ++ 0 ∷ []) ≡ reads (add_group ∷ add_user ∷ []) 97
found_on_a_disk = refl

-- the length of a record has four bytes, the highest first
long_record : claims (0 ∷ 1 ∷ 2 ∷ 3 ∷ codes "AB") ≡ 66055
long_record = refl

-- a record of nothing but its length
empty_record : reading 8 (magic ++ 1 ∷ 0 ∷ 0 ∷ 0 ∷ 0 ∷ 0 ∷ []) ≡ reads ((0 ∷ 0 ∷ 0 ∷ 0 ∷ []) ∷ []) 13
empty_record = refl

-- ---- where a journal ends

bytes_behind_a_closed_gate : reading 8 (magic ++ 1 ∷ ab ++ 0 ∷ c ++ 1 ∷ c ++ 0 ∷ []) ≡ reads (ab ∷ []) 15
bytes_behind_a_closed_gate = refl

another_byte_as_a_gate : reading 8 (magic ++ 1 ∷ ab ++ 2 ∷ c ++ 0 ∷ []) ≡ reads (ab ∷ []) 15
another_byte_as_a_gate = refl

an_end_at_a_gate : reading 8 (magic ++ 1 ∷ ab) ≡ reads (ab ∷ []) 15
an_end_at_a_gate = refl

an_open_byte_that_nothing_follows : reading 8 (magic ++ 1 ∷ ab ++ 1 ∷ []) ≡ reads (ab ∷ []) 15
an_open_byte_that_nothing_follows = refl

only_an_open_gate_with_bytes_behind : (is_open (1 ∷ 0 ∷ []) ≡ true) × (is_open (1 ∷ []) ≡ false) × (is_open (2 ∷ 0 ∷ []) ≡ false) × (is_open [] ≡ false)
only_an_open_gate_with_bytes_behind = (refl, refl, refl, refl)

-- ---- damage

half_a_record : reading 8 (magic ++ 1 ∷ ab ++ 1 ∷ 0 ∷ 0 ∷ 0 ∷ 3 ∷ codes "AB") ≡ fails (Damaged 15)
half_a_record = refl

half_a_length : reading 8 (magic ++ 1 ∷ 0 ∷ 0 ∷ 0 ∷ []) ≡ fails (Damaged 8)
half_a_length = refl

-- ---- where a journal begins

another_beginning : reading 8 (codes "RACFJNL2" ++ 0 ∷ []) ≡ fails NotFormatted
another_beginning = refl

a_short_file : reading 8 (codes "RACFJNL") ≡ fails NotFormatted
a_short_file = refl

no_gate_at_all : reading 8 magic ≡ reads [] 8
no_gate_at_all = refl

-- behind a later start nothing before it is asked
behind_a_front : reading 11 (codes "ANY FRONT. " ++ 1 ∷ ab ++ 0 ∷ []) ≡ reads (ab ∷ []) 18
behind_a_front = refl

damage_behind_a_front : reading 11 (codes "ANY FRONT. " ++ 1 ∷ 9 ∷ []) ≡ fails (Damaged 11)
damage_behind_a_front = refl
