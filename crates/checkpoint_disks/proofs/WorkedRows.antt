-- What one file says, and what two say, worked out. Pairs marked with a star are another program's.
use Rattle.std.proofs.Common.{◌≡◌, ℕ, List, [], ◌∷◌, ◌++◌, Some, None, Ok, Err, Result, false, refl, replicate, take}
use Rattle.std.specs.Prelude.{codes}
use Rattle.racf_profiles.specs.NewDatabase.{new_database}
use Rattle.database_image.specs.Description.{options, group, connection, user, profile, class, image_by}
use Rattle.database_image.specs.Forms.{spelled_at}
use Rattle.database_image.specs.Image.{image_of, first_pass, second_pass, rows_of}
use Rattle.checkpoint_disks.specs.declared.counting.Side.TheVariants.{First, Second}
use Rattle.checkpoint_disks.specs.declared.fault.CheckpointFault.{CheckpointFault}
use Rattle.checkpoint_disks.specs.declared.fault.CheckpointFault.TheVariants.{NotFormatted, Damaged}
use Rattle.checkpoint_disks.specs.Files.{magic, head_is_open, number_at, epoch_of, head_of, CheckpointRead, contents}
use Rattle.checkpoint_disks.specs.Counting.{which, said}
use Rattle.checkpoint_disks.specs.Compacting.{with_head, fields, new_body, new_file}

abbrev fails : CheckpointFault → Result CheckpointRead CheckpointFault
fails fault = Err fault

abbrev zeros : ℕ → List ℕ
zeros count = replicate count 0

-- a number of eight bytes, below 256
abbrev small : ℕ → List ℕ
small n = zeros 7 ++ n ∷ []

-- ---- heads
no_gate : head_is_open magic ≡ false
no_gate = refl

other_gate : head_is_open (with_head 49 (small 3)) ≡ false
other_gate = refl

epoch_three : epoch_of (with_head 0 (small 3)) ≡ 3
unfolding number_at epoch_of
epoch_three = refl

epoch_in_part : epoch_of (with_head 1 (take 7 (small 3))) ≡ 0
unfolding number_at epoch_of
epoch_in_part = refl

-- ---- which file counts
none_open : which (with_head 0 (small 2)) (with_head 49 (small 3)) ≡ None
unfolding number_at epoch_of
none_open = refl

greater : which (with_head 1 (small 2)) (with_head 1 (small 3)) ≡ Some Second
unfolding number_at epoch_of
greater = refl

greater_first : which (with_head 1 (small 4)) (with_head 1 (small 3)) ≡ Some First
unfolding number_at epoch_of
greater_first = refl

equal : which (with_head 1 (small 3)) (with_head 1 (small 3)) ≡ Some First
unfolding number_at epoch_of
equal = refl

greater_closed : which (with_head 1 (small 2)) (with_head 0 (small 3)) ≡ Some First
unfolding number_at epoch_of
greater_closed = refl

-- an open gate without an epoch (*)
no_epoch : which (with_head 1 (small 1)) (with_head 1 []) ≡ Some First
unfolding number_at epoch_of
no_epoch = refl

no_epoch_alone : which (with_head 0 (small 1)) (with_head 1 []) ≡ Some Second
unfolding number_at epoch_of
no_epoch_alone = refl

-- ---- faults
-- a second file without its first byte, and one that is empty (*)
short_magic : said (with_head 1 (small 1)) (codes "ACFDB01") ≡ fails NotFormatted
short_magic = refl

no_file : said (with_head 1 (small 1)) [] ≡ fails NotFormatted
no_file = refl

both_closed : said (with_head 0 (small 1)) (with_head 0 []) ≡ fails NotFormatted
unfolding number_at epoch_of
both_closed = refl

epoch_zero : said (with_head 0 []) (with_head 1 (small 0)) ≡ fails (Damaged 9)
unfolding contents head_of number_at epoch_of
epoch_zero = refl

-- 24 bytes, and 30 (*)
number_in_part : said (with_head 1 (small 1 ++ zeros 7)) (with_head 0 []) ≡ fails (Damaged 17)
unfolding contents head_of number_at epoch_of
number_in_part = refl

length_in_part : said (with_head 1 (small 1 ++ zeros 13)) (with_head 0 []) ≡ fails (Damaged 25)
unfolding contents head_of number_at epoch_of
length_in_part = refl

greatest_number : contents (with_head 1 (small 1 ++ 64 ∷ zeros 14 ++ 1 ∷ [])) ≡ fails (Damaged 25)
unfolding contents head_of number_at epoch_of
greatest_number = refl

number_above : contents (with_head 1 (small 1 ++ 64 ∷ zeros 6 ++ 1 ∷ zeros 8)) ≡ fails (Damaged 17)
unfolding contents head_of number_at epoch_of
number_above = refl

no_image : contents (with_head 1 (small 1 ++ small 0 ++ small 0)) ≡ fails (Damaged 33)
unfolding contents head_of number_at epoch_of spelled_at rows_of first_pass second_pass image_by options
no_image = refl

-- ---- whole files: a new database, at epoch 2, with this behind its image of 327 bytes
abbrev new_with : List ℕ → List ℕ
new_with behind = with_head 1 (small 2 ++ small 5 ++ zeros 6 ++ 1 ∷ 71 ∷ image_of new_database ++ behind)

-- a record of two bytes
abbrev ab : List ℕ
ab = 0 ∷ 0 ∷ 0 ∷ 2 ∷ codes "AB"

abbrev says : (start : ℕ) → List (List ℕ) → (gate : ℕ) → Result CheckpointRead CheckpointFault
says start records gate = Ok (record { epoch = 2; number = 5; rows = new_database; start = start; records = records; gate = gate })

no_record : contents (new_with (0 ∷ [])) ≡ says 360 [] 360
unfolding contents head_of number_at epoch_of spelled_at rows_of first_pass second_pass image_of image_by options group user connection class profile
no_record = refl

no_gate_behind : contents (new_with []) ≡ says 360 [] 360
unfolding contents head_of number_at epoch_of spelled_at rows_of first_pass second_pass image_of image_by options group user connection class profile
no_gate_behind = refl

one_record : contents (new_with (1 ∷ ab ++ 0 ∷ [])) ≡ says 360 (ab ∷ []) 367
unfolding contents head_of number_at epoch_of spelled_at rows_of first_pass second_pass image_of image_by options group user connection class profile
one_record = refl

record_in_part : contents (new_with (1 ∷ take 5 ab)) ≡ fails (Damaged 360)
unfolding contents head_of number_at epoch_of spelled_at rows_of first_pass second_pass image_of image_by options group user connection class profile
record_in_part = refl

-- the same of before there was the class CDT, whose image of 313 bytes is without it: it is read with the class, and its
-- records stand where they were
abbrev old_with : List ℕ → List ℕ
old_with behind = with_head 1 (small 2 ++ small 5 ++ zeros 6 ++ 1 ∷ 57 ∷ image_of (record new_database { classes = take 14 new_database.classes }) ++ behind)

old_image : contents (old_with (1 ∷ ab ++ 0 ∷ [])) ≡ says 346 (ab ∷ []) 353
unfolding contents head_of number_at epoch_of spelled_at rows_of first_pass second_pass image_of image_by options group user connection class profile
old_image = refl

written : new_file 2 5 new_database ≡ new_with (0 ∷ [])
unfolding new_body fields image_of image_by options group user connection class profile
written = refl
