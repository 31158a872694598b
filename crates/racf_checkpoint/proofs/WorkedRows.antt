-- What two files say, worked out.
use Rattle.std.proofs.Common.{◌≡◌, ℕ, List, [], ◌∷◌, ◌++◌, take, Ok, Err, Result, refl}
use Rattle.std.specs.Prelude.{codes}
use Rattle.racf_profiles.specs.NewDatabase.{new_database}
use Rattle.database_image.specs.Description.{image_by, options, group, user, connection, class, profile}
use Rattle.database_image.specs.Image.{image_of, rows_of, first_pass, second_pass}
use Rattle.database_image.specs.Forms.{spelled_at}
use Rattle.checkpoint_disks.specs.Files.{number_at, epoch_of, head_of, CheckpointRead}
use Rattle.checkpoint_disks.specs.Files.{contents as file_contents}
use Rattle.checkpoint_disks.specs.Compacting.{with_head, fields, new_body, new_file}
use Rattle.racf_checkpoint.specs.declared.fault.StoreFault.{StoreFault}
use Rattle.racf_checkpoint.specs.declared.fault.StoreFault.TheVariants.{NotFormatted, Damaged}
use Rattle.racf_checkpoint.specs.Contents.{contents}

-- a new database has an image of 327 bytes, and so its journal begins at place 360
abbrev says : (epoch number : ℕ) → List (List ℕ) → ℕ → Result CheckpointRead StoreFault
says epoch number records gate = Ok (record { epoch = epoch; number = number; rows = new_database; start = 360; records = records; gate = gate })

abbrev fails : StoreFault → Result CheckpointRead StoreFault
fails fault = Err fault

-- a record of two bytes
abbrev ab : List ℕ
ab = 0 ∷ 0 ∷ 0 ∷ 2 ∷ codes "AB"

-- a file of that epoch and number, with this in the place of its last gate
abbrev file : (epoch number : ℕ) → List ℕ → List ℕ
file epoch number behind = take 360 (new_file epoch number new_database) ++ behind

new_store : contents (new_file 1 0 new_database) (with_head 0 []) ≡ says 1 0 [] 360
unfolding file_contents head_of number_at epoch_of spelled_at rows_of first_pass second_pass new_body fields image_of image_by options group user connection class profile
new_store = refl

one_record : contents (file 1 0 (1 ∷ ab ++ 0 ∷ [])) (with_head 0 []) ≡ says 1 0 (ab ∷ []) 367
unfolding file_contents head_of number_at epoch_of spelled_at rows_of first_pass second_pass new_body fields image_of image_by options group user connection class profile
one_record = refl

-- behind a compaction: the records of the first disk are in the rows of the second
compacted : contents (file 1 0 (1 ∷ ab ++ 0 ∷ [])) (new_file 2 1 new_database) ≡ says 2 1 [] 360
unfolding file_contents head_of number_at epoch_of spelled_at rows_of first_pass second_pass new_body fields image_of image_by options group user connection class profile
compacted = refl

-- damage on the disk that doesn't count is none
damaged_idle : contents (file 1 0 (1 ∷ take 5 ab)) (new_file 2 1 new_database) ≡ says 2 1 [] 360
unfolding file_contents head_of number_at epoch_of spelled_at rows_of first_pass second_pass new_body fields image_of image_by options group user connection class profile
damaged_idle = refl

damaged_live : contents (file 3 0 (1 ∷ take 5 ab)) (new_file 2 1 new_database) ≡ fails (Damaged 360)
unfolding file_contents head_of number_at epoch_of spelled_at rows_of first_pass second_pass new_body fields image_of image_by options group user connection class profile
damaged_live = refl

neither : contents (with_head 0 []) (with_head 0 []) ≡ fails NotFormatted
unfolding number_at epoch_of
neither = refl
