-- A checkpoint as it will be written.
use Rattle.std.specs.Prelude.{ℕ, ◌+◌, ◌≤◌, ◌≡◌, ◌^◌, [], ◌∷◌, ◌++◌, length}
use Rattle.racf_profiles.specs.declared.rows.Rows.{Rows}
use Rattle.database_image.specs.Image.{image_of, IsStored}
use Rattle.checkpoint_disks.specs.declared.compacting.NewCheckpoint.{NewCheckpoint}
use Rattle.checkpoint_disks.specs.Compacting.{fields}

-- These are the bytes from place 9 on in the file of a new checkpoint, and its rows may be stored.
pub record IsMade (epoch number : ℕ) (rows : Rows) (new : NewCheckpoint) : Type 0 where
  pub fields_are : new.fields.items ≡ fields epoch number (length (image_of rows))
  pub field_size : length new.fields.items ≡ 24
  pub image_is : new.image.items ≡ image_of rows ++ 0 ∷ []
  pub stored : IsStored rows
  pub size : 34 + length (image_of rows) ≤ 2 ^ 28
