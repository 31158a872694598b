-- Databases made of images, worked out: a new one, one with a fault in a field, and one with a fault between two.
use Rattle.std.proofs.Common.{◌≡◌, ℕ, [], ◌∷◌, None, Ok, Err, refl, sym, ◌∙◌, arith}
use Rattle.std.specs.Prelude.{codes}
use Rattle.racf_profiles.specs.declared.rows.Rows.{Rows}
use Rattle.racf_profiles.specs.NewDatabase.{new_database, ibmuser}
use Rattle.racf_database.specs.Contents.{Contents}
use Rattle.database_image.specs.Description.{options, group, connection, user, profile, class, image_by}
use Rattle.database_image.specs.Forms.{spelled_at}
use Rattle.database_image.specs.Image.{image_of, first_pass, second_pass, rows_of}
use Rattle.stored_database.specs.declared.faults.RowsFault.TheVariants.{BadRow}
use Rattle.stored_database.specs.Making.{Makes}

-- the database of the new rows, and nothing prepared
abbrev new : Contents
new = record { rows = new_database; prepared = None }

new-made : Makes (Ok new) (rows_of (image_of new_database))
unfolding image_of spelled_at rows_of first_pass second_pass image_by options group user connection class profile
new-made = refl

-- the first byte says an option that there isn't
no-option : Makes (Err (BadRow 0)) (rows_of (8 ∷ 0 ∷ 0 ∷ []))
unfolding spelled_at rows_of first_pass second_pass image_by options
no-option = refl

-- no group has the name of the default group, which stands at byte 43
abbrev other_default : Rows
other_default = record new_database { users = record ibmuser { default_group = codes "SYS2" } ∷ [] }

no-group : Makes (Err (BadRow 43)) (rows_of (image_of other_default))
unfolding image_of spelled_at rows_of first_pass second_pass image_by options group user connection class profile
no-group = refl

-- and no byte beside it is told
apart : (m n : ℕ) → Makes (Err (BadRow m)) (Err n) → n ≡ m
apart m n told = cc

not-beside : Makes (Err (BadRow 42)) (rows_of (image_of other_default)) → ⊥
not-beside told =
    let e : 43 ≡ 42 = apart 42 43 (sym no-group ∙ told) in
    absurd (omega (arith, e))
