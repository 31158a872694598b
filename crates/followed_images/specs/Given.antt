-- What a command makes of an image.
use Rattle.std.specs.Prelude.{◌≡◌, ℕ, ◌+◌, ◌-◌, ◌^◌, min, List, None, Some, codes, refl}
use Rattle.racf_profiles.specs.State.{restart, changed_state}
use Rattle.racf_profiles.specs.NewDatabase.{new_database}
use Rattle.command_fields.specs.declared.issuer.Issuer.{Issuer}
use Rattle.command_fields.specs.declared.fields.CommandFields.{CommandFields}
use Rattle.command_parser.specs.Canonical.{Spells, fault}
use Rattle.command_rules.specs.Edits.{edits_of}
use Rattle.command_rules.specs.Conflicts.{conflict_of}
use Rattle.raclist_image.specs.Imaged.{Imaged}
use Rattle.followed_images.specs.declared.followed.Outcome.{Outcome}
use Rattle.followed_images.specs.declared.followed.Outcome.TheVariants.{Accepted, Faulty, Refused}

-- Each command is given by IBMUSER, in the group SYS1, whose name is spelled as that of a group.
abbrev pub giver : Issuer
giver = record { id = codes "IBMUSER"; group = codes "SYS1"; group_spelled = refl }

-- The image of a new database.
abbrev pub first_image : Imaged
first_image = record { state = restart new_database; generation = 0 }

-- The image behind a command that is accepted. Commands are counted up to the last number of 64 bits.
abbrev pub image_behind : CommandFields → Imaged → Imaged
image_behind command image = record {
  state = changed_state (edits_of giver command image.state.rows) image.state;
  generation = min (image.generation + 1) (2 ^ 64 - 1);
}

-- What became of a text that was given, and the image then. An accepted command conflicts with nothing, and makes the
-- image behind it; what isn't accepted changes nothing.
abbrev pub Becomes : List ℕ → Imaged → Outcome → Imaged → Type 0
Becomes text old Accepted new = (command : CommandFields) × Spells giver.id text command × (conflict_of giver command old.state.rows ≡ None) × (new ≡ image_behind command old)
Becomes text old (Faulty first) new = (fault giver.id text ≡ Some first) × (new ≡ old)
Becomes text old (Refused conflict) new = (command : CommandFields) × Spells giver.id text command × (conflict_of giver command old.state.rows ≡ Some conflict) × (new ≡ old)
