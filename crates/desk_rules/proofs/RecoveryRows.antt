-- What the files of disks stand for, computed on the definitions.
use Rattle.std.proofs.Common.{◌≡◌, ℕ, List, [], ◌∷◌, ◌++◌, take, None, Result, Ok, Err, codes, refl}
use Rattle.racf_profiles.specs.NewDatabase.{new_database}
use Rattle.database_image.specs.Description.{image_by, options, group, user, connection, class, profile}
use Rattle.database_image.specs.Image.{image_of, rows_of, first_pass, second_pass}
use Rattle.database_image.specs.Forms.{spelled_at}
use Rattle.checkpoint_disks.specs.Files.{number_at, epoch_of, head_of}
use Rattle.checkpoint_disks.specs.Files.{contents as file_contents}
use Rattle.checkpoint_disks.specs.Compacting.{with_head, fields, new_body, new_file}
use Rattle.command_grammar.specs.Canon.{canon}
use Rattle.command_fields.specs.ProfileNames.{form_in}
use Rattle.command_grammar.specs.Reading.{parsed}
use Rattle.command_parser.specs.Fields.{front, behind}
use Rattle.command_parser.specs.CommandOf.{command_of}
use Rattle.command_parser.specs.Canonical.{canonical}
use Rattle.command_words.specs.Tokens.{tokens}
use Rattle.command_rules.specs.Conflicts.{is_root, has_subgroup, has_connected, has_profile, meets, cycle, owner_not_superior, default_group, last_special, users_full, groups_full, connections_full, user_full, add_user_conflicts, alt_user_conflicts, del_user_conflicts, add_group_conflicts, alt_group_conflicts, del_group_conflicts, connect_conflicts, remove_conflicts}
use Rattle.command_rules.specs.Required.{no_user, no_group, no_owner, no_named_group, no_class, name_taken, not_connected, default_not_connected, unknown_level, unknown_category, never_category, unknown_label}
use Rattle.command_authority.specs.Requirements.{add_user_requirements, alt_user_requirements, add_group_requirements, alt_group_requirements, del_group_requirements, connect_requirements, remove_requirements}
use Rattle.command_authority.specs.Authority.{is_met, need}
use Rattle.journal_records.specs.Spelling.{spelled}
use Rattle.journal_records.specs.Reading.{record_of}
use Rattle.racf_checkpoint.specs.declared.fault.StoreFault.{StoreFault}
use Rattle.racf_checkpoint.specs.declared.fault.StoreFault.TheVariants.{NotFormatted, Damaged}
use Rattle.desk_rules.specs.Outcome.{outcome_in, outcome}
use Rattle.desk_rules.specs.Position.{Position, first_position, position_after}
use Rattle.desk_rules.proofs.OutcomeRows.{at_start}
use Rattle.desk_rules.specs.Recovery.{standing, StandsFor}

-- The number and the gate of what two files stand for, or why they stand for nothing.
abbrev counted : Result Position StoreFault → Result (ℕ × ℕ) StoreFault
counted (Ok position) = Ok (position.image.generation, position.gate)
counted (Err why) = Err why

abbrev stands_at : ℕ → ℕ → Result (ℕ × ℕ) StoreFault
stands_at number gate = Ok (number, gate)

abbrev fails : StoreFault → Result (ℕ × ℕ) StoreFault
fails why = Err why

-- A record of IBMUSER in SYS1, whose length stands in one byte.
abbrev by_ibmuser : (length : ℕ) → (text : List ℕ) → List ℕ
by_ibmuser length text = 0 ∷ 0 ∷ 0 ∷ length ∷ (codes "IBMUSER SYS1    " ++ text)

abbrev add_joe : List ℕ
add_joe = by_ibmuser 27 (codes "ADDUSER JOE")

-- A checkpoint of a new database, whose image has 327 bytes, and so its journal begins at place 360: it has this epoch
-- and this number, and this behind the image.
abbrev file : (epoch number : ℕ) → List ℕ → List ℕ
file epoch number behind = take 360 (new_file epoch number new_database) ++ behind

-- A file without a checkpoint, whatever lies behind its closed head gate.
abbrev bare : List ℕ → List ℕ
bare rest = with_head 0 rest

-- ---- whole journals

-- where a new database stands
starts : first_position ≡ at_start
unfolding image_of image_by options group user connection class profile
starts = refl

new_journal : (rest : List ℕ) → StandsFor first_position (new_file 1 0 new_database) (bare rest)
unfolding number_at epoch_of head_of file_contents spelled_at rows_of first_pass second_pass new_body fields image_of image_by options group user connection class profile
new_journal rest = refl

one_command : (rest : List ℕ) → StandsFor (position_after first_position (outcome first_position (codes "IBMUSER") None (codes "AU JOE"))) (file 1 0 (1 ∷ add_joe ++ 0 ∷ [])) (bare rest)
unfolding canon form_in parsed front behind command_of tokens is_root has_subgroup has_connected has_profile meets cycle owner_not_superior default_group last_special users_full groups_full connections_full user_full add_user_conflicts alt_user_conflicts del_user_conflicts add_group_conflicts alt_group_conflicts del_group_conflicts connect_conflicts remove_conflicts no_user no_group no_owner no_named_group no_class name_taken not_connected default_not_connected unknown_level unknown_category never_category unknown_label add_user_requirements alt_user_requirements add_group_requirements alt_group_requirements del_group_requirements connect_requirements remove_requirements is_met need record_of spelled canonical outcome_in number_at epoch_of head_of file_contents spelled_at rows_of first_pass second_pass new_body fields image_of image_by options group user connection class profile
one_command rest = refl

one_counted : (rest : List ℕ) → counted (standing (file 1 0 (1 ∷ add_joe ++ 0 ∷ [])) (bare rest)) ≡ stands_at 1 392
unfolding canon form_in parsed front behind command_of tokens is_root has_subgroup has_connected has_profile meets cycle owner_not_superior default_group last_special users_full groups_full connections_full user_full add_user_conflicts alt_user_conflicts del_user_conflicts add_group_conflicts alt_group_conflicts del_group_conflicts connect_conflicts remove_conflicts no_user no_group no_owner no_named_group no_class name_taken not_connected default_not_connected unknown_level unknown_category never_category unknown_label add_user_requirements alt_user_requirements add_group_requirements alt_group_requirements del_group_requirements connect_requirements remove_requirements is_met need record_of spelled canonical outcome_in number_at epoch_of head_of file_contents spelled_at rows_of first_pass second_pass new_body fields image_of image_by options group user connection class profile
one_counted rest = refl

-- A gate with another byte is closed, whatever stands behind it.
closed_gate : (rest : List ℕ) → counted (standing (file 1 0 (37 ∷ add_joe ++ 0 ∷ [])) (bare rest)) ≡ stands_at 0 360
unfolding number_at epoch_of head_of file_contents spelled_at rows_of first_pass second_pass new_body fields image_of image_by options group user connection class profile
closed_gate rest = refl

-- ---- checkpoints

-- The records behind a checkpoint are counted from its number on.
from_checkpoint : (rest : List ℕ) → counted (standing (file 3 41 (1 ∷ add_joe ++ 0 ∷ [])) (bare rest)) ≡ stands_at 42 392
unfolding canon form_in parsed front behind command_of tokens is_root has_subgroup has_connected has_profile meets cycle owner_not_superior default_group last_special users_full groups_full connections_full user_full add_user_conflicts alt_user_conflicts del_user_conflicts add_group_conflicts alt_group_conflicts del_group_conflicts connect_conflicts remove_conflicts no_user no_group no_owner no_named_group no_class name_taken not_connected default_not_connected unknown_level unknown_category never_category unknown_label add_user_requirements alt_user_requirements add_group_requirements alt_group_requirements del_group_requirements connect_requirements remove_requirements is_met need record_of spelled canonical outcome_in number_at epoch_of head_of file_contents spelled_at rows_of first_pass second_pass new_body fields image_of image_by options group user connection class profile
from_checkpoint rest = refl

-- The checkpoint of the greater epoch counts, without the records behind the other.
greater_epoch : counted (standing (file 3 41 (1 ∷ add_joe ++ 0 ∷ [])) (new_file 4 42 new_database)) ≡ stands_at 42 360
unfolding canon form_in parsed front behind command_of tokens is_root has_subgroup has_connected has_profile meets cycle owner_not_superior default_group last_special users_full groups_full connections_full user_full add_user_conflicts alt_user_conflicts del_user_conflicts add_group_conflicts alt_group_conflicts del_group_conflicts connect_conflicts remove_conflicts no_user no_group no_owner no_named_group no_class name_taken not_connected default_not_connected unknown_level unknown_category never_category unknown_label add_user_requirements alt_user_requirements add_group_requirements alt_group_requirements del_group_requirements connect_requirements remove_requirements is_met need record_of spelled canonical outcome_in number_at epoch_of head_of file_contents spelled_at rows_of first_pass second_pass new_body fields image_of image_by options group user connection class profile
greater_epoch = refl

-- ---- faults

-- The second of the same two commands is refused.
refused_again : (rest : List ℕ) → counted (standing (file 1 0 (1 ∷ add_joe ++ 1 ∷ add_joe ++ 0 ∷ [])) (bare rest)) ≡ fails (Damaged 392)
unfolding canon form_in parsed front behind command_of tokens is_root has_subgroup has_connected has_profile meets cycle owner_not_superior default_group last_special users_full groups_full connections_full user_full add_user_conflicts alt_user_conflicts del_user_conflicts add_group_conflicts alt_group_conflicts del_group_conflicts connect_conflicts remove_conflicts no_user no_group no_owner no_named_group no_class name_taken not_connected default_not_connected unknown_level unknown_category never_category unknown_label add_user_requirements alt_user_requirements add_group_requirements alt_group_requirements del_group_requirements connect_requirements remove_requirements is_met need record_of spelled canonical outcome_in number_at epoch_of head_of file_contents spelled_at rows_of first_pass second_pass new_body fields image_of image_by options group user connection class profile
refused_again rest = refl

-- A text that isn't canonical is that of no record.
short_name : (rest : List ℕ) → counted (standing (file 1 0 (1 ∷ by_ibmuser 22 (codes "AU JOE") ++ 0 ∷ [])) (bare rest)) ≡ fails (Damaged 360)
unfolding canon form_in parsed front behind command_of tokens is_root has_subgroup has_connected has_profile meets cycle owner_not_superior default_group last_special users_full groups_full connections_full user_full add_user_conflicts alt_user_conflicts del_user_conflicts add_group_conflicts alt_group_conflicts del_group_conflicts connect_conflicts remove_conflicts no_user no_group no_owner no_named_group no_class name_taken not_connected default_not_connected unknown_level unknown_category never_category unknown_label add_user_requirements alt_user_requirements add_group_requirements alt_group_requirements del_group_requirements connect_requirements remove_requirements is_met need record_of spelled canonical outcome_in number_at epoch_of head_of file_contents spelled_at rows_of first_pass second_pass new_body fields image_of image_by options group user connection class profile
short_name rest = refl

not_formatted : (rest other : List ℕ) → counted (standing (0 ∷ codes "ACFDB01" ++ rest) (bare other)) ≡ fails NotFormatted
unfolding number_at epoch_of
not_formatted rest other = refl

no_checkpoint : (rest other : List ℕ) → counted (standing (bare rest) (bare other)) ≡ fails NotFormatted
unfolding number_at epoch_of
no_checkpoint rest other = refl
