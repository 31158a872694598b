-- What commands by several issuers are answered, computed on the definitions.
use Rattle.std.proofs.Common.{◌≡◌, ℕ, ◌-◌, ◌^◌, List, [], ◌∷◌, ◌++◌, Option, Some, None, Result, Ok, Err, codes, refl}
use Rattle.command_grammar.specs.Canon.{canon}
use Rattle.command_fields.specs.ProfileNames.{form_in}
use Rattle.command_grammar.specs.Reading.{parsed}
use Rattle.command_parser.specs.Fields.{front, behind}
use Rattle.command_parser.specs.CommandOf.{command_of}
use Rattle.command_parser.specs.Canonical.{canonical}
use Rattle.command_words.specs.Tokens.{tokens}
use Rattle.command_rules.specs.Conflicts.{is_root, has_subgroup, has_connected, has_profile, meets, cycle, owner_not_superior, default_group, last_special, users_full, groups_full, connections_full, user_full, add_user_conflicts, alt_user_conflicts, del_user_conflicts, add_group_conflicts, alt_group_conflicts, del_group_conflicts, connect_conflicts, remove_conflicts}
use Rattle.command_rules.specs.Required.{no_user, no_group, no_owner, no_named_group, no_class, name_taken, not_connected, default_not_connected, unknown_level, unknown_category, never_category, unknown_label}
use Rattle.command_authority.specs.Requirements.{add_user_requirements, alt_user_requirements, add_group_requirements, alt_group_requirements, del_group_requirements, connect_requirements, remove_requirements}
use Rattle.command_authority.specs.Authority.{is_met, need}
use Rattle.desk_rules.specs.declared.refusal.Refusal.{Refusal}
use Rattle.journal_records.specs.declared.record.CommandRecord.{CommandRecord}
use Rattle.journal_records.specs.Spelling.{spelled}
use Rattle.desk_rules.specs.Outcome.{outcome_in, outcome}
use Rattle.desk_rules.specs.Position.{Position, first_position, position_after}
use Rattle.desk_rules.specs.Words.{refusal_words}

-- A new database: its journal begins behind an image of 327 bytes, which the rows of recovery compute.
abbrev pub at_start : Position
at_start = record { image = first_position.image; gate = 360 }

-- A command, who gives it, and the group that is named for him if one is.
record Given : Type 0 where
  issuer : List ℕ
  group : Option (List ℕ)
  text : List ℕ

abbrev words : Result CommandRecord Refusal → List ℕ
words (Ok issued) = codes "ACCEPTED"
words (Err why) = refusal_words why

abbrev told : Position → List Given → List (List ℕ)
told position [] = []
told position (one ∷ others) = let is = outcome position one.issuer one.group one.text in words is ∷ told (position_after position is) others

abbrev by : List ℕ → List ℕ → Given
by issuer text = record { issuer = issuer; group = None; text = text }

abbrev prepared : List ℕ → Given
prepared text = by (codes "IBMUSER") text

abbrev in_group : List ℕ → List ℕ → List ℕ → Given
in_group issuer group text = record { issuer = issuer; group = Some group; text = text }

-- Group-SPECIAL in D1 reaches SUE, whom D3 owns, until a user owns D2 on the way.
scope_rows : told at_start (
    prepared (codes "AG D1 OWNER(SYS1)")
    ∷ prepared (codes "AG D2 SUPGROUP(D1) OWNER(D1)")
    ∷ prepared (codes "AG D3 SUPGROUP(D2) OWNER(D2)")
    ∷ prepared (codes "AU ADM DFLTGRP(D1)")
    ∷ prepared (codes "CO ADM GROUP(D1) SPECIAL")
    ∷ prepared (codes "AU SUE DFLTGRP(D3) OWNER(D3)")
    ∷ by (codes "ADM") (codes "ALU SUE NAME('Sue')")
    ∷ prepared (codes "ALG D2 OWNER(IBMUSER)")
    ∷ by (codes "ADM") (codes "ALU SUE REVOKE")
    ∷ [])
    ≡ codes "ACCEPTED" ∷ codes "ACCEPTED" ∷ codes "ACCEPTED" ∷ codes "ACCEPTED" ∷ codes "ACCEPTED" ∷ codes "ACCEPTED" ∷ codes "ACCEPTED" ∷ codes "ACCEPTED" ∷ codes "NEED SPECIAL OWNER GROUPSPECIAL" ∷ []
unfolding canon form_in parsed front behind command_of tokens is_root has_subgroup has_connected has_profile meets cycle owner_not_superior default_group last_special users_full groups_full connections_full user_full add_user_conflicts alt_user_conflicts del_user_conflicts add_group_conflicts alt_group_conflicts del_group_conflicts connect_conflicts remove_conflicts no_user no_group no_owner no_named_group no_class name_taken not_connected default_not_connected unknown_level unknown_category never_category unknown_label add_user_requirements alt_user_requirements add_group_requirements alt_group_requirements del_group_requirements connect_requirements remove_requirements is_met need spelled canonical outcome_in
scope_rows = refl

-- An issuer is judged as he stands at the command.
issuer_rows : told at_start (
    by (codes "ANN") (codes "AG X")
    ∷ by (codes "ANN") (codes "AX")
    ∷ prepared (codes "AG G1")
    ∷ prepared (codes "AG G2")
    ∷ prepared (codes "AU ANN DFLTGRP(G1) AUTHORITY(JOIN)")
    ∷ in_group (codes "ANN") (codes "G2") (codes "AG X")
    ∷ prepared (codes "CO ANN GROUP(G2)")
    ∷ prepared (codes "ALU ANN DFLTGRP(G2)")
    ∷ by (codes "ANN") (codes "AG X")
    ∷ in_group (codes "ANN") (codes "G1") (codes "AG X")
    ∷ prepared (codes "CO ANN GROUP(G2) REVOKE")
    ∷ by (codes "ANN") (codes "AG Y")
    ∷ prepared (codes "ALU ANN REVOKE")
    ∷ in_group (codes "ANN") (codes "G1") (codes "AG Y")
    ∷ [])
    ≡ codes "ISSUERUNKNOWN ANN" ∷ codes "SYNTAX UNKNOWNCOMMAND" ∷ codes "ACCEPTED" ∷ codes "ACCEPTED" ∷ codes "ACCEPTED" ∷ codes "ISSUERNOTCONNECTED G2"
    ∷ codes "ACCEPTED" ∷ codes "ACCEPTED" ∷ codes "NEED SPECIAL JOIN(G2) OWNER GROUPSPECIAL" ∷ codes "ACCEPTED" ∷ codes "ACCEPTED" ∷ codes "ISSUERNOTCONNECTED G2" ∷ codes "ACCEPTED" ∷ codes "ISSUERREVOKED ANN" ∷ []
unfolding canon form_in parsed front behind command_of tokens is_root has_subgroup has_connected has_profile meets cycle owner_not_superior default_group last_special users_full groups_full connections_full user_full add_user_conflicts alt_user_conflicts del_user_conflicts add_group_conflicts alt_group_conflicts del_group_conflicts connect_conflicts remove_conflicts no_user no_group no_owner no_named_group no_class name_taken not_connected default_not_connected unknown_level unknown_category never_category unknown_label add_user_requirements alt_user_requirements add_group_requirements alt_group_requirements del_group_requirements connect_requirements remove_requirements is_met need spelled canonical outcome_in
issuer_rows = refl

-- A position over a new database, with that number, and with the gate there.
abbrev standing_at : ℕ → ℕ → Position
standing_at number gate = record { image = record { state = first_position.image.state; generation = number }; gate = gate }

-- The needs are told behind the conflicts of names and before the others, then the journal's room, and the numbers' end
-- behind all.
order_rows : told (standing_at (2 ^ 62) (2 ^ 28)) (
    prepared (codes "AU IBMUSER")
    ∷ prepared (codes "DG SYS1")
    ∷ prepared (codes "AU JOE SECLEVEL(TOP)")
    ∷ prepared (codes "AU JOE")
    ∷ [])
    ≡ codes "EXISTS IBMUSER" ∷ codes "ROOT" ∷ codes "UNKNOWNNAME TOP" ∷ codes "JOURNALFULL" ∷ []
unfolding canon form_in parsed front behind command_of tokens is_root has_subgroup has_connected has_profile meets cycle owner_not_superior default_group last_special users_full groups_full connections_full user_full add_user_conflicts alt_user_conflicts del_user_conflicts add_group_conflicts alt_group_conflicts del_group_conflicts connect_conflicts remove_conflicts no_user no_group no_owner no_named_group no_class name_taken not_connected default_not_connected unknown_level unknown_category never_category unknown_label add_user_requirements alt_user_requirements add_group_requirements alt_group_requirements del_group_requirements connect_requirements remove_requirements is_met need spelled canonical outcome_in
order_rows = refl

-- The journal has room for the record of 31 bytes where its gate and one more byte fit, and there is a last number.
room_rows : told (standing_at (2 ^ 62 - 1) (2 ^ 28 - 32)) (prepared (codes "AU JOE") ∷ [])
    ++ told (standing_at (2 ^ 62) (2 ^ 28 - 33)) (prepared (codes "AU JOE") ∷ [])
    ++ told (standing_at (2 ^ 62 - 1) (2 ^ 28 - 33)) (prepared (codes "AU JOE") ∷ [])
    ≡ codes "JOURNALFULL" ∷ codes "NUMBERSPENT" ∷ codes "ACCEPTED" ∷ []
unfolding canon form_in parsed front behind command_of tokens is_root has_subgroup has_connected has_profile meets cycle owner_not_superior default_group last_special users_full groups_full connections_full user_full add_user_conflicts alt_user_conflicts del_user_conflicts add_group_conflicts alt_group_conflicts del_group_conflicts connect_conflicts remove_conflicts no_user no_group no_owner no_named_group no_class name_taken not_connected default_not_connected unknown_level unknown_category never_category unknown_label add_user_requirements alt_user_requirements add_group_requirements alt_group_requirements del_group_requirements connect_requirements remove_requirements is_met need spelled canonical outcome_in
room_rows = refl

need_rows : told at_start (
    prepared (codes "AU ANN")
    ∷ by (codes "ANN") (codes "AU IBMUSER")
    ∷ by (codes "ANN") (codes "DG SYS1")
    ∷ by (codes "ANN") (codes "RE IBMUSER GROUP(SYS1)")
    ∷ by (codes "ANN") (codes "AU CAT")
    ∷ [])
    ≡ codes "ACCEPTED" ∷ codes "EXISTS IBMUSER" ∷ codes "NEED SPECIAL OWNER GROUPSPECIAL" ∷ codes "NEED SPECIAL CONNECT(SYS1) OWNER GROUPSPECIAL"
    ∷ codes "NEED SPECIAL CLAUTH(USER)+JOIN(SYS1) CLAUTH(USER)+OWNER CLAUTH(USER)+GROUPSPECIAL" ∷ []
unfolding canon form_in parsed front behind command_of tokens is_root has_subgroup has_connected has_profile meets cycle owner_not_superior default_group last_special users_full groups_full connections_full user_full add_user_conflicts alt_user_conflicts del_user_conflicts add_group_conflicts alt_group_conflicts del_group_conflicts connect_conflicts remove_conflicts no_user no_group no_owner no_named_group no_class name_taken not_connected default_not_connected unknown_level unknown_category never_category unknown_label add_user_requirements alt_user_requirements add_group_requirements alt_group_requirements del_group_requirements connect_requirements remove_requirements is_met need spelled canonical outcome_in
need_rows = refl
