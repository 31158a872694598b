-- Worked rows, computed on the definitions.
use Rattle.std.proofs.Common.{◌≡◌, ℕ, List, [], ◌++◌, refl}
use Rattle.std.specs.Prelude.{Option, None, Some, codes}
use Rattle.std.specs.Fmt.{digits}
use Rattle.statements.specs.declared.status.Status.{Status}
use Rattle.statements.specs.declared.status.Status.TheVariants.{Done, Refusals, DiskFault}
use Rattle.command_grammar.specs.Canon.{canon}
use Rattle.command_fields.specs.ProfileNames.{form_in}
use Rattle.command_grammar.specs.Reading.{parsed}
use Rattle.command_parser.specs.Fields.{front, behind}
use Rattle.command_parser.specs.Canonical.{canonical}
use Rattle.command_parser.specs.CommandOf.{command_of}
use Rattle.command_words.specs.Tokens.{tokens}
use Rattle.command_rules.specs.Conflicts.{is_root, has_subgroup, has_connected, has_profile, meets, cycle, owner_not_superior, default_group, last_special, users_full, groups_full, connections_full, user_full, add_user_conflicts, alt_user_conflicts, del_user_conflicts, add_group_conflicts, alt_group_conflicts, del_group_conflicts, connect_conflicts, remove_conflicts}
use Rattle.command_rules.specs.ProfileConflicts.{no_first_qualifier, no_permitted, no_such_class, no_resource_class, no_global_class, no_profile, profile_taken, not_generic, name_not_allowed, class_in_use, class_profiles_full, profiles_full, standard_full, conditional_full, entries_full, members_full, no_resource_profile, add_sd_requirements, add_sd_limits, r_define_requirements, r_define_limits, categories_full, alt_sd_conflicts, del_sd_conflicts, r_alter_conflicts, r_delete_conflicts, permit_conflicts}
use Rattle.command_rules.specs.OptionConflicts.{absent_class, class_without_generic, unlisted_class, never_listed_class, always_active_class, set_ropts_conflicts}
use Rattle.command_rules.specs.Required.{no_user, no_group, no_owner, no_named_group, no_class, name_taken, not_connected, default_not_connected, unknown_level, unknown_category, never_category, unknown_label}
use Rattle.command_authority.specs.Requirements.{add_user_requirements, alt_user_requirements, del_user_requirements, add_group_requirements, alt_group_requirements, del_group_requirements, connect_requirements, remove_requirements, add_sd_requirements as add_sd_needs, r_define_requirements as r_define_needs, alt_sd_requirements, del_sd_requirements, r_alter_requirements, r_delete_requirements, permit_requirements, set_ropts_requirements}
use Rattle.command_authority.specs.Authority.{is_met, need}
use Rattle.database_image.specs.Description.{image_by, options, group, user, connection, class}
use Rattle.database_image.specs.Image.{image_of}
use Rattle.desk_rules.specs.Outcome.{outcome_in}
use Rattle.desk_rules.specs.Position.{first_position}
use Rattle.journal_records.specs.Spelling.{spelled}
use Rattle.statements.specs.Statements.{request_of, is_request}
use Rattle.statements.specs.Replies.{reply_line}
use Rattle.racf_stream.specs.Script.{script_output, script_status}
use Rattle.statements.specs.Inputs.{statements_of}
use Rattle.statements.specs.declared.issuer.Issuing.{Issuing}
use Rattle.statements.specs.declared.issuer.Issuing.TheVariants.{Free, Fixed}
use Rattle.racf_stream.specs.Stream.{new_stream, request, command, step, text}
use Rattle.access_levels.specs.Number.{as_number}
use Rattle.command_words.specs.LineWords.{words_at}
use Rattle.request_files.specs.Grammar.{next, deleted, number_after, asked_by, verified_by, requested, read}
use Rattle.request_files.specs.IssuerLines.{issuer_by, issuer_of_line}
use Rattle.global_table.specs.Grants.{granted}
use Rattle.audit_records.specs.Logged.{logged}
use Rattle.audit_records.specs.Line.{audit_line}
use Rattle.request_files.specs.Answers.{answer_line}
use Rattle.request_files.specs.Worked.{audited}
use Rattle.acee.specs.Verify.{acee_of}
use Rattle.decision.specs.Classification.{classified}
use Rattle.decision.specs.Table.{decided, fast_decided}
use Rattle.decision.specs.Verify.{verified}

-- From a new database on the stream prints this, and ends so, where its commands are given so, and a disk fails the one
-- that is accepted behind so many, or none fails.
record PrintsGiven (fault : Option ℕ) (issuing : Issuing) (input output : List ℕ) (status : Status) : Type 0 where
  prints : script_output fault issuing first_position input ≡ output
  ends : script_status fault issuing first_position input ≡ status

abbrev PrintsFailing : (fault : Option ℕ) → (input output : List ℕ) → (status : Status) → Type 0
PrintsFailing fault input output status = PrintsGiven fault Free input output status

abbrev Prints : (input output : List ℕ) → (status : Status) → Type 0
Prints input output status = PrintsGiven None Free input output status

-- A profile, an ACEE, and what may be answered of them.
first : Prints
    (codes "SETR CLASSACT(FACILITY)\nRDEFINE FACILITY BPX.X UACC(READ)\nVERIFY A IBMUSER\nAUTH A FACILITY BPX.X READ\n"
    ++ codes "AUTH A FACILITY BPX.X UPDATE\nAUTH A FACILITY BPX.Y READ\nRDEFINE FACILITY BPX.X UACC(NONE)\n"
    ++ codes "AUTH B FACILITY BPX.X READ\nADDUSER JOE\n")
    (codes "1 ACCEPTED\n2 ACCEPTED\n2 0 VERIFIED\n2 0 UACC BPX.X READ\n2 8 INSUFFICIENT BPX.X READ\n"
    ++ codes "AUDIT FAILURE IBMUSER FACILITY BPX.X UPDATE\n2 4 NOPROFILE\n"
    ++ codes "2 REFUSED EXISTS BPX.X\n2 REFUSED NOACEE B\n3 ACCEPTED\n")
    Refusals
unfolding digits canon form_in parsed front behind command_of tokens is_root has_subgroup has_connected has_profile meets cycle owner_not_superior default_group last_special users_full groups_full connections_full user_full add_user_conflicts alt_user_conflicts del_user_conflicts add_group_conflicts alt_group_conflicts del_group_conflicts connect_conflicts remove_conflicts no_first_qualifier no_permitted no_such_class no_resource_class no_global_class no_profile profile_taken not_generic name_not_allowed class_in_use class_profiles_full profiles_full standard_full conditional_full entries_full members_full no_resource_profile add_sd_requirements add_sd_limits r_define_requirements r_define_limits categories_full alt_sd_conflicts del_sd_conflicts r_alter_conflicts r_delete_conflicts permit_conflicts absent_class class_without_generic unlisted_class never_listed_class always_active_class set_ropts_conflicts no_user no_group no_owner no_named_group no_class name_taken not_connected default_not_connected unknown_level unknown_category never_category unknown_label add_user_requirements alt_user_requirements del_user_requirements add_group_requirements alt_group_requirements del_group_requirements connect_requirements remove_requirements add_sd_needs r_define_needs alt_sd_requirements del_sd_requirements r_alter_requirements r_delete_requirements permit_requirements set_ropts_requirements is_met need outcome_in issuer_by issuer_of_line request_of is_request reply_line spelled canonical statements_of new_stream request command step text as_number next deleted number_after asked_by verified_by requested read words_at answer_line audited logged audit_line granted acee_of decided verified classified image_of image_by options group user connection class
first = record { prints = refl; ends = refl }

-- Profiles that cover one name, taken away from the most specific one on.
profiles : Prints
    (codes "SETR CLASSACT(FACILITY)\nRDEF FACILITY A.** UACC(READ)\nRDEF FACILITY A.B* UACC(UPDATE)\nRDEF FACILITY A.B\nVERIFY A IBMUSER\n"
    ++ codes "AUTH A FACILITY A.B READ\nRDEL FACILITY A.B\nAUTH A FACILITY A.B READ\nRDEL FACILITY A.B*\n"
    ++ codes "AUTH A FACILITY A.B READ\nAUTH A FACILITY B READ\n")
    (codes "1 ACCEPTED\n2 ACCEPTED\n3 ACCEPTED\n4 ACCEPTED\n4 0 VERIFIED\n4 8 INSUFFICIENT A.B NONE\n"
    ++ codes "AUDIT FAILURE IBMUSER FACILITY A.B READ\n5 ACCEPTED\n"
    ++ codes "5 0 UACC A.B* UPDATE\n6 ACCEPTED\n6 0 UACC A.** READ\n6 4 NOPROFILE\n")
    Done
unfolding digits canon form_in parsed front behind command_of tokens is_root has_subgroup has_connected has_profile meets cycle owner_not_superior default_group last_special users_full groups_full connections_full user_full add_user_conflicts alt_user_conflicts del_user_conflicts add_group_conflicts alt_group_conflicts del_group_conflicts connect_conflicts remove_conflicts no_first_qualifier no_permitted no_such_class no_resource_class no_global_class no_profile profile_taken not_generic name_not_allowed class_in_use class_profiles_full profiles_full standard_full conditional_full entries_full members_full no_resource_profile add_sd_requirements add_sd_limits r_define_requirements r_define_limits categories_full alt_sd_conflicts del_sd_conflicts r_alter_conflicts r_delete_conflicts permit_conflicts absent_class class_without_generic unlisted_class never_listed_class always_active_class set_ropts_conflicts no_user no_group no_owner no_named_group no_class name_taken not_connected default_not_connected unknown_level unknown_category never_category unknown_label add_user_requirements alt_user_requirements del_user_requirements add_group_requirements alt_group_requirements del_group_requirements connect_requirements remove_requirements add_sd_needs r_define_needs alt_sd_requirements del_sd_requirements r_alter_requirements r_delete_requirements permit_requirements set_ropts_requirements is_met need outcome_in issuer_by issuer_of_line request_of is_request reply_line spelled canonical statements_of new_stream request command step text as_number next deleted number_after asked_by verified_by requested read words_at answer_line audited logged audit_line granted acee_of decided verified classified image_of image_by options group user connection class
profiles = record { prints = refl; ends = refl }

-- A command in two lines, the first faults of three texts, a name that the issuer's ID goes before, and a label that no
-- profile defines.
texts : Prints
    (codes "adduser joe -\n  dfltgrp(sys1)\nALU JOE SEC(X)\nALU JOE NAME('x'\nLISTCAT\nAD TEST.DATA\n"
    ++ codes "DD 'IBMUSER.TEST.DATA'\nAD TEST.DATA SECLABEL(X)\nPE TEST.DATA ID(JOE)\n")
    (codes "1 ACCEPTED\n1 REFUSED SYNTAX AMBIGUOUS 9\n1 REFUSED SYNTAX UNCLOSED 13\n"
    ++ codes "1 REFUSED SYNTAX UNKNOWNCOMMAND\n2 ACCEPTED\n3 ACCEPTED\n3 REFUSED UNKNOWNNAME X\n"
    ++ codes "3 REFUSED NOPROFILE DATASET IBMUSER.TEST.DATA\n")
    Refusals
unfolding digits canon form_in parsed front behind command_of tokens is_root has_subgroup has_connected has_profile meets cycle owner_not_superior default_group last_special users_full groups_full connections_full user_full add_user_conflicts alt_user_conflicts del_user_conflicts add_group_conflicts alt_group_conflicts del_group_conflicts connect_conflicts remove_conflicts no_first_qualifier no_permitted no_such_class no_resource_class no_global_class no_profile profile_taken not_generic name_not_allowed class_in_use class_profiles_full profiles_full standard_full conditional_full entries_full members_full no_resource_profile add_sd_requirements add_sd_limits r_define_requirements r_define_limits categories_full alt_sd_conflicts del_sd_conflicts r_alter_conflicts r_delete_conflicts permit_conflicts no_user no_group no_owner no_named_group no_class name_taken not_connected default_not_connected unknown_level unknown_category never_category unknown_label add_user_requirements alt_user_requirements del_user_requirements add_group_requirements alt_group_requirements del_group_requirements connect_requirements remove_requirements add_sd_needs r_define_needs alt_sd_requirements del_sd_requirements r_alter_requirements r_delete_requirements permit_requirements is_met need outcome_in issuer_by issuer_of_line request_of is_request reply_line spelled canonical statements_of new_stream request command step text as_number next deleted number_after asked_by verified_by requested read words_at answer_line audited logged audit_line granted acee_of decided verified classified image_of image_by options group user connection class
texts = record { prints = refl; ends = refl }

-- Groups that are made, moved and taken away.
groups : Prints
    (codes "AG A OWNER(SYS1)\nAG B SUPGROUP(A) OWNER(A)\nALG A SUPGROUP(B) OWNER(B)\nDG A\nAU JOE DFLTGRP(B)\n"
    ++ codes "DG B\nRE JOE GROUP(B)\nDU JOE\nDG B\nDG SYS1\n")
    (codes "1 ACCEPTED\n2 ACCEPTED\n2 REFUSED CYCLE A\n2 REFUSED INUSE SUBGROUP B\n3 ACCEPTED\n"
    ++ codes "3 REFUSED INUSE CONNECTED JOE\n3 REFUSED DEFAULTGROUP B\n4 ACCEPTED\n5 ACCEPTED\n5 REFUSED ROOT\n")
    Refusals
unfolding digits canon form_in parsed front behind command_of tokens is_root has_subgroup has_connected has_profile meets cycle owner_not_superior default_group last_special users_full groups_full connections_full user_full add_user_conflicts alt_user_conflicts del_user_conflicts add_group_conflicts alt_group_conflicts del_group_conflicts connect_conflicts remove_conflicts no_first_qualifier no_permitted no_such_class no_resource_class no_global_class no_profile profile_taken not_generic name_not_allowed class_in_use class_profiles_full profiles_full standard_full conditional_full entries_full members_full no_resource_profile add_sd_requirements add_sd_limits r_define_requirements r_define_limits categories_full alt_sd_conflicts del_sd_conflicts r_alter_conflicts r_delete_conflicts permit_conflicts no_user no_group no_owner no_named_group no_class name_taken not_connected default_not_connected unknown_level unknown_category never_category unknown_label add_user_requirements alt_user_requirements del_user_requirements add_group_requirements alt_group_requirements del_group_requirements connect_requirements remove_requirements add_sd_needs r_define_needs alt_sd_requirements del_sd_requirements r_alter_requirements r_delete_requirements permit_requirements is_met need outcome_in issuer_by issuer_of_line request_of is_request reply_line spelled canonical statements_of new_stream request command step text as_number next deleted number_after asked_by verified_by requested read words_at answer_line audited logged audit_line granted acee_of decided verified classified image_of image_by options group user connection class
groups = record { prints = refl; ends = refl }

-- A user entry bars OPERATIONS, and a conditional entry counts at its port alone.
entries : Prints
    (codes "AU OPS OPERATIONS\nAD 'SYS1.A' UACC(ALTER)\nPE 'SYS1.A' ID(OPS) ACCESS(NONE)\nVERIFY A OPS\n"
    ++ codes "AUTH A DATASET SYS1.A READ\nPE 'SYS1.A' ID(OPS) DELETE\nALD 'SYS1.A' UACC(NONE)\n"
    ++ codes "AUTH A DATASET SYS1.A ALTER\nPE 'SYS1.A' ID(OPS) ACCESS(UPDATE) WHEN(TERMINAL(T1))\n"
    ++ codes "VERIFY B OPS TERMINAL(T1)\nAUTH B DATASET SYS1.A READ\n")
    (codes "1 ACCEPTED\n2 ACCEPTED\n3 ACCEPTED\n3 0 VERIFIED\n3 8 INSUFFICIENT SYS1.A NONE\nAUDIT FAILURE OPS DATASET SYS1.A READ\n4 ACCEPTED\n"
    ++ codes "5 ACCEPTED\n5 0 OPERATIONS SYS1.A NONE\n6 ACCEPTED\n6 0 VERIFIED\n"
    ++ codes "6 0 CONDITIONAL WHEN(TERMINAL(T1)) SYS1.A UPDATE\n")
    Done
unfolding digits canon form_in parsed front behind command_of tokens is_root has_subgroup has_connected has_profile meets cycle owner_not_superior default_group last_special users_full groups_full connections_full user_full add_user_conflicts alt_user_conflicts del_user_conflicts add_group_conflicts alt_group_conflicts del_group_conflicts connect_conflicts remove_conflicts no_first_qualifier no_permitted no_such_class no_resource_class no_global_class no_profile profile_taken not_generic name_not_allowed class_in_use class_profiles_full profiles_full standard_full conditional_full entries_full members_full no_resource_profile add_sd_requirements add_sd_limits r_define_requirements r_define_limits categories_full alt_sd_conflicts del_sd_conflicts r_alter_conflicts r_delete_conflicts permit_conflicts no_user no_group no_owner no_named_group no_class name_taken not_connected default_not_connected unknown_level unknown_category never_category unknown_label add_user_requirements alt_user_requirements del_user_requirements add_group_requirements alt_group_requirements del_group_requirements connect_requirements remove_requirements add_sd_needs r_define_needs alt_sd_requirements del_sd_requirements r_alter_requirements r_delete_requirements permit_requirements is_met need outcome_in issuer_by issuer_of_line request_of is_request reply_line spelled canonical statements_of new_stream request command step text as_number next deleted number_after asked_by verified_by requested read words_at answer_line audited logged audit_line granted acee_of decided verified classified image_of image_by options group user connection class
entries = record { prints = refl; ends = refl }

-- FASTAUTH and AUTH in a RACLISTed class go by its copy, which doesn't follow PERMIT.
listed : Prints
    (codes "AU JOE\nSETR CLASSACT(FACILITY) RACLIST(FACILITY)\nRDEF FACILITY F.G\nSETR RACLIST(FACILITY) REFRESH\nVERIFY A JOE\n"
    ++ codes "FASTAUTH A FACILITY F.G READ\nPE F.G CLASS(FACILITY) ID(JOE)\nFASTAUTH A FACILITY F.G READ\nAUTH A FACILITY F.G READ\n"
    ++ codes "SETR RACLIST(FACILITY) REFRESH\nFASTAUTH A FACILITY F.G READ\nFASTAUTH A OPERCMDS X READ\nFASTAUTH A DATASET JOE.X READ\n")
    (codes "1 ACCEPTED\n2 ACCEPTED\n3 ACCEPTED\n4 ACCEPTED\n4 0 VERIFIED\n4 8 INSUFFICIENT F.G NONE\n5 ACCEPTED\n"
    ++ codes "5 8 INSUFFICIENT F.G NONE\n5 8 INSUFFICIENT F.G NONE\nAUDIT FAILURE JOE FACILITY F.G READ\n6 ACCEPTED\n6 0 USER F.G READ\n6 4 CLASSOFF\n6 4 NOTLISTED\n")
    Done
unfolding digits canon form_in parsed front behind command_of tokens is_root has_subgroup has_connected has_profile meets cycle owner_not_superior default_group last_special users_full groups_full connections_full user_full add_user_conflicts alt_user_conflicts del_user_conflicts add_group_conflicts alt_group_conflicts del_group_conflicts connect_conflicts remove_conflicts no_first_qualifier no_permitted no_such_class no_resource_class no_global_class no_profile profile_taken not_generic name_not_allowed class_in_use class_profiles_full profiles_full standard_full conditional_full entries_full members_full no_resource_profile add_sd_requirements add_sd_limits r_define_requirements r_define_limits categories_full alt_sd_conflicts del_sd_conflicts r_alter_conflicts r_delete_conflicts permit_conflicts absent_class class_without_generic unlisted_class never_listed_class always_active_class set_ropts_conflicts no_user no_group no_owner no_named_group no_class name_taken not_connected default_not_connected unknown_level unknown_category never_category unknown_label add_user_requirements alt_user_requirements del_user_requirements add_group_requirements alt_group_requirements del_group_requirements connect_requirements remove_requirements add_sd_needs r_define_needs alt_sd_requirements del_sd_requirements r_alter_requirements r_delete_requirements permit_requirements set_ropts_requirements is_met need outcome_in issuer_by issuer_of_line request_of is_request reply_line spelled canonical statements_of new_stream request command step text as_number next deleted number_after asked_by verified_by requested read words_at answer_line audited logged audit_line granted acee_of decided verified fast_decided classified image_of image_by options group user connection class
listed = record { prints = refl; ends = refl }

-- Refusals of a request's line, and the number that is waited for.
requests : Prints
    (codes "AUTH A FACILITY X READ\nVERIFY A NOBODY\nVERIFY A IBMUSER\nVERIFY A IBMUSER\nAUTH A DATASET A..B READ\n"
    ++ codes "AUTH A DATASET SYS1.A EXECUTE\nFASTAUTH A DATASET A..B READ\nDELETE A\n*AFTER 1\n*AFTER 0\n")
    (codes "0 REFUSED NOACEE A\n0 4 NOTDEFINED\n0 0 VERIFIED\n0 REFUSED ACEEEXISTS A\n"
    ++ codes "0 REFUSED BADNAME EMPTYQUALIFIER 2\n0 REFUSED BADLINE 23\n0 REFUSED BADNAME EMPTYQUALIFIER 2\n0 0 DELETED\nNEVER 0\n")
    Refusals
unfolding digits canon form_in parsed front behind command_of tokens is_root has_subgroup has_connected has_profile meets cycle owner_not_superior default_group last_special users_full groups_full connections_full user_full add_user_conflicts alt_user_conflicts del_user_conflicts add_group_conflicts alt_group_conflicts del_group_conflicts connect_conflicts remove_conflicts no_first_qualifier no_permitted no_such_class no_resource_class no_global_class no_profile profile_taken not_generic name_not_allowed class_in_use class_profiles_full profiles_full standard_full conditional_full entries_full members_full no_resource_profile add_sd_requirements add_sd_limits r_define_requirements r_define_limits categories_full alt_sd_conflicts del_sd_conflicts r_alter_conflicts r_delete_conflicts permit_conflicts no_user no_group no_owner no_named_group no_class name_taken not_connected default_not_connected unknown_level unknown_category never_category unknown_label add_user_requirements alt_user_requirements del_user_requirements add_group_requirements alt_group_requirements del_group_requirements connect_requirements remove_requirements add_sd_needs r_define_needs alt_sd_requirements del_sd_requirements r_alter_requirements r_delete_requirements permit_requirements is_met need outcome_in issuer_by issuer_of_line request_of is_request reply_line spelled canonical statements_of new_stream request command step text as_number next deleted number_after asked_by verified_by requested read words_at answer_line audited logged audit_line granted acee_of decided verified classified
requests = record { prints = refl; ends = refl }

-- What is skipped, and what isn't: a comment and a line of blanks print nothing.
skipped : Prints
    (codes "/* \n \t\n\n/*\r\n /* x\nVERIFY A IBMUSER\n")
    (codes "0 REFUSED SYNTAX UNKNOWNCOMMAND\n0 0 VERIFIED\n")
    Refusals
unfolding digits canon form_in parsed front behind command_of tokens is_root has_subgroup has_connected has_profile meets cycle owner_not_superior default_group last_special users_full groups_full connections_full user_full add_user_conflicts alt_user_conflicts del_user_conflicts add_group_conflicts alt_group_conflicts del_group_conflicts connect_conflicts remove_conflicts no_first_qualifier no_permitted no_such_class no_resource_class no_global_class no_profile profile_taken not_generic name_not_allowed class_in_use class_profiles_full profiles_full standard_full conditional_full entries_full members_full no_resource_profile add_sd_requirements add_sd_limits r_define_requirements r_define_limits categories_full alt_sd_conflicts del_sd_conflicts r_alter_conflicts r_delete_conflicts permit_conflicts no_user no_group no_owner no_named_group no_class name_taken not_connected default_not_connected unknown_level unknown_category never_category unknown_label add_user_requirements alt_user_requirements del_user_requirements add_group_requirements alt_group_requirements del_group_requirements connect_requirements remove_requirements add_sd_needs r_define_needs alt_sd_requirements del_sd_requirements r_alter_requirements r_delete_requirements permit_requirements is_met need outcome_in issuer_by issuer_of_line request_of is_request reply_line spelled canonical statements_of new_stream request command step text as_number next deleted number_after asked_by verified_by requested read words_at answer_line audited logged audit_line granted acee_of decided verified classified
skipped = record { prints = refl; ends = refl }

-- Issuers: each command is judged by the one who was named last, and a line that names none changes nothing.
issuers : Prints
    (codes "AG G1\nAU ANN DFLTGRP(G1) AUTHORITY(CONNECT)\nAU BOB\n*ISSUER ANN\nCO BOB GROUP(G1)\n"
    ++ codes "*ISSUER BOB,GROUP(G1)\nCO BOB GROUP(G1) AUTHORITY(JOIN)\n*issuer\tbob  group(g1)\nAU CAT\n*ISSUER CAT\nAU CAT\n")
    (codes "1 ACCEPTED\n2 ACCEPTED\n3 ACCEPTED\n4 ACCEPTED\n4 REFUSED SYNTAX BADVALUE 9\n"
    ++ codes "4 REFUSED NEED SPECIAL OWNER GROUPSPECIAL AUTHORITY(JOIN)\n"
    ++ codes "4 REFUSED NEED SPECIAL CLAUTH(USER)+JOIN(G1) CLAUTH(USER)+OWNER CLAUTH(USER)+GROUPSPECIAL\n"
    ++ codes "4 REFUSED ISSUERUNKNOWN CAT\n")
    Refusals
unfolding digits canon form_in parsed front behind command_of tokens is_root has_subgroup has_connected has_profile meets cycle owner_not_superior default_group last_special users_full groups_full connections_full user_full add_user_conflicts alt_user_conflicts del_user_conflicts add_group_conflicts alt_group_conflicts del_group_conflicts connect_conflicts remove_conflicts no_first_qualifier no_permitted no_such_class no_resource_class no_global_class no_profile profile_taken not_generic name_not_allowed class_in_use class_profiles_full profiles_full standard_full conditional_full entries_full members_full no_resource_profile add_sd_requirements add_sd_limits r_define_requirements r_define_limits categories_full alt_sd_conflicts del_sd_conflicts r_alter_conflicts r_delete_conflicts permit_conflicts no_user no_group no_owner no_named_group no_class name_taken not_connected default_not_connected unknown_level unknown_category never_category unknown_label add_user_requirements alt_user_requirements del_user_requirements add_group_requirements alt_group_requirements del_group_requirements connect_requirements remove_requirements add_sd_needs r_define_needs alt_sd_requirements del_sd_requirements r_alter_requirements r_delete_requirements permit_requirements is_met need outcome_in issuer_by issuer_of_line request_of is_request reply_line spelled canonical statements_of new_stream request command step text as_number next deleted number_after asked_by verified_by requested read words_at answer_line audited logged audit_line granted acee_of decided verified classified image_of image_by options group user connection class
issuers = record { prints = refl; ends = refl }

-- A fixed issuer gives every command, and each line of an issuer is refused, whatever follows; one that is too long is
-- told so.
fixed : PrintsGiven None (Fixed (codes "ANN"))
    (codes "AU BOB\n*ISSUER IBMUSER\n*issuer\n*ISSUER A,B\nAU BOB\n")
    (codes "0 REFUSED ISSUERUNKNOWN ANN\n0 REFUSED ISSUERFIXED\n0 REFUSED ISSUERFIXED\n0 REFUSED ISSUERFIXED\n0 REFUSED ISSUERUNKNOWN ANN\n")
    Refusals
unfolding digits canon form_in parsed front behind command_of tokens is_root has_subgroup has_connected has_profile meets cycle owner_not_superior default_group last_special users_full groups_full connections_full user_full add_user_conflicts alt_user_conflicts del_user_conflicts add_group_conflicts alt_group_conflicts del_group_conflicts connect_conflicts remove_conflicts no_first_qualifier no_permitted no_such_class no_resource_class no_global_class no_profile profile_taken not_generic name_not_allowed class_in_use class_profiles_full profiles_full standard_full conditional_full entries_full members_full no_resource_profile add_sd_requirements add_sd_limits r_define_requirements r_define_limits categories_full alt_sd_conflicts del_sd_conflicts r_alter_conflicts r_delete_conflicts permit_conflicts no_user no_group no_owner no_named_group no_class name_taken not_connected default_not_connected unknown_level unknown_category never_category unknown_label add_user_requirements alt_user_requirements del_user_requirements add_group_requirements alt_group_requirements del_group_requirements connect_requirements remove_requirements add_sd_needs r_define_needs alt_sd_requirements del_sd_requirements r_alter_requirements r_delete_requirements permit_requirements is_met need outcome_in issuer_by issuer_of_line request_of is_request reply_line spelled canonical statements_of new_stream request command step text as_number next deleted number_after asked_by verified_by requested read words_at answer_line audited logged audit_line granted acee_of decided verified classified image_of image_by options group user connection class
fixed = record { prints = refl; ends = refl }

-- A disk fails the second command: those behind it are told so, and requests are answered on.
failed : PrintsFailing (Some 1)
    (codes "AU ANN\nAU BOB\nAU CAT\nVERIFY A ANN\n")
    (codes "1 ACCEPTED\n1 DISKFAULT\n1 HALTED\n1 0 VERIFIED\n")
    DiskFault
unfolding digits canon form_in parsed front behind command_of tokens is_root has_subgroup has_connected has_profile meets cycle owner_not_superior default_group last_special users_full groups_full connections_full user_full add_user_conflicts alt_user_conflicts del_user_conflicts add_group_conflicts alt_group_conflicts del_group_conflicts connect_conflicts remove_conflicts no_first_qualifier no_permitted no_such_class no_resource_class no_global_class no_profile profile_taken not_generic name_not_allowed class_in_use class_profiles_full profiles_full standard_full conditional_full entries_full members_full no_resource_profile add_sd_requirements add_sd_limits r_define_requirements r_define_limits categories_full alt_sd_conflicts del_sd_conflicts r_alter_conflicts r_delete_conflicts permit_conflicts no_user no_group no_owner no_named_group no_class name_taken not_connected default_not_connected unknown_level unknown_category never_category unknown_label add_user_requirements alt_user_requirements del_user_requirements add_group_requirements alt_group_requirements del_group_requirements connect_requirements remove_requirements add_sd_needs r_define_needs alt_sd_requirements del_sd_requirements r_alter_requirements r_delete_requirements permit_requirements is_met need outcome_in issuer_by issuer_of_line request_of is_request reply_line spelled canonical statements_of new_stream request command step text as_number next deleted number_after asked_by verified_by requested read words_at answer_line audited logged audit_line granted acee_of decided verified classified image_of image_by options group user connection class
failed = record { prints = refl; ends = refl }

-- The empty input prints nothing.
empty : Prints [] [] Done
unfolding statements_of new_stream
empty = record { prints = refl; ends = refl }
