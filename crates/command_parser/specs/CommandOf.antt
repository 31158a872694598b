-- From the table's view of a command to the command.
use Rattle.std.specs.Prelude.{ℕ, List, Option}
use Rattle.std.specs.Option.{option_map, option_and_then}
use Rattle.std.specs.Result.{result_ok}
use Rattle.command_values.specs.declared.operand_words.Word.TheVariants as words
use Rattle.command_grammar.specs.declared.table.Verb.{Verb}
use Rattle.command_grammar.specs.declared.table.Verb.TheVariants as verbs
use Rattle.command_values.specs.declared.values.Content.{Content}
use Rattle.command_grammar.specs.Reading.{Generic, Slots}
use Rattle.command_grammar.specs.Canon.{spelled}
use Rattle.command_fields.specs.declared.fields.CommandFields.{CommandFields}
use Rattle.command_fields.specs.declared.fields.CommandFields.TheVariants as fields
use Rattle.command_parser.specs.Canonical.{given_by}
use Rattle.command_parser.specs.Fields.{found_for, id_in, no_word, only_id, only_profile, class_and_profile, cdt_profile, add_user_in, alt_user_in, add_group_in, alt_group_in, connect_in, remove_in}
use Rattle.command_parser.specs.OptionFields.{set_ropts_in}
use Rattle.command_parser.specs.ProfileFields.{add_sd_in, alt_sd_in, r_define_in, define_class_in, r_alter_in, alter_class_in, permit_in}

-- The command of each verb: its positional words must be those that it takes. PERMIT always names its class.
abbrev pub command_by : Verb → List Content → Slots → Option CommandFields
command_by verbs.AddUser names slots = option_map (λ user. fields.AddUser (add_user_in user slots)) (only_id names)
command_by verbs.AltUser names slots = option_map (λ user. fields.AltUser (alt_user_in user slots)) (only_id names)
command_by verbs.DelUser names slots = option_map (λ user. fields.DelUser (record { user = user })) (only_id names)
command_by verbs.AddGroup names slots = option_map (λ group. fields.AddGroup (add_group_in group slots)) (only_id names)
command_by verbs.AltGroup names slots = option_map (λ group. fields.AltGroup (alt_group_in group slots)) (only_id names)
command_by verbs.DelGroup names slots = option_map (λ group. fields.DelGroup (record { group = group })) (only_id names)
command_by verbs.Connect names slots = option_map (λ user. fields.Connect (connect_in user slots)) (only_id names)
command_by verbs.Remove names slots = option_map (λ user. fields.Remove (remove_in user slots)) (only_id names)
command_by verbs.AddSd names slots = option_map (λ name. fields.AddSd (add_sd_in name slots)) (only_profile names)
command_by verbs.AltSd names slots = option_map (λ name. fields.AltSd (alt_sd_in name slots)) (only_profile names)
command_by verbs.DelSd names slots = option_map (λ name. fields.DelSd (record { profile = name })) (only_profile names)
command_by verbs.RDefine names slots = option_map (λ both. fields.RDefine (r_define_in both.0 both.1 slots)) (class_and_profile names)
command_by verbs.RAlter names slots = option_map (λ both. fields.RAlter (r_alter_in both.0 both.1 slots)) (class_and_profile names)
command_by verbs.DefineClass names slots = option_map (λ name. fields.DefineClass (define_class_in name slots)) (cdt_profile names)
command_by verbs.AlterClass names slots = option_map (λ name. fields.AlterClass (alter_class_in name slots)) (cdt_profile names)
command_by verbs.RDelete names slots = option_map (λ both. fields.RDelete (record { class = both.0; profile = both.1 })) (class_and_profile names)
command_by verbs.Permit names slots = option_and_then (λ name. option_map (λ class. fields.Permit (permit_in name class slots)) (id_in (found_for verbs.Permit slots words.Class))) (only_profile names)
command_by verbs.SetRopts names slots = option_map (λ none. fields.SetRopts (set_ropts_in slots)) (no_word names)

-- The command of which this is the table's view, if there is one.
unfoldable pub command_of : Generic → Option CommandFields
command_of g = command_by g.verb g.positions g.slots

-- The command that a text spells where this issuer gives it, if it spells one.
abbrev pub command_in : List ℕ → List ℕ → Option CommandFields
command_in issuer text = option_and_then command_of (result_ok (spelled (given_by issuer) text))
