-- What SETROPTS makes of the options and of the classes. An operand that begins with NO stands behind the others, so
-- that it wins; the words of LOGOPTIONS apply in their order, so that of several that name a class the last counts.
use Rattle.std.specs.Prelude.{ℕ, Bool, ◌&&◌, not, List, [], ◌∷◌, map, if◌then◌else◌, bytes_eq}
use Rattle.std.specs.List.{list_any}
use Rattle.racf_profiles.specs.declared.class_rows.ClassRow.{ClassRow}
use Rattle.racf_profiles.specs.declared.class_rows.LogOption.{LogOption}
use Rattle.racf_profiles.specs.declared.options.Options.{Options}
use Rattle.racf_profiles.specs.declared.rows.Rows.{Rows}
use Rattle.command_fields.specs.declared.log_clauses.LogClause.{LogClause}
use Rattle.command_fields.specs.declared.option_fields.SetRopts.{SetRopts}
use Rattle.command_rules.specs.UserEffects.{switched}

-- A list names the class.
abbrev pub names_class : List (List ℕ) → ClassRow → Bool
names_class names class = list_any (λ name. bytes_eq name class.name) names

abbrev pub log_after : List LogClause → ClassRow → LogOption → LogOption
log_after [] class log = log
log_after (clause ∷ clauses) class log = log_after clauses class (if names_class clause.classes class then clause.option else log)

-- RACLIST with REFRESH lists no class that isn't listed, and GLOBAL with REFRESH sets nothing; GENERIC sets nothing.
abbrev pub set_class : SetRopts → ClassRow → ClassRow
set_class c class = record class {
  active = switched (names_class c.classact class) (names_class c.noclassact class) class.active;
  listed = switched (names_class c.raclist class && not c.refresh) (names_class c.noraclist class) class.listed;
  global = switched (names_class c.global class && not c.refresh) (names_class c.noglobal class) class.global;
  log = log_after c.logoptions class class.log;
}

abbrev pub set_options : SetRopts → Options → Options
set_options c options = record options {
  grplist = switched c.grplist c.nogrplist options.grplist;
  protectall = switched c.protectall c.noprotectall options.protectall;
  mls = switched c.mls c.nomls options.mls;
}

abbrev pub after_set_ropts : SetRopts → Rows → Rows
after_set_ropts c rows = record rows { options = set_options c rows.options; classes = map (set_class c) rows.classes }
