-- What SETROPTS makes can be made without memory, and makes its rows.
use Rattle.std.proofs.Common.{◌≡◌, ◌≤◌, Bool, true, false, cond, ◌||◌, ◌&&◌, not, List, [], ◌∷◌, ◌++◌, length, map, None, Some, refl, sym, ap, ◌∙◌}
use Rattle.std.specs.Prelude.{find}
use Rattle.std.specs.List.{AllByRecursion, filter}
use Rattle.std.specs.Option.{option_map_or}
use Rattle.racf_profiles.specs.declared.class_rows.ClassRow.{ClassRow}
use Rattle.racf_profiles.specs.declared.options.Options.{Options}
use Rattle.racf_profiles.specs.declared.rows.Rows.{Rows}
use Rattle.racf_profiles.specs.declared.edits.Edit.{Edit}
use Rattle.racf_profiles.specs.declared.edits.Edit.TheVariants.{PutOptions, List as ListCopy, Unlist}
use Rattle.racf_profiles.specs.Lookup.{is_class}
use Rattle.racf_profiles.specs.Edits.{changed}
use Rattle.racf_profiles.specs.State.{is_listed}
use Rattle.racf_profiles.specs.Limits.{most_categories}
use Rattle.racf_profiles.specs.Lawful.{AreLawful}
use Rattle.group_tree.proofs.Rows.{itself}
use Rattle.row_tables.specs.Tables.{Tables}
use Rattle.row_tables.specs.Applying.{CanMake, CanApply, tables_after}
use Rattle.command_fields.specs.declared.option_fields.SetRopts.{SetRopts}
use Rattle.command_rules.specs.OptionEffects.{names_class, set_class, set_options, after_set_ropts}
use Rattle.command_rules.specs.Edits.{sets_options, sets_flags, lists, unlists, put_flags, refreshes_listed, edits_of_set_ropts}
use Rattle.command_rules.proofs.ClassEdits.{AreApart, lawful-apart}
use Rattle.command_rules.proofs.SetRoptsEdits.{set_ropts-rows}
use Rattle.command_rules.specs.OptionConflicts.{refreshed, unlisted_class, set_ropts_conflicts}
use Rattle.command_rules.specs.Conflicts.{first_met}
use Rattle.command_rules.proofs.Unmet.{each_unmet}
use Rattle.lawful_commands.proofs.RowLists.{both-each, all-both, all-each, passes-all}
use Rattle.lawful_commands.proofs.OptionCommands.{unmapped, never-named}

-- ---- each class is found by its name
own-found : (classes : List ClassRow) → AreApart classes → AllByRecursion (λ (class : ClassRow). find (is_class class.name) classes ≡ Some class) classes
own-found [] apart = tt
own-found (class ∷ classes) apart = (
  ap (λ b. cond b (Some class) (find (is_class class.name) classes)) (itself class.name),
  both-each (λ (other : ClassRow). is_class other.name class ≡ false) (λ (other : ClassRow). find (is_class other.name) classes ≡ Some other) (λ (other : ClassRow). find (is_class other.name) (class ∷ classes) ≡ Some other)
      (λ other apart found. ap (λ b. cond b (Some class) (find (is_class other.name) classes)) apart ∙ found) classes apart.0 (own-found classes apart.1),
)

-- ---- REFRESH is given for listed classes alone
module _ (c : SetRopts) (rows : Rows) (free : first_met (set_ropts_conflicts c rows) ≡ None) where
  none-unlisted : find (λ name. not (is_listed name rows)) (refreshed c) ≡ None
  unfolding set_ropts_conflicts unlisted_class
  none-unlisted = unmapped _ (find (λ name. not (is_listed name rows)) (refreshed c)) (each_unmet (set_ropts_conflicts c rows) free).1.1.1.1.1.1.1.1.1.0

  refreshes-so : (class : ClassRow) → find (is_class class.name) rows.classes ≡ Some class → (not (c.refresh && names_class c.raclist class) || class.listed) ≡ true
  refreshes-so class found = by c.refresh refl class.listed refl
    where
      or-true : (b : Bool) → (b || true) ≡ true
      or-true true = refl
      or-true false = refl

      by : (b : Bool) → c.refresh ≡ b → (l : Bool) → class.listed ≡ l → (not (b && names_class c.raclist class) || l) ≡ true
      by false e l is = refl
      by true e true is = or-true (not (names_class c.raclist class))
      by true e false is =
          let unlisted : is_listed class.name rows ≡ false = ap (λ o. option_map_or (λ (row : ClassRow). row.listed) o false) found ∙ is in
          let names : refreshed c ≡ c.raclist = ap (λ b. cond b c.raclist []) e in
          let none : find (λ name. not (is_listed name rows)) c.raclist ≡ None = ap (find (λ name. not (is_listed name rows))) (sym names) ∙ none-unlisted in
          ap (λ b. not b || false) (never-named (λ name. not (is_listed name rows)) class (ap not unlisted) c.raclist none)

  refreshes : AreLawful rows → refreshes_listed c rows.classes ≡ true
  refreshes lawful =
      passes-all (λ (class : ClassRow). not (c.refresh && names_class c.raclist class) || class.listed) rows.classes
      (all-each (λ (class : ClassRow). find (is_class class.name) rows.classes ≡ Some class) (λ (class : ClassRow). (not (c.refresh && names_class c.raclist class) || class.listed) ≡ true) refreshes-so rows.classes (own-found rows.classes (lawful-apart rows.classes lawful.classes)))

  pub changed-set_ropts : AreLawful rows → changed (edits_of_set_ropts c rows) rows ≡ after_set_ropts c rows
  changed-set_ropts lawful = set_ropts-rows c rows lawful.classes (refreshes lawful)

-- ---- edits that need nothing of the tables
abbrev AlwaysCan : Edit → Type 0
AlwaysCan edit = (tables : Tables) → CanMake tables edit

always-apply : (edits : List Edit) (tables : Tables) → AllByRecursion AlwaysCan edits → CanApply tables edits
always-apply [] tables can = tt
always-apply (edit ∷ edits) tables can = (can.0 tables, always-apply edits (tables_after edit tables) can.1)

always-each : (edit : ClassRow → Edit) → ((class : ClassRow) → AlwaysCan (edit class)) → (classes : List ClassRow) → AllByRecursion AlwaysCan (map edit classes)
always-each edit can [] = tt
always-each edit can (class ∷ classes) = (can class, always-each edit can classes)

pub set_ropts-ready : (tables : Tables) (c : SetRopts) → AreLawful tables.rows → CanApply tables (edits_of_set_ropts c tables.rows)
set_ropts-ready tables c lawful =
    let options : Options = set_options c tables.rows.options in
    let flags : List Edit = map (λ class. put_flags (set_class c class)) (filter (sets_flags c) tables.rows.classes) in
    let listed : List Edit = map (λ (class : ClassRow). ListCopy class.name) (filter (lists c) tables.rows.classes) in
    let unlisted : List Edit = map (λ (class : ClassRow). Unlist class.name) (filter (unlists c) tables.rows.classes) in
    always-apply (edits_of_set_ropts c tables.rows) tables
    (all-both AlwaysCan (cond (sets_options c) (PutOptions options ∷ []) []) (flags ++ (listed ++ unlisted)) (options-can (sets_options c) options lawful.categories.few)
    (all-both AlwaysCan flags (listed ++ unlisted) (always-each (λ class. put_flags (set_class c class)) (λ class tables. tt) (filter (sets_flags c) tables.rows.classes))
    (all-both AlwaysCan listed unlisted (always-each (λ (class : ClassRow). ListCopy class.name) (λ class tables. tt) (filter (lists c) tables.rows.classes)) (always-each (λ (class : ClassRow). Unlist class.name) (λ class tables. tt) (filter (unlists c) tables.rows.classes)))))
  where
    options-can : (b : Bool) (options : Options) → length options.categories ≤ most_categories → AllByRecursion AlwaysCan (cond b (PutOptions options ∷ []) [])
    options-can true options few = ((λ tables. few), tt)
    options-can false options few = tt
