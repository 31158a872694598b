-- What the edits of SETROPTS make of rows.
use Rattle.std.proofs.Common.{◌≡◌, Bool, true, false, cond, ◌&&◌, ◌||◌, not, List, [], ◌∷◌, ◌++◌, map, refl, sym, ap, ◌∙◌}
use Rattle.std.specs.List.{filter, list_any, AllByRecursion}
use Rattle.std.proofs.lemmas.Bool.{and_parts, or_parts}
use Rattle.std.proofs.lemmas.List.{append_assoc}
use Rattle.racf_profiles.specs.declared.class_rows.ClassRow.{ClassRow}
use Rattle.racf_profiles.specs.declared.class_rows.LogOption.{LogOption}
use Rattle.racf_profiles.specs.declared.options.Options.{Options}
use Rattle.racf_profiles.specs.declared.rows.Rows.{Rows}
use Rattle.racf_profiles.specs.declared.edits.Edit.{Edit}
use Rattle.racf_profiles.specs.declared.edits.Edit.TheVariants.{PutOptions, List as ListCopy, Unlist}
use Rattle.racf_profiles.specs.Edits.{with_flags, with_listed, changed}
use Rattle.racf_profiles.specs.LawfulProfiles.{AreClasses}
use Rattle.racf_profiles.specs.Lawful.{LeaveLawfulClasses}
use Rattle.command_fields.specs.declared.log_clauses.LogClause.{LogClause}
use Rattle.command_fields.specs.declared.option_fields.SetRopts.{SetRopts}
use Rattle.command_rules.specs.UserEffects.{switched}
use Rattle.command_rules.specs.OptionEffects.{names_class, log_after, set_class, set_options, after_set_ropts}
use Rattle.command_rules.specs.Edits.{sets_options, sets_flags, lists, unlists, put_flags, refreshes_listed, edits_of_set_ropts}
use Rattle.command_rules.proofs.ClassEdits.{changed-both, changed-each, lawful-apart, KeepsClasses, leave-classes, keep-both, keep-each, lawful-kept}

module _ (c : SetRopts) where
  -- ---- the edits, in four parts
  abbrev options_edits : Rows → List Edit
  options_edits rows = cond (sets_options c) (PutOptions (set_options c rows.options) ∷ []) []

  abbrev flags_edit : ClassRow → Edit
  flags_edit class = put_flags (set_class c class)

  abbrev list_edit : ClassRow → Edit
  list_edit class = ListCopy class.name

  abbrev unlist_edit : ClassRow → Edit
  unlist_edit class = Unlist class.name

  -- ---- the classes stay lawful behind each
  keep-options : (rows : Rows) → AllByRecursion KeepsClasses (options_edits rows)
  keep-options rows = by (sets_options c)
    where
      by : (b : Bool) → AllByRecursion KeepsClasses (cond b (PutOptions (set_options c rows.options) ∷ []) [])
      by true = ((λ before lawful. lawful), tt)
      by false = tt

  keep-flags : (class : ClassRow) → KeepsClasses (flags_edit class)
  keep-flags class rows lawful = let set : ClassRow = set_class c class in lawful-kept class.name (with_flags set.active set.global set.log) (λ row. refl) (λ row holds. holds) rows.classes lawful

  keep-listed : (class : ClassRow) → KeepsClasses (list_edit class)
  keep-listed class rows lawful = lawful-kept class.name (with_listed true) (λ row. refl) (λ row holds. holds) rows.classes lawful

  keep-unlisted : (class : ClassRow) → KeepsClasses (unlist_edit class)
  keep-unlisted class rows lawful = lawful-kept class.name (with_listed false) (λ row. refl) (λ row holds. holds) rows.classes lawful

  pub set_ropts-classes : (rows : Rows) → AreClasses rows.classes → LeaveLawfulClasses (edits_of_set_ropts c rows) rows
  set_ropts-classes rows lawful =
      let flags = map flags_edit (filter (sets_flags c) rows.classes) in
      let listed = map list_edit (filter (lists c) rows.classes) in
      let unlisted = map unlist_edit (filter (unlists c) rows.classes) in
      leave-classes (edits_of_set_ropts c rows) rows
      (keep-both (options_edits rows) (flags ++ (listed ++ unlisted)) (keep-options rows)
      (keep-both flags (listed ++ unlisted) (keep-each flags_edit keep-flags (filter (sets_flags c) rows.classes))
      (keep-both listed unlisted (keep-each list_edit keep-listed (filter (lists c) rows.classes)) (keep-each unlist_edit keep-unlisted (filter (unlists c) rows.classes)))))
      lawful

  -- ---- what isn't set stays
  unset : (on off before : Bool) → on ≡ false → off ≡ false → switched on off before ≡ before
  unset on off before no_on no_off = ap (λ b. not b && (on || before)) no_off ∙ ap (λ b. b || before) no_on

  options-unset : (options : Options) → sets_options c ≡ false → options ≡ set_options c options
  options-unset options none =
      let f = or_parts (c.grplist || c.nogrplist || c.protectall || c.noprotectall || c.mls) c.nomls none in
      let e = or_parts (c.grplist || c.nogrplist || c.protectall || c.noprotectall) c.mls f.0 in
      let d = or_parts (c.grplist || c.nogrplist || c.protectall) c.noprotectall e.0 in
      let b = or_parts (c.grplist || c.nogrplist) c.protectall d.0 in
      let a = or_parts c.grplist c.nogrplist b.0 in
      sym (ap (λ on. record options { grplist = on; protectall = switched c.protectall c.noprotectall options.protectall; mls = switched c.mls c.nomls options.mls }) (unset c.grplist c.nogrplist options.grplist a.0 a.1)
      ∙ ap (λ on. record options { protectall = on; mls = switched c.mls c.nomls options.mls }) (unset c.protectall c.noprotectall options.protectall b.1 d.1)
      ∙ ap (λ on. record options { mls = on }) (unset c.mls c.nomls options.mls e.1 f.1))

  log-unset : (clauses : List LogClause) (class : ClassRow) (log : LogOption) → list_any (λ (clause : LogClause). names_class clause.classes class) clauses ≡ false → log_after clauses class log ≡ log
  log-unset [] class log none = refl
  log-unset (clause ∷ clauses) class log none =
      let parts = or_parts (names_class clause.classes class) (list_any (λ (other : LogClause). names_class other.classes class) clauses) none in
      ap (λ b. log_after clauses class (cond b clause.option log)) parts.0 ∙ log-unset clauses class log parts.1

  abbrev flagged : ClassRow → ClassRow
  flagged class = let set : ClassRow = set_class c class in with_flags set.active set.global set.log class

  flags-unset : (class : ClassRow) → sets_flags c class ≡ false → class ≡ flagged class
  flags-unset class none =
      let set : ClassRow = set_class c class in
      let logged = list_any (λ (clause : LogClause). names_class clause.classes class) c.logoptions in
      let on = names_class c.classact class in
      let off = names_class c.noclassact class in
      let global = names_class c.global class in
      let noglobal = names_class c.noglobal class in
      let e = or_parts (on || off || global || noglobal) logged none in
      let d = or_parts (on || off || global) noglobal e.0 in
      let b = or_parts (on || off) global d.0 in
      let a = or_parts on off b.0 in
      sym (ap (λ is. with_flags is set.global set.log class) (unset on off class.active a.0 a.1)
      ∙ ap (λ is. with_flags class.active is set.log class) (unset (global && not c.refresh) noglobal class.global (ap (λ is. is && not c.refresh) b.1) d.1)
      ∙ ap (λ is. with_flags class.active class.global is class) (log-unset c.logoptions class class.log e.1))

  -- ---- one class behind the three kinds of edits
  abbrev now_flagged : ClassRow → ClassRow
  now_flagged class = cond (sets_flags c class) (flagged class) class

  abbrev now_listed : ClassRow → ClassRow
  now_listed class = cond (lists c class) (with_listed true (now_flagged class)) (now_flagged class)

  abbrev now_unlisted : ClassRow → ClassRow
  now_unlisted class = cond (unlists c class) (with_listed false (now_listed class)) (now_listed class)

  is-flagged : (class : ClassRow) → now_flagged class ≡ flagged class
  is-flagged class = by (sets_flags c class) refl
    where
      by : (b : Bool) → sets_flags c class ≡ b → cond b (flagged class) class ≡ flagged class
      by true is = refl
      by false is = flags-unset class is

  listed-so : (on off : Bool) (class : ClassRow) → cond off (with_listed false (cond on (with_listed true class) class)) (cond on (with_listed true class) class) ≡ with_listed (cond off false (cond on true class.listed)) class
  listed-so true true class = refl
  listed-so true false class = refl
  listed-so false true class = refl
  listed-so false false class = refl

  listed-after : (named refresh off listed : Bool) → (not (refresh && named) || listed) ≡ true → cond off false (cond (named && (refresh || not listed)) true listed) ≡ switched (named && not refresh) off listed
  listed-after named refresh true listed is = refl
  listed-after true true false true is = refl
  listed-after true true false false is = sym is
  listed-after true false false true is = refl
  listed-after true false false false is = refl
  listed-after false refresh false listed is = refl

  is-set : (class : ClassRow) → (not (c.refresh && names_class c.raclist class) || class.listed) ≡ true → now_unlisted class ≡ set_class c class
  is-set class is =
      ap (λ (row : ClassRow). cond (unlists c class) (with_listed false (cond (lists c class) (with_listed true row) row)) (cond (lists c class) (with_listed true row) row)) (is-flagged class)
      ∙ listed-so (lists c class) (unlists c class) (flagged class)
      ∙ ap (λ listed. with_listed listed (flagged class)) (listed-after (names_class c.raclist class) c.refresh (names_class c.noraclist class) class.listed is)

  all-set : (classes : List ClassRow) → refreshes_listed c classes ≡ true → map now_unlisted classes ≡ map (set_class c) classes
  all-set [] all = refl
  all-set (class ∷ classes) all =
      let parts = and_parts (not (c.refresh && names_class c.raclist class) || class.listed) (refreshes_listed c classes) all in
      ap (λ row. row ∷ map now_unlisted classes) (is-set class parts.0) ∙ ap (λ rows. set_class c class ∷ rows) (all-set classes parts.1)

  -- ---- all rows
  changed-options : (rows : Rows) → changed (options_edits rows) rows ≡ record rows { options = set_options c rows.options }
  changed-options rows = by (sets_options c) refl
    where
      by : (b : Bool) → sets_options c ≡ b → changed (cond b (PutOptions (set_options c rows.options) ∷ []) []) rows ≡ record rows { options = set_options c rows.options }
      by true is = refl
      by false is = ap (λ options. record rows { options = options }) (options-unset rows.options is)

  name-flagged : (class : ClassRow) → (now_flagged class).name ≡ class.name
  name-flagged class = ap (λ (row : ClassRow). row.name) (is-flagged class)

  name-listed : (class : ClassRow) → (now_listed class).name ≡ class.name
  name-listed class = by (lists c class)
    where
      by : (b : Bool) → (cond b (with_listed true (now_flagged class)) (now_flagged class)).name ≡ class.name
      by true = name-flagged class
      by false = name-flagged class

  map-same : (classes : List ClassRow) → classes ≡ map (λ (class : ClassRow). class) classes
  map-same [] = refl
  map-same (class ∷ classes) = ap (λ rest. class ∷ rest) (map-same classes)

  pub set_ropts-rows : (rows : Rows) → AreClasses rows.classes → refreshes_listed c rows.classes ≡ true → changed (edits_of_set_ropts c rows) rows ≡ after_set_ropts c rows
  set_ropts-rows rows lawful refreshes =
      let classes = rows.classes in
      let apart = lawful-apart classes lawful in
      let set : Rows = record rows { options = set_options c rows.options } in
      let flags = map flags_edit (filter (sets_flags c) classes) in
      let listed = map list_edit (filter (lists c) classes) in
      let unlisted = map unlist_edit (filter (unlists c) classes) in
      changed-both (options_edits rows) (flags ++ (listed ++ unlisted)) rows
      ∙ ap (changed (flags ++ (listed ++ unlisted))) (changed-options rows)
      ∙ changed-both flags (listed ++ unlisted) set
      ∙ ap (changed (listed ++ unlisted))
      (changed-each flags_edit (λ class. let made : ClassRow = set_class c class in with_flags made.active made.global made.log) (λ class before. refl) (λ class row. refl) (sets_flags c) (λ class. class) (λ class. refl) classes set apart (map-same classes))
      ∙ changed-both listed unlisted (record set { classes = map now_flagged classes })
      ∙ ap (changed unlisted)
      (changed-each list_edit (λ class. with_listed true) (λ class before. refl) (λ class row. refl) (lists c) now_flagged name-flagged classes (record set { classes = map now_flagged classes }) apart refl)
      ∙ changed-each unlist_edit (λ class. with_listed false) (λ class before. refl) (λ class row. refl) (unlists c) now_listed name-listed classes (record set { classes = map now_listed classes }) apart refl
      ∙ ap (λ (all : List ClassRow). record set { classes = all }) (all-set classes refreshes)

  -- ---- the edits, made part by part
  module _ (options : Options) (classes : List ClassRow) where
    abbrev first_part : List Edit
    first_part = cond (sets_options c) (PutOptions (set_options c options) ∷ []) []

    abbrev flags_part : List Edit
    flags_part = map flags_edit (filter (sets_flags c) classes)

    abbrev listed_part : List Edit
    listed_part = map list_edit (filter (lists c) classes)

    abbrev unlisted_part : List Edit
    unlisted_part = map unlist_edit (filter (unlists c) classes)

    pub parts-joined : (rows : Rows) (one two three all : List Edit) → options ≡ rows.options → classes ≡ rows.classes → one ≡ first_part → two ≡ one ++ flags_part → three ≡ two ++ listed_part → all ≡ three ++ unlisted_part
        → all ≡ edits_of_set_ropts c rows
    parts-joined rows one two three all same_options same_classes one_is two_is three_is all_is =
        all_is
        ∙ ap (λ edits. edits ++ unlisted_part) (three_is ∙ ap (λ edits. edits ++ listed_part) (two_is ∙ ap (λ edits. edits ++ flags_part) one_is))
        ∙ append_assoc (first_part ++ flags_part) listed_part unlisted_part
        ∙ append_assoc first_part flags_part (listed_part ++ unlisted_part)
        ∙ ap (λ (old : Options). cond (sets_options c) (PutOptions (set_options c old) ∷ []) [] ++ (flags_part ++ (listed_part ++ unlisted_part))) same_options
        ∙ ap (λ (now : List ClassRow). options_edits rows ++ (map flags_edit (filter (sets_flags c) now) ++ (map list_edit (filter (lists c) now) ++ map unlist_edit (filter (unlists c) now)))) same_classes
