-- Edits of classes, each of the class of its name: what one made for each class that passes a test makes of all.
use Rattle.std.proofs.Common.{◌≡◌, ℕ, Bool, true, false, cond, ◌&&◌, not, List, [], ◌∷◌, ◌++◌, map, refl, sym, ap, subst, ◌∙◌}
use Rattle.std.specs.List.{filter, AllByRecursion, IsDistinct}
use Rattle.std.specs.Prelude.{⊤}
use Rattle.std.specs.Str.{bytes_eq}
use Rattle.std.proofs.lemmas.Bool.{and_parts, not-true}
use Rattle.std.proofs.lemmas.Slice.Eq.{bytes_eq-Decides}
use Rattle.racf_profiles.specs.declared.class_rows.ClassRow.{ClassRow}
use Rattle.racf_profiles.specs.declared.rows.Rows.{Rows}
use Rattle.racf_profiles.specs.declared.edits.Edit.{Edit}
use Rattle.racf_profiles.specs.Lookup.{is_class}
use Rattle.racf_profiles.specs.Edits.{at_class, edited, changed}
use Rattle.racf_profiles.specs.LawfulProfiles.{AreClasses, AreClassNames, AreProfiles, kind_in, names_of}
use Rattle.racf_profiles.specs.Lawful.{LeaveLawfulClasses}

pub changed-both : (first last : List Edit) (rows : Rows) → changed (first ++ last) rows ≡ changed last (changed first rows)
changed-both [] last rows = refl
changed-both (edit ∷ edits) last rows = changed-both edits last (edited edit rows)

-- ---- names
-- the class has none of the names of these
abbrev HasOther : ClassRow → List ClassRow → Type 0
HasOther class others = AllByRecursion (λ (other : ClassRow). is_class other.name class ≡ false) others

abbrev pub AreApart : List ClassRow → Type 0
AreApart [] = ⊤
AreApart (class ∷ classes) = HasOther class classes × AreApart classes

has-other : (class : ClassRow) (others : List ClassRow) → AllByRecursion (λ name. bytes_eq class.name name ≡ false) (names_of others) → HasOther class others
has-other class [] all = tt
has-other class (other ∷ others) all = (all.0, has-other class others all.1)

apart : (classes : List ClassRow) → IsDistinct bytes_eq (names_of classes) → AreApart classes
unfolding IsDistinct
apart [] all = tt
apart (class ∷ classes) all = (has-other class classes all.0, apart classes all.1)

pub lawful-apart : (classes : List ClassRow) → AreClasses classes → AreApart classes
lawful-apart classes lawful = apart classes lawful.names.distinct

-- of those that pass it has the name of none either
other-passing : (test : ClassRow → Bool) (class row : ClassRow) (others : List ClassRow) → row.name ≡ class.name → HasOther class others → HasOther row (filter test others)
other-passing test class row [] same apart = tt
other-passing test class row (other ∷ others) same apart = by (test other) (other-passing test class row others same apart.1)
  where
    by : (b : Bool) → HasOther row (filter test others) → HasOther row (cond b (other ∷ filter test others) (filter test others))
    by true rest = (ap (λ name. bytes_eq name other.name) same ∙ apart.0, rest)
    by false rest = rest

-- ---- an edit for each class that passes, each a change of the class of its name
module _ (edit : ClassRow → Edit) (change : ClassRow → ClassRow → ClassRow)
    (does : (class : ClassRow) (rows : Rows) → edited (edit class) rows ≡ record rows { classes = at_class class.name (change class) rows.classes }) (keeps : (class row : ClassRow) → (change class row).name ≡ row.name) where
  abbrev run : List ClassRow → List ClassRow → List ClassRow
  run [] rows = rows
  run (class ∷ classes) rows = run classes (at_class class.name (change class) rows)

  changed-run : (classes : List ClassRow) (rows : Rows) → changed (map edit classes) rows ≡ record rows { classes = run classes rows.classes }
  changed-run [] rows = refl
  changed-run (class ∷ classes) rows = ap (changed (map edit classes)) (does class rows) ∙ changed-run classes (record rows { classes = at_class class.name (change class) rows.classes })

  -- a class that has none of their names stays in front
  run-other : (row : ClassRow) (rows classes : List ClassRow) → HasOther row classes → run classes (row ∷ rows) ≡ row ∷ run classes rows
  run-other row rows [] other = refl
  run-other row rows (class ∷ classes) other =
      ap (λ b. run classes (cond b (change class row ∷ rows) (row ∷ at_class class.name (change class) rows))) other.0 ∙ run-other row (at_class class.name (change class) rows) classes other.1

  module _ (test : ClassRow → Bool) (now : ClassRow → ClassRow) (named : (class : ClassRow) → (now class).name ≡ class.name) where
    abbrev after : ClassRow → ClassRow
    after class = cond (test class) (change class (now class)) (now class)

    run-each : (classes : List ClassRow) → AreApart classes → run (filter test classes) (map now classes) ≡ map after classes
    run-each [] apart = refl
    run-each (class ∷ classes) apart = by (test class) (run-each classes apart.1)
      where
        front : (row : ClassRow) → row.name ≡ class.name → run (filter test classes) (map now classes) ≡ map after classes → run (filter test classes) (row ∷ map now classes) ≡ row ∷ map after classes
        front row same rest = run-other row (map now classes) (filter test classes) (other-passing test class row classes same apart.0) ∙ ap (λ rows. row ∷ rows) rest

        own : is_class class.name (now class) ≡ true
        own = (bytes_eq-Decides (now class).name class.name).1 (named class)

        by : (b : Bool) → run (filter test classes) (map now classes) ≡ map after classes
            → run (cond b (class ∷ filter test classes) (filter test classes)) (now class ∷ map now classes) ≡ cond b (change class (now class)) (now class) ∷ map after classes
        by true rest =
            ap (λ b. run (filter test classes) (cond b (change class (now class) ∷ map now classes) (now class ∷ at_class class.name (change class) (map now classes)))) own
            ∙ front (change class (now class)) (keeps class (now class) ∙ named class) rest
        by false rest = front (now class) (named class) rest

    pub changed-each : (classes : List ClassRow) (rows : Rows) → AreApart classes → rows.classes ≡ map now classes
        → changed (map edit (filter test classes)) rows ≡ record rows { classes = map after classes }
    changed-each classes rows apart is =
        changed-run (filter test classes) rows ∙ ap (λ (all : List ClassRow). record rows { classes = all }) (ap (run (filter test classes)) is ∙ run-each classes apart)

-- ---- the classes stay lawful
abbrev pub KeepsClasses : Edit → Type 0
KeepsClasses edit = (rows : Rows) → AreClasses rows.classes → AreClasses (edited edit rows).classes

pub leave-classes : (edits : List Edit) (rows : Rows) → AllByRecursion KeepsClasses edits → AreClasses rows.classes → LeaveLawfulClasses edits rows
leave-classes [] rows keep lawful = tt
leave-classes (edit ∷ edits) rows keep lawful = let next = keep.0 rows lawful in (next, leave-classes edits (edited edit rows) keep.1 next)

pub keep-both : (first last : List Edit) → AllByRecursion KeepsClasses first → AllByRecursion KeepsClasses last → AllByRecursion KeepsClasses (first ++ last)
keep-both [] last keep keep_last = keep_last
keep-both (edit ∷ edits) last keep keep_last = (keep.0, keep-both edits last keep.1 keep_last)

pub keep-each : (edit : ClassRow → Edit) → ((class : ClassRow) → KeepsClasses (edit class)) → (classes : List ClassRow) → AllByRecursion KeepsClasses (map edit classes)
keep-each edit keeps [] = tt
keep-each edit keeps (class ∷ classes) = (keeps class, keep-each edit keeps classes)

-- where a class is changed that keeps its name and its profiles
module _ (name : List ℕ) (change : ClassRow → ClassRow) (named : (row : ClassRow) → (change row).name ≡ row.name) where
  pub names-kept : (classes : List ClassRow) → map (λ (class : ClassRow). class.name) (at_class name change classes) ≡ map (λ (class : ClassRow). class.name) classes
  names-kept [] = refl
  names-kept (class ∷ classes) = by (is_class name class) (names-kept classes)
    where
      by : (b : Bool) → map (λ (one : ClassRow). one.name) (at_class name change classes) ≡ map (λ (one : ClassRow). one.name) classes
          → map (λ (one : ClassRow). one.name) (cond b (change class ∷ classes) (class ∷ at_class name change classes)) ≡ class.name ∷ map (λ (one : ClassRow). one.name) classes
      by true rest = ap (λ first. first ∷ map (λ (one : ClassRow). one.name) classes) (named class)
      by false rest = ap (λ names. class.name ∷ names) rest

  abbrev HasProfiles : ClassRow → Type 0
  HasProfiles class = AreProfiles (kind_in class.name) class.profiles

  module _ (profiled : (row : ClassRow) → HasProfiles row → HasProfiles (change row)) where
    profiles-kept : (classes : List ClassRow) → AllByRecursion HasProfiles classes → AllByRecursion HasProfiles (at_class name change classes)
    profiles-kept [] all = tt
    profiles-kept (class ∷ classes) all = by (is_class name class) (profiles-kept classes all.1)
      where
        by : (b : Bool) → AllByRecursion HasProfiles (at_class name change classes) → AllByRecursion HasProfiles (cond b (change class ∷ classes) (class ∷ at_class name change classes))
        by true rest = (profiled class all.0, all.1)
        by false rest = (all.0, rest)

    pub lawful-kept : (classes : List ClassRow) → AreClasses classes → AreClasses (at_class name change classes)
    lawful-kept classes lawful = record { names = subst AreClassNames (sym (names-kept classes)) lawful.names; lawful = profiles-kept classes lawful.lawful }
