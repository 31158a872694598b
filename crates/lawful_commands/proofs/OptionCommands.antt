-- SETROPTS leaves lawful rows.
use Rattle.std.proofs.Common.{◌≡◌, ℕ, ◌≤◌, ◌+◌, Bool, true, false, cond, ◌||◌, ◌&&◌, not, List, [], ◌∷◌, length, map, Option, None, Some, option_map, bytes_eq, codes, refl, sym, ap, subst, ◌∙◌, true≢false, arith}
use Rattle.std.specs.Prelude.{find, sum_by}
use Rattle.std.specs.Option.{option_map_or}
use Rattle.std.proofs.lemmas.List.Sums.{sum_by-cons}
use Rattle.racf_profiles.specs.declared.class_rows.ClassRow.{ClassRow}
use Rattle.racf_profiles.specs.declared.options.Options.{Options}
use Rattle.racf_profiles.specs.declared.rows.Rows.{Rows}
use Rattle.racf_profiles.specs.LawfulProfiles.{AreProfiles, IsClass, kind_in}
use Rattle.racf_profiles.specs.Counts.{entries_in}
use Rattle.racf_profiles.specs.Lawful.{AreLawful}
use Rattle.group_tree.proofs.Rows.{same, itself}
use Rattle.command_fields.specs.declared.option_fields.SetRopts.{SetRopts}
use Rattle.command_rules.specs.UserEffects.{switched}
use Rattle.command_rules.specs.OptionEffects.{names_class, set_class, set_options, after_set_ropts}
use Rattle.command_rules.specs.ProfileEffects.{dataset}
use Rattle.command_rules.specs.declared.conflict.Conflict.{Conflict}
use Rattle.command_rules.specs.OptionConflicts.{may_be_listed, always_active_class, never_listed_class, listed_anew, set_ropts_conflicts}
use Rattle.command_rules.specs.Conflicts.{first_met}
use Rattle.command_rules.proofs.Unmet.{each_unmet}
use Rattle.lawful_commands.proofs.RowLists.{all-each, all-map}
use Rattle.racf_profiles.specs.DynamicClasses.{cdt}
use Rattle.racf_profiles.specs.Lookup.{is_class}
use Rattle.lawful_commands.proofs.ClassTraits.{said_by}
use Rattle.lawful_commands.proofs.Kept.{Extends, class-kept, classes-changed}

pub unmapped : {X : Type 0} (f : X → Conflict) (o : Option X) → option_map f o ≡ None → o ≡ None
unmapped f None h = refl
unmapped f (Some x) h = cc

-- A class of which a test holds is none of the names of which it doesn't hold.
pub never-named : (is : List ℕ → Bool) (class : ClassRow) → is class.name ≡ true → (names : List (List ℕ)) → find is names ≡ None → names_class names class ≡ false
never-named is class holds [] none = refl
never-named is class holds (name ∷ names) none = by (is name) refl (bytes_eq name class.name) refl (never-named is class holds names)
  where
    by : (b : Bool) → is name ≡ b → (e : Bool) → bytes_eq name class.name ≡ e → (find is names ≡ None → names_class names class ≡ false) → (bytes_eq name class.name || names_class names class) ≡ false
    by true passes e equal rest = let some : find is (name ∷ names) ≡ Some name = ap (λ c. cond c (Some name) (find is names)) passes in cc
    by false fails true equal rest = absurd (true≢false (sym holds ∙ ap is (sym (same name class.name equal)) ∙ fails))
    by false fails false equal rest = ap (λ b. b || names_class names class) equal ∙ rest (sym (ap (λ c. cond c (Some name) (find is names)) fails) ∙ none)

module _ (c : SetRopts) (rows : Rows) (free : first_met (set_ropts_conflicts c rows) ≡ None) where
  none-inactive : find (bytes_eq dataset) c.noclassact ≡ None
  unfolding set_ropts_conflicts always_active_class
  none-inactive = unmapped _ (find (bytes_eq dataset) c.noclassact) (each_unmet (set_ropts_conflicts c rows) free).1.1.1.1.1.1.1.1.1.1.1.0

  none-listed : find (λ name. not (may_be_listed name rows)) (listed_anew c) ≡ None
  unfolding set_ropts_conflicts never_listed_class
  none-listed = unmapped _ (find (λ name. not (may_be_listed name rows)) (listed_anew c)) (each_unmet (set_ropts_conflicts c rows) free).1.1.1.1.1.1.1.1.1.1.1.1.0

  -- ---- DATASET stays active
  stays-active : (class : ClassRow) → (not (bytes_eq class.name (codes "DATASET")) || class.active) ≡ true → (not (bytes_eq class.name (codes "DATASET")) || (set_class c class).active) ≡ true
  stays-active class is = by (bytes_eq class.name (codes "DATASET")) refl is
    where
      by : (b : Bool) → bytes_eq class.name (codes "DATASET") ≡ b → (not b || class.active) ≡ true → (not b || (set_class c class).active) ≡ true
      by false e h = refl
      by true e h =
          let off : names_class c.noclassact class ≡ false = never-named (bytes_eq dataset) class (ap (bytes_eq dataset) (same class.name dataset e) ∙ itself dataset) c.noclassact none-inactive in
          ap (λ b. switched (names_class c.classact class) b class.active) off ∙ on (names_class c.classact class) class.active h
        where
          on : (named active : Bool) → active ≡ true → (named || active) ≡ true
          on true active k = refl
          on false active k = k

  -- ---- only what may be RACLISTed is
  unless-new : (class : ClassRow) → may_be_listed class.name rows ≡ false → (names_class c.raclist class && not c.refresh) ≡ false
  unless-new class never = by c.refresh refl
    where
      by : (b : Bool) → c.refresh ≡ b → (names_class c.raclist class && not c.refresh) ≡ false
      by true e = ap (λ b. names_class c.raclist class && not b) e ∙ and-false (names_class c.raclist class)
        where
          and-false : (b : Bool) → (b && false) ≡ false
          and-false true = refl
          and-false false = refl
      by false e =
          let names : listed_anew c ≡ c.raclist = ap (λ b. cond b [] c.raclist) e in
          let none : find (λ name. not (may_be_listed name rows)) c.raclist ≡ None = ap (find (λ name. not (may_be_listed name rows))) (sym names) ∙ none-listed in
          ap (λ b. b && not c.refresh) (never-named (λ name. not (may_be_listed name rows)) class (ap not never) c.raclist none)

  stays-listable : (class : ClassRow) → (not class.listed || may_be_listed class.name rows) ≡ true → (not (set_class c class).listed || may_be_listed class.name rows) ≡ true
  stays-listable class is = by (may_be_listed class.name rows) refl is
    where
      by : (b : Bool) → may_be_listed class.name rows ≡ b → (not class.listed || b) ≡ true → (not (set_class c class).listed || b) ≡ true
      by true e h = or-true (not (set_class c class).listed)
        where
          or-true : (b : Bool) → (b || true) ≡ true
          or-true true = refl
          or-true false = refl
      by false e h =
          ap (λ b. not (switched b (names_class c.noraclist class) class.listed) || false) (unless-new class e) ∙ unlisted (names_class c.noraclist class) class.listed h
        where
          unlisted : (off listed : Bool) → (not listed || false) ≡ true → (not (switched false off listed) || false) ≡ true
          unlisted true listed k = refl
          unlisted false listed k = k

  class-lawful : (class : ClassRow) → IsClass rows class → IsClass rows (set_class c class)
  class-lawful class is = record { active = stays-active class is.active; listed = stays-listable class is.listed; profiles = is.profiles }

  -- ---- names, profiles and categories stay
  names-set : (classes : List ClassRow) → map (λ (class : ClassRow). class.name) (map (set_class c) classes) ≡ map (λ (class : ClassRow). class.name) classes
  names-set [] = refl
  names-set (class ∷ classes) = ap (λ names. class.name ∷ names) (names-set classes)

  -- the classes keep their profiles, so what CDT says stays
  said-set : (classes : List ClassRow) → map said_by (option_map_or (λ (row : ClassRow). row.profiles) (find (is_class cdt) (map (set_class c) classes)) []) ≡ map said_by (option_map_or (λ (row : ClassRow). row.profiles) (find (is_class cdt) classes) [])
  said-set [] = refl
  said-set (class ∷ classes) = by (is_class cdt class) (said-set classes)
    where
      by : (b : Bool) → map said_by (option_map_or (λ (row : ClassRow). row.profiles) (find (is_class cdt) (map (set_class c) classes)) []) ≡ map said_by (option_map_or (λ (row : ClassRow). row.profiles) (find (is_class cdt) classes) [])
          → map said_by (option_map_or (λ (row : ClassRow). row.profiles) (cond b (Some (set_class c class)) (find (is_class cdt) (map (set_class c) classes))) [])
          ≡ map said_by (option_map_or (λ (row : ClassRow). row.profiles) (cond b (Some class) (find (is_class cdt) classes)) [])
      by true rest = refl
      by false rest = rest

  sum-set : (weight : ClassRow → ℕ) → ((class : ClassRow) → weight (set_class c class) ≡ weight class) → (classes : List ClassRow) → sum_by weight (map (set_class c) classes) ≡ sum_by weight classes
  sum-set weight keeps [] = refl
  sum-set weight keeps (class ∷ classes) =
      sum_by-cons weight (set_class c class) (map (set_class c) classes) ∙ ap (λ n. n + sum_by weight (map (set_class c) classes)) (keeps class)
      ∙ ap (λ n. weight class + n) (sum-set weight keeps classes) ∙ sym (sum_by-cons weight class classes)

  same_categories : Extends rows.options (set_options c rows.options)
  same_categories = record { longer = omega arith; kept = λ name h. h }

  pub set_ropts-lawful : AreLawful rows → AreLawful (after_set_ropts c rows)
  set_ropts-lawful lawful =
      let options : Options = set_options c rows.options in
      let set : Rows = record rows { options = options } in
      classes-changed rows (map (set_class c) rows.classes) options lawful (names-set rows.classes) (said-set rows.classes)
      (all-map (set_class c) (λ (class : ClassRow). AreProfiles (kind_in class.name) class.profiles) rows.classes lawful.classes.lawful)
      (all-map (set_class c) (IsClass set) rows.classes
      (all-each (IsClass rows) (λ class. IsClass set (set_class c class)) (λ class is. class-kept rows set (λ name h. h) same_categories (set_class c class) refl (class-lawful class is)) rows.classes lawful.each_class))
      (subst (λ n. n ≤ 100000) (sym (sum-set (λ (class : ClassRow). length class.profiles) (λ class. refl) rows.classes)) lawful.few_profiles)
      (subst (λ n. n ≤ 1000000) (sym (sum-set (λ (class : ClassRow). sum_by entries_in class.profiles) (λ class. refl) rows.classes)) lawful.few_entries)
      same_categories
      (record { distinct = lawful.categories.distinct; few = lawful.categories.few })
