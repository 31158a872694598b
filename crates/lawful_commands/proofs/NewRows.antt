-- The rows of a new database are lawful, whichever classes are active beside DATASET.
use Rattle.std.proofs.Common.{◌≡◌, Bool, true, false, cond, not, ◌||◌, List, [], ◌∷◌, length, map, Option, None, Some, is_some, bytes_eq, codes, refl, sym, ap, subst, ◌∙◌, true≢false, arith, zero-add}
use Rattle.std.specs.Prelude.{sum_by}
use Rattle.std.specs.List.{AllByRecursion}
use Rattle.std.proofs.lemmas.List.Sums.{sum_by-cons}
use Rattle.racf_profiles.specs.declared.groups.Group.{Group}
use Rattle.racf_profiles.specs.declared.class_rows.ClassRow.{ClassRow}
use Rattle.racf_profiles.specs.declared.rows.Rows.{Rows}
use Rattle.racf_profiles.specs.declared.fixed_classes.FixedClass.{FixedClass}
use Rattle.racf_profiles.specs.declared.fixed_classes.FixedClass.TheVariants.{Dataset}
use Rattle.racf_profiles.specs.ClassTable.{fixed_classes, class_name}
use Rattle.racf_profiles.specs.NewDatabase.{sys1, ibmuser, empty_class, new_rows, no_options}
use Rattle.racf_profiles.specs.Counts.{profile_count, entry_count, entries_in}
use Rattle.racf_profiles.specs.Tree.{IsTree}
use Rattle.racf_profiles.specs.LawfulProfiles.{AreProfiles, AreClassNames, IsClass, kind_in}
use Rattle.racf_profiles.specs.Lawful.{AreLawful}
use Rattle.group_tree.proofs.Rows.{same}
use Rattle.lawful_commands.proofs.RowLists.{distinct-none, distinct-one, names-apart}
use Rattle.lawful_commands.proofs.ClassLists.{find-push}
use Rattle.lawful_commands.proofs.Kept.{defined-none}

-- ---- SYS1 alone
only_group : (b : Bool) (group : Group) → cond b (Some sys1) None ≡ Some group → (b ≡ true) × (group ≡ sys1)
only_group true group h = (refl, let it : sys1 ≡ group = cc in sym it)
only_group false group h = cc

only_there : (b : Bool) → (let found : Option Group = cond b (Some sys1) None in is_some found) ≡ true → b ≡ true
only_there true h = refl
only_there false h = absurd (true≢false (sym h))

one_group-tree : IsTree (sys1 ∷ [])
one_group-tree = record {
  distinct = distinct-one bytes_eq sys1.id;
  most = omega arith;
  root = refl;
  root_alone = λ id group found.
      let one = only_group (bytes_eq sys1.id id) group found in
      (λ none. sym (same sys1.id id one.0), λ is. ap (λ (g : Group). g.superior) one.1);
  upwards = λ id there. record { others = []; way = (there, sym (same sys1.id id (only_there (bytes_eq sys1.id id) there))) };
}

-- ---- the fixed classes are a class table
fixed-names : AreClassNames (map class_name fixed_classes)
fixed-names = record { fixed = refl; distinct = names-apart (map class_name fixed_classes) refl; few = omega arith }

-- ---- classes without profiles
module _ (is_active : FixedClass → Bool) where
  rows : Rows
  rows = new_rows is_active

  classes : List FixedClass → List ClassRow
  classes fixed = map (λ class. empty_class (is_active class) class) fixed

  names-empty : (fixed : List FixedClass) → map (λ (class : ClassRow). class.name) (classes fixed) ≡ map class_name fixed
  unfolding classes
  names-empty [] = refl
  names-empty (class ∷ fixed) = ap (λ names. class_name class ∷ names) (names-empty fixed)

  profiles-empty : (fixed : List FixedClass) → AllByRecursion (λ (class : ClassRow). AreProfiles (kind_in class.name) class.profiles) (classes fixed)
  unfolding classes
  profiles-empty [] = tt
  profiles-empty (class ∷ fixed) = (record { named = tt; ordered = refl; few = omega arith }, profiles-empty fixed)

  each-empty : is_active Dataset ≡ true → (fixed : List FixedClass) → AllByRecursion (IsClass (new_rows is_active)) (classes fixed)
  unfolding classes
  each-empty active [] = tt
  each-empty active (class ∷ fixed) = (record { active = by class; listed = refl; profiles = tt }, each-empty active fixed)
    where
      by : (c : FixedClass) → (not (bytes_eq (class_name c) (codes "DATASET")) || is_active c) ≡ true
      by Dataset = active
      by other = refl

  count-empty : (fixed : List FixedClass) → profile_count (classes fixed) ≡ 0
  unfolding classes
  count-empty [] = refl
  count-empty (class ∷ fixed) = sum_by-cons (λ (c : ClassRow). length c.profiles) (empty_class (is_active class) class) (classes fixed) ∙ zero-add _ ∙ count-empty fixed

  entries-empty : (fixed : List FixedClass) → entry_count (classes fixed) ≡ 0
  unfolding classes
  entries-empty [] = refl
  entries-empty (class ∷ fixed) = sum_by-cons (λ (c : ClassRow). sum_by entries_in c.profiles) (empty_class (is_active class) class) (classes fixed) ∙ zero-add _ ∙ entries-empty fixed

  pub new_rows-lawful : is_active Dataset ≡ true → AreLawful (new_rows is_active)
  unfolding classes
  new_rows-lawful active = record {
    groups = one_group-tree;
    group_names = (refl, tt);
    users = record { distinct = distinct-one bytes_eq ibmuser.id; few = omega arith };
    each_user = (
      record {
        no_group = refl;
        name = refl;
        connections = record { distinct = distinct-one bytes_eq sys1.id; there = (refl, tt); default = refl; few = omega arith };
        classes_distinct = distinct-none bytes_eq;
        classes_there = refl;
        categories = defined-none no_options;
      },
      tt,
    );
    special_user = refl;
    few_connections = omega arith;
    classes = record { names = subst AreClassNames (sym (names-empty fixed_classes)) fixed-names; lawful = profiles-empty fixed_classes };
    each_class = each-empty active fixed_classes;
    dynamic = record { defined = refl; there = refl };
    few_profiles = omega (arith, count-empty fixed_classes);
    few_entries = omega (arith, entries-empty fixed_classes);
    categories = record { distinct = distinct-none bytes_eq; few = omega arith };
  }
