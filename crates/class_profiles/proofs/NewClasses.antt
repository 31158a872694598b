-- The classes of a new database are a lawful class table.
use Rattle.std.proofs.Common.{Bool, List, [], ◌∷◌, map, refl, arith}
use Rattle.std.specs.List.{AllByRecursion}
use Rattle.std.specs.Cmp.Lexicographic.{nat_list_eq_equiv}
use Rattle.std.proofs.lemmas.Map.Made.{IsDistinct-from_count}
use Rattle.racf_profiles.specs.declared.class_rows.ClassRow.{ClassRow}
use Rattle.racf_profiles.specs.declared.fixed_classes.FixedClass.{FixedClass}
use Rattle.racf_profiles.specs.ClassTable.{class_name, fixed_classes}
use Rattle.racf_profiles.specs.NewDatabase.{empty_class, new_classes}
use Rattle.racf_profiles.specs.LawfulProfiles.{AreClasses, AreProfiles, kind_in}

all-empty : (is_active : FixedClass → Bool) (fixed : List FixedClass) → AllByRecursion (λ (c : ClassRow). AreProfiles (kind_in c.name) c.profiles) (map (λ class. empty_class (is_active class) class) fixed)
all-empty is_active [] = tt
all-empty is_active (f ∷ fs) = (record { named = tt; ordered = refl; few = omega arith }, all-empty is_active fs)

pub lawful-new : (is_active : FixedClass → Bool) → AreClasses (new_classes is_active)
lawful-new is_active = record {
  names = record { fixed = refl; distinct = IsDistinct-from_count nat_list_eq_equiv (map class_name fixed_classes) refl; few = omega arith };
  lawful = all-empty is_active fixed_classes;
}
