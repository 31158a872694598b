-- All fixed classes, without profiles.
use Rattle.std.proofs.Common.{◌≡◌, ◌∙◌, ℕ, map, take, sym, ap, subst, arith}
use Rattle.racf_profiles.specs.Counts.{profile_count, entry_count}
use Rattle.racf_profiles.specs.LawfulProfiles.{AreClasses}
use Rattle.racf_profiles.specs.NewDatabase.{empty_class, new_classes}
use Rattle.racf_profiles.specs.ClassTable.{fixed_classes, is_dataset}
use Rattle.class_profiles.specs.Summed.{rows_in}
use Rattle.class_profiles.proofs.NewClasses.{lawful-new}
use Rattle.class_profiles.proofs.class_tables.ClassTables.new.Goals as goal

pub invariant_of-result : goal.invariant_of-result
invariant_of-result c =
    let all : c.loop-class.class-index ≡ 15 = omega (arith, c.loop-class-test.false, c.loop-class.auto.class-index-end) in
    let rows : rows_in c.loop-class.classes.items ≡ new_classes is_dataset =
    c.loop-class.invariant ∙ ap (λ (n : ℕ). map (λ class. empty_class (is_dataset class) class) (take n fixed_classes)) all in
    record {
      lawful = subst AreClasses (sym rows) (lawful-new is_dataset);
      counted = sym (ap profile_count rows);
      entries_counted = sym (ap entry_count rows);
      few = omega arith;
      few_entries = omega arith;
    }
