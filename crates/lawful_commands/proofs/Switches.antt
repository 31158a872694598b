-- Options that are no names of categories.
use Rattle.std.proofs.Common.{Bool, refl, arith}
use Rattle.racf_profiles.specs.declared.options.Options.{Options}
use Rattle.racf_profiles.specs.declared.rows.Rows.{Rows}
use Rattle.racf_profiles.specs.LawfulProfiles.{IsClass}
use Rattle.racf_profiles.specs.Lawful.{AreLawful}
use Rattle.lawful_commands.proofs.RowLists.{all-each}
use Rattle.lawful_commands.proofs.Kept.{Extends, class-kept, classes-changed}

abbrev switched : Options → Bool → Bool → Bool → Options
switched options grplist protectall mls = record options { grplist = grplist; protectall = protectall; mls = mls }

same_categories : (options : Options) (grplist protectall mls : Bool) → Extends options (switched options grplist protectall mls)
same_categories options grplist protectall mls = record { longer = omega arith; kept = λ name h. h }

pub switched-lawful : (rows : Rows) (grplist protectall mls : Bool) → AreLawful rows → AreLawful (record rows { options = record rows.options { grplist = grplist; protectall = protectall; mls = mls } })
switched-lawful rows grplist protectall mls lawful =
    let options : Options = switched rows.options grplist protectall mls in
    classes-changed rows rows.classes (switched rows.options grplist protectall mls) lawful refl refl lawful.classes.lawful
    (all-each (IsClass rows) (IsClass (record rows { options = switched rows.options grplist protectall mls }))
    (λ class is. class-kept rows (record rows { options = switched rows.options grplist protectall mls }) (λ name h. h) (same_categories rows.options grplist protectall mls) class refl is) rows.classes lawful.each_class)
    lawful.few_profiles lawful.few_entries (same_categories rows.options grplist protectall mls)
    (record { distinct = lawful.categories.distinct; few = lawful.categories.few })
