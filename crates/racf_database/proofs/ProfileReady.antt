-- What a command on profiles makes can be made without memory, where the rows after it are lawful and room was taken.
use Rattle.std.proofs.Common.{◌≡◌, ℕ, ◌≤◌, not, ◌&&◌, ◌||◌, List, [], ◌∷◌, ◌++◌, length, Option, None, Some, is_some, refl, sym, ap, subst, ◌∙◌, arith}
use Rattle.std.specs.Prelude.{IfSome}
use Rattle.std.specs.List.{list_any}
use Rattle.generic_names.specs.Spelled.{Spelled}
use Rattle.generic_names.specs.Laws.{OneIsBefore, PassedOn}
use Rattle.racf_profiles.specs.declared.profiles.Profile.{Profile}
use Rattle.racf_profiles.specs.declared.profiles.Member.{Member}
use Rattle.racf_profiles.specs.declared.class_rows.ClassRow.{ClassRow}
use Rattle.racf_profiles.specs.declared.options.Options.{Options}
use Rattle.racf_profiles.specs.declared.rows.Rows.{Rows}
use Rattle.racf_profiles.specs.declared.edits.Edit.TheVariants.{PutProfile}
use Rattle.racf_profiles.specs.Edits.{changed, put_profile, at_class, with_profile}
use Rattle.racf_profiles.specs.Counts.{profile_count, entry_count}
use Rattle.racf_profiles.specs.Limits.{most_class_profiles, most_profiles, most_entries_in_all}
use Rattle.racf_profiles.specs.Lookup.{is_class, class_of, profile_of}
use Rattle.racf_profiles.specs.LawfulProfiles.{AreClasses, AreProfiles, kind_in}
use Rattle.racf_profiles.specs.Lawful.{AreLawful}
use Rattle.racf_profiles.proofs.States.{same_class}
use Rattle.racf_profiles.proofs.Found.{all-found}
use Rattle.group_tree.proofs.Rows.{itself}
use Rattle.row_tables.specs.Tables.{Tables, classes_in}
use Rattle.row_tables.specs.Applying.{CanApply, HasRoom, adds_into}
use Rattle.class_profiles.specs.Classes.{room_in}
use Rattle.command_rules.specs.Edits.{put_changed, put_options}
use Rattle.lawful_commands.proofs.ProfileRows.{PutsAreCounted, found-at_class, found-profile, new-kind}

-- What holds behind a profile that is put, where the rows after the whole change are lawful.
pub record IsPlaced (members : List Member) (options : Options) (rows : Rows) : Type 0 where
  pub classes : AreClasses rows.classes
  pub few_profiles : profile_count rows.classes ≤ most_profiles
  pub few_entries : entry_count rows.classes ≤ most_entries_in_all
  pub rest : (tables : Tables) → CanApply tables (put_options members options)

placed : (members : List Member) (options : Options) (rows : Rows) → AreLawful (changed (put_options members options) rows) → IsPlaced members options rows
placed [] options rows after = record { classes = after.classes; few_profiles = after.few_profiles; few_entries = after.few_entries; rest = λ tables. tt }
placed (member ∷ members) options rows after = record { classes = after.classes; few_profiles = after.few_profiles; few_entries = after.few_entries; rest = λ tables. (after.categories.few, tt) }

module _ (tables : Tables) where
  -- ---- a profile is put into a class that is there
  pub profile-ready : (class : List ℕ) (profile : Profile) (members : List Member) (options : Options) (row : ClassRow) → class_of class tables.rows ≡ Some row → profile.name.kind ≡ kind_in class
      → HasRoom tables (PutProfile class profile ∷ put_options members options) → AreLawful (changed (PutProfile class profile ∷ put_options members options) tables.rows)
      → CanApply tables (PutProfile class profile ∷ put_options members options)
  profile-ready class profile members options row here kind room after =
      let is = placed members options (record tables.rows { classes = at_class class (with_profile profile) tables.rows.classes }) after in
      let found = found-at_class class (with_profile profile) (λ r. refl) row tables.rows.classes here in
      let few : length (put_profile profile row.profiles) ≤ most_class_profiles =
      (all-found (λ (r : ClassRow). AreProfiles (kind_in r.name) r.profiles) (is_class class) (at_class class (with_profile profile) tables.rows.classes) (with_profile profile row) is.classes.lawful found).few in
      let free : profile_of class profile.name tables.rows ≡ None → length (PutProfile class profile ∷ put_options members options) ≤ room_in class (classes_in tables) =
      λ none. room.profiles class
      (ap (λ b. b && not (is_some (profile_of class profile.name tables.rows)) || list_any (adds_into class tables.rows) (put_options members options)) (itself class)
      ∙ ap (λ o. not (is_some o) || list_any (adds_into class tables.rows) (put_options members options)) none)
      (ap is_some here) in (
        record {
          kind = kind;
          room = λ none. let one = free none in omega (arith, one);
          few_in_class = subst (λ (o : Option ClassRow). IfSome o (λ (r : ClassRow). length (put_profile profile r.profiles) ≤ most_class_profiles)) (sym here) few;
          few = is.few_profiles;
          few_entries = is.few_entries;
        },
        is.rest _,
      )

  -- ---- a profile that is there is changed, and keeps its name
  module _ (one : OneIsBefore) (puts : PutsAreCounted) (passed_on : PassedOn) (lawful : AreLawful tables.rows) (class : List ℕ) (name : Spelled) (change : Profile → Profile) (keeps : (p : Profile) → (change p).name ≡ p.name) where
    one-ready : (members : List Member) (options : Options) (old : Profile) → profile_of class name tables.rows ≡ Some old → HasRoom tables (PutProfile class (change old) ∷ put_options members options)
        → AreLawful (changed (PutProfile class (change old) ∷ put_options members options) tables.rows) → CanApply tables (PutProfile class (change old) ∷ put_options members options)
    one-ready members options old found room after =
        let there = found-profile one puts passed_on class name tables.rows old found in
        profile-ready class (change old) members options there.0 there.1
        (new-kind one puts passed_on tables.rows lawful class name there.0 there.1 old (change old) there.2 (keeps old) ∙ ap kind_in (same_class class there.0 tables.rows.classes there.1)) room after

    pub changed-ready : (members : List Member) (options : Options) (o : Option Profile) → profile_of class name tables.rows ≡ o → HasRoom tables (put_changed class change o ++ put_options members options)
        → AreLawful (changed (put_changed class change o ++ put_options members options) tables.rows) → CanApply tables (put_changed class change o ++ put_options members options)
    changed-ready members options None none room after = (placed members options tables.rows after).rest tables
    changed-ready members options (Some old) found room after = one-ready members options old found room after

    pub alone-ready : (o : Option Profile) → profile_of class name tables.rows ≡ o → HasRoom tables (put_changed class change o) → AreLawful (changed (put_changed class change o) tables.rows) → CanApply tables (put_changed class change o)
    alone-ready None none room after = tt
    alone-ready (Some old) found room after = one-ready [] tables.rows.options old found room after
