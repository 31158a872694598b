-- What RDEFINE and RDELETE in class CDT make can be made without memory, once room was taken.
use Rattle.std.proofs.Common.{◌≡◌, ℕ, ◌+◌, ◌≤◌, Bool, true, false, cond, not, ◌&&◌, ◌||◌, List, [], ◌∷◌, ◌++◌, length, map, Option, None, Some, is_some, is_ok, bytes_eq, refl, sym, ap, subst, ◌∙◌, arith}
use Rattle.std.specs.Prelude.{IfSome, find, sum_by}
use Rattle.std.specs.List.{AllByRecursion, IsDistinct, filter, list_any}
use Rattle.std.specs.Option.{option_map_or}
use Rattle.std.specs.Result.{result_ok}
use Rattle.access_levels.specs.Spelling.{id_of}
use Rattle.generic_names.specs.Spelled.{Spelled}
use Rattle.generic_names.specs.Laws.{NotBoth, OneIsBefore, PassedOn}
use Rattle.generic_names.specs.declared.kind.NameKind.TheVariants.{General}
use Rattle.racf_profiles.specs.declared.users.User.{User}
use Rattle.racf_profiles.specs.declared.profiles.Profile.{Profile}
use Rattle.racf_profiles.specs.declared.class_rows.ClassRow.{ClassRow}
use Rattle.racf_profiles.specs.declared.rows.Rows.{Rows}
use Rattle.racf_profiles.specs.declared.edits.Edit.{Edit}
use Rattle.racf_profiles.specs.declared.edits.Edit.TheVariants.{PutUser, PutProfile, DropProfile, AddClass, DropClass}
use Rattle.racf_profiles.specs.DynamicClasses.{cdt}
use Rattle.racf_profiles.specs.Edits.{changed, put_row, put_profile, at_class, with_profile, without_profile, added_class}
use Rattle.racf_profiles.specs.Counts.{profile_count, entry_count, entries_in}
use Rattle.racf_profiles.specs.Limits.{most_class_profiles}
use Rattle.racf_profiles.specs.Lookup.{is_user, is_class, class_of, profile_of}
use Rattle.racf_profiles.specs.Names.{connections, connected_to}
use Rattle.racf_profiles.specs.LawfulProfiles.{AreProfiles, kind_in}
use Rattle.racf_profiles.specs.Lawful.{AreLawful}
use Rattle.racf_profiles.proofs.EditLaws.{put_row-others, other_name}
use Rattle.racf_profiles.proofs.Found.{find-hit, find-miss, all-found}
use Rattle.group_tree.proofs.Rows.{same as same_text, itself}
use Rattle.class_profiles.specs.Classes.{room_in}
use Rattle.row_tables.specs.Tables.{Tables, classes_in}
use Rattle.row_tables.specs.Applying.{CanApply, HasRoom, adds_into, tables_after}
use Rattle.row_tables.proofs.RowLaws.{sum-put_row}
use Rattle.command_fields.specs.declared.issuer.Issuer.{Issuer}
use Rattle.command_fields.specs.declared.class_fields.DefineClass.{DefineClass}
use Rattle.command_fields.specs.declared.profile_fields.RDelete.{RDelete}
use Rattle.command_fields.specs.LawfulFields.{IsLawfulDefineClass}
use Rattle.command_rules.specs.ProfileEffects.{named_class, new_class_profile, has_clauth, without_clauth, deleted_class}
use Rattle.command_rules.specs.Edits.{add_class, put_without_clauth, drop_class, edits_of_define_class, edits_of_r_delete}
use Rattle.command_rules.specs.Conflicts.{first_met}
use Rattle.command_rules.specs.ProfileConflicts.{profiles_in, define_class_conflicts, define_class_requirements, define_class_limits, r_delete_conflicts}
use Rattle.command_rules.proofs.Unmet.{each_unmet}
use Rattle.lawful_commands.proofs.RowLists.{both-each, all-unmap, all-filter, distinct-filter}
use Rattle.lawful_commands.proofs.ClassTraits.{class-other}
use Rattle.lawful_commands.proofs.ClassLists.{sum-push}
use Rattle.lawful_commands.proofs.ClassCommands.{spelled-itself}
use Rattle.lawful_commands.proofs.ClassDeletions.{deleted, dynamic, no-profiles, not-cdt}
use Rattle.lawful_commands.proofs.ProfileNames.{resource-class, some-there}
use Rattle.lawful_commands.proofs.ProfileRows.{PutsAreCounted, found-at_class}

-- ---- RDEFINE: the profile is put, and the class is added
front : (P : ClassRow → Type 0) (classes : List ClassRow) (row : ClassRow) → AllByRecursion P (classes ++ row ∷ []) → AllByRecursion P classes
front P [] row all = tt
front P (first ∷ classes) row all = (all.0, front P classes row all.1)

module _ (tables : Tables) where
  class-ready : (profile : Profile) (class : List ℕ) (row : ClassRow) → class_of cdt tables.rows ≡ Some row → profile.name.kind ≡ kind_in cdt → HasRoom tables (PutProfile cdt profile ∷ AddClass class ∷ [])
      → AreLawful (changed (PutProfile cdt profile ∷ AddClass class ∷ []) tables.rows) → CanApply tables (PutProfile cdt profile ∷ AddClass class ∷ [])
  class-ready profile class row here kind room after =
      let put : List ClassRow = at_class cdt (with_profile profile) tables.rows.classes in
      let found = found-at_class cdt (with_profile profile) (λ r. refl) row tables.rows.classes here in
      let few : length (put_profile profile row.profiles) ≤ most_class_profiles =
      (all-found (λ (r : ClassRow). AreProfiles (kind_in r.name) r.profiles) (is_class cdt) put (with_profile profile row)
      (front (λ (r : ClassRow). AreProfiles (kind_in r.name) r.profiles) put (added_class class) after.classes.lawful) found).few in
      let free : profile_of cdt profile.name tables.rows ≡ None → 2 ≤ room_in cdt (classes_in tables) =
      λ none. room.profiles cdt
      (ap (λ b. b && not (is_some (profile_of cdt profile.name tables.rows)) || list_any (adds_into cdt tables.rows) (AddClass class ∷ [])) (itself cdt)
      ∙ ap (λ o. not (is_some o) || list_any (adds_into cdt tables.rows) (AddClass class ∷ [])) none)
      (ap is_some here) in
      let profiles : profile_count (put ++ added_class class ∷ []) ≡ profile_count put + 0 = sum-push (λ (r : ClassRow). length r.profiles) (added_class class) put in
      let entries : entry_count (put ++ added_class class ∷ []) ≡ entry_count put + 0 = sum-push (λ (r : ClassRow). sum_by entries_in r.profiles) (added_class class) put in (
        record {
          kind = kind;
          room = λ none. let one = free none in omega (arith, one);
          few_in_class = subst (λ (o : Option ClassRow). IfSome o (λ (r : ClassRow). length (put_profile profile r.profiles) ≤ most_class_profiles)) (sym here) few;
          few = omega (arith, after.few_profiles, profiles);
          few_entries = omega (arith, after.few_entries, entries);
        },
        (record { room = room.classes refl; names = after.classes.names }, tt),
      )

  pub define_class-ready : (issuer : Issuer) (c : DefineClass) → IsLawfulDefineClass c → first_met (define_class_conflicts issuer c tables.rows) ≡ None → HasRoom tables (edits_of_define_class issuer c)
      → AreLawful (changed (edits_of_define_class issuer c) tables.rows) → c.profile.kind ≡ General → is_ok (id_of c.profile.text) ≡ true → CanApply tables (edits_of_define_class issuer c)
  unfolding define_class_requirements define_class_limits
  define_class-ready issuer c f met room after kind spelled =
      let named : edits_of_define_class issuer c ≡ PutProfile cdt (new_class_profile issuer c) ∷ AddClass c.profile.text ∷ [] =
      ap (λ r. PutProfile cdt (new_class_profile issuer c) ∷ add_class (result_ok r)) (spelled-itself c.profile.text spelled) in
      let row = some-there (class_of cdt tables.rows) (resource-class tables.rows cdt c.profile (each_unmet (define_class_conflicts issuer c tables.rows) met).1.0).1 in
      subst (CanApply tables) (sym named)
      (class-ready (new_class_profile issuer c) c.profile.text row.0 row.1 kind (subst (HasRoom tables) named room) (subst (λ (edits : List Edit). AreLawful (changed edits tables.rows)) named after))

-- ---- RDELETE: the users who have the class, the profile, and the class
-- each user is found by his ID, since no two have one
found-each : (users : List User) → IsDistinct bytes_eq (map (λ (user : User). user.id) users) → AllByRecursion (λ (user : User). find (is_user user.id) users ≡ Some user) users
unfolding IsDistinct
found-each [] d = tt
found-each (user ∷ users) d = (
  find-hit (is_user user.id) user users (itself user.id),
  both-each (λ (other : User). bytes_eq user.id other.id ≡ false) (λ (other : User). find (is_user other.id) users ≡ Some other) (λ (other : User). find (is_user other.id) (user ∷ users) ≡ Some other)
      (λ other apart found. find-miss (is_user other.id) user users apart ∙ found) users (all-unmap (λ (other : User). other.id) (λ id. bytes_eq user.id id ≡ false) users d.0) (found-each users d.1),
)

-- a user who is there is replaced
length-replaced : (it : User → Bool) (row user : User) (users : List User) → find it users ≡ Some user → length (put_row it row users) ≡ length users
length-replaced it row user [] found = cc
length-replaced it row user (first ∷ users) found = by (it first) found (length-replaced it row user users)
  where
    by : (b : Bool) → cond b (Some first) (find it users) ≡ Some user → (find it users ≡ Some user → length (put_row it row users) ≡ length users) → length (cond b (row ∷ users) (first ∷ put_row it row users)) ≡ length (first ∷ users)
    by true f rest = refl
    by false f rest = omega (arith, rest f)

module _ (class : List ℕ) where
  connections-replaced : (user : User) (users : List User) → find (is_user user.id) users ≡ Some user → connections (put_row (is_user user.id) (without_clauth class user) users) ≡ connections users
  connections-replaced user users found =
      let counted : option_map_or connected_to (find (is_user user.id) users) 0 ≡ connected_to user = ap (λ (o : Option User). option_map_or connected_to o 0) found in
      let same : connected_to (without_clauth class user) ≡ connected_to user = refl in
      omega (arith, counted, same, sum-put_row (is_user user.id) connected_to (without_clauth class user) users)

  users-ready : (tables : Tables) (users : List User) (rest : List Edit) → AllByRecursion (λ (user : User). find (is_user user.id) tables.rows.users ≡ Some user) users → IsDistinct bytes_eq (map (λ (user : User). user.id) users)
      → length tables.rows.users ≤ 20000 → connections tables.rows.users ≤ 200000 → ((left : Tables) → left.rows.classes ≡ tables.rows.classes → CanApply left rest)
      → CanApply tables (map (λ (user : User). PutUser (without_clauth class user)) users ++ rest)
  unfolding IsDistinct
  users-ready tables [] rest found distinct few few_connections then = then tables refl
  users-ready tables (user ∷ users) rest found distinct few few_connections then = (
    record {
      room = λ none. let no = found.0 in cc;
      few_users = omega (arith, few, length-replaced (is_user user.id) (without_clauth class user) user tables.rows.users found.0);
      few_connections = omega (arith, few_connections, connections-replaced user tables.rows.users found.0);
    },
    users-ready (tables_after (PutUser (without_clauth class user)) tables) users rest
        (both-each (λ (other : User). bytes_eq user.id other.id ≡ false) (λ (other : User). find (is_user other.id) tables.rows.users ≡ Some other)
        (λ (other : User). find (is_user other.id) (put_row (is_user user.id) (without_clauth class user) tables.rows.users) ≡ Some other)
        (λ other apart there. put_row-others (is_user user.id) (is_user other.id) (without_clauth class user) tables.rows.users apart (λ row own. other_name row.id user.id other.id apart own) ∙ there) users
        (all-unmap (λ (other : User). other.id) (λ id. bytes_eq user.id id ≡ false) users distinct.0) found.1)
        distinct.1
        (omega (arith, few, length-replaced (is_user user.id) (without_clauth class user) user tables.rows.users found.0))
        (omega (arith, few_connections, connections-replaced user tables.rows.users found.0))
        (λ left same. then left same),
  )

module _ (one : OneIsBefore) (puts : PutsAreCounted) (passed_on : PassedOn) (not_both : NotBoth) (tables : Tables) (c : RDelete) (lawful : AreLawful tables.rows) where
  deletion-ready : bytes_eq c.class cdt ≡ true → is_ok (id_of c.profile.text) ≡ true → c.profile.kind ≡ General → first_met (r_delete_conflicts c tables.rows) ≡ None → CanApply tables (edits_of_r_delete c tables.rows)
  deletion-ready own spelled kind met =
      subst (λ o. CanApply tables (put_without_clauth o tables.rows.users ++ DropProfile c.class c.profile ∷ drop_class o)) (sym (deleted one puts passed_on not_both c tables.rows lawful own spelled kind met))
      (users-ready text tables (filter (has_clauth text) tables.rows.users) (DropProfile c.class c.profile ∷ DropClass text ∷ [])
      (all-filter (λ (user : User). find (is_user user.id) tables.rows.users ≡ Some user) (has_clauth text) tables.rows.users (found-each tables.rows.users lawful.users.distinct))
      (distinct-filter bytes_eq (λ (user : User). user.id) (has_clauth text) tables.rows.users lawful.users.distinct)
      lawful.users.few lawful.few_connections
      (λ left same. (
        tt,
        (record { dynamic = dynamic one puts passed_on not_both c tables.rows lawful own spelled kind met; empty = subst (λ (classes : List ClassRow). IfSome (find (is_class text) (at_class c.class (without_profile c.profile) classes)) (λ (row : ClassRow). row.profiles ≡ [])) (sym same) empty }, tt),
      )))
    where
      text : List ℕ
      text = c.profile.text

      differ : bytes_eq c.class c.profile.text ≡ false
      differ = ap (λ n. bytes_eq n c.profile.text) (same_text c.class cdt own) ∙ turned (not-cdt one puts passed_on not_both c tables.rows lawful own spelled kind met)
        where
          turned : bytes_eq c.profile.text cdt ≡ false → bytes_eq cdt c.profile.text ≡ false
          turned e = by (bytes_eq cdt c.profile.text) refl
            where
              by : (b : Bool) → bytes_eq cdt c.profile.text ≡ b → b ≡ false
              by false f = refl
              by true f = sym (sym e ∙ ap (λ n. bytes_eq n cdt) (sym (same_text cdt c.profile.text f)) ∙ itself cdt)

      without : (o : Option ClassRow) → option_map_or (λ (row : ClassRow). row.profiles) o [] ≡ [] → IfSome o (λ (row : ClassRow). row.profiles ≡ [])
      without None h = tt
      without (Some row) h = h

      empty : IfSome (find (is_class c.profile.text) (at_class c.class (without_profile c.profile) tables.rows.classes)) (λ (row : ClassRow). row.profiles ≡ [])
      empty =
          subst (λ (o : Option ClassRow). IfSome o (λ (row : ClassRow). row.profiles ≡ [])) (sym (class-other c.class (without_profile c.profile) (λ row. refl) c.profile.text differ tables.rows.classes))
          (without (class_of c.profile.text tables.rows) (no-profiles one puts passed_on not_both c tables.rows lawful own spelled kind met))

  pub r_delete-ready : (bytes_eq c.class cdt ≡ true → is_ok (id_of c.profile.text) ≡ true) → c.profile.kind ≡ General → first_met (r_delete_conflicts c tables.rows) ≡ None → CanApply tables (edits_of_r_delete c tables.rows)
  r_delete-ready spelled kind met = by (bytes_eq c.class cdt) refl
    where
      by : (b : Bool) → bytes_eq c.class cdt ≡ b → CanApply tables (edits_of_r_delete c tables.rows)
      by true own = deletion-ready own (spelled own) kind met
      by false other = subst (λ b. CanApply tables (put_without_clauth (cond b (named_class c.profile) None) tables.rows.users ++ DropProfile c.class c.profile ∷ drop_class (cond b (named_class c.profile) None))) (sym other) (tt, tt)
