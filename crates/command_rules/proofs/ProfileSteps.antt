-- The edits of the commands on profiles make the rows that the commands make.
use Rattle.std.proofs.Common.{◌≡◌, ℕ, Bool, true, false, cond, ◌||◌, not, List, [], ◌∷◌, ◌++◌, map, Option, None, Some, bytes_eq, refl, sym, ap, ◌∙◌, true≢false}
use Rattle.std.specs.List.{AllByRecursion, IsDistinct, filter, list_any}
use Rattle.std.specs.Option.{option_map_or}
use Rattle.generic_names.specs.Spelled.{Spelled}
use Rattle.racf_profiles.specs.declared.profiles.Profile.{Profile}
use Rattle.racf_profiles.specs.declared.profiles.Member.{Member}
use Rattle.racf_profiles.specs.declared.rows.Rows.{Rows}
use Rattle.racf_profiles.specs.declared.users.User.{User}
use Rattle.racf_profiles.specs.declared.edits.Edit.TheVariants.{PutUser, DropProfile, DropClass}
use Rattle.racf_profiles.specs.DynamicClasses.{cdt}
use Rattle.racf_profiles.specs.Lookup.{is_user, profile_of}
use Rattle.racf_profiles.specs.Edits.{put_row, changed}
use Rattle.group_tree.proofs.Rows.{same, itself}
use Rattle.command_fields.specs.declared.issuer.Issuer.{Issuer}
use Rattle.command_fields.specs.declared.profile_fields.RDefine.{RDefine}
use Rattle.command_fields.specs.declared.profile_fields.RAlter.{RAlter}
use Rattle.command_rules.specs.Members.{options_after}
use Rattle.command_fields.specs.declared.profile_fields.RDelete.{RDelete}
use Rattle.command_fields.specs.declared.class_fields.DefineClass.{DefineClass}
use Rattle.command_rules.specs.UserEffects.{without_classes}
use Rattle.command_rules.specs.ProfileEffects.{new_resource, altered_resource, profile_put, profile_changed, after_r_define, after_r_alter, named_class, new_class_profile, class_added, class_dropped, has_clauth, without_clauth, deleted_class, profile_dropped, after_define_class, after_r_delete}
use Rattle.command_rules.specs.Edits.{put_changed, put_options, put_without_clauth, add_class, drop_class, edits_of_r_define, edits_of_r_alter, edits_of_define_class, edits_of_r_delete}
use Rattle.command_rules.proofs.ClassEdits.{changed-both}

pub changed-put_changed : (class : List ℕ) (name : Spelled) (change : Profile → Profile) (rows : Rows)
    → changed (put_changed class change (profile_of class name rows)) rows ≡ profile_changed class name change rows
changed-put_changed class name change rows = by (profile_of class name rows)
  where
    by : (o : Option Profile) → changed (put_changed class change o) rows ≡ option_map_or (λ old. profile_put class (change old) rows) o rows
    by None = refl
    by (Some old) = refl

pub changed-r_define : (issuer : Issuer) (c : RDefine) (rows : Rows) → changed (edits_of_r_define issuer c rows) rows ≡ after_r_define issuer c rows
changed-r_define issuer c rows = by c.addmem
  where
    by : (added : List Member) → changed (put_options added rows.options) (profile_put c.class (new_resource issuer c rows) rows) ≡ record (profile_put c.class (new_resource issuer c rows) rows) { options = options_after added rows.options }
    by [] = refl
    by (member ∷ members) = refl

pub changed-r_alter : (c : RAlter) (rows : Rows) → changed (edits_of_r_alter c rows) rows ≡ after_r_alter c rows
changed-r_alter c rows = by (profile_of c.class c.profile rows) c.addmem
  where
    by : (o : Option Profile) (added : List Member) → changed (put_changed c.class (altered_resource c rows) o ++ put_options added rows.options) rows
        ≡ record (option_map_or (λ old. profile_put c.class (altered_resource c rows old) rows) o rows) { options = options_after added rows.options }
    by None [] = refl
    by None (member ∷ members) = refl
    by (Some old) [] = refl
    by (Some old) (member ∷ members) = refl

-- ---- the classes that CDT defines
pub changed-define_class : (issuer : Issuer) (c : DefineClass) (rows : Rows) → changed (edits_of_define_class issuer c) rows ≡ after_define_class issuer c rows
changed-define_class issuer c rows = by (named_class c.profile)
  where
    by : (o : Option (List ℕ)) → changed (add_class o) (profile_put cdt (new_class_profile issuer c) rows) ≡ class_added o (profile_put cdt (new_class_profile issuer c) rows)
    by None = refl
    by (Some class) = refl

module _ (class : List ℕ) where
  -- who hasn't the class stays as he is
  stays : (classes : List (List ℕ)) → list_any (λ other. bytes_eq other class) classes ≡ false → without_classes (class ∷ []) classes ≡ classes
  stays [] none = refl
  stays (name ∷ names) none = by (bytes_eq name class) refl none (stays names)
    where
      by : (b : Bool) → bytes_eq name class ≡ b → (b || list_any (λ other. bytes_eq other class) names) ≡ false → (list_any (λ other. bytes_eq other class) names ≡ false → without_classes (class ∷ []) names ≡ names)
          → without_classes (class ∷ []) (name ∷ names) ≡ name ∷ names
      by true e h rest = absurd (true≢false h)
      by false e h rest = ap (λ b. cond (not (b || false)) (name ∷ without_classes (class ∷ []) names) (without_classes (class ∷ []) names)) (turned e) ∙ ap (λ ns. name ∷ ns) (rest h)
        where
          turned : bytes_eq name class ≡ false → bytes_eq class name ≡ false
          turned e = either (bytes_eq class name) refl
            where
              either : (d : Bool) → bytes_eq class name ≡ d → d ≡ false
              either false f = refl
              either true f = sym (sym e ∙ ap (λ n. bytes_eq n class) (sym (same class name f)) ∙ itself class)

  abbrev one_less : User → User
  one_less user = without_clauth class user

  user-stays : (user : User) → has_clauth class user ≡ false → one_less user ≡ user
  user-stays user none = ap (λ classes. record user { classes = classes }) (stays user.classes none)

  abbrev puts : List User → List User → List User
  puts [] users = users
  puts (user ∷ others) users = puts others (put_row (is_user user.id) (one_less user) users)

  changed-puts : (users : List User) (rows : Rows) → changed (map (λ (user : User). PutUser (one_less user)) users) rows ≡ record rows { users = puts users rows.users }
  changed-puts [] rows = refl
  changed-puts (user ∷ users) rows = changed-puts users (record rows { users = put_row (is_user user.id) (one_less user) rows.users })

  -- no user in front has the ID of one behind
  abbrev AreApart : List User → List User → Type 0
  AreApart front users = AllByRecursion (λ (user : User). AllByRecursion (λ (other : User). is_user user.id other ≡ false) front) users

  skip : (front : List User) (user : User) (rest : List User) → AllByRecursion (λ (other : User). is_user user.id other ≡ false) front → put_row (is_user user.id) (one_less user) (front ++ user ∷ rest) ≡ front ++ one_less user ∷ rest
  skip [] user rest apart = ap (λ b. cond b (one_less user ∷ rest) (user ∷ put_row (is_user user.id) (one_less user) rest)) (itself user.id)
  skip (other ∷ front) user rest apart =
      ap (λ b. cond b (one_less user ∷ (front ++ user ∷ rest)) (other ∷ put_row (is_user user.id) (one_less user) (front ++ user ∷ rest))) apart.0 ∙ ap (λ us. other ∷ us) (skip front user rest apart.1)

  further : (front : List User) (new old : User) (rest : List User) → new.id ≡ old.id → AreApart front rest → AllByRecursion (λ (other : User). bytes_eq old.id other.id ≡ false) rest → AreApart (front ++ new ∷ []) rest
  further front new old [] same_id apart differ = tt
  further front new old (user ∷ rest) same_id apart differ = (push front apart.0, further front new old rest same_id apart.1 differ.1)
    where
      push : (us : List User) → AllByRecursion (λ (other : User). is_user user.id other ≡ false) us → AllByRecursion (λ (other : User). is_user user.id other ≡ false) (us ++ new ∷ [])
      push [] h = (ap (λ n. bytes_eq n user.id) same_id ∙ differ.0, tt)
      push (u ∷ us) h = (h.0, push us h.1)

  ids-apart : (user : User) (users : List User) → AllByRecursion (λ id. bytes_eq user.id id ≡ false) (map (λ (u : User). u.id) users) → AllByRecursion (λ (other : User). bytes_eq user.id other.id ≡ false) users
  ids-apart user [] h = tt
  ids-apart user (u ∷ us) h = (h.0, ids-apart user us h.1)

  joined : (front : List User) (user : User) (rest : List User) → (front ++ user ∷ []) ++ rest ≡ front ++ user ∷ rest
  joined [] user rest = refl
  joined (other ∷ front) user rest = ap (λ us. other ∷ us) (joined front user rest)

  put-each : (front rest : List User) → AreApart front rest → IsDistinct bytes_eq (map (λ (user : User). user.id) rest) → puts (filter (has_clauth class) rest) (front ++ rest) ≡ front ++ map one_less rest
  unfolding IsDistinct
  put-each front [] apart distinct = refl
  put-each front (user ∷ rest) apart distinct = by (has_clauth class user) refl (λ new same_id. put-each (front ++ new ∷ []) rest (further front new user rest same_id apart.1 (ids-apart user rest distinct.0)) distinct.1)
    where
      after : (new : User) → puts (filter (has_clauth class) rest) ((front ++ new ∷ []) ++ rest) ≡ (front ++ new ∷ []) ++ map one_less rest → puts (filter (has_clauth class) rest) (front ++ new ∷ rest) ≡ front ++ new ∷ map one_less rest
      after new again = ap (puts (filter (has_clauth class) rest)) (sym (joined front new rest)) ∙ again ∙ joined front new (map one_less rest)

      by : (b : Bool) → has_clauth class user ≡ b
          → ((new : User) → new.id ≡ user.id → puts (filter (has_clauth class) rest) ((front ++ new ∷ []) ++ rest) ≡ (front ++ new ∷ []) ++ map one_less rest)
          → puts (cond b (user ∷ filter (has_clauth class) rest) (filter (has_clauth class) rest)) (front ++ user ∷ rest) ≡ front ++ one_less user ∷ map one_less rest
      by true has again = ap (puts (filter (has_clauth class) rest)) (skip front user rest apart.0) ∙ after (one_less user) (again (one_less user) refl)
      by false none again = after user (again user refl) ∙ ap (λ (u : User). front ++ u ∷ map one_less rest) (sym (user-stays user none))

  none-apart : (users : List User) → AreApart [] users
  none-apart [] = tt
  none-apart (user ∷ users) = (tt, none-apart users)

  pub put-all : (rows : Rows) → IsDistinct bytes_eq (map (λ (user : User). user.id) rows.users)
      → changed (map (λ (user : User). PutUser (one_less user)) (filter (has_clauth class) rows.users)) rows ≡ record rows { users = map one_less rows.users }
  put-all rows distinct = changed-puts (filter (has_clauth class) rows.users) rows ∙ ap (λ users. record rows { users = users }) (put-each [] rows.users (none-apart rows.users) distinct)

pub changed-r_delete : (c : RDelete) (rows : Rows) → IsDistinct bytes_eq (map (λ (user : User). user.id) rows.users) → changed (edits_of_r_delete c rows) rows ≡ after_r_delete c rows
changed-r_delete c rows distinct = by (deleted_class c)
  where
    by : (o : Option (List ℕ)) → changed (put_without_clauth o rows.users ++ DropProfile c.class c.profile ∷ drop_class o) rows ≡ class_dropped o (profile_dropped c.class c.profile rows)
    by None = refl
    by (Some class) =
        changed-both (map (λ (user : User). PutUser (without_clauth class user)) (filter (has_clauth class) rows.users)) (DropProfile c.class c.profile ∷ DropClass class ∷ []) rows
        ∙ ap (changed (DropProfile c.class c.profile ∷ DropClass class ∷ [])) (put-all class rows distinct)
