-- What SPECIAL is enough for, and that who isn't a user may give no command.
use Rattle.std.proofs.Common.{◌≡◌, ℕ, Bool, true, false, cond, ◌&&◌, ◌||◌, not, List, [], ◌∷◌, ◌++◌, map, Option, Some, None, option_map, refl, sym, ◌∙◌, ap, ◌⊎◌, inl, inr, subst}
use Rattle.std.specs.Prelude.{is_some, option_and_then, IsSome, IsSomeAnd, IsTrue}
use Rattle.std.specs.List.{find, list_any, list_all}
use Rattle.std.specs.Option.{option_map_or}
use Rattle.std.proofs.lemmas.Bool.{and_parts, or_right}
use Rattle.access_levels.specs.declared.authorities.GroupAuthority.{GroupAuthority}
use Rattle.racf_profiles.specs.declared.users.User.{User}
use Rattle.racf_profiles.specs.declared.groups.Group.{Group}
use Rattle.racf_profiles.specs.declared.rows.Rows.{Rows}
use Rattle.racf_profiles.specs.Lookup.{user_of, group_of}
use Rattle.command_fields.specs.declared.issuer.Issuer.{Issuer}
use Rattle.command_fields.specs.declared.fields.CommandFields.{CommandFields}
use Rattle.command_fields.specs.declared.fields.CommandFields.TheVariants as fields
use Rattle.command_authority.specs.declared.needs.Need.{Need}
use Rattle.command_authority.specs.declared.needs.Need.TheVariants.{Special, Auditor, GroupSpecial}
use Rattle.command_authority.specs.declared.requirement.Target.{Target}
use Rattle.command_authority.specs.declared.requirement.Target.TheVariants as targets
use Rattle.command_authority.specs.declared.requirement.Requirement.{Requirement}
use Rattle.command_authority.specs.Operands.{some_stands, alters_attribute, alters_uaudit, alters_group_attribute}
use Rattle.command_fields.specs.declared.option_fields.SetRopts.{SetRopts}
use Rattle.command_parser.specs.Operands.{slots_of_alt_user, slots_of_alt_sd, slots_of_r_alter, slots_of_set_ropts}
use Rattle.command_fields.specs.LawfulFields.{AreLawfulFields}
use Rattle.generic_names.specs.Spelled.{is_empty}
use Rattle.command_fields.specs.Issuers.{group_or_current}
use Rattle.command_authority.specs.Requirements.{over, over_where, over_members, leaving, giving, requirements, add_user_requirements, alt_user_requirements, del_user_requirements, add_group_requirements, alt_group_requirements, del_group_requirements, connect_requirements, remove_requirements, add_sd_requirements, alt_sd_requirements, del_sd_requirements, r_define_requirements, define_class_requirements, alter_class_requirements, r_alter_requirements, r_delete_requirements, permit_requirements, refreshing, refreshed_classes, setting, set_ropts_requirements}
use Rattle.command_authority.specs.Authority.{holds, is_met, first_unmet, need}

-- The needs begin with SPECIAL, or are those of what is the auditor's.
abbrev begins_with_special : List Need → Bool
begins_with_special (Special ∷ needs) = true
begins_with_special _ = false

abbrev is_auditors : List Need → Bool
is_auditors (Auditor ∷ []) = true
is_auditors _ = false

abbrev is_usual : Requirement → Bool
is_usual r = begins_with_special r.needs || is_auditors r.needs || not r.stands

auditors : (needs : List Need) → is_auditors needs ≡ true → needs ≡ Auditor ∷ []
auditors (Auditor ∷ []) h = refl
auditors _ h = cc

abbrev OnlyAuditor : Option (List Need) → Type 0
OnlyAuditor lacked = (lacked ≡ None) ⊎ (lacked ≡ Some (Auditor ∷ []))

module _ (rows : Rows) (issuer : Issuer) where
  abbrev lacking : Option Requirement → Option (List Need)
  lacking o = option_map (λ (requirement : Requirement). requirement.needs) o

  abbrev rest : List Requirement → Option Requirement
  rest list = find (λ requirement. not (is_met rows issuer requirement)) list

  -- the first requirement that isn't met, behind one that is met, and where it is the first
  met_first : (r : Requirement) (rs : List Requirement) → is_met rows issuer r ≡ true → first_unmet rows issuer (r ∷ rs) ≡ first_unmet rows issuer rs
  met_first r rs h = ap (λ b. lacking (cond (not b) (Some r) (rest rs))) h

  unmet_first : (r : Requirement) (rs : List Requirement) → is_met rows issuer r ≡ false → first_unmet rows issuer (r ∷ rs) ≡ Some r.needs
  unmet_first r rs h = ap (λ b. lacking (cond (not b) (Some r) (rest rs))) h

  idle_met : (r : Requirement) → r.stands ≡ false → is_met rows issuer r ≡ true
  unfolding is_met
  idle_met r h = ap (λ b. not b || option_map_or (λ (user : User). list_any (holds rows user r.target) r.needs) (user_of issuer.id rows) false) h

  -- ---- an issuer with SPECIAL
  module _ (user : User) (there : user_of issuer.id rows ≡ Some user) (special : user.attributes.special ≡ true) where
    special_holds : (target : Target) (needs : List Need) → begins_with_special needs ≡ true → list_any (holds rows user target) needs ≡ true
    special_holds target (Special ∷ needs) h = ap (λ b. b || list_any (holds rows user target) needs) special
    special_holds target _ h = cc

    special_met : (r : Requirement) → begins_with_special r.needs ≡ true → is_met rows issuer r ≡ true
    unfolding is_met
    special_met r h =
        ap (λ o. not r.stands || option_map_or (λ (user : User). list_any (holds rows user r.target) r.needs) o false) there
        ∙ ap (λ b. not r.stands || b) (special_holds r.target r.needs h)
        ∙ or_right (not r.stands) true refl

    usual_unmet : (r : Requirement) → is_usual r ≡ true → is_met rows issuer r ≡ false → r.needs ≡ Auditor ∷ []
    usual_unmet r usual unmet = by (begins_with_special r.needs) (is_auditors r.needs) r.stands refl refl refl usual
      where
        by : (a b c : Bool) → begins_with_special r.needs ≡ a → is_auditors r.needs ≡ b → r.stands ≡ c → (a || b || not c) ≡ true → r.needs ≡ Auditor ∷ []
        by true b c ea eb ec h = let no : true ≡ false = sym (special_met r ea) ∙ unmet in cc
        by false true c ea eb ec h = auditors r.needs eb
        by false false true ea eb ec h = cc
        by false false false ea eb ec h = let no : true ≡ false = sym (idle_met r ec) ∙ unmet in cc

    only : (list : List Requirement) → list_all is_usual list ≡ true → OnlyAuditor (first_unmet rows issuer list)
    only [] h = inl refl
    only (r ∷ rs) h = let parts = and_parts (is_usual r) (list_all is_usual rs) h in by (is_met rows issuer r) refl parts.0 (only rs parts.1)
      where
        by : (b : Bool) → is_met rows issuer r ≡ b → is_usual r ≡ true → OnlyAuditor (first_unmet rows issuer rs) → OnlyAuditor (first_unmet rows issuer (r ∷ rs))
        by true e usual behind = subst OnlyAuditor (sym (met_first r rs e)) behind
        by false e usual behind = inr (unmet_first r rs e ∙ ap (λ needs. Some needs) (usual_unmet r usual e))

  -- ---- who isn't a user
  module _ (absent : user_of issuer.id rows ≡ None) where
    absent_unmet : (r : Requirement) → r.stands ≡ true → is_met rows issuer r ≡ false
    unfolding is_met
    absent_unmet r h =
        ap (λ b. not b || option_map_or (λ (user : User). list_any (holds rows user r.target) r.needs) (user_of issuer.id rows) false) h
        ∙ ap (λ o. option_map_or (λ (user : User). list_any (holds rows user r.target) r.needs) o false) absent

    some_lacks : (list : List Requirement) → list_any (λ (r : Requirement). r.stands) list ≡ true → is_some (first_unmet rows issuer list) ≡ true
    some_lacks [] h = cc
    some_lacks (r ∷ rs) h = by r.stands refl (is_met rows issuer r) refl (some_lacks rs) h
      where
        by : (b : Bool) → r.stands ≡ b → (met : Bool) → is_met rows issuer r ≡ met → (list_any (λ (r : Requirement). r.stands) rs ≡ true → is_some (first_unmet rows issuer rs) ≡ true)
            → (b || list_any (λ (r : Requirement). r.stands) rs) ≡ true → is_some (first_unmet rows issuer (r ∷ rs)) ≡ true
        by true e met em behind h = ap (λ lacked. is_some lacked) (unmet_first r rs (absent_unmet r e))
        by false e false em behind h = ap (λ lacked. is_some lacked) (unmet_first r rs em)
        by false e true em behind h = ap (λ lacked. is_some lacked) (met_first r rs em) ∙ behind h

-- ---- the requirements of each command
usual_leaving : (group : List ℕ) (o : Option (List ℕ)) → list_all is_usual (over (targets.Group group) (leaving o) ∷ []) ≡ true
usual_leaving group None = refl
usual_leaving group (Some superior) = refl

usual_giving : (group : List ℕ) (o : Option GroupAuthority) (stands : Bool) → list_all is_usual (over_members group ∷ over_where (is_some o) (targets.Group group) (giving o) ∷ over_where stands (targets.Group group) (Special ∷ GroupSpecial ∷ []) ∷ []) ≡ true
usual_giving group None stands = refl
usual_giving group (Some wanted) stands = refl

usual-refreshing : (classes : List (List ℕ)) → list_all is_usual (map refreshing classes) ≡ true
usual-refreshing [] = refl
usual-refreshing (class ∷ classes) = usual-refreshing classes

usual-set_ropts : (c : SetRopts) (refresh : Bool) → list_all is_usual (cond refresh (map refreshing (refreshed_classes c)) (setting c)) ≡ true
usual-set_ropts c true = usual-refreshing (refreshed_classes c)
usual-set_ropts c false = refl

usual : (rows : Rows) (issuer : Issuer) (command : CommandFields) → list_all is_usual (requirements rows issuer command) ≡ true
unfolding add_user_requirements alt_user_requirements del_user_requirements add_group_requirements alt_group_requirements del_group_requirements connect_requirements remove_requirements add_sd_requirements alt_sd_requirements del_sd_requirements r_define_requirements define_class_requirements r_alter_requirements alter_class_requirements r_delete_requirements permit_requirements set_ropts_requirements
usual rows issuer (fields.AddUser c) = refl
usual rows issuer (fields.AltUser c) = refl
usual rows issuer (fields.DelUser c) = refl
usual rows issuer (fields.AddGroup c) = refl
usual rows issuer (fields.AltGroup c) = refl
usual rows issuer (fields.DelGroup c) = usual_leaving c.group (option_and_then (λ (group : Group). group.superior) (group_of c.group rows))
usual rows issuer (fields.Connect c) = usual_giving (group_or_current issuer c.group) c.authority (alters_group_attribute c)
usual rows issuer (fields.Remove c) = refl
usual rows issuer (fields.AddSd c) = refl
usual rows issuer (fields.AltSd c) = refl
usual rows issuer (fields.DelSd c) = refl
usual rows issuer (fields.RDefine c) = refl
usual rows issuer (fields.RAlter c) = refl
usual rows issuer (fields.DefineClass c) = refl
usual rows issuer (fields.AlterClass c) = refl
usual rows issuer (fields.RDelete c) = refl
usual rows issuer (fields.Permit c) = refl
usual rows issuer (fields.SetRopts c) = usual-set_ropts c c.refresh

-- One requirement stands: the auditor's where nothing else does.
of_two : (b others : Bool) → (not (b && others) || (b || false)) ≡ true
of_two true others = or_right (not others) true refl
of_two false others = refl

of_three : (b others c : Bool) → (not (b && others) || (c || (b || false))) ≡ true
of_three true others c = ap (λ x. not others || x) (or_right c true refl) ∙ or_right (not others) true refl
of_three false others c = refl

-- of SETROPTS: with REFRESH a class is named
one-refreshed : (raclist global generic : List (List ℕ)) → (false || not (is_empty raclist) || not (is_empty global) || not (is_empty generic)) ≡ true → list_any (λ (r : Requirement). r.stands) (map refreshing (raclist ++ (global ++ generic))) ≡ true
one-refreshed (class ∷ classes) global generic h = refl
one-refreshed [] (class ∷ classes) generic h = refl
one-refreshed [] [] (class ∷ classes) h = refl
one-refreshed [] [] [] h = cc

set_ropts-stands : (c : SetRopts) (refresh : Bool) → (not refresh || not (is_empty c.raclist) || not (is_empty c.global) || not (is_empty c.generic)) ≡ true
    → list_any (λ (r : Requirement). r.stands) (cond refresh (map refreshing (refreshed_classes c)) (setting c)) ≡ true
set_ropts-stands c true h = one-refreshed c.raclist c.global c.generic h
set_ropts-stands c false h = of_two (not (is_empty c.logoptions)) (not (some_stands (slots_of_set_ropts (record c { logoptions = [] }))))

stands : (rows : Rows) (issuer : Issuer) (command : CommandFields) → AreLawfulFields command → list_any (λ (r : Requirement). r.stands) (requirements rows issuer command) ≡ true
unfolding add_user_requirements alt_user_requirements del_user_requirements add_group_requirements alt_group_requirements del_group_requirements connect_requirements remove_requirements add_sd_requirements alt_sd_requirements del_sd_requirements r_define_requirements define_class_requirements r_alter_requirements alter_class_requirements r_delete_requirements permit_requirements set_ropts_requirements
stands rows issuer (fields.AddUser c) h = refl
stands rows issuer (fields.AltUser c) h = of_three (alters_uaudit c) (not (some_stands (slots_of_alt_user (record c { uaudit = false; nouaudit = false })))) (alters_attribute c)
stands rows issuer (fields.DelUser c) h = refl
stands rows issuer (fields.AddGroup c) h = refl
stands rows issuer (fields.AltGroup c) h = refl
stands rows issuer (fields.DelGroup c) h = refl
stands rows issuer (fields.Connect c) h = refl
stands rows issuer (fields.Remove c) h = refl
stands rows issuer (fields.AddSd c) h = refl
stands rows issuer (fields.AltSd c) h = of_two (is_some c.globalaudit) (not (some_stands (slots_of_alt_sd (record c { globalaudit = None }))))
stands rows issuer (fields.DelSd c) h = refl
stands rows issuer (fields.RDefine c) h = refl
stands rows issuer (fields.RAlter c) h = of_two (is_some c.globalaudit) (not (some_stands (slots_of_r_alter (record c { globalaudit = None }))))
stands rows issuer (fields.DefineClass c) h = refl
stands rows issuer (fields.AlterClass c) h = refl
stands rows issuer (fields.RDelete c) h = refl
stands rows issuer (fields.Permit c) h = refl
stands rows issuer (fields.SetRopts c) h = set_ropts-stands c c.refresh h.refresh

-- ---- the laws
pub special_law : (rows : Rows) (issuer : Issuer) (command : CommandFields) → IsSomeAnd (user_of issuer.id rows) (λ user. IsTrue user.attributes.special) → (need rows issuer command ≡ None) ⊎ (need rows issuer command ≡ Some (Auditor ∷ []))
unfolding need
special_law rows issuer command h = by (user_of issuer.id rows) refl h
  where
    by : (o : Option User) → user_of issuer.id rows ≡ o → IsSomeAnd o (λ user. IsTrue user.attributes.special) → OnlyAuditor (first_unmet rows issuer (requirements rows issuer command))
    by None e h = absurd h
    by (Some user) e h = only rows issuer user e h (requirements rows issuer command) (usual rows issuer command)

pub absent_law : (rows : Rows) (issuer : Issuer) (command : CommandFields) → AreLawfulFields command → user_of issuer.id rows ≡ None → IsSome (need rows issuer command)
unfolding need
absent_law rows issuer command lawful h = some_lacks rows issuer h (requirements rows issuer command) (stands rows issuer command lawful)
