-- The words of what an issuer lacks hold no line feed: a need names what the command names, or what the rows hold.
use Rattle.std.proofs.Common.{ℕ, Bool, true, false, cond, not, List, [], ◌∷◌, ◌++◌, map, Option, None, Some, refl, codes, bytes_eq}
use Rattle.std.specs.Prelude.{IfSome, find, option_and_then, unwrap_or}
use Rattle.std.specs.List.{AllByRecursion}
use Rattle.std.proofs.lemmas.Option.{IfSome_then}
use Rattle.access_levels.specs.declared.authorities.GroupAuthority.{GroupAuthority}
use Rattle.access_levels.specs.declared.authorities.GroupAuthority.TheVariants.{MayUse}
use Rattle.access_levels.specs.Level.{authority_name}
use Rattle.generic_names.specs.Spelled.{Spelled}
use Rattle.generic_names.specs.Covers.{is_generic}
use Rattle.racf_profiles.specs.declared.groups.Group.{Group}
use Rattle.racf_profiles.specs.declared.rows.Rows.{Rows}
use Rattle.racf_profiles.specs.Lookup.{is_group, group_of}
use Rattle.command_fields.specs.declared.issuer.Issuer.{Issuer}
use Rattle.command_fields.specs.declared.fields.CommandFields.{CommandFields}
use Rattle.command_fields.specs.declared.fields.CommandFields.TheVariants as command
use Rattle.command_fields.specs.declared.option_fields.SetRopts.{SetRopts}
use Rattle.command_fields.specs.Classes.{cdt}
use Rattle.command_fields.specs.LawfulFields.{IsLawfulSetRopts, AreLawfulFields}
use Rattle.command_fields.specs.Issuers.{group_or_current}
use Rattle.command_authority.specs.declared.needs.Need.{Need}
use Rattle.command_authority.specs.declared.needs.Need.TheVariants as needs
use Rattle.command_authority.specs.declared.requirement.Requirement.{Requirement}
use Rattle.command_authority.specs.Authority.{is_met, need}
use Rattle.command_authority.specs.Requirements.{
  need_where,
  below,
  leaving,
  giving,
  dataset,
  profile_needs,
  add_user_requirements,
  alt_user_requirements,
  del_user_requirements,
  add_group_requirements,
  alt_group_requirements,
  del_group_requirements,
  connect_requirements,
  remove_requirements,
  add_sd_requirements,
  r_define_requirements,
  alt_sd_requirements,
  del_sd_requirements,
  r_alter_requirements,
  define_class_requirements,
  alter_class_requirements,
  r_delete_requirements,
  permit_requirements,
  refreshing,
  refreshed_classes,
  setting,
  set_ropts_requirements,
  requirements,
}
use Rattle.lawful_commands.proofs.RowLists.{all-both}
use Rattle.desk_rules.specs.Words.{in_parentheses, need_words, each_need}
use Rattle.audit_records.specs.Feedless.{IsFeedless, IsFeedlessGroup, AreFeedless}
use Rattle.audit_records.proofs.Feedless.{joined, qualifier-feedless, if-found, if-given, if-map, if-then}
use Rattle.desk_rules.proofs.FeedlessFields.{id-feedless, group-feedless, data_set-feedless}
use Rattle.desk_rules.proofs.FeedlessRows.{groups-feedless, names-feedless, current-feedless}

-- ---- the words of a need
abbrev IsFeedlessNeed : Need → Type 0
IsFeedlessNeed (needs.ClassAuthority class) = IsFeedless class
IsFeedlessNeed (needs.Join group) = IsFeedless group
IsFeedlessNeed (needs.Connect group) = IsFeedless group
IsFeedlessNeed (needs.Create group) = IsFeedless group
IsFeedlessNeed (needs.UserJoin group) = IsFeedless group
IsFeedlessNeed other = Unit {0}

authority-words : (wanted : GroupAuthority) → IsFeedless (authority_name wanted)
authority-words MayUse = refl
authority-words other = refl

bracketed : (word name : List ℕ) → IsFeedless word → IsFeedless name → IsFeedless (in_parentheses word name)
bracketed word name h k = joined ((word ++ codes "(") ++ name) (codes ")") (joined (word ++ codes "(") name (joined word (codes "(") h refl) k) refl

need-words : (one : Need) → IsFeedlessNeed one → IsFeedless (need_words one)
need-words needs.Special h = refl
need-words needs.Auditor h = refl
need-words (needs.ClassAuthority class) h = bracketed (codes "CLAUTH") class refl h
need-words (needs.Join group) h = bracketed (codes "JOIN") group refl h
need-words (needs.Connect group) h = bracketed (codes "CONNECT") group refl h
need-words (needs.Create group) h = bracketed (codes "CREATE") group refl h
need-words (needs.Authority wanted) h = bracketed (codes "AUTHORITY") (authority_name wanted) refl (authority-words wanted)
need-words needs.Owner h = refl
need-words needs.GroupSpecial h = refl
need-words needs.OwnData h = refl
need-words needs.AlterEntry h = refl
need-words (needs.UserJoin group) h = bracketed (codes "CLAUTH(USER)+JOIN") group refl h
need-words needs.UserOwner h = refl
need-words needs.UserGroupSpecial h = refl

abbrev AreFeedlessNeeds : List Need → Type 0
AreFeedlessNeeds list = AllByRecursion IsFeedlessNeed list

needs-words : (list : List Need) → AreFeedlessNeeds list → IsFeedless (each_need list)
needs-words [] h = refl
needs-words (one ∷ list) h = joined (codes " " ++ need_words one) (each_need list) (need-words one h.0) (needs-words list h.1)

-- ---- the needs of each command
abbrev IsFeedlessRequirement : Requirement → Type 0
IsFeedlessRequirement requirement = AreFeedlessNeeds requirement.needs

below-feedless : (superior : List ℕ) → IsFeedless superior → AreFeedlessNeeds (below superior)
below-feedless superior h = (tt, (h, (tt, (tt, tt))))

leaving-feedless : (superior : Option (List ℕ)) → IfSome superior IsFeedless → AreFeedlessNeeds (leaving superior)
leaving-feedless None h = (tt, (tt, (tt, tt)))
leaving-feedless (Some superior) h = below-feedless superior h

giving-feedless : (wanted : Option GroupAuthority) → AreFeedlessNeeds (giving wanted)
giving-feedless None = tt
giving-feedless (Some wanted) = (tt, (tt, (tt, (tt, tt))))

profile-feedless : (class : List ℕ) (name : Spelled) → AreFeedlessNeeds (profile_needs class name)
profile-feedless class name = by (bytes_eq class dataset) (not (is_generic name))
  where
    by : (own entry : Bool) → AreFeedlessNeeds ((needs.Special ∷ needs.Owner ∷ needs.GroupSpecial ∷ []) ++ need_where own needs.OwnData ++ need_where entry needs.AlterEntry)
    by true true = (tt, (tt, (tt, (tt, (tt, tt)))))
    by true false = (tt, (tt, (tt, (tt, tt))))
    by false true = (tt, (tt, (tt, (tt, tt))))
    by false false = (tt, (tt, (tt, tt)))

over_target : AreFeedlessNeeds (needs.Special ∷ needs.Owner ∷ needs.GroupSpecial ∷ [])
over_target = (tt, (tt, (tt, tt)))

superior-feedless : (group : List ℕ) (rows : Rows) → AreFeedless rows → IfSome (option_and_then (λ (row : Group). row.superior) (group_of group rows)) IsFeedless
superior-feedless group rows are =
    if-then IsFeedlessGroup IsFeedless (λ (row : Group). row.superior) (λ row h. h.superior) (group_of group rows) (if-found IsFeedlessGroup (is_group group) rows.groups are.groups)

-- of SETROPTS with REFRESH, and without
refreshing-feedless : (classes : List (List ℕ)) → AllByRecursion IsFeedless classes → AllByRecursion IsFeedlessRequirement (map refreshing classes)
refreshing-feedless [] h = tt
refreshing-feedless (class ∷ classes) h = ((tt, (h.0, (tt, tt))), refreshing-feedless classes h.1)

set_ropts-feedless : (c : SetRopts) (refresh : Bool) → IsLawfulSetRopts c → AllByRecursion IsFeedlessRequirement (cond refresh (map refreshing (refreshed_classes c)) (setting c))
set_ropts-feedless c true f =
    refreshing-feedless (refreshed_classes c) (all-both IsFeedless c.raclist (c.global ++ c.generic) (names-feedless c.raclist f.raclist)
    (all-both IsFeedless c.global c.generic (names-feedless c.global f.global) (names-feedless c.generic f.generic)))
set_ropts-feedless c false f = ((tt, tt), ((tt, tt), tt))

module _ (issuer : Issuer) (issuer_id : IsFeedless issuer.id) (issuer_group : IsFeedless issuer.group) where
  each-requirement : (c : CommandFields) (rows : Rows) → AreLawfulFields c → AreFeedless rows → AllByRecursion IsFeedlessRequirement (requirements rows issuer c)
  unfolding add_user_requirements alt_user_requirements del_user_requirements add_group_requirements alt_group_requirements del_group_requirements connect_requirements remove_requirements add_sd_requirements r_define_requirements alt_sd_requirements del_sd_requirements r_alter_requirements define_class_requirements alter_class_requirements r_delete_requirements permit_requirements set_ropts_requirements
  each-requirement (command.AddUser c) rows f are = ((tt, (current-feedless issuer issuer_id issuer_group c.dfltgrp f.dfltgrp, (tt, (tt, tt)))), ((tt, tt), tt))
  each-requirement (command.AltUser c) rows f are = (over_target, ((tt, tt), ((tt, tt), tt)))
  each-requirement (command.DelUser c) rows f are = (over_target, tt)
  each-requirement (command.AddGroup c) rows f are = (below-feedless (group_or_current issuer c.supgroup) (current-feedless issuer issuer_id issuer_group c.supgroup f.supgroup), tt)
  each-requirement (command.AltGroup c) rows f are =
      (over_target, (below-feedless (unwrap_or c.supgroup c.group) (if-given c.supgroup c.group (groups-feedless c.supgroup f.supgroup) (group-feedless c.group f.group)), tt))
  each-requirement (command.DelGroup c) rows f are = (leaving-feedless (option_and_then (λ (row : Group). row.superior) (group_of c.group rows)) (superior-feedless c.group rows are), tt)
  each-requirement (command.Connect c) rows f are =
      ((tt, (current-feedless issuer issuer_id issuer_group c.group f.group, (tt, (tt, tt)))), (giving-feedless c.authority, ((tt, (tt, tt)), tt)))
  each-requirement (command.Remove c) rows f are = ((tt, (current-feedless issuer issuer_id issuer_group c.group f.group, (tt, (tt, tt)))), tt)
  each-requirement (command.AddSd c) rows f are = ((tt, (tt, (qualifier-feedless c.profile.text (data_set-feedless c.profile f.profile), (tt, tt)))), tt)
  each-requirement (command.AltSd c) rows f are = (profile-feedless dataset c.profile, ((tt, tt), tt))
  each-requirement (command.DelSd c) rows f are = (profile-feedless dataset c.profile, tt)
  each-requirement (command.RDefine c) rows f are = ((tt, (id-feedless c.class f.class, tt)), tt)
  each-requirement (command.RAlter c) rows f are = (profile-feedless c.class c.profile, ((tt, tt), tt))
  each-requirement (command.DefineClass c) rows f are = ((tt, (refl, tt)), tt)
  each-requirement (command.AlterClass c) rows f are = (profile-feedless cdt c.profile, tt)
  each-requirement (command.RDelete c) rows f are = (profile-feedless c.class c.profile, tt)
  each-requirement (command.Permit c) rows f are = (profile-feedless c.class c.profile, tt)
  each-requirement (command.SetRopts c) rows f are = set_ropts-feedless c c.refresh f

  pub need-feedless : (c : CommandFields) (rows : Rows) → AreLawfulFields c → AreFeedless rows → IfSome (need rows issuer c) (λ lacked. IsFeedless (codes "NEED" ++ each_need lacked))
  unfolding need
  need-feedless c rows f are =
      let unmet = find (λ requirement. not (is_met rows issuer requirement)) (requirements rows issuer c) in
      if-map (λ lacked. IsFeedless (codes "NEED" ++ each_need lacked)) (λ (requirement : Requirement). requirement.needs) unmet
      (IfSome_then unmet (if-found IsFeedlessRequirement _ (requirements rows issuer c) (each-requirement c rows f are)) (λ requirement h. needs-words requirement.needs h))
