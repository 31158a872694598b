-- What the spelling of a command's fields says of the rows that the command leaves.
use Rattle.std.proofs.Common.{◌≡◌, ℕ, length, Bool, true, false, cond, ◌&&◌, ◌||◌, List, [], ◌∷◌, Option, None, Some, Result, Ok, Err, is_ok, bytes_eq, codes, refl, sym, ap, subst, ◌∙◌, true≢false}
use Rattle.std.specs.Prelude.{nat_le, IfSome}
use Rattle.std.specs.List.{AllByRecursion, list_all}
use Rattle.std.specs.Result.{result_ok}
use Rattle.std.proofs.lemmas.Option.{IfSome_then}
use Rattle.std.proofs.lemmas.Bool.{and_parts}
use Rattle.access_levels.specs.Spelling.{id_of}
use Rattle.access_levels.specs.declared.levels.Level.{Level}
use Rattle.access_levels.specs.declared.levels.Level.TheVariants.{NoAccess}
use Rattle.generic_names.specs.declared.kind.NameKind.{NameKind}
use Rattle.generic_names.specs.declared.kind.NameKind.TheVariants.{DataSet, General}
use Rattle.generic_names.specs.declared.fault.NameFault.{NameFault}
use Rattle.generic_names.specs.Spelled.{Spelled, first_qualifier}
use Rattle.generic_names.specs.Covers.{is_generic}
use Rattle.generic_names.specs.Faults.{pattern_of, member_of, unless}
use Rattle.generic_names.specs.Laws.{IsPattern, ReadsBack}
use Rattle.racf_profiles.specs.declared.profiles.AuditRule.{AuditRule}
use Rattle.racf_profiles.specs.declared.profiles.Member.{Member}
use Rattle.racf_profiles.specs.declared.profiles.Member.TheVariants.{Access, SecurityLevel, Category, Traits}
use Rattle.racf_profiles.specs.declared.fixed_classes.FixedClass.{FixedClass}
use Rattle.racf_profiles.specs.declared.fixed_classes.FixedClass.TheVariants.{Dataset, Secdata, Seclabel, Global, Cdt}
use Rattle.command_fields.specs.Classes.{cdt}
use Rattle.racf_profiles.specs.declared.fixed_classes.NameForm.{NameForm}
use Rattle.racf_profiles.specs.declared.fixed_classes.NameForm.TheVariants as names
use Rattle.racf_profiles.specs.ClassTable.{class_name, facts_of, facts_of_class}
use Rattle.racf_profiles.specs.LawfulUsers.{is_user_name, is_printable}
use Rattle.racf_profiles.specs.LawfulProfiles.{is_logged_level, is_audit, is_of_kind, kind_in}
use Rattle.racf_profiles.proofs.Tables.{facts_of-each}
use Rattle.group_tree.proofs.Rows.{same, itself}
use Rattle.command_fields.specs.declared.member_form.MemberForm.TheVariants as forms
use Rattle.command_fields.specs.AuditRules.{is_half}
use Rattle.command_fields.specs.ProfileNames.{general_profile, is_level_or_category, if_label, profile_in, general_form, form_in, form_of}
use Rattle.command_fields.specs.MemberForms.{member_form, form_by_class, access_form, secdata_form}
use Rattle.command_fields.specs.LawfulMembers.{Each, AreMembers, IsMember}
use Rattle.command_fields.specs.LawfulFields.{IsUserName, IsClauthWord, IsDataSetProfile, IsClassProfile, IsAudit, AreMembersOf}
use Rattle.command_rules.specs.ProfileEffects.{dataset}
use Rattle.lawful_commands.proofs.MemberLists.{is_fitting}
use Rattle.lawful_commands.proofs.ProfileNames.{is_spelled_by}

pub each-all : {X : Type 0} (P Q : X → Type 0) → ((x : X) → P x → Q x) → (xs : List X) → Each P xs → AllByRecursion Q xs
each-all P Q f [] h = tt
each-all P Q f (x ∷ xs) h = (f x h.0, each-all P Q f xs h.1)

-- ---- users
name-printable : (text : List ℕ) → IsUserName text → is_user_name text ≡ true
name-printable text h =
    let parts = and_parts (nat_le 1 (length text) && nat_le (length text) 20) (list_all is_printable text) h in
    ap (λ b. b && list_all is_printable text) (and_parts (nat_le 1 (length text)) (nat_le (length text) 20) parts.0).1 ∙ parts.1

pub name-lawful : (given : Option (List ℕ)) → IfSome given IsUserName → IfSome given (λ text. is_user_name text ≡ true)
name-lawful given h = IfSome_then given h name-printable

pub clauth-lawful : (names : List (List ℕ)) → Each IsClauthWord names → AllByRecursion (λ name. bytes_eq name (codes "DATASET") ≡ false) names
clauth-lawful = each-all IsClauthWord (λ name. bytes_eq name (codes "DATASET") ≡ false) (λ name h. h.1)

-- ---- auditing
half-logged : (half : Option Level) → is_half half ≡ true → is_logged_level half ≡ true
half-logged None h = refl
half-logged (Some NoAccess) h = absurd (true≢false (sym h))
half-logged (Some level) h = refl

audit-logged : (rule : AuditRule) → IsAudit rule → is_audit rule ≡ true
audit-logged rule h =
    let halves = and_parts (is_half rule.success) (is_half rule.failures) h in
    ap (λ b. b && is_logged_level rule.failures) (half-logged rule.success halves.0) ∙ half-logged rule.failures halves.1

pub audit-lawful : (given : Option AuditRule) → IfSome given IsAudit → IfSome given (λ rule. is_audit rule ≡ true)
audit-lawful given h = IfSome_then given h audit-logged

-- ---- names of profiles
read-whole : (r : Result Spelled NameFault) (name : Spelled) → result_ok r ≡ Some name → r ≡ Ok name
read-whole (Ok other) name h = cc
read-whole (Err fault) name h = cc

where-true : (b : Bool) (o : Option Spelled) (name : Spelled) → cond b o None ≡ Some name → (b ≡ true) × (o ≡ Some name)
where-true true o name h = (refl, h)
where-true false o name h = cc

module _ (reads_back : ReadsBack) where
  pub data_set-lawful : (name : Spelled) → IsDataSetProfile name → IsPattern name × (name.kind ≡ DataSet) × (is_ok (id_of (first_qualifier name.text)) ≡ true)
  data_set-lawful name h =
      let parts = where-true (is_ok (id_of (first_qualifier name.text))) (result_ok (pattern_of DataSet name.text)) name h in
      let read = reads_back DataSet name.text name (read-whole (pattern_of DataSet name.text) name parts.1) in
      (read.1, ap (λ (n : Spelled). n.kind) read.0, parts.0)

  general-lawful : (name : Spelled) → general_profile name.text ≡ Some name → IsPattern name × (name.kind ≡ General)
  general-lawful name h =
      let read = reads_back General name.text name (read-whole (pattern_of General name.text) name h) in
      (read.1, ap (λ (n : Spelled). n.kind) read.0)

labelled : (o : Option Spelled) (name : Spelled) → if_label o ≡ Some name → (o ≡ Some name) × ((is_generic name || is_ok (id_of name.text)) ≡ true)
labelled None name h = cc
labelled (Some other) name h =
    let parts = where-true (is_generic other || is_ok (id_of other.text)) (Some other) name h in
    (parts.1, let it : other ≡ name = (let e = parts.1 in cc) in ap (λ (n : Spelled). is_generic n || is_ok (id_of n.text)) (sym it) ∙ parts.0)

-- a profile in CDT has an ID's spelling
pub class-spelled : (name : Spelled) → IsClassProfile cdt name → is_ok (id_of name.text) ≡ true
unfolding form_in
class-spelled name h = (where-true (is_ok (id_of name.text)) (general_profile name.text) name h).0

pub class-spelled_if : (class : List ℕ) (name : Spelled) → IsClassProfile class name → bytes_eq class cdt ≡ true → is_ok (id_of name.text) ≡ true
class-spelled_if class name h own = class-spelled name (subst (λ n. IsClassProfile n name) (same class cdt own) h)

-- the name of a profile of a class, by the form that the class's names have
module _ (class : List ℕ) (name : Spelled) (is : IsClassProfile class name) where
  general-profile : general_profile name.text ≡ Some name
  general-profile = by (form_in class) is
    where
      by : (form : NameForm) → profile_in (general_form form) name.text ≡ Some name → general_profile name.text ≡ Some name
      by names.DataSet h = h
      by names.General h = h
      by names.LevelOrCategory h = (where-true (is_level_or_category name.text) (general_profile name.text) name h).1
      by names.Identifier h = (labelled (general_profile name.text) name h).0
      by names.Class h = (where-true (is_ok (id_of name.text)) (general_profile name.text) name h).1

  pub class_profile-lawful : ReadsBack → IsPattern name × (name.kind ≡ General)
  class_profile-lawful reads_back = general-lawful reads_back name general-profile

  by_form : bytes_eq class cdt ≡ false → (fixed : FixedClass) → class ≡ class_name fixed → profile_in (general_form (facts_of_class fixed).names) name.text ≡ Some name
  unfolding form_in
  by_form other fixed named =
      let is_form : profile_in (general_form (form_of (facts_of class))) name.text ≡ Some name = sym (ap (λ c. profile_in (general_form (cond c names.Class (form_of (facts_of class)))) name.text) other) ∙ is in
      sym (ap (λ o. profile_in (general_form (form_of o)) name.text) (ap facts_of named ∙ facts_of-each fixed)) ∙ is_form

  pub class_profile-spelled : bytes_eq class cdt ≡ false → (fixed : FixedClass) → class ≡ class_name fixed → bytes_eq class dataset ≡ false → is_spelled_by (facts_of_class fixed).names name ≡ true
  class_profile-spelled chosen fixed named other = by fixed named (by_form chosen fixed named)
    where
      by : (f : FixedClass) → class ≡ class_name f → profile_in (general_form (facts_of_class f).names) name.text ≡ Some name → is_spelled_by (facts_of_class f).names name ≡ true
      by Dataset n h = absurd (true≢false (sym (itself dataset) ∙ ap (λ c. bytes_eq c dataset) (sym n) ∙ other))
      by Secdata n h = (where-true (is_level_or_category name.text) (general_profile name.text) name h).0
      by Seclabel n h = (labelled (general_profile name.text) name h).1
      by Global n h = (where-true (is_ok (id_of name.text)) (general_profile name.text) name h).0
      by Cdt n h = absurd (true≢false (sym (itself cdt) ∙ ap (λ c. bytes_eq c cdt) (sym n) ∙ chosen))
      by general n h = refl

  -- ---- members
  -- a profile of SECDATA has one of two names
  secdata-named : bytes_eq class (codes "SECDATA") ≡ true → bytes_eq name.text (codes "SECLEVEL") ≡ false → bytes_eq name.text (codes "CATEGORY") ≡ true
  secdata-named secdata other =
      let one = (where-true (is_level_or_category name.text) (general_profile name.text) name (by_form (ap (λ c. bytes_eq c cdt) (same class (codes "SECDATA") secdata)) Secdata (same class (codes "SECDATA") secdata))).0 in
      sym (ap (λ b. b || bytes_eq name.text (codes "CATEGORY")) other) ∙ one

  member-kind : (kind : NameKind) (resources : Spelled) → result_ok (member_of kind resources.text) ≡ Some resources → resources.kind ≡ kind
  member-kind kind resources h = by _ (read-whole (member_of kind resources.text) resources h)
    where
      by : (o : Option NameFault) → unless o (record { kind = kind; text = resources.text }) ≡ Ok resources → resources.kind ≡ kind
      by None e = let named : record { kind = kind; text = resources.text } ≡ resources = cc in sym (ap (λ (n : Spelled). n.kind) named)
      by (Some fault) e = cc

  access-fitting : (resources : Spelled) (level : Level) → bytes_eq class (codes "GLOBAL") ≡ true → IsMember (access_form name.text) (Access resources level) → is_fitting class name.text (Access resources level) ≡ true
  access-fitting resources level global h = ap (λ b. b && is_of_kind (kind_in name.text) resources.kind) global ∙ by (kind_in name.text) h
    where
      by : (kind : NameKind) → IsMember (forms.Access kind) (Access resources level) → is_of_kind kind resources.kind ≡ true
      by DataSet k = ap (is_of_kind DataSet) (member-kind DataSet resources k)
      by General k = ap (is_of_kind General) (member-kind General resources k)

  global-fitting : (member : Member) → bytes_eq class (codes "GLOBAL") ≡ true → IsMember (access_form name.text) member → is_fitting class name.text member ≡ true
  global-fitting (Access resources level) global h = access-fitting resources level global h
  global-fitting (SecurityLevel other number) global h = absurd h
  global-fitting (Category other) global h = absurd h
  global-fitting (Traits traits) global h = absurd h

  secdata-fitting : (member : Member) → bytes_eq class (codes "SECDATA") ≡ true → IsMember (secdata_form name.text) member → is_fitting class name.text member ≡ true
  secdata-fitting (Access resources level) secdata h = absurd (by (bytes_eq name.text (codes "SECLEVEL")) h)
    where
      by : (b : Bool) → IsMember (cond b forms.SecurityLevel forms.Category) (Access resources level) → ⊥
      by true k = k
      by false k = k
  secdata-fitting (SecurityLevel other number) secdata h = ap (λ b. b && bytes_eq name.text (codes "SECLEVEL") && nat_le 1 number && nat_le number 254) secdata ∙ by (bytes_eq name.text (codes "SECLEVEL")) h
    where
      numbered : (b d : Bool) → cond (b && d) (Some number) None ≡ Some number → (b && d) ≡ true
      numbered true true k = refl
      numbered true false k = cc
      numbered false d k = cc

      by : (b : Bool) → IsMember (cond b forms.SecurityLevel forms.Category) (SecurityLevel other number) → (b && nat_le 1 number && nat_le number 254) ≡ true
      by true k = numbered (nat_le 1 number) (nat_le number 254) k.1
      by false k = absurd k
  secdata-fitting (Traits traits) secdata h = absurd (by (bytes_eq name.text (codes "SECLEVEL")) h)
    where
      by : (b : Bool) → IsMember (cond b forms.SecurityLevel forms.Category) (Traits traits) → ⊥
      by true k = k
      by false k = k
  secdata-fitting (Category other) secdata h = ap (λ b. b && bytes_eq name.text (codes "CATEGORY")) secdata ∙ by (bytes_eq name.text (codes "SECLEVEL")) refl h
    where
      by : (b : Bool) → bytes_eq name.text (codes "SECLEVEL") ≡ b → IsMember (cond b forms.SecurityLevel forms.Category) (Category other) → bytes_eq name.text (codes "CATEGORY") ≡ true
      by true e k = absurd k
      by false e k = secdata-named secdata e

  each-fitting : (members : List Member) → AreMembers (form_by_class class name.text) members → AllByRecursion (λ member. is_fitting class name.text member ≡ true) members
  each-fitting members h = by (bytes_eq class (codes "GLOBAL")) refl (bytes_eq class (codes "SECDATA")) refl h
    where
      by : (b : Bool) → bytes_eq class (codes "GLOBAL") ≡ b → (d : Bool) → bytes_eq class (codes "SECDATA") ≡ d
          → AreMembers (cond b (Some (access_form name.text)) (cond d (Some (secdata_form name.text)) None)) members → AllByRecursion (λ member. is_fitting class name.text member ≡ true) members
      by true e d f k = each-all (IsMember (access_form name.text)) (λ member. is_fitting class name.text member ≡ true) (λ member m. global-fitting member e m) members k
      by false e true f k = each-all (IsMember (secdata_form name.text)) (λ member. is_fitting class name.text member ≡ true) (λ member m. secdata-fitting member f m) members k
      by false e false f k = absurd k

  pub members-lawful : (members : List Member) → AreMembersOf class name members → AllByRecursion (λ member. is_fitting class name.text member ≡ true) members
  unfolding member_form
  members-lawful [] h = tt
  members-lawful (member ∷ members) h = each-fitting (member ∷ members) h
