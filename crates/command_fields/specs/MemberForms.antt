-- What the members of a profile are. Classes GLOBAL and SECDATA alone have members.
use Rattle.std.specs.Prelude.{ℕ, List, codes, bytes_eq, if◌then◌else◌, Option, None, Some}
use Rattle.generic_names.specs.Spelled.{Spelled}
use Rattle.racf_profiles.specs.LawfulProfiles.{kind_in}
use Rattle.command_fields.specs.declared.member_form.MemberForm.{MemberForm}
use Rattle.command_fields.specs.declared.member_form.MemberForm.TheVariants as forms

-- In GLOBAL: names and levels, the names as in the class that the profile names. In SECDATA: the names and numbers of
-- levels in SECLEVEL, the names of categories in CATEGORY.
abbrev pub access_form : List ℕ → MemberForm
access_form profile = forms.Access (kind_in profile)

abbrev pub secdata_form : List ℕ → MemberForm
secdata_form profile = if bytes_eq profile (codes "SECLEVEL") then forms.SecurityLevel else forms.Category

abbrev pub form_by_class : List ℕ → List ℕ → Option MemberForm
form_by_class class profile =
    if bytes_eq class (codes "GLOBAL") then Some (access_form profile)
    else if bytes_eq class (codes "SECDATA") then Some (secdata_form profile)
    else None

unfoldable pub member_form : Option (List ℕ) → Option Spelled → Option MemberForm
member_form None name = None
member_form (Some class) None = None
member_form (Some class) (Some name) = form_by_class class name.text
