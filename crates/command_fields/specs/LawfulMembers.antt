-- The members of profiles, and names of members, that a text can spell.
use Rattle.std.specs.Prelude.{◌≡◌, ℕ, List, [], ◌∷◌, ◌&&◌, nat_le, if◌then◌else◌, is_ok, Option, None, Some, Ok}
use Rattle.std.specs.Result.{result_ok}
use Rattle.access_levels.specs.Spelling.{id_of}
use Rattle.generic_names.specs.declared.kind.NameKind.TheVariants.{General}
use Rattle.generic_names.specs.Spelled.{Spelled}
use Rattle.generic_names.specs.Faults.{member_of}
use Rattle.racf_profiles.specs.declared.profiles.Member.{Member}
use Rattle.racf_profiles.specs.declared.profiles.Member.TheVariants as member
use Rattle.command_fields.specs.declared.member_form.MemberForm.{MemberForm}
use Rattle.command_fields.specs.declared.member_form.MemberForm.TheVariants as forms

-- The number of a security level is one from 1 to 254.
abbrev pub if_number : Option ℕ → Option ℕ
if_number None = None
if_number (Some n) = if nat_le 1 n && nat_le n 254 then Some n else None

-- the name of a security level or of a category, which has the spelling of an ID
abbrev pub id_name : List ℕ → Option Spelled
id_name t = if is_ok (id_of t) then result_ok (member_of General t) else None

-- members of profiles of this form, and names of members
abbrev pub IsMember : MemberForm → Member → Type 0
IsMember (forms.Access kind) (member.Access n l) = result_ok (member_of kind n.text) ≡ Some n
IsMember forms.SecurityLevel (member.SecurityLevel x n) = (id_of x ≡ Ok x) × (if_number (Some n) ≡ Some n)
IsMember forms.Category (member.Category x) = id_of x ≡ Ok x
IsMember form m = ⊥

abbrev pub IsDropped : MemberForm → Spelled → Type 0
IsDropped (forms.Access kind) n = result_ok (member_of kind n.text) ≡ Some n
IsDropped forms.SecurityLevel n = id_name n.text ≡ Some n
IsDropped forms.Category n = id_name n.text ≡ Some n

abbrev pub Each : {X : Type 0} → (X → Type 0) → List X → Type 0
Each P [] = Unit {0}
Each P (x ∷ xs) = P x × Each P xs

abbrev pub AreMembers : Option MemberForm → List Member → Type 0
AreMembers None ms = ⊥
AreMembers (Some form) ms = Each (IsMember form) ms

abbrev pub AreDropped : Option MemberForm → List Spelled → Type 0
AreDropped None ns = ⊥
AreDropped (Some form) ns = Each (IsDropped form) ns
