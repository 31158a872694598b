-- Members of profiles: how ADDMEM and DELMEM read them, and how they are written. Classes GLOBAL and SECDATA alone have
-- members.
use Rattle.std.specs.Prelude.{ℕ, ◌+◌, ◌-◌, ◌*◌, ◌/◌, ◌%◌, List, [], ◌∷◌, ◌++◌, ◌&&◌, ◌==◌, nat_le, nat_lt, map, position, if◌then◌else◌, Option, None, Some, Result, Ok, Err}
use Rattle.std.specs.Result.{result_ok}
use Rattle.access_levels.specs.declared.levels.Level.{Level}
use Rattle.access_levels.specs.Level.{level_name}
use Rattle.generic_names.specs.declared.kind.NameKind.{NameKind}
use Rattle.generic_names.specs.Spelled.{Spelled}
use Rattle.generic_names.specs.Faults.{member_of}
use Rattle.racf_profiles.specs.declared.profiles.Member.{Member}
use Rattle.racf_profiles.specs.declared.profiles.Member.TheVariants as member
use Rattle.command_words.specs.declared.quoting.Quoting.TheVariants.{Ignored}
use Rattle.command_words.specs.Bytes.{upper}
use Rattle.command_words.specs.ValuedWords.{ValuedWord}
use Rattle.command_values.specs.declared.faults.Syntax.{Syntax}
use Rattle.command_values.specs.declared.faults.Syntax.TheVariants as faults
use Rattle.command_fields.specs.declared.member_form.MemberForm.{MemberForm}
use Rattle.command_fields.specs.declared.member_form.MemberForm.TheVariants as forms
use Rattle.command_values.specs.Results.{◌>>=◌, or_fault}
use Rattle.command_values.specs.NamedWords.{id_named, level_named}
use Rattle.command_values.specs.WordsOfValues.{word_of}
use Rattle.command_fields.specs.ProfileNames.{in_quotes, profile_text}
use Rattle.command_fields.specs.LawfulMembers.{if_number, id_name}

-- A member's name may stand in quotes, and has no prefix.
abbrev pub whole_text : List ℕ → Option (List ℕ)
whole_text [] = None
whole_text (b ∷ bs) = if b == 39 then in_quotes (position (λ c. c == 39) bs) bs else Some (map upper (b ∷ bs))

abbrev pub named_so : NameKind → Option (List ℕ) → Option Spelled
named_so kind None = None
named_so kind (Some t) = result_ok (member_of kind t)

abbrev pub member_named : NameKind → List ℕ → Option Spelled
member_named kind w = named_so kind (whole_text w)

-- what stands on either side of the last `/`
abbrev pub or_here : ℕ → List ℕ → Option (List ℕ × List ℕ) → Option (List ℕ × List ℕ)
or_here b bs (Some parts) = Some (b ∷ parts.0, parts.1)
or_here b bs None = if b == 47 then Some ([], bs) else None

abbrev pub parted : List ℕ → Option (List ℕ × List ℕ)
parted [] = None
parted (b ∷ bs) = or_here b bs (parted bs)

-- a number from 1 to 254, without a zero in front
abbrev pub number_behind : ℕ → List ℕ → Option ℕ
number_behind n [] = Some n
number_behind n (b ∷ bs) = if nat_le 48 b && nat_le b 57 && nat_lt n 1000 then number_behind (10 * n + (b - 48)) bs else None

abbrev pub number_of : List ℕ → Option ℕ
number_of [] = None
number_of (b ∷ bs) = if b == 48 then None else if_number (number_behind 0 (b ∷ bs))

abbrev pub number_text : ℕ → List ℕ
number_text n =
    if nat_lt n 10 then (48 + n) ∷ []
    else if nat_lt n 100 then (48 + n / 10) ∷ ((48 + n % 10) ∷ [])
    else (48 + n / 100) ∷ ((48 + n / 10 % 10) ∷ ((48 + n % 10) ∷ []))

-- the member that a word is
abbrev pub access_with : Option Spelled → Option Level → Option Member
access_with None l = None
access_with (Some n) None = None
access_with (Some n) (Some l) = Some (member.Access n l)

abbrev pub access_of : NameKind → Option (List ℕ × List ℕ) → Option Member
access_of kind None = None
access_of kind (Some parts) = access_with (member_named kind parts.0) (level_named parts.1)

abbrev pub security_level_with : Option (List ℕ) → Option ℕ → Option Member
security_level_with None n = None
security_level_with (Some x) None = None
security_level_with (Some x) (Some n) = Some (member.SecurityLevel x n)

abbrev pub security_level_of : Option (List ℕ × List ℕ) → Option Member
security_level_of None = None
security_level_of (Some parts) = security_level_with (id_named parts.0) (number_of parts.1)

abbrev pub category_of : Option (List ℕ) → Option Member
category_of None = None
category_of (Some x) = Some (member.Category x)

abbrev pub member_in : MemberForm → List ℕ → Option Member
member_in (forms.Access kind) w = access_of kind (parted w)
member_in forms.SecurityLevel w = security_level_of (parted w)
member_in forms.Category w = category_of (id_named w)

-- DELMEM has the names alone.
abbrev pub dropped_in : MemberForm → List ℕ → Option Spelled
dropped_in (forms.Access kind) w = member_named kind w
dropped_in forms.SecurityLevel w = id_name (map upper w)
dropped_in forms.Category w = id_name (map upper w)

-- what each word of a list is, behind what was read
abbrev pub each_of : {X : Type 0} → (List ℕ → Option X) → List X → List ValuedWord → Result (List X) Syntax
each_of read front [] = Ok front
each_of read front (i ∷ is) = word_of Ignored i >>= λ w. or_fault (read w.1) (faults.BadValue w.0) >>= λ x. each_of read (front ++ x ∷ []) is

abbrev pub some_of : {X : Type 0} → (List ℕ → Option X) → ℕ → List ValuedWord → Result (List X) Syntax
some_of read p [] = Err (faults.BadValue p)
some_of read p (i ∷ is) = each_of read [] (i ∷ is)

-- Where the class has no members the operand is refused at its place p.
abbrev pub added : Option MemberForm → ℕ → List ValuedWord → Result (List Member) Syntax
added None p is = Err (faults.BadValue p)
added (Some form) p is = some_of (member_in form) p is

abbrev pub dropped : Option MemberForm → ℕ → List ValuedWord → Result (List Spelled) Syntax
dropped None p is = Err (faults.BadValue p)
dropped (Some form) p is = some_of (dropped_in form) p is

-- how a member is written: a data set's name in quotes
abbrev pub member_text : Member → List ℕ
member_text (member.Access n l) = profile_text n ++ (47 ∷ level_name l)
member_text (member.SecurityLevel x n) = x ++ (47 ∷ number_text n)
member_text (member.Category x) = x
member_text (member.Traits traits) = []
