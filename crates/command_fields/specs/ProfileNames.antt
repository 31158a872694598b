-- The names of profiles, by the class that they stand in. The text is in upper case.
use Rattle.std.specs.Prelude.{ℕ, ◌+◌, List, [], ◌∷◌, ◌++◌, Bool, false, ◌||◌, ◌&&◌, ◌==◌, not, map, take, length, codes, bytes_eq, position, if◌then◌else◌, is_ok, Option, None, Some}
use Rattle.std.specs.List.{list_any}
use Rattle.std.specs.Result.{result_ok}
use Rattle.access_levels.specs.Spelling.{id_of}
use Rattle.generic_names.specs.declared.kind.NameKind.{NameKind}
use Rattle.generic_names.specs.declared.kind.NameKind.TheVariants.{DataSet, General}
use Rattle.generic_names.specs.Spelled.{Spelled, first_qualifier}
use Rattle.generic_names.specs.Faults.{pattern_of}
use Rattle.generic_names.specs.Covers.{is_generic}
use Rattle.racf_profiles.specs.declared.fixed_classes.NameForm.{NameForm}
use Rattle.racf_profiles.specs.declared.fixed_classes.NameForm.TheVariants as forms
use Rattle.racf_profiles.specs.declared.fixed_classes.ClassFacts.{ClassFacts}
use Rattle.racf_profiles.specs.ClassTable.{facts_of}
use Rattle.command_words.specs.Bytes.{upper}
use Rattle.command_fields.specs.Classes.{cdt}

-- The first qualifier of a data set profile has an ID's spelling.
abbrev pub dataset_profile : List ℕ → Option Spelled
dataset_profile t = if is_ok (id_of (first_qualifier t)) then result_ok (pattern_of DataSet t) else None

abbrev pub general_profile : List ℕ → Option Spelled
general_profile t = result_ok (pattern_of General t)

-- The name of a label has an ID's spelling. A generic name passes here: that the class has no generic profiles is
-- another refusal.
abbrev pub if_label : Option Spelled → Option Spelled
if_label None = None
if_label (Some n) = if is_generic n || is_ok (id_of n.text) then Some n else None

abbrev pub is_level_or_category : List ℕ → Bool
is_level_or_category t = bytes_eq t (codes "SECLEVEL") || bytes_eq t (codes "CATEGORY")

-- The name of a profile, by the form of its class's names.
abbrev pub profile_in : NameForm → List ℕ → Option Spelled
profile_in forms.DataSet t = dataset_profile t
profile_in forms.General t = general_profile t
profile_in forms.Identifier t = if_label (general_profile t)
profile_in forms.LevelOrCategory t = if is_level_or_category t then general_profile t else None
profile_in forms.Class t = if is_ok (id_of t) then general_profile t else None

-- A class that isn't in the table has general names.
abbrev pub form_of : Option ClassFacts → NameForm
form_of None = forms.General
form_of (Some facts) = facts.names

-- The profiles of CDT have the names of classes.
unfoldable pub form_in : List ℕ → NameForm
form_in class = if bytes_eq class cdt then forms.Class else form_of (facts_of class)

-- Behind a class's name DATASET has general names too.
abbrev pub general_form : NameForm → NameForm
general_form forms.DataSet = forms.General
general_form form = form

abbrev pub class_profile : Option (List ℕ) → List ℕ → Option Spelled
class_profile None t = None
class_profile (Some class) t = profile_in (general_form (form_in class)) t

-- Without quotes the issuer's name and a period stand in front of a data set's name. In quotes it is whole, and the
-- closing quote ends the word.
abbrev pub in_quotes : Option ℕ → List ℕ → Option (List ℕ)
in_quotes None bs = None
in_quotes (Some k) bs = if length bs == k + 1 then Some (map upper (take k bs)) else None

abbrev pub dataset_text : List ℕ → List ℕ → Option (List ℕ)
dataset_text issuer [] = None
dataset_text issuer (b ∷ bs) = if b == 39 then in_quotes (position (λ c. c == 39) bs) bs else Some (issuer ++ (46 ∷ map upper (b ∷ bs)))

abbrev pub profile_of_text : Option (List ℕ) → Option Spelled
profile_of_text None = None
profile_of_text (Some t) = dataset_profile t

abbrev pub dataset_named : List ℕ → List ℕ → Option Spelled
dataset_named issuer w = profile_of_text (dataset_text issuer w)

-- The profile of any class that a word names: in DATASET as a data set's profile.
abbrev pub named_by_form : List ℕ → NameForm → List ℕ → Option Spelled
named_by_form issuer forms.DataSet w = dataset_named issuer w
named_by_form issuer form w = profile_in form (map upper w)

abbrev pub any_named : List ℕ → Option (List ℕ) → List ℕ → Option Spelled
any_named issuer None w = None
any_named issuer (Some class) w = named_by_form issuer (form_in class) w

abbrev pub any_profile : Option (List ℕ) → List ℕ → Option Spelled
any_profile None t = None
any_profile (Some class) t = profile_in (form_in class) t

-- a name that begins with a quote and that no other quote closes
abbrev pub is_unclosed : List ℕ → Bool
is_unclosed [] = false
is_unclosed (b ∷ bs) = b == 39 && not (list_any (λ c. c == 39) bs)

-- how the name of a profile is written: a data set's in quotes
abbrev pub text_by_kind : NameKind → List ℕ → List ℕ
text_by_kind DataSet t = 39 ∷ (t ++ 39 ∷ [])
text_by_kind General t = t

abbrev pub profile_text : Spelled → List ℕ
profile_text n = text_by_kind n.kind n.text
