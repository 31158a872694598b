-- What class CDT says: the names of its profiles, each with its traits. What a dynamic class allows, and whether it is
-- defined, depends on that alone.
use Rattle.std.proofs.Common.{◌≡◌, ℕ, Bool, true, false, cond, ◌||◌, ◌&&◌, not, List, [], ◌∷◌, length, map, Option, None, Some, option_map, is_some, bytes_eq, refl, sym, ap, subst, ◌∙◌, arith}
use Rattle.std.specs.Prelude.{find}
use Rattle.std.specs.List.{list_any, list_all}
use Rattle.std.specs.Option.{option_map_or, option_and_then, option_or}
use Rattle.racf_profiles.specs.declared.profiles.Profile.{Profile}
use Rattle.racf_profiles.specs.declared.profiles.ClassTraits.{ClassTraits}
use Rattle.racf_profiles.specs.declared.class_rows.ClassRow.{ClassRow}
use Rattle.racf_profiles.specs.declared.rows.Rows.{Rows}
use Rattle.racf_profiles.specs.ClassTable.{facts_of}
use Rattle.racf_profiles.specs.DynamicClasses.{cdt, general, traits_of, traits_in, facts_of_traits, facts_in, is_fixed}
use Rattle.racf_profiles.specs.Lookup.{is_class, is_profile, class_of, profile_of}
use Rattle.racf_profiles.specs.Edits.{put_profile, drop_row, at_class, with_profile}
use Rattle.generic_names.specs.Before.{before}
use Rattle.racf_profiles.specs.LawfulProfiles.{AreDynamic, names_of, profiles_of}
use Rattle.racf_profiles.proofs.States.{at_class-found}
use Rattle.racf_profiles.proofs.EditLaws.{other_name}
use Rattle.racf_profiles.proofs.OrderedProfiles.{put_profile-found}
use Rattle.generic_names.specs.Spelled.{Spelled}
use Rattle.group_tree.proofs.Rows.{same}

-- ---- a list of names with traits
abbrev pub Said : Type 0
Said = List ℕ × Option ClassTraits

abbrev pub said_by : Profile → Said
said_by profile = (profile.name.text, traits_of profile.members)

abbrev pub said_in : Rows → List Said
said_in rows = map said_by (profiles_of cdt rows)

abbrev pub traits_said : List ℕ → List Said → Option ClassTraits
traits_said name [] = None
traits_said name (said ∷ others) = cond (bytes_eq said.0 name) said.1 (traits_said name others)

abbrev pub is_said : List ℕ → List Said → Bool
is_said name all = list_any (λ (said : Said). bytes_eq said.0 name) all

-- ---- the traits of a class, and whether it is defined
traits-among : (name : List ℕ) (profiles : List Profile) → option_and_then (λ (profile : Profile). traits_of profile.members) (find (is_profile (general name)) profiles) ≡ traits_said name (map said_by profiles)
traits-among name [] = refl
traits-among name (profile ∷ profiles) = by (bytes_eq profile.name.text name) (traits-among name profiles)
  where
    by : (b : Bool) → option_and_then (λ (p : Profile). traits_of p.members) (find (is_profile (general name)) profiles) ≡ traits_said name (map said_by profiles)
        → option_and_then (λ (p : Profile). traits_of p.members) (cond b (Some profile) (find (is_profile (general name)) profiles)) ≡ cond b (traits_of profile.members) (traits_said name (map said_by profiles))
    by true rest = refl
    by false rest = rest

pub traits-said : (name : List ℕ) (rows : Rows) → traits_in name rows ≡ traits_said name (said_in rows)
traits-said name rows = by (class_of cdt rows)
  where
    by : (o : Option ClassRow) → option_and_then (λ (profile : Profile). traits_of profile.members) (option_and_then (λ (row : ClassRow). find (is_profile (general name)) row.profiles) o)
        ≡ traits_said name (map said_by (option_map_or (λ (row : ClassRow). row.profiles) o []))
    by None = refl
    by (Some row) = traits-among name row.profiles

pub defined-among : (name : List ℕ) (profiles : List Profile) → is_some (find (is_profile (general name)) profiles) ≡ is_said name (map said_by profiles)
defined-among name [] = refl
defined-among name (profile ∷ profiles) = by (bytes_eq profile.name.text name) (defined-among name profiles)
  where
    by : (b : Bool) → is_some (find (is_profile (general name)) profiles) ≡ is_said name (map said_by profiles) → is_some (cond b (Some profile) (find (is_profile (general name)) profiles)) ≡ (b || is_said name (map said_by profiles))
    by true rest = refl
    by false rest = rest

pub defined-said : (name : List ℕ) (rows : Rows) → is_some (profile_of cdt (general name) rows) ≡ is_said name (said_in rows)
defined-said name rows = by (class_of cdt rows)
  where
    by : (o : Option ClassRow) → is_some (option_and_then (λ (row : ClassRow). find (is_profile (general name)) row.profiles) o) ≡ is_said name (map said_by (option_map_or (λ (row : ClassRow). row.profiles) o []))
    by None = refl
    by (Some row) = defined-among name row.profiles

-- ---- what classes allow
pub facts-same : (old new : Rows) (name : List ℕ) → traits_said name (said_in new) ≡ traits_said name (said_in old) → facts_in name new ≡ facts_in name old
facts-same old new name same = ap (λ traits. option_or (facts_of name) (option_map facts_of_traits traits)) (traits-said name new ∙ same ∙ sym (traits-said name old))

-- ---- classes and profiles of CDT that belong together, by their names
pub all-named : {X K : Type 0} (key : X → K) (p : X → Bool) (q : K → Bool) → ((x : X) → p x ≡ q (key x)) → (xs : List X) → list_all p xs ≡ list_all q (map key xs)
all-named key p q same [] = refl
all-named key p q same (x ∷ xs) = ap (λ b. b && list_all p xs) (same x) ∙ ap (λ b. q (key x) && b) (all-named key p q same xs)

abbrev pub are_defined : List (List ℕ) → List Said → Bool
are_defined names all = list_all (λ name. is_fixed name || is_said name all) names

abbrev pub are_there : List (List ℕ) → List Said → Bool
are_there names all = list_all (λ (said : Said). not (is_fixed said.0) && list_any (λ other. bytes_eq other said.0) names) all

pub found-named : (name : List ℕ) (classes : List ClassRow) → is_some (find (is_class name) classes) ≡ list_any (λ other. bytes_eq other name) (names_of classes)
found-named name [] = refl
found-named name (class ∷ classes) = by (bytes_eq class.name name) (found-named name classes)
  where
    by : (b : Bool) → is_some (find (is_class name) classes) ≡ list_any (λ other. bytes_eq other name) (names_of classes)
        → is_some (cond b (Some class) (find (is_class name) classes)) ≡ (b || list_any (λ other. bytes_eq other name) (names_of classes))
    by true rest = refl
    by false rest = rest

module _ (rows : Rows) where
  defined-is : list_all (λ (class : ClassRow). is_fixed class.name || is_some (profile_of cdt (general class.name) rows)) rows.classes ≡ are_defined (names_of rows.classes) (said_in rows)
  defined-is = all-named (λ (class : ClassRow). class.name) (λ (class : ClassRow). is_fixed class.name || is_some (profile_of cdt (general class.name) rows)) (λ name. is_fixed name || is_said name (said_in rows))
      (λ class. ap (λ b. is_fixed class.name || b) (defined-said class.name rows)) rows.classes

  there-is : list_all (λ (profile : Profile). not (is_fixed profile.name.text) && is_some (class_of profile.name.text rows)) (profiles_of cdt rows) ≡ are_there (names_of rows.classes) (said_in rows)
  there-is = all-named said_by (λ (profile : Profile). not (is_fixed profile.name.text) && is_some (class_of profile.name.text rows)) (λ (said : Said). not (is_fixed said.0) && list_any (λ other. bytes_eq other said.0) (names_of rows.classes))
      (λ profile. ap (λ b. not (is_fixed profile.name.text) && b) (found-named profile.name.text rows.classes)) (profiles_of cdt rows)

  pub dynamic-from : are_defined (names_of rows.classes) (said_in rows) ≡ true → are_there (names_of rows.classes) (said_in rows) ≡ true → AreDynamic rows
  dynamic-from defined there = record { defined = defined-is ∙ defined; there = there-is ∙ there }

  pub defined-of : AreDynamic rows → are_defined (names_of rows.classes) (said_in rows) ≡ true
  defined-of are = sym defined-is ∙ are.defined

  pub there-of : AreDynamic rows → are_there (names_of rows.classes) (said_in rows) ≡ true
  there-of are = sym there-is ∙ are.there

pub dynamic-kept : (old new : Rows) → names_of new.classes ≡ names_of old.classes → said_in new ≡ said_in old → AreDynamic old → AreDynamic new
dynamic-kept old new names said are = dynamic-from new
    (ap (λ ns. are_defined ns (said_in new)) names ∙ ap (are_defined (names_of old.classes)) said ∙ defined-of old are)
    (ap (λ ns. are_there ns (said_in new)) names ∙ ap (are_there (names_of old.classes)) said ∙ there-of old are)

-- ---- a change of another class leaves what CDT says
module _ (class : List ℕ) (change : ClassRow → ClassRow) (keeps : (row : ClassRow) → (change row).name ≡ row.name) where
  pub class-other : (name : List ℕ) → bytes_eq class name ≡ false → (classes : List ClassRow) → find (is_class name) (at_class class change classes) ≡ find (is_class name) classes
  class-other name differ [] = refl
  class-other name differ (row ∷ classes) = by (is_class class row) refl (class-other name differ classes)
    where
      by : (b : Bool) → is_class class row ≡ b → find (is_class name) (at_class class change classes) ≡ find (is_class name) classes
          → find (is_class name) (cond b (change row ∷ classes) (row ∷ at_class class change classes)) ≡ cond (is_class name row) (Some row) (find (is_class name) classes)
      by true e rest =
          let apart : is_class name row ≡ false = other_name row.name class name differ e in
          ap (λ b. cond b (Some (change row)) (find (is_class name) classes)) (ap (λ n. bytes_eq n name) (keeps row) ∙ apart) ∙ sym (ap (λ b. cond b (Some row) (find (is_class name) classes)) apart)
      by false e rest = ap (cond (is_class name row) (Some row)) rest

  pub said-elsewhere : (old new : Rows) → new.classes ≡ at_class class change old.classes → bytes_eq class cdt ≡ false → said_in new ≡ said_in old
  said-elsewhere old new is differ = ap (λ o. map said_by (option_map_or (λ (row : ClassRow). row.profiles) o [])) (ap (find (is_class cdt)) is ∙ class-other cdt differ old.classes)

-- ---- a profile of CDT in place of the one of its name, with the same traits
-- A list that gets no longer had the name.
pub put-same : {B : Type 0} (f : Profile → B) (new : Profile) (profiles : List Profile) → length (put_profile new profiles) ≡ length profiles
    → ((old : Profile) → find (is_profile new.name) profiles ≡ Some old → f new ≡ f old) → map f (put_profile new profiles) ≡ map f profiles
put-same f new [] long same_as = let no : length (new ∷ []) ≡ 0 = long in cc
put-same f new (profile ∷ profiles) long same_as = by (is_profile new.name profile) refl (before new.name profile.name) long (put-same f new profiles)
  where
    by : (b : Bool) → is_profile new.name profile ≡ b → (d : Bool) → length (cond b (new ∷ profiles) (cond d (new ∷ profile ∷ profiles) (profile ∷ put_profile new profiles))) ≡ length (profile ∷ profiles)
        → (length (put_profile new profiles) ≡ length profiles → ((old : Profile) → find (is_profile new.name) profiles ≡ Some old → f new ≡ f old) → map f (put_profile new profiles) ≡ map f profiles)
        → map f (cond b (new ∷ profiles) (cond d (new ∷ profile ∷ profiles) (profile ∷ put_profile new profiles))) ≡ f profile ∷ map f profiles
    by true e d h rest = ap (λ x. x ∷ map f profiles) (same_as profile (ap (λ b. cond b (Some profile) (find (is_profile new.name) profiles)) e))
    by false e true h rest = absurd (omega (arith, h))
    by false e false h rest = ap (λ xs. f profile ∷ xs) (rest (omega (arith, h)) (λ old found. same_as old (ap (λ b. cond b (Some profile) (find (is_profile new.name) profiles)) e ∙ found)))

pub said-replaced : (old new : Rows) (class : List ℕ) (row : ClassRow) (profile : Profile) → new.classes ≡ at_class class (with_profile profile) old.classes → class_of class old ≡ Some row
    → length (put_profile profile row.profiles) ≡ length row.profiles
    → (bytes_eq class cdt ≡ true → (before_it : Profile) → find (is_profile profile.name) row.profiles ≡ Some before_it → said_by profile ≡ said_by before_it)
    → said_in new ≡ said_in old
said-replaced old new class row profile is here long same_as = by (bytes_eq class cdt) refl
  where
    by : (b : Bool) → bytes_eq class cdt ≡ b → said_in new ≡ said_in old
    by false e = said-elsewhere class (with_profile profile) (λ r. refl) old new is e
    by true e =
        let own : class ≡ cdt = same class cdt e in
        let there : class_of cdt old ≡ Some row = subst (λ n. class_of n old ≡ Some row) own here in
        let now : class_of cdt new ≡ Some (with_profile profile row) =
        ap (find (is_class cdt)) is ∙ ap (λ n. find (is_class cdt) (at_class n (with_profile profile) old.classes)) own
        ∙ at_class-found cdt (with_profile profile) row old.classes (λ r. refl) there in
        ap (λ o. map said_by (option_map_or (λ (r : ClassRow). r.profiles) o [])) now
        ∙ put-same said_by profile row.profiles long (same_as e)
        ∙ sym (ap (λ o. map said_by (option_map_or (λ (r : ClassRow). r.profiles) o [])) there)

-- ---- a profile more in CDT, or one less, leaves what is said of other names
module _ (name : List ℕ) (new : Profile) (apart : bytes_eq new.name.text name ≡ false) where
  like-it : (profile : Profile) → is_profile new.name profile ≡ true → bytes_eq profile.name.text name ≡ false
  like-it profile e = ap (λ n. bytes_eq n name) (same profile.name.text new.name.text e) ∙ apart

  pub traits-put : (profiles : List Profile) → traits_said name (map said_by (put_profile new profiles)) ≡ traits_said name (map said_by profiles)
  traits-put [] = ap (λ b. cond b (traits_of new.members) None) apart
  traits-put (profile ∷ profiles) = by (is_profile new.name profile) refl (before new.name profile.name) (traits-put profiles)
    where
      rest_of : Option ClassTraits
      rest_of = traits_said name (map said_by profiles)

      by : (b : Bool) → is_profile new.name profile ≡ b → (d : Bool) → traits_said name (map said_by (put_profile new profiles)) ≡ traits_said name (map said_by profiles)
          → traits_said name (map said_by (cond b (new ∷ profiles) (cond d (new ∷ profile ∷ profiles) (profile ∷ put_profile new profiles)))) ≡ cond (bytes_eq profile.name.text name) (traits_of profile.members) rest_of
      by true e d rest = ap (λ b. cond b (traits_of new.members) rest_of) apart ∙ sym (ap (λ b. cond b (traits_of profile.members) rest_of) (like-it profile e))
      by false e true rest = ap (λ b. cond b (traits_of new.members) (cond (bytes_eq profile.name.text name) (traits_of profile.members) rest_of)) apart
      by false e false rest = ap (cond (bytes_eq profile.name.text name) (traits_of profile.members)) rest

  pub is_said-put : (profiles : List Profile) → is_said name (map said_by (put_profile new profiles)) ≡ is_said name (map said_by profiles)
  is_said-put [] = ap (λ b. b || false) apart
  is_said-put (profile ∷ profiles) = by (is_profile new.name profile) refl (before new.name profile.name) (is_said-put profiles)
    where
      by : (b : Bool) → is_profile new.name profile ≡ b → (d : Bool) → is_said name (map said_by (put_profile new profiles)) ≡ is_said name (map said_by profiles)
          → is_said name (map said_by (cond b (new ∷ profiles) (cond d (new ∷ profile ∷ profiles) (profile ∷ put_profile new profiles)))) ≡ (bytes_eq profile.name.text name || is_said name (map said_by profiles))
      by true e d rest = ap (λ b. b || is_said name (map said_by profiles)) apart ∙ sym (ap (λ b. b || is_said name (map said_by profiles)) (like-it profile e))
      by false e true rest = ap (λ b. b || (bytes_eq profile.name.text name || is_said name (map said_by profiles))) apart
      by false e false rest = ap (λ b. bytes_eq profile.name.text name || b) rest

pub is_said-itself : (new : Profile) (profiles : List Profile) → is_said new.name.text (map said_by (put_profile new profiles)) ≡ true
is_said-itself new profiles = sym (defined-among new.name.text (put_profile new profiles)) ∙ ap is_some (put_profile-found new profiles)

module _ (name : List ℕ) (gone : Spelled) (apart : bytes_eq gone.text name ≡ false) where
  gone-apart : (profile : Profile) → is_profile gone profile ≡ true → bytes_eq profile.name.text name ≡ false
  gone-apart profile e = ap (λ n. bytes_eq n name) (same profile.name.text gone.text e) ∙ apart

  pub traits-drop : (profiles : List Profile) → traits_said name (map said_by (drop_row (is_profile gone) profiles)) ≡ traits_said name (map said_by profiles)
  traits-drop [] = refl
  traits-drop (profile ∷ profiles) = by (is_profile gone profile) refl (traits-drop profiles)
    where
      by : (b : Bool) → is_profile gone profile ≡ b → traits_said name (map said_by (drop_row (is_profile gone) profiles)) ≡ traits_said name (map said_by profiles)
          → traits_said name (map said_by (cond b profiles (profile ∷ drop_row (is_profile gone) profiles))) ≡ cond (bytes_eq profile.name.text name) (traits_of profile.members) (traits_said name (map said_by profiles))
      by true e rest = sym (ap (λ b. cond b (traits_of profile.members) (traits_said name (map said_by profiles))) (gone-apart profile e))
      by false e rest = ap (cond (bytes_eq profile.name.text name) (traits_of profile.members)) rest

  pub is_said-drop : (profiles : List Profile) → is_said name (map said_by (drop_row (is_profile gone) profiles)) ≡ is_said name (map said_by profiles)
  is_said-drop [] = refl
  is_said-drop (profile ∷ profiles) = by (is_profile gone profile) refl (is_said-drop profiles)
    where
      by : (b : Bool) → is_profile gone profile ≡ b → is_said name (map said_by (drop_row (is_profile gone) profiles)) ≡ is_said name (map said_by profiles)
          → is_said name (map said_by (cond b profiles (profile ∷ drop_row (is_profile gone) profiles))) ≡ (bytes_eq profile.name.text name || is_said name (map said_by profiles))
      by true e rest = sym (ap (λ b. b || is_said name (map said_by profiles)) (gone-apart profile e))
      by false e rest = ap (λ b. bytes_eq profile.name.text name || b) rest
