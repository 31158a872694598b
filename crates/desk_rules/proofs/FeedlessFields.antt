-- No line feed is in an ID, a name of a group, or the name of a profile that a command names.
use Rattle.std.proofs.Common.{◌≡◌, ℕ, suc, Bool, true, false, cond, not, ◌&&◌, List, [], ◌∷◌, Option, None, Some, Ok, Err, refl, sym, ap, subst, ◌∙◌, true≢false}
use Rattle.std.specs.Prelude.{is_ok}
use Rattle.access_levels.specs.Spelling.{id_of, group_of}
use Rattle.generic_names.specs.Spelled.{Spelled}
use Rattle.racf_profiles.specs.declared.fixed_classes.NameForm.{NameForm}
use Rattle.racf_profiles.specs.declared.fixed_classes.NameForm.TheVariants as forms
use Rattle.command_words.specs.declared.quoting.Quoting.TheVariants.{Ignored}
use Rattle.command_words.specs.Bytes.{is_faulty_byte}
use Rattle.command_words.specs.ValuedWords.{faulty_at}
use Rattle.command_fields.specs.ProfileNames.{profile_in, form_in}
use Rattle.command_values.proofs.Names.{id_of-ok, group_of-ok}
use Rattle.command_values.proofs.Patterns.{dataset-named, general-named, class-named}
use Rattle.command_fields.specs.LawfulFields.{IsId, IsGroupName, IsDataSetProfile, IsClassProfile, IsAnyProfile}
use Rattle.audit_records.specs.Feedless.{IsFeedless, is_feedless}
use Rattle.audit_records.proofs.Feedless.{other_byte, read_id-feedless, read_group-feedless}

pub id-feedless : (id : List ℕ) → IsId id → IsFeedless id
id-feedless id h = read_id-feedless id id h

-- a text that is spelled as an ID, or as a group
pub spelled_id-feedless : (text : List ℕ) → is_ok (id_of text) ≡ true → IsFeedless text
spelled_id-feedless text is = by (id_of text) refl is
  where
    by : (r : _) → id_of text ≡ r → is_ok r ≡ true → IsFeedless text
    by (Ok read) e k = subst IsFeedless (id_of-ok text read e).0 (read_id-feedless text read e)
    by (Err why) e k = absurd (true≢false (sym k))

pub spelled_group-feedless : (text : List ℕ) → is_ok (group_of text) ≡ true → IsFeedless text
spelled_group-feedless text is = by (group_of text) refl is
  where
    by : (r : _) → group_of text ≡ r → is_ok r ≡ true → IsFeedless text
    by (Ok read) e k = subst IsFeedless (group_of-ok text read e).0 (read_group-feedless text read e)
    by (Err why) e k = absurd (true≢false (sym k))

pub group-feedless : (group : List ℕ) → IsGroupName group → IsFeedless group
group-feedless group h = read_group-feedless group group h

-- ---- names of profiles
faultless : (c : Bool) (p : ℕ) (rest : Option ℕ) → cond c (Some p) rest ≡ None → (c ≡ false) × (rest ≡ None)
faultless true p rest h = cc
faultless false p rest h = (refl, h)

faultless-feedless : (p : ℕ) (text : List ℕ) → faulty_at Ignored p text ≡ None → IsFeedless text
faultless-feedless p [] h = refl
faultless-feedless p (b ∷ bs) h =
    let both = faultless (is_faulty_byte b) p (faulty_at Ignored (suc p) bs) h in
    ap (λ c. c && is_feedless bs) (other_byte (λ n. not (is_faulty_byte n)) refl b (ap not both.0)) ∙ faultless-feedless (suc p) bs both.1

pub named-feedless : (form : NameForm) (name : Spelled) → profile_in form name.text ≡ Some name → IsFeedless name.text
named-feedless forms.DataSet name h = faultless-feedless 1 name.text ((dataset-named name.text name h).plain.sound 1)
named-feedless forms.General name h = faultless-feedless 1 name.text ((general-named forms.General name.text name h).plain.sound 1)
named-feedless forms.Identifier name h = faultless-feedless 1 name.text ((general-named forms.Identifier name.text name h).plain.sound 1)
named-feedless forms.LevelOrCategory name h = faultless-feedless 1 name.text ((general-named forms.LevelOrCategory name.text name h).plain.sound 1)
named-feedless forms.Class name h = faultless-feedless 1 name.text ((general-named forms.Class name.text name h).plain.sound 1)

pub data_set-feedless : (name : Spelled) → IsDataSetProfile name → IsFeedless name.text
data_set-feedless name h = named-feedless forms.DataSet name h

pub class_profile-feedless : (class : List ℕ) (name : Spelled) → IsClassProfile class name → IsFeedless name.text
class_profile-feedless class name h = faultless-feedless 1 name.text ((class-named (Some class) name.text name h).plain.sound 1)

pub any_profile-feedless : (class : List ℕ) (name : Spelled) → IsAnyProfile class name → IsFeedless name.text
any_profile-feedless class name h = named-feedless (form_in class) name h
