-- A command is read back from the table's view of it, and what fits the table is the view of a command.
use Rattle.std.proofs.Common.{◌≡◌, ℕ, List, [], ◌∷◌, Bool, true, false, cond, Option, None, Some, refl, sym, ap, subst, ◌∙◌}
use Rattle.std.specs.Prelude.{slice_set, bytes_eq, codes}
use Rattle.std.proofs.lemmas.Slice.Eq.{bytes_eq-Decides}
use Rattle.std.specs.Option.{option_map}
use Rattle.access_levels.specs.declared.levels.Level.TheVariants.{Read}
use Rattle.access_levels.specs.declared.authorities.GroupAuthority.{GroupAuthority}
use Rattle.access_levels.specs.declared.levels.Level.{Level}
use Rattle.access_levels.specs.declared.entries.Who.{Who}
use Rattle.access_levels.specs.declared.entries.Condition.{Condition}
use Rattle.generic_names.specs.Spelled.{Spelled}
use Rattle.racf_profiles.specs.declared.profiles.AuditRule.{AuditRule}
use Rattle.racf_profiles.specs.declared.profiles.Member.{Member}
use Rattle.command_grammar.specs.declared.table.Verb.{Verb}
use Rattle.command_grammar.specs.declared.table.Verb.TheVariants as verbs
use Rattle.command_values.specs.declared.value_kinds.ValueKind.{ValueKind}
use Rattle.command_values.specs.declared.value_kinds.ValueKind.TheVariants as kinds
use Rattle.command_grammar.specs.declared.table.Operand.{Operand}
use Rattle.command_grammar.specs.CommandTable.{in_class, named_as, user, group, data_set_profile, class_and_profile, any_profile}
use Rattle.command_values.specs.declared.values.Content.{Content}
use Rattle.command_values.specs.declared.values.Content.TheVariants as contents
use Rattle.command_fields.specs.declared.resets.Reset.{Reset}
use Rattle.command_fields.specs.declared.log_clauses.LogClause.{LogClause}
use Rattle.command_fields.specs.declared.class_fields.ClassNames.{ClassNames}
use Rattle.command_fields.specs.Classes.{cdt}
use Rattle.command_fields.specs.declared.fields.CommandFields.{CommandFields}
use Rattle.command_fields.specs.declared.fields.CommandFields.TheVariants as fields
use Rattle.command_grammar.specs.Reading.{Generic, Slots, means_read, completed}
use Rattle.command_values.specs.LawfulValues.{Fits}
use Rattle.command_grammar.specs.Lawful.{FitsAll, FitsPositions, class_in_front, IsLawful}
use Rattle.command_grammar.specs.Table.{positions_of, operands_of}
use Rattle.command_parser.specs.Operands.{flag_value, id_value, authority_value, name_value, ids_value, level_value, audit_value, reset_value, whos_value, when_value, members_value, member_names_value, failures_value, log_clauses_value, length_value, truth_value, class_names_value}
use Rattle.command_parser.specs.Canonical.{generic_view}
use Rattle.command_parser.specs.Fields.{front, behind, flag_in, id_in, authority_in, name_in, ids_in, level_in, audit_in, reset_in, whos_in, when_in, members_in, member_names_in, log_clauses_in, length_in, truth_in, class_names_in, add_user_in, alt_user_in, add_group_in, alt_group_in, connect_in, remove_in}
use Rattle.command_parser.specs.OptionFields.{set_ropts_in}
use Rattle.command_parser.specs.ProfileFields.{add_sd_in, alt_sd_in, r_define_in, define_class_in, r_alter_in, alter_class_in, permit_in}
use Rattle.command_parser.specs.CommandOf.{command_by, command_of}

flag_in-value : (b : Bool) → flag_in (flag_value b) ≡ b
flag_in-value true = refl
flag_in-value false = refl

id_in-value : (o : Option (List ℕ)) → id_in (id_value o) ≡ o
id_in-value None = refl
id_in-value (Some id) = refl

authority_in-value : (o : Option GroupAuthority) → authority_in (authority_value o) ≡ o
authority_in-value None = refl
authority_in-value (Some a) = refl

name_in-value : (o : Option (List ℕ)) → name_in (name_value o) ≡ o
name_in-value None = refl
name_in-value (Some t) = refl

ids_in-value : (ids : List (List ℕ)) → ids_in (ids_value ids) ≡ ids
ids_in-value [] = refl
ids_in-value (id ∷ ids) = refl

level_in-value : (o : Option Level) → level_in (level_value o) ≡ o
level_in-value None = refl
level_in-value (Some x) = refl

audit_in-value : (o : Option AuditRule) → audit_in (audit_value o) ≡ o
audit_in-value None = refl
audit_in-value (Some x) = refl

reset_in-value : (o : Option Reset) → reset_in (reset_value o) ≡ o
reset_in-value None = refl
reset_in-value (Some x) = refl

when_in-value : (o : Option Condition) → when_in (when_value o) ≡ o
when_in-value None = refl
when_in-value (Some x) = refl

whos_in-value : (xs : List Who) → whos_in (whos_value xs) ≡ xs
whos_in-value [] = refl
whos_in-value (x ∷ xs) = refl

members_in-value : (xs : List Member) → members_in (members_value xs) ≡ xs
members_in-value [] = refl
members_in-value (x ∷ xs) = refl

member_names_in-value : (xs : List Spelled) → member_names_in (member_names_value xs) ≡ xs
member_names_in-value [] = refl
member_names_in-value (x ∷ xs) = refl

failures_in-value : (b : Bool) → flag_in (failures_value b) ≡ b
failures_in-value true = refl
failures_in-value false = refl

log_clauses_in-value : (xs : List LogClause) → log_clauses_in (log_clauses_value xs) ≡ xs
log_clauses_in-value [] = refl
log_clauses_in-value (x ∷ xs) = refl

length_in-value : (o : Option ℕ) → length_in (length_value o) ≡ o
length_in-value None = refl
length_in-value (Some x) = refl

truth_in-value : (o : Option Bool) → truth_in (truth_value o) ≡ o
truth_in-value None = refl
truth_in-value (Some x) = refl

class_names_in-value : (o : Option ClassNames) → class_names_in (class_names_value o) ≡ o
class_names_in-value None = refl
class_names_in-value (Some x) = refl

-- a command is read back from its view
pub command_of-generic : (c : CommandFields) → command_of (generic_view c) ≡ Some c
unfolding command_of front behind
command_of-generic (fields.AddUser c) = simp (flag_in-value, id_in-value, authority_in-value, name_in-value, ids_in-value)
command_of-generic (fields.AltUser c) = simp (flag_in-value, id_in-value, name_in-value, ids_in-value)
command_of-generic (fields.DelUser c) = refl
command_of-generic (fields.AddGroup c) = simp id_in-value
command_of-generic (fields.AltGroup c) = simp id_in-value
command_of-generic (fields.DelGroup c) = refl
command_of-generic (fields.Connect c) = simp (flag_in-value, id_in-value, authority_in-value)
command_of-generic (fields.Remove c) = simp id_in-value
command_of-generic (fields.AddSd c) = simp (flag_in-value, id_in-value, ids_in-value, level_in-value, audit_in-value)
command_of-generic (fields.AltSd c) = simp (flag_in-value, id_in-value, ids_in-value, level_in-value, audit_in-value)
command_of-generic (fields.DelSd c) = refl
command_of-generic (fields.RDefine c) = simp (flag_in-value, id_in-value, ids_in-value, level_in-value, audit_in-value, members_in-value)
command_of-generic (fields.RAlter c) = simp (flag_in-value, id_in-value, ids_in-value, level_in-value, audit_in-value, members_in-value, member_names_in-value)
command_of-generic (fields.DefineClass c) = simp (id_in-value, length_in-value, truth_in-value, class_names_in-value)
command_of-generic (fields.AlterClass c) = simp id_in-value
command_of-generic (fields.RDelete c) = refl
command_of-generic (fields.Permit c) = simp (flag_in-value, level_in-value, reset_in-value, whos_in-value, when_in-value)
command_of-generic (fields.SetRopts c) = simp (flag_in-value, failures_in-value, ids_in-value, log_clauses_in-value)

-- the slot of the field that is read from a slot of this kind
again : ValueKind → Option Content → Option Content
again kinds.Flag s = flag_value (flag_in s)
again kinds.Id s = id_value (id_in s)
again kinds.Group s = id_value (id_in s)
again kinds.Authority s = authority_value (authority_in s)
again kinds.Name s = name_value (name_in s)
again kinds.Ids s = ids_value (ids_in s)
again kinds.Classes s = ids_value (ids_in s)
again kinds.Level s = level_value (level_in s)
again kinds.Audit s = audit_value (audit_in s)
again kinds.Class s = id_value (id_in s)
again kinds.DataSetProfile s = s
again kinds.ClassProfile s = s
again kinds.AnyProfile s = s
again kinds.Reset s = reset_value (reset_in s)
again kinds.Whos s = whos_value (whos_in s)
again kinds.When s = when_value (when_in s)
again kinds.AddedMembers s = members_value (members_in s)
again kinds.DroppedMembers s = member_names_value (member_names_in s)
again kinds.Generic s = None
again kinds.Failures s = failures_value (flag_in s)
again kinds.LogOptions s = log_clauses_value (log_clauses_in s)
again kinds.Length s = length_value (length_in s)
again kinds.Truth s = truth_value (truth_in s)
again kinds.ClassNames s = class_names_value (class_names_in s)

again-none : (k : ValueKind) → again k None ≡ None
unfolding again
again-none kinds.Flag = refl
again-none kinds.Id = refl
again-none kinds.Group = refl
again-none kinds.Authority = refl
again-none kinds.Name = refl
again-none kinds.Ids = refl
again-none kinds.Classes = refl
again-none kinds.Level = refl
again-none kinds.Audit = refl
again-none kinds.Class = refl
again-none kinds.DataSetProfile = refl
again-none kinds.ClassProfile = refl
again-none kinds.AnyProfile = refl
again-none kinds.Reset = refl
again-none kinds.Whos = refl
again-none kinds.When = refl
again-none kinds.AddedMembers = refl
again-none kinds.DroppedMembers = refl
again-none kinds.Generic = refl
again-none kinds.Failures = refl
again-none kinds.LogOptions = refl
again-none kinds.Length = refl
again-none kinds.Truth = refl
again-none kinds.ClassNames = refl

again-some : (k : ValueKind) (v : Content) → Fits k v → again k (Some v) ≡ Some v
unfolding again
again-some kinds.Flag contents.Flag h = refl
again-some kinds.Id (contents.Id w) h = refl
again-some kinds.Group (contents.Id w) h = refl
again-some kinds.Authority (contents.Authority a) h = refl
again-some kinds.Name (contents.Name t) h = refl
again-some kinds.Ids (contents.Ids []) h = absurd h.0
again-some kinds.Ids (contents.Ids (w ∷ ws)) h = refl
again-some kinds.Classes (contents.Ids []) h = absurd h.0
again-some kinds.Classes (contents.Ids (w ∷ ws)) h = refl
again-some kinds.Level (contents.Level l) h = refl
again-some kinds.Audit (contents.Audit rule) h = refl
again-some kinds.Class (contents.Id w) h = refl
again-some kinds.DataSetProfile v h = refl
again-some kinds.ClassProfile v h = refl
again-some kinds.AnyProfile v h = refl
again-some kinds.Reset (contents.Reset reset) h = refl
again-some kinds.Whos (contents.Whos (x ∷ xs)) h = refl
again-some kinds.When (contents.When condition) h = refl
again-some kinds.AddedMembers (contents.Members (x ∷ xs)) h = refl
again-some kinds.DroppedMembers (contents.MemberNames (x ∷ xs)) h = refl
again-some kinds.Failures contents.Failures h = refl
again-some kinds.LogOptions (contents.LogOptions []) h = absurd h.0
again-some kinds.LogOptions (contents.LogOptions (x ∷ xs)) h = refl
again-some kinds.Length (contents.Length n) h = refl
again-some kinds.Truth (contents.Truth b) h = refl
again-some kinds.ClassNames (contents.ClassNames n) h = refl
again-some k v h = absurd h

-- the same of all slots
all_again : List Operand → Slots → Slots
all_again [] slots = []
all_again (o ∷ os) slots = again o.kind (front slots) ∷ all_again os (behind slots)

all_again-is : (os : List Operand) (ss : Slots) → FitsAll os ss → all_again os ss ≡ ss
unfolding all_again front behind
all_again-is [] [] h = refl
all_again-is [] (s ∷ ss) h = absurd h
all_again-is (o ∷ os) [] h = absurd h
all_again-is (o ∷ os) (None ∷ ss) h = ap (λ (s : Option Content). s ∷ all_again os ss) (again-none o.kind) ∙ ap (λ (x : Slots). None ∷ x) (all_again-is os ss h)
all_again-is (o ∷ os) (Some v ∷ ss) h = ap (λ (s : Option Content). s ∷ all_again os ss) (again-some o.kind v h.0) ∙ ap (λ (x : Slots). Some v ∷ x) (all_again-is os ss h.1)

is_user : (words : List Content) → FitsPositions user words → (w : List ℕ) × (words ≡ contents.Id w ∷ [])
is_user [] h = absurd h
is_user (contents.Id w ∷ []) h = (w, refl)
is_user (contents.Id w ∷ v ∷ vs) h = absurd h.1
is_user (v ∷ vs) h = absurd h.0

is_group : (words : List Content) → FitsPositions group words → (w : List ℕ) × (words ≡ contents.Id w ∷ [])
is_group [] h = absurd h
is_group (contents.Id w ∷ []) h = (w, refl)
is_group (contents.Id w ∷ v ∷ vs) h = absurd h.1
is_group (v ∷ vs) h = absurd h.0

is_data_set : (words : List Content) → FitsPositions data_set_profile words → (n : Spelled) × (words ≡ contents.Profile n ∷ [])
is_data_set [] h = absurd h
is_data_set (contents.Profile n ∷ []) h = (n, refl)
is_data_set (contents.Profile n ∷ v ∷ vs) h = absurd h.1
is_data_set (v ∷ vs) h = absurd h.0

is_profile : (words : List Content) → FitsPositions any_profile words → (n : Spelled) × (words ≡ contents.Profile n ∷ [])
is_profile [] h = absurd h
is_profile (contents.Profile n ∷ []) h = (n, refl)
is_profile (contents.Profile n ∷ v ∷ vs) h = absurd h.1
is_profile (v ∷ vs) h = absurd h.0

is_class_profile : (words : List Content) → FitsPositions class_and_profile words → (c : List ℕ) × (n : Spelled) × (words ≡ contents.Id c ∷ contents.Profile n ∷ [])
is_class_profile [] h = absurd h
is_class_profile (contents.Id c ∷ contents.Profile n ∷ []) h = (c, n, refl)
is_class_profile (contents.Id c ∷ contents.Profile n ∷ v ∷ vs) h = absurd h.1.1
is_class_profile (contents.Id c ∷ []) h = absurd h.1
is_class_profile (contents.Id c ∷ v ∷ vs) h = absurd h.1.0
is_class_profile (v ∷ vs) h = absurd h.0

-- a command whose view has these parts
pub record IsViewed (v : Verb) (words : List Content) (slots : Slots) : Type 0 where
  pub command : CommandFields
  pub read : command_by v words slots ≡ Some command
  pub view : generic_view command ≡ record { verb = v; positions = words; slots = slots }

-- the same of words that are equal
viewed : (v : Verb) (words words2 : List Content) (slots : Slots) → words ≡ words2 → IsViewed v words2 slots → IsViewed v words slots
viewed v words words2 slots same h = subst (λ (ws : List Content). IsViewed v ws slots) (sym same) h

seen_again : (v : Verb) (words : List Content) (slots : Slots) → FitsAll (operands_of v) slots
    → let view : Generic = record { verb = v; positions = words; slots = all_again (operands_of v) slots } in view ≡ record { verb = v; positions = words; slots = slots }
seen_again v words slots fits = ap (λ (x : Slots). record { verb = v; positions = words; slots = x }) (all_again-is (operands_of v) slots fits)

behind_first : List Operand → List Operand
behind_first [] = []
behind_first (o ∷ os) = os

-- PERMIT, where its class is given
permit_viewed : (n : Spelled) (class : List ℕ) (slots : Slots) → id_in (front slots) ≡ Some class → FitsAll (operands_of verbs.Permit) slots → IsViewed verbs.Permit (contents.Profile n ∷ []) slots
unfolding all_again again behind_first
permit_viewed n class slots given fits =
    record {
      command = fields.Permit (permit_in n class slots);
      read = ap (λ (o : Option (List ℕ)). option_map (λ (c : List ℕ). fields.Permit (permit_in n c slots)) o) given;
      view = ap (λ (o : Option (List ℕ)). record { verb = verbs.Permit; positions = contents.Profile n ∷ []; slots = id_value o ∷ all_again (behind_first (operands_of verbs.Permit)) (behind slots) }) (sym given)
          ∙ seen_again verbs.Permit (contents.Profile n ∷ []) slots fits;
    }

-- PERMIT has something in the slot of its class
NamesClass : Verb → Slots → Type 0
NamesClass verbs.Permit slots = (v : Content) × (front slots ≡ Some v)
NamesClass v slots = Unit {0}

class_given : (slots : Slots) (v : Content) → front slots ≡ Some v → FitsAll (operands_of verbs.Permit) slots → (class : List ℕ) × (id_in (front slots) ≡ Some class)
unfolding front
class_given [] v is fits = absurd fits
class_given (None ∷ ss) v is fits = let no : let empty : Option Content = None in empty ≡ Some v = is in cc
class_given (Some (contents.Id w) ∷ ss) v is fits = (w, refl)
class_given (Some u ∷ ss) v is fits = absurd fits.0

-- a class in which RDEFINE or RALTER has its own row is CDT
own_class : (one other : Verb) → (one ≡ other → ⊥) → (c : List ℕ) → cond (bytes_eq c cdt) one other ≡ one → c ≡ cdt
own_class one other differs c h = tested (bytes_eq c cdt) refl h
  where
    tested : (b : Bool) → bytes_eq c cdt ≡ b → cond b one other ≡ one → c ≡ cdt
    tested true is h = (bytes_eq-Decides c cdt).0 is
    tested false is h = absurd (differs (sym h))

defined : (c : List ℕ) → in_class verbs.RDefine (Some c) ≡ verbs.DefineClass → c ≡ cdt
defined c h = own_class verbs.DefineClass verbs.RDefine (λ same. cc) c h

altered : (c : List ℕ) → in_class verbs.RAlter (Some c) ≡ verbs.AlterClass → c ≡ cdt
altered c h = own_class verbs.AlterClass verbs.RAlter (λ same. cc) c h

viewed_by : (v : Verb) (words : List Content) (slots : Slots) → FitsPositions (positions_of v) words → FitsAll (operands_of v) slots → NamesClass v slots → in_class (named_as v) (class_in_front words) ≡ v → IsViewed v words slots
unfolding all_again again NamesClass
viewed_by verbs.AddUser words slots at fits names chosen =
    let w = is_user words at in
    viewed verbs.AddUser words (contents.Id w.0 ∷ []) slots w.1
    (record { command = fields.AddUser (add_user_in w.0 slots); read = refl; view = seen_again verbs.AddUser (contents.Id w.0 ∷ []) slots fits })
viewed_by verbs.AltUser words slots at fits names chosen =
    let w = is_user words at in
    viewed verbs.AltUser words (contents.Id w.0 ∷ []) slots w.1
    (record { command = fields.AltUser (alt_user_in w.0 slots); read = refl; view = seen_again verbs.AltUser (contents.Id w.0 ∷ []) slots fits })
viewed_by verbs.DelUser words slots at fits names chosen =
    let w = is_user words at in
    viewed verbs.DelUser words (contents.Id w.0 ∷ []) slots w.1
    (record { command = fields.DelUser (record { user = w.0 }); read = refl; view = seen_again verbs.DelUser (contents.Id w.0 ∷ []) slots fits })
viewed_by verbs.AddGroup words slots at fits names chosen =
    let w = is_group words at in
    viewed verbs.AddGroup words (contents.Id w.0 ∷ []) slots w.1
    (record { command = fields.AddGroup (add_group_in w.0 slots); read = refl; view = seen_again verbs.AddGroup (contents.Id w.0 ∷ []) slots fits })
viewed_by verbs.AltGroup words slots at fits names chosen =
    let w = is_group words at in
    viewed verbs.AltGroup words (contents.Id w.0 ∷ []) slots w.1
    (record { command = fields.AltGroup (alt_group_in w.0 slots); read = refl; view = seen_again verbs.AltGroup (contents.Id w.0 ∷ []) slots fits })
viewed_by verbs.DelGroup words slots at fits names chosen =
    let w = is_group words at in
    viewed verbs.DelGroup words (contents.Id w.0 ∷ []) slots w.1
    (record { command = fields.DelGroup (record { group = w.0 }); read = refl; view = seen_again verbs.DelGroup (contents.Id w.0 ∷ []) slots fits })
viewed_by verbs.Connect words slots at fits names chosen =
    let w = is_user words at in
    viewed verbs.Connect words (contents.Id w.0 ∷ []) slots w.1
    (record { command = fields.Connect (connect_in w.0 slots); read = refl; view = seen_again verbs.Connect (contents.Id w.0 ∷ []) slots fits })
viewed_by verbs.Remove words slots at fits names chosen =
    let w = is_user words at in
    viewed verbs.Remove words (contents.Id w.0 ∷ []) slots w.1
    (record { command = fields.Remove (remove_in w.0 slots); read = refl; view = seen_again verbs.Remove (contents.Id w.0 ∷ []) slots fits })
viewed_by verbs.AddSd words slots at fits names chosen =
    let w = is_data_set words at in
    viewed verbs.AddSd words (contents.Profile w.0 ∷ []) slots w.1
    (record { command = fields.AddSd (add_sd_in w.0 slots); read = refl; view = seen_again verbs.AddSd (contents.Profile w.0 ∷ []) slots fits })
viewed_by verbs.AltSd words slots at fits names chosen =
    let w = is_data_set words at in
    viewed verbs.AltSd words (contents.Profile w.0 ∷ []) slots w.1
    (record { command = fields.AltSd (alt_sd_in w.0 slots); read = refl; view = seen_again verbs.AltSd (contents.Profile w.0 ∷ []) slots fits })
viewed_by verbs.DelSd words slots at fits names chosen =
    let w = is_data_set words at in
    viewed verbs.DelSd words (contents.Profile w.0 ∷ []) slots w.1
    (record { command = fields.DelSd (record { profile = w.0 }); read = refl; view = seen_again verbs.DelSd (contents.Profile w.0 ∷ []) slots fits })
viewed_by verbs.RDefine words slots at fits names chosen =
    let w = is_class_profile words at in
    viewed verbs.RDefine words (contents.Id w.0 ∷ contents.Profile w.1 ∷ []) slots w.2
    (record { command = fields.RDefine (r_define_in w.0 w.1 slots); read = refl; view = seen_again verbs.RDefine (contents.Id w.0 ∷ contents.Profile w.1 ∷ []) slots fits })
viewed_by verbs.RAlter words slots at fits names chosen =
    let w = is_class_profile words at in
    viewed verbs.RAlter words (contents.Id w.0 ∷ contents.Profile w.1 ∷ []) slots w.2
    (record { command = fields.RAlter (r_alter_in w.0 w.1 slots); read = refl; view = seen_again verbs.RAlter (contents.Id w.0 ∷ contents.Profile w.1 ∷ []) slots fits })
viewed_by verbs.DefineClass words slots at fits names chosen =
    let w = is_class_profile words at in
    let class : w.0 ≡ cdt = defined w.0 (ap (λ ws. in_class verbs.RDefine (class_in_front ws)) (sym w.2) ∙ chosen) in
    viewed verbs.DefineClass words (contents.Id cdt ∷ contents.Profile w.1 ∷ []) slots (w.2 ∙ ap (λ c. contents.Id c ∷ contents.Profile w.1 ∷ []) class)
    (record { command = fields.DefineClass (define_class_in w.1 slots); read = refl; view = seen_again verbs.DefineClass (contents.Id cdt ∷ contents.Profile w.1 ∷ []) slots fits })
viewed_by verbs.AlterClass words slots at fits names chosen =
    let w = is_class_profile words at in
    let class : w.0 ≡ cdt = altered w.0 (ap (λ ws. in_class verbs.RAlter (class_in_front ws)) (sym w.2) ∙ chosen) in
    viewed verbs.AlterClass words (contents.Id cdt ∷ contents.Profile w.1 ∷ []) slots (w.2 ∙ ap (λ c. contents.Id c ∷ contents.Profile w.1 ∷ []) class)
    (record { command = fields.AlterClass (alter_class_in w.1 slots); read = refl; view = seen_again verbs.AlterClass (contents.Id cdt ∷ contents.Profile w.1 ∷ []) slots fits })
viewed_by verbs.RDelete words slots at fits names chosen =
    let w = is_class_profile words at in
    viewed verbs.RDelete words (contents.Id w.0 ∷ contents.Profile w.1 ∷ []) slots w.2
    (record { command = fields.RDelete (record { class = w.0; profile = w.1 }); read = refl; view = seen_again verbs.RDelete (contents.Id w.0 ∷ contents.Profile w.1 ∷ []) slots fits })
viewed_by verbs.Permit words slots at fits names chosen =
    let w = is_profile words at in
    let class = class_given slots names.0 names.1 fits in
    viewed verbs.Permit words (contents.Profile w.0 ∷ []) slots w.1 (permit_viewed w.0 class.0 slots class.1 fits)
viewed_by verbs.SetRopts [] slots at fits names chosen = record { command = fields.SetRopts (set_ropts_in slots); read = refl; view = seen_again verbs.SetRopts [] slots fits }
viewed_by verbs.SetRopts (word ∷ words) slots at fits names chosen = absurd at

-- PERMIT's class is filled in where it isn't named
first_some : (c : Bool) (v : Content) (xs ys zs : Slots) → cond c (Some v ∷ xs) (Some v ∷ ys) ≡ None ∷ zs → ⊥
first_some true v xs ys zs h = cc
first_some false v xs ys zs h = cc

class_filled : (slots : Slots) → FitsAll (operands_of verbs.Permit) slots → completed verbs.Permit slots ≡ slots → (v : Content) × (front slots ≡ Some v)
unfolding front
class_filled [] fits whole = absurd fits
class_filled (Some v ∷ ss) fits whole = (v, refl)
class_filled (None ∷ ss) fits whole =
    let named : Slots = Some (contents.Id (codes "DATASET")) ∷ slice_set ss 5 None in
    absurd (first_some (means_read named) (contents.Id (codes "DATASET")) (slice_set (slice_set ss 5 None) 2 (Some (contents.Level Read))) (slice_set ss 5 None) ss whole)

names_class : (v : Verb) (slots : Slots) → FitsAll (operands_of v) slots → completed v slots ≡ slots → NamesClass v slots
unfolding NamesClass
names_class verbs.Permit slots fits whole = class_filled slots fits whole
names_class v slots fits whole = tt

-- what a text can spell is the view of a command
pub command_viewed : (g : Generic) → IsLawful g → (c : CommandFields) × (command_of g ≡ Some c) × (generic_view c ≡ g)
unfolding command_of
command_viewed g h = let v = viewed_by g.verb g.positions g.slots h.fits_positions h.fits_operands (names_class g.verb g.slots h.fits_operands h.complete) h.chosen in (v.command, v.read, v.view)

pub no_command : (g : Generic) → IsLawful g → command_of g ≡ None → ⊥
no_command g h none = let v = command_viewed g h in let is : command_of g ≡ Some v.0 = v.1 in cc

pub its_command : (g : Generic) (c : CommandFields) → IsLawful g → command_of g ≡ Some c → generic_view c ≡ g
its_command g c h is = let v = command_viewed g h in let other : command_of g ≡ Some v.0 = v.1 in let view : generic_view v.0 ≡ g = v.2 in let same : v.0 ≡ c = cc in subst (λ (x : CommandFields). generic_view x ≡ g) same view
