-- What is lawful to the table is lawful in a command's fields.
use Rattle.std.proofs.Common.{◌≡◌, ℕ, zero, suc, List, [], ◌∷◌, map, Bool, true, false, cond, Option, None, Some, refl, subst}
use Rattle.std.specs.Prelude.{bytes_eq, codes, IfSome}
use Rattle.std.specs.List.{position_or_len}
use Rattle.std.specs.Result.{result_ok}
use Rattle.access_levels.specs.Spelling.{id_of}
use Rattle.access_levels.specs.declared.entries.Who.{Who}
use Rattle.access_levels.specs.declared.entries.Who.TheVariants.{Star, Named}
use Rattle.access_levels.specs.declared.entries.Condition.{Condition}
use Rattle.generic_names.specs.Spelled.{Spelled}
use Rattle.racf_profiles.specs.declared.profiles.AuditRule.{AuditRule}
use Rattle.racf_profiles.specs.declared.profiles.Member.{Member}
use Rattle.command_words.specs.Bytes.{upper}
use Rattle.command_values.specs.declared.operand_words.Word.{Word}
use Rattle.command_values.specs.declared.operand_words.Word.TheVariants as words
use Rattle.command_grammar.specs.declared.table.Verb.TheVariants as verbs
use Rattle.command_values.specs.declared.value_kinds.ValueKind.{ValueKind}
use Rattle.command_values.specs.declared.value_kinds.ValueKind.TheVariants as kinds
use Rattle.command_grammar.specs.declared.table.Operand.{Operand}
use Rattle.command_values.specs.declared.values.Content.{Content}
use Rattle.command_values.specs.declared.values.Known.{Known}
use Rattle.command_grammar.specs.Table.{operands_of}
use Rattle.command_values.specs.Values.{name_of, unless_dataset}
use Rattle.command_grammar.specs.Reading.{Slots, has_word, lacking}
use Rattle.command_fields.specs.declared.log_clauses.LogClause.{LogClause}
use Rattle.command_values.specs.LawfulValues.{AreNames, AreNamed, IsClause, Fits, Suits}
use Rattle.command_fields.specs.LawfulMembers.{Each}
use Rattle.command_grammar.specs.Lawful.{FitsAll, SuitsAll, IsLawful}
use Rattle.command_values.proofs.Names.{name-plain, name-group}
use Rattle.command_values.proofs.Patterns.{dataset-named, class-named}
use Rattle.command_fields.specs.declared.option_fields.SetRopts.{SetRopts}
use Rattle.command_fields.specs.declared.fields.CommandFields.{CommandFields}
use Rattle.command_fields.specs.declared.fields.CommandFields.TheVariants as command
use Rattle.command_fields.specs.Classes.{cdt, is_longest}
use Rattle.command_parser.specs.Operands.{length_value, id_value, name_value, ids_value, audit_value, whos_value, when_value, members_value, member_names_value, log_clauses_value, values_of, operands_of_set_ropts}
use Rattle.command_parser.specs.Canonical.{generic_view}
use Rattle.command_fields.specs.LawfulFields.{IsId, IsGroupName, IsUserName, IsClauthWord, IsAudit, IsNamedOne, AreWhosOfPermit, IsPort, AreMembersOf, AreMemberNamesOf, IsLogClause, refreshes_some, AreLawfulFields}

-- where the operand with this word stands among the rows
abbrev place : Word → List Operand → ℕ
place w rows = position_or_len (has_word w) rows

-- the value of the row at a place, if it was given
abbrev IfFits : ValueKind → Option Content → Type 0
IfFits k None = Unit {0}
IfFits k (Some v) = Fits k v

abbrev IfSuits : Known → ValueKind → Option Content → Type 0
IfSuits known k None = Unit {0}
IfSuits known k (Some v) = Suits known k v

abbrev FitsAt : ℕ → List Operand → Slots → Type 0
FitsAt n [] ss = Unit {0}
FitsAt n (o ∷ os) [] = Unit {0}
FitsAt zero (o ∷ os) (s ∷ ss) = IfFits o.kind s
FitsAt (suc n) (o ∷ os) (s ∷ ss) = FitsAt n os ss

abbrev SuitsAt : Known → ℕ → List Operand → Slots → Type 0
SuitsAt known n [] ss = Unit {0}
SuitsAt known n (o ∷ os) [] = Unit {0}
SuitsAt known zero (o ∷ os) (s ∷ ss) = IfSuits known o.kind s
SuitsAt known (suc n) (o ∷ os) (s ∷ ss) = SuitsAt known n os ss

fits-at : (n : ℕ) (os : List Operand) (ss : Slots) → FitsAll os ss → FitsAt n os ss
fits-at n [] ss h = tt
fits-at n (o ∷ os) [] h = tt
fits-at zero (o ∷ os) (None ∷ ss) h = tt
fits-at zero (o ∷ os) (Some v ∷ ss) h = h.0
fits-at (suc n) (o ∷ os) (None ∷ ss) h = fits-at n os ss h
fits-at (suc n) (o ∷ os) (Some v ∷ ss) h = fits-at n os ss h.1

suits-at : (known : Known) (n : ℕ) (os : List Operand) (ss : Slots) → SuitsAll known os ss → SuitsAt known n os ss
suits-at known n [] ss h = tt
suits-at known n (o ∷ os) [] h = tt
suits-at known zero (o ∷ os) (None ∷ ss) h = tt
suits-at known zero (o ∷ os) (Some v ∷ ss) h = h.0
suits-at known (suc n) (o ∷ os) (None ∷ ss) h = suits-at known n os ss h
suits-at known (suc n) (o ∷ os) (Some v ∷ ss) h = suits-at known n os ss h.1

-- the fields of each kind of operand
id-given : (o : Option (List ℕ)) → IfFits kinds.Id (id_value o) → IfSome o IsId
id-given None h = tt
id-given (Some w) h = (name-plain kinds.Id w w h).spelled

group-given : (o : Option (List ℕ)) → IfFits kinds.Group (id_value o) → IfSome o IsGroupName
group-given None h = tt
group-given (Some w) h = name-group w w h

class-given : (w : List ℕ) → name_of kinds.Class w ≡ Some w → IsId w
class-given w h = (name-plain kinds.Class w w h).spelled

name-given : (o : Option (List ℕ)) → IfFits kinds.Name (name_value o) → IfSome o IsUserName
name-given None h = tt
name-given (Some t) h = h

audit-given : (o : Option AuditRule) → IfFits kinds.Audit (audit_value o) → IfSome o IsAudit
audit-given None h = tt
audit-given (Some rule) h = h

length-given : (o : Option ℕ) → IfFits kinds.Length (length_value o) → IfSome o (λ n. is_longest n ≡ true)
length-given None h = tt
length-given (Some n) h = h

when-given : (o : Option Condition) → IfFits kinds.When (when_value o) → IfSome o IsPort
when-given None h = tt
when-given (Some condition) h = (name-plain kinds.Id condition.name condition.name h).spelled

each-id : (ws : List (List ℕ)) → AreNames kinds.Ids ws → Each IsId ws
each-id [] h = tt
each-id (w ∷ ws) h = ((name-plain kinds.Ids w w h.0).spelled, each-id ws h.1)

ids-given : (ws : List (List ℕ)) → IfFits kinds.Ids (ids_value ws) → Each IsId ws
ids-given [] h = tt
ids-given (w ∷ ws) h = each-id (w ∷ ws) h.1

not-dataset : (o : Option (List ℕ)) (w : List ℕ) → unless_dataset o ≡ Some w → bytes_eq w (codes "DATASET") ≡ false
not-dataset None w h = cc
not-dataset (Some v) w h = kept (bytes_eq v (codes "DATASET")) v w refl h
  where
    kept : (c : Bool) (v w : List ℕ) → bytes_eq v (codes "DATASET") ≡ c → cond c None (Some v) ≡ Some w → bytes_eq w (codes "DATASET") ≡ false
    kept true v w is h = cc
    kept false v w is h = let same : v ≡ w = cc in subst (λ (x : List ℕ). bytes_eq x (codes "DATASET") ≡ false) same is

each-clauth : (ws : List (List ℕ)) → AreNames kinds.Classes ws → Each IsClauthWord ws
each-clauth [] h = tt
each-clauth (w ∷ ws) h = (((name-plain kinds.Classes w w h.0).spelled, not-dataset (result_ok (id_of (map upper w))) w h.0), each-clauth ws h.1)

clauth-given : (ws : List (List ℕ)) → IfFits kinds.Classes (ids_value ws) → Each IsClauthWord ws
clauth-given [] h = tt
clauth-given (w ∷ ws) h = each-clauth (w ∷ ws) h.1

each-named : (whos : List Who) → AreNamed whos → Each IsNamedOne whos
each-named [] h = tt
each-named (Star ∷ whos) h = absurd h
each-named (Named w ∷ whos) h = ((name-plain kinds.Ids w w h.0).spelled, each-named whos h.1)

whos-given : (whos : List Who) → IfFits kinds.Whos (whos_value whos) → AreWhosOfPermit whos
whos-given [] h = tt
whos-given (Star ∷ []) h = tt
whos-given (Star ∷ (who ∷ whos)) h = h
whos-given (Named w ∷ whos) h = ((name-plain kinds.Ids w w h.0).spelled, each-named whos h.1)

members-given : (class : List ℕ) (n : Spelled) (ms : List Member) → IfSuits (record { class = Some class; profile = Some n }) kinds.AddedMembers (members_value ms) → AreMembersOf class n ms
members-given class n [] h = tt
members-given class n (m ∷ ms) h = h

member-names-given : (class : List ℕ) (n : Spelled) (ns : List Spelled) → IfSuits (record { class = Some class; profile = Some n }) kinds.DroppedMembers (member_names_value ns) → AreMemberNamesOf class n ns
member-names-given class n [] h = tt
member-names-given class n (x ∷ xs) h = h

each-log-clause : (cs : List LogClause) → Each IsClause cs → Each IsLogClause cs
each-log-clause [] h = tt
each-log-clause (c ∷ cs) h = (each-id c.classes h.0.1, each-log-clause cs h.1)

log-clauses-given : (cs : List LogClause) → IfFits kinds.LogOptions (log_clauses_value cs) → Each IsLogClause cs
log-clauses-given [] h = tt
log-clauses-given (c ∷ cs) h = each-log-clause (c ∷ cs) h.2

-- REFRESH needs RACLIST, GLOBAL or GENERIC
abbrev slots_with : SetRopts → Bool → (raclist global generic : List (List ℕ)) → Slots
slots_with a refresh raclist global generic = values_of (operands_of_set_ropts (record a { refresh = refresh; raclist = raclist; global = global; generic = generic }))

refresh-given : (a : SetRopts) (refresh : Bool) (raclist global generic : List (List ℕ)) → lacking verbs.SetRopts (slots_with a refresh raclist global generic) ≡ None
    → refreshes_some (record a { refresh = refresh; raclist = raclist; global = global; generic = generic }) ≡ true
refresh-given a false raclist global generic h = refl
refresh-given a true (class ∷ classes) global generic h = refl
refresh-given a true [] (class ∷ classes) generic h = refl
refresh-given a true [] [] (class ∷ classes) h = refl
refresh-given a true [] [] [] h = cc

-- RDEFINE and RALTER aren't in class CDT
define-elsewhere : (own : Bool) → cond own verbs.DefineClass verbs.RDefine ≡ verbs.RDefine → own ≡ false
define-elsewhere false h = refl
define-elsewhere true h = cc

alter-elsewhere : (own : Bool) → cond own verbs.AlterClass verbs.RAlter ≡ verbs.RAlter → own ≡ false
alter-elsewhere false h = refl
alter-elsewhere true h = cc

pub fields-lawful : (c : CommandFields) → IsLawful (generic_view c) → AreLawfulFields c
fields-lawful (command.AddUser a) lawful =
    let fits = λ (w : Word). fits-at (place w (operands_of verbs.AddUser)) (operands_of verbs.AddUser) (generic_view (command.AddUser a)).slots lawful.fits_operands in
    record {
      user = id-given (Some a.user) lawful.fits_positions.0;
      name = name-given a.name (fits words.Name);
      dfltgrp = group-given a.dfltgrp (fits words.Dfltgrp);
      owner = id-given a.owner (fits words.Owner);
      clauth = clauth-given a.clauth (fits words.Clauth);
      seclevel = id-given a.seclevel (fits words.Seclevel);
      addcategory = ids-given a.addcategory (fits words.Addcategory);
      seclabel = id-given a.seclabel (fits words.Seclabel);
    }
fields-lawful (command.AltUser a) lawful =
    let fits = λ (w : Word). fits-at (place w (operands_of verbs.AltUser)) (operands_of verbs.AltUser) (generic_view (command.AltUser a)).slots lawful.fits_operands in
    record {
      user = id-given (Some a.user) lawful.fits_positions.0;
      name = name-given a.name (fits words.Name);
      dfltgrp = group-given a.dfltgrp (fits words.Dfltgrp);
      owner = id-given a.owner (fits words.Owner);
      clauth = clauth-given a.clauth (fits words.Clauth);
      noclauth = clauth-given a.noclauth (fits words.Noclauth);
      seclevel = id-given a.seclevel (fits words.Seclevel);
      addcategory = ids-given a.addcategory (fits words.Addcategory);
      delcategory = ids-given a.delcategory (fits words.Delcategory);
      seclabel = id-given a.seclabel (fits words.Seclabel);
    }
fields-lawful (command.DelUser a) lawful = id-given (Some a.user) lawful.fits_positions.0
fields-lawful (command.AddGroup a) lawful =
    let fits = λ (w : Word). fits-at (place w (operands_of verbs.AddGroup)) (operands_of verbs.AddGroup) (generic_view (command.AddGroup a)).slots lawful.fits_operands in
    record { group = group-given (Some a.group) lawful.fits_positions.0; supgroup = group-given a.supgroup (fits words.Supgroup); owner = id-given a.owner (fits words.Owner) }
fields-lawful (command.AltGroup a) lawful =
    let fits = λ (w : Word). fits-at (place w (operands_of verbs.AltGroup)) (operands_of verbs.AltGroup) (generic_view (command.AltGroup a)).slots lawful.fits_operands in
    record { group = group-given (Some a.group) lawful.fits_positions.0; supgroup = group-given a.supgroup (fits words.Supgroup); owner = id-given a.owner (fits words.Owner) }
fields-lawful (command.DelGroup a) lawful = group-given (Some a.group) lawful.fits_positions.0
fields-lawful (command.Connect a) lawful =
    let fits = λ (w : Word). fits-at (place w (operands_of verbs.Connect)) (operands_of verbs.Connect) (generic_view (command.Connect a)).slots lawful.fits_operands in
    record { user = id-given (Some a.user) lawful.fits_positions.0; group = group-given a.group (fits words.Group) }
fields-lawful (command.Remove a) lawful =
    let fits = λ (w : Word). fits-at (place w (operands_of verbs.Remove)) (operands_of verbs.Remove) (generic_view (command.Remove a)).slots lawful.fits_operands in
    record { user = id-given (Some a.user) lawful.fits_positions.0; group = group-given a.group (fits words.Group) }
fields-lawful (command.AddSd a) lawful =
    let fits = λ (w : Word). fits-at (place w (operands_of verbs.AddSd)) (operands_of verbs.AddSd) (generic_view (command.AddSd a)).slots lawful.fits_operands in
    record {
      profile = lawful.fits_positions.0;
      kind = (dataset-named a.profile.text a.profile lawful.fits_positions.0).kinds;
      owner = id-given a.owner (fits words.Owner);
      audit = audit-given a.audit (fits words.Audit);
      seclevel = id-given a.seclevel (fits words.Seclevel);
      addcategory = ids-given a.addcategory (fits words.Addcategory);
      seclabel = id-given a.seclabel (fits words.Seclabel);
    }
fields-lawful (command.AltSd a) lawful =
    let fits = λ (w : Word). fits-at (place w (operands_of verbs.AltSd)) (operands_of verbs.AltSd) (generic_view (command.AltSd a)).slots lawful.fits_operands in
    record {
      profile = lawful.fits_positions.0;
      kind = (dataset-named a.profile.text a.profile lawful.fits_positions.0).kinds;
      owner = id-given a.owner (fits words.Owner);
      audit = audit-given a.audit (fits words.Audit);
      globalaudit = audit-given a.globalaudit (fits words.Globalaudit);
      seclevel = id-given a.seclevel (fits words.Seclevel);
      addcategory = ids-given a.addcategory (fits words.Addcategory);
      delcategory = ids-given a.delcategory (fits words.Delcategory);
      seclabel = id-given a.seclabel (fits words.Seclabel);
    }
fields-lawful (command.DelSd a) lawful = lawful.fits_positions.0
fields-lawful (command.RDefine a) lawful =
    let fits = λ (w : Word). fits-at (place w (operands_of verbs.RDefine)) (operands_of verbs.RDefine) (generic_view (command.RDefine a)).slots lawful.fits_operands in
    let known : Known = record { class = Some a.class; profile = Some a.profile } in
    record {
      class = class-given a.class lawful.fits_positions.0;
      chosen = define-elsewhere (bytes_eq a.class cdt) lawful.chosen;
      profile = lawful.suits_positions.1.0;
      kind = (class-named (Some a.class) a.profile.text a.profile lawful.suits_positions.1.0).kinds;
      owner = id-given a.owner (fits words.Owner);
      audit = audit-given a.audit (fits words.Audit);
      seclevel = id-given a.seclevel (fits words.Seclevel);
      addcategory = ids-given a.addcategory (fits words.Addcategory);
      seclabel = id-given a.seclabel (fits words.Seclabel);
      addmem = members-given a.class a.profile a.addmem (suits-at known (place words.Addmem (operands_of verbs.RDefine)) (operands_of verbs.RDefine) (generic_view (command.RDefine a)).slots lawful.suits_operands);
    }
fields-lawful (command.RAlter a) lawful =
    let fits = λ (w : Word). fits-at (place w (operands_of verbs.RAlter)) (operands_of verbs.RAlter) (generic_view (command.RAlter a)).slots lawful.fits_operands in
    let known : Known = record { class = Some a.class; profile = Some a.profile } in
    record {
      class = class-given a.class lawful.fits_positions.0;
      chosen = alter-elsewhere (bytes_eq a.class cdt) lawful.chosen;
      profile = lawful.suits_positions.1.0;
      kind = (class-named (Some a.class) a.profile.text a.profile lawful.suits_positions.1.0).kinds;
      owner = id-given a.owner (fits words.Owner);
      audit = audit-given a.audit (fits words.Audit);
      globalaudit = audit-given a.globalaudit (fits words.Globalaudit);
      seclevel = id-given a.seclevel (fits words.Seclevel);
      addcategory = ids-given a.addcategory (fits words.Addcategory);
      delcategory = ids-given a.delcategory (fits words.Delcategory);
      seclabel = id-given a.seclabel (fits words.Seclabel);
      addmem = members-given a.class a.profile a.addmem (suits-at known (place words.Addmem (operands_of verbs.RAlter)) (operands_of verbs.RAlter) (generic_view (command.RAlter a)).slots lawful.suits_operands);
      delmem = member-names-given a.class a.profile a.delmem (suits-at known (place words.Delmem (operands_of verbs.RAlter)) (operands_of verbs.RAlter) (generic_view (command.RAlter a)).slots lawful.suits_operands);
    }
fields-lawful (command.DefineClass a) lawful =
    let fits = λ (w : Word). fits-at (place w (operands_of verbs.DefineClass)) (operands_of verbs.DefineClass) (generic_view (command.DefineClass a)).slots lawful.fits_operands in
    record {
      profile = lawful.suits_positions.1.0;
      kind = (class-named (Some cdt) a.profile.text a.profile lawful.suits_positions.1.0).kinds;
      owner = id-given a.owner (fits words.Owner);
      maxlength = length-given a.maxlength (fits words.Maxlength);
    }
fields-lawful (command.AlterClass a) lawful =
    let fits = λ (w : Word). fits-at (place w (operands_of verbs.AlterClass)) (operands_of verbs.AlterClass) (generic_view (command.AlterClass a)).slots lawful.fits_operands in
    record {
      profile = lawful.suits_positions.1.0;
      kind = (class-named (Some cdt) a.profile.text a.profile lawful.suits_positions.1.0).kinds;
      owner = id-given a.owner (fits words.Owner);
    }
fields-lawful (command.RDelete a) lawful = record { class = class-given a.class lawful.fits_positions.0; profile = lawful.suits_positions.1.0; kind = (class-named (Some a.class) a.profile.text a.profile lawful.suits_positions.1.0).kinds }
fields-lawful (command.Permit a) lawful =
    let fits = λ (w : Word). fits-at (place w (operands_of verbs.Permit)) (operands_of verbs.Permit) (generic_view (command.Permit a)).slots lawful.fits_operands in
    record {
      class = class-given a.class (fits words.Class);
      profile = lawful.suits_positions.0;
      id = whos-given a.id (fits words.Id);
      when = when-given a.when (fits words.When);
    }
fields-lawful (command.SetRopts a) lawful =
    let fits = λ (w : Word). fits-at (place w (operands_of verbs.SetRopts)) (operands_of verbs.SetRopts) (generic_view (command.SetRopts a)).slots lawful.fits_operands in
    record {
      refresh = refresh-given a a.refresh a.raclist a.global a.generic lawful.needed;
      classact = ids-given a.classact (fits words.Classact);
      noclassact = ids-given a.noclassact (fits words.Noclassact);
      raclist = ids-given a.raclist (fits words.Raclist);
      noraclist = ids-given a.noraclist (fits words.Noraclist);
      global = ids-given a.global (fits words.Global);
      noglobal = ids-given a.noglobal (fits words.Noglobal);
      generic = ids-given a.generic (fits words.Generic);
      logoptions = log-clauses-given a.logoptions (fits words.Logoptions);
    }
