-- Facts of the table: each word is plain, each operand is found by its full spelling, each command by its full name.
use Rattle.std.proofs.Common.{◌≡◌, ℕ, suc, List, [], ◌∷◌, map, Bool, true, false, not, ◌&&◌, Option, None, Some, refl}
use Rattle.std.specs.Prelude.{◌==◌, position}
use Rattle.std.specs.List.{list_all}
use Rattle.std.proofs.lemmas.Bool.{eqb-true, and_parts}
use Rattle.command_words.specs.declared.quoting.Quoting.TheVariants.{Ignored}
use Rattle.command_words.specs.Bytes.{upper}
use Rattle.command_words.specs.ValuedWords.{faulty_at}
use Rattle.command_words.proofs.Letters.{is_letter}
use Rattle.command_values.specs.declared.operand_words.Word.{Word}
use Rattle.command_values.specs.declared.operand_words.Word.TheVariants as words
use Rattle.command_grammar.specs.declared.table.Verb.{Verb}
use Rattle.command_grammar.specs.declared.table.Verb.TheVariants as verbs
use Rattle.command_values.specs.declared.value_kinds.ValueKind.{ValueKind}
use Rattle.command_values.specs.declared.value_kinds.ValueKind.TheVariants as kinds
use Rattle.command_grammar.specs.declared.table.Position.{Position}
use Rattle.command_grammar.specs.declared.table.Operand.{Operand}
use Rattle.command_values.specs.OperandWords.{spelling_of}
use Rattle.command_grammar.specs.Table.{full_name, positions_of, operands_of, verb_named}
use Rattle.command_grammar.specs.CommandTable.{named_as, data_set_profile}
use Rattle.command_grammar.specs.Reading.{is_spelling, is_late, begins_with_name}

abbrev pub IsMore : List ℕ → Type 0
IsMore [] = ⊥
IsMore (b ∷ bs) = Unit {0}

-- a word that is read as it is written
pub record IsPlainWord (w : List ℕ) : Type 0 where
  pub some : IsMore w
  pub letters : list_all is_letter w ≡ true
  pub sound : (p : ℕ) → faulty_at Ignored p w ≡ None
  pub folded : map upper w ≡ w

pub spelling-plain : (w : Word) → IsPlainWord (spelling_of w)
spelling-plain words.User = record { some = tt; letters = refl; sound = λ p. refl; folded = refl }
spelling-plain words.Group = record { some = tt; letters = refl; sound = λ p. refl; folded = refl }
spelling-plain words.Name = record { some = tt; letters = refl; sound = λ p. refl; folded = refl }
spelling-plain words.Dfltgrp = record { some = tt; letters = refl; sound = λ p. refl; folded = refl }
spelling-plain words.Owner = record { some = tt; letters = refl; sound = λ p. refl; folded = refl }
spelling-plain words.Authority = record { some = tt; letters = refl; sound = λ p. refl; folded = refl }
spelling-plain words.Special = record { some = tt; letters = refl; sound = λ p. refl; folded = refl }
spelling-plain words.Nospecial = record { some = tt; letters = refl; sound = λ p. refl; folded = refl }
spelling-plain words.Operations = record { some = tt; letters = refl; sound = λ p. refl; folded = refl }
spelling-plain words.Nooperations = record { some = tt; letters = refl; sound = λ p. refl; folded = refl }
spelling-plain words.Auditor = record { some = tt; letters = refl; sound = λ p. refl; folded = refl }
spelling-plain words.Noauditor = record { some = tt; letters = refl; sound = λ p. refl; folded = refl }
spelling-plain words.Restricted = record { some = tt; letters = refl; sound = λ p. refl; folded = refl }
spelling-plain words.Norestricted = record { some = tt; letters = refl; sound = λ p. refl; folded = refl }
spelling-plain words.Uaudit = record { some = tt; letters = refl; sound = λ p. refl; folded = refl }
spelling-plain words.Nouaudit = record { some = tt; letters = refl; sound = λ p. refl; folded = refl }
spelling-plain words.Revoke = record { some = tt; letters = refl; sound = λ p. refl; folded = refl }
spelling-plain words.Resume = record { some = tt; letters = refl; sound = λ p. refl; folded = refl }
spelling-plain words.Clauth = record { some = tt; letters = refl; sound = λ p. refl; folded = refl }
spelling-plain words.Noclauth = record { some = tt; letters = refl; sound = λ p. refl; folded = refl }
spelling-plain words.Seclevel = record { some = tt; letters = refl; sound = λ p. refl; folded = refl }
spelling-plain words.Noseclevel = record { some = tt; letters = refl; sound = λ p. refl; folded = refl }
spelling-plain words.Addcategory = record { some = tt; letters = refl; sound = λ p. refl; folded = refl }
spelling-plain words.Delcategory = record { some = tt; letters = refl; sound = λ p. refl; folded = refl }
spelling-plain words.Seclabel = record { some = tt; letters = refl; sound = λ p. refl; folded = refl }
spelling-plain words.Noseclabel = record { some = tt; letters = refl; sound = λ p. refl; folded = refl }
spelling-plain words.Supgroup = record { some = tt; letters = refl; sound = λ p. refl; folded = refl }
spelling-plain words.Class = record { some = tt; letters = refl; sound = λ p. refl; folded = refl }
spelling-plain words.Profile = record { some = tt; letters = refl; sound = λ p. refl; folded = refl }
spelling-plain words.Uacc = record { some = tt; letters = refl; sound = λ p. refl; folded = refl }
spelling-plain words.Warning = record { some = tt; letters = refl; sound = λ p. refl; folded = refl }
spelling-plain words.Nowarning = record { some = tt; letters = refl; sound = λ p. refl; folded = refl }
spelling-plain words.Audit = record { some = tt; letters = refl; sound = λ p. refl; folded = refl }
spelling-plain words.Globalaudit = record { some = tt; letters = refl; sound = λ p. refl; folded = refl }
spelling-plain words.Generic = record { some = tt; letters = refl; sound = λ p. refl; folded = refl }
spelling-plain words.Addmem = record { some = tt; letters = refl; sound = λ p. refl; folded = refl }
spelling-plain words.Delmem = record { some = tt; letters = refl; sound = λ p. refl; folded = refl }
spelling-plain words.Reset = record { some = tt; letters = refl; sound = λ p. refl; folded = refl }
spelling-plain words.Id = record { some = tt; letters = refl; sound = λ p. refl; folded = refl }
spelling-plain words.Access = record { some = tt; letters = refl; sound = λ p. refl; folded = refl }
spelling-plain words.Delete = record { some = tt; letters = refl; sound = λ p. refl; folded = refl }
spelling-plain words.When = record { some = tt; letters = refl; sound = λ p. refl; folded = refl }
spelling-plain words.Classact = record { some = tt; letters = refl; sound = λ p. refl; folded = refl }
spelling-plain words.Noclassact = record { some = tt; letters = refl; sound = λ p. refl; folded = refl }
spelling-plain words.Grplist = record { some = tt; letters = refl; sound = λ p. refl; folded = refl }
spelling-plain words.Nogrplist = record { some = tt; letters = refl; sound = λ p. refl; folded = refl }
spelling-plain words.Protectall = record { some = tt; letters = refl; sound = λ p. refl; folded = refl }
spelling-plain words.Noprotectall = record { some = tt; letters = refl; sound = λ p. refl; folded = refl }
spelling-plain words.Mls = record { some = tt; letters = refl; sound = λ p. refl; folded = refl }
spelling-plain words.Nomls = record { some = tt; letters = refl; sound = λ p. refl; folded = refl }
spelling-plain words.Raclist = record { some = tt; letters = refl; sound = λ p. refl; folded = refl }
spelling-plain words.Noraclist = record { some = tt; letters = refl; sound = λ p. refl; folded = refl }
spelling-plain words.Global = record { some = tt; letters = refl; sound = λ p. refl; folded = refl }
spelling-plain words.Noglobal = record { some = tt; letters = refl; sound = λ p. refl; folded = refl }
spelling-plain words.Refresh = record { some = tt; letters = refl; sound = λ p. refl; folded = refl }
spelling-plain words.Logoptions = record { some = tt; letters = refl; sound = λ p. refl; folded = refl }
spelling-plain words.Maxlength = record { some = tt; letters = refl; sound = λ p. refl; folded = refl }
spelling-plain words.Names = record { some = tt; letters = refl; sound = λ p. refl; folded = refl }

pub full_name-plain : (v : Verb) → IsPlainWord (full_name v)
full_name-plain verbs.AddUser = record { some = tt; letters = refl; sound = λ p. refl; folded = refl }
full_name-plain verbs.AltUser = record { some = tt; letters = refl; sound = λ p. refl; folded = refl }
full_name-plain verbs.DelUser = record { some = tt; letters = refl; sound = λ p. refl; folded = refl }
full_name-plain verbs.AddGroup = record { some = tt; letters = refl; sound = λ p. refl; folded = refl }
full_name-plain verbs.AltGroup = record { some = tt; letters = refl; sound = λ p. refl; folded = refl }
full_name-plain verbs.DelGroup = record { some = tt; letters = refl; sound = λ p. refl; folded = refl }
full_name-plain verbs.Connect = record { some = tt; letters = refl; sound = λ p. refl; folded = refl }
full_name-plain verbs.Remove = record { some = tt; letters = refl; sound = λ p. refl; folded = refl }
full_name-plain verbs.AddSd = record { some = tt; letters = refl; sound = λ p. refl; folded = refl }
full_name-plain verbs.AltSd = record { some = tt; letters = refl; sound = λ p. refl; folded = refl }
full_name-plain verbs.DelSd = record { some = tt; letters = refl; sound = λ p. refl; folded = refl }
full_name-plain verbs.RDefine = record { some = tt; letters = refl; sound = λ p. refl; folded = refl }
full_name-plain verbs.RAlter = record { some = tt; letters = refl; sound = λ p. refl; folded = refl }
full_name-plain verbs.DefineClass = record { some = tt; letters = refl; sound = λ p. refl; folded = refl }
full_name-plain verbs.AlterClass = record { some = tt; letters = refl; sound = λ p. refl; folded = refl }
full_name-plain verbs.RDelete = record { some = tt; letters = refl; sound = λ p. refl; folded = refl }
full_name-plain verbs.Permit = record { some = tt; letters = refl; sound = λ p. refl; folded = refl }
full_name-plain verbs.SetRopts = record { some = tt; letters = refl; sound = λ p. refl; folded = refl }

pub verb_named-full_name : (v : Verb) → verb_named (full_name v) ≡ Some (named_as v)
verb_named-full_name verbs.AddUser = refl
verb_named-full_name verbs.AltUser = refl
verb_named-full_name verbs.DelUser = refl
verb_named-full_name verbs.AddGroup = refl
verb_named-full_name verbs.AltGroup = refl
verb_named-full_name verbs.DelGroup = refl
verb_named-full_name verbs.Connect = refl
verb_named-full_name verbs.Remove = refl
verb_named-full_name verbs.AddSd = refl
verb_named-full_name verbs.AltSd = refl
verb_named-full_name verbs.DelSd = refl
verb_named-full_name verbs.RDefine = refl
verb_named-full_name verbs.RAlter = refl
verb_named-full_name verbs.DefineClass = refl
verb_named-full_name verbs.AlterClass = refl
verb_named-full_name verbs.RDelete = refl
verb_named-full_name verbs.Permit = refl
verb_named-full_name verbs.SetRopts = refl

-- the kinds of profiles' names, which no operand has
abbrev pub is_profile_kind : ValueKind → Bool
is_profile_kind kinds.DataSetProfile = true
is_profile_kind kinds.ClassProfile = true
is_profile_kind kinds.AnyProfile = true
is_profile_kind k = false

-- whether each operand, from the row k on, is found by its full spelling, and is no profile's name
abbrev is_at : Option ℕ → ℕ → Bool
is_at None k = false
is_at (Some j) k = j == k

abbrev are_found : List Operand → ℕ → List Operand → Bool
are_found rows k [] = true
are_found rows k (o ∷ os) = is_at (position (is_spelling (spelling_of o.word)) rows) k && (not (is_profile_kind o.kind) && are_found rows (suc k) os)

abbrev pub AreFound : List Operand → ℕ → List Operand → Type 0
AreFound rows k [] = Unit {0}
AreFound rows k (o ∷ os) = (position (is_spelling (spelling_of o.word)) rows ≡ Some k) × (not (is_profile_kind o.kind) ≡ true) × AreFound rows (suc k) os

at-some : (o : Option ℕ) (k : ℕ) → is_at o k ≡ true → o ≡ Some k
at-some None k h = cc
at-some (Some j) k h = let same : j ≡ k = eqb-true j k h in cc

found-tested : (rows : List Operand) (k : ℕ) (os : List Operand) → are_found rows k os ≡ true → AreFound rows k os
found-tested rows k [] h = tt
found-tested rows k (o ∷ os) h =
    let behind = (and_parts (is_at (position (is_spelling (spelling_of o.word)) rows) k) (not (is_profile_kind o.kind) && are_found rows (suc k) os) h).1 in
    (at-some (position (is_spelling (spelling_of o.word)) rows) k (and_parts _ _ h).0, (and_parts (not (is_profile_kind o.kind)) (are_found rows (suc k) os) behind).0, found-tested rows (suc k) os (and_parts (not (is_profile_kind o.kind)) (are_found rows (suc k) os) behind).1)

all_found : (v : Verb) → are_found (operands_of v) 0 (operands_of v) ≡ true
all_found verbs.AddUser = refl
all_found verbs.AltUser = refl
all_found verbs.DelUser = refl
all_found verbs.AddGroup = refl
all_found verbs.AltGroup = refl
all_found verbs.DelGroup = refl
all_found verbs.Connect = refl
all_found verbs.Remove = refl
all_found verbs.AddSd = refl
all_found verbs.AltSd = refl
all_found verbs.DelSd = refl
all_found verbs.RDefine = refl
all_found verbs.RAlter = refl
all_found verbs.DefineClass = refl
all_found verbs.AlterClass = refl
all_found verbs.RDelete = refl
all_found verbs.Permit = refl
all_found verbs.SetRopts = refl

pub operands-found : (v : Verb) → AreFound (operands_of v) 0 (operands_of v)
operands-found v = found-tested (operands_of v) 0 (operands_of v) (all_found v)

-- the kinds of positional words that are written as names
abbrev pub is_name_kind : ValueKind → Bool
is_name_kind kinds.Id = true
is_name_kind kinds.Group = true
is_name_kind kinds.Flag = false
is_name_kind kinds.Authority = false
is_name_kind kinds.Name = false
is_name_kind kinds.Ids = false
is_name_kind kinds.Classes = false
is_name_kind kinds.Level = false
is_name_kind kinds.Audit = false
is_name_kind kinds.Class = true
is_name_kind kinds.DataSetProfile = false
is_name_kind kinds.ClassProfile = true
is_name_kind kinds.AnyProfile = false
is_name_kind kinds.Reset = false
is_name_kind kinds.Whos = false
is_name_kind kinds.When = false
is_name_kind kinds.AddedMembers = false
is_name_kind kinds.DroppedMembers = false
is_name_kind kinds.Generic = false
is_name_kind kinds.Failures = false
is_name_kind kinds.LogOptions = false
is_name_kind kinds.Length = false
is_name_kind kinds.Truth = false
is_name_kind kinds.ClassNames = false

-- a command's positional words are names as they are written; or the first is a data set's in quotes; or it is PERMIT's
pub data Shape (v : Verb) : Type 0 where
  Plain : begins_with_name (positions_of v) ≡ false → is_late (positions_of v) ≡ false → list_all (λ (pos : Position). is_name_kind pos.kind) (positions_of v) ≡ true → Shape v
  Quoted : positions_of v ≡ data_set_profile → Shape v
  Judged : v ≡ verbs.Permit → Shape v

pub shape : (v : Verb) → Shape v
shape verbs.AddUser = Plain refl refl refl
shape verbs.AltUser = Plain refl refl refl
shape verbs.DelUser = Plain refl refl refl
shape verbs.AddGroup = Plain refl refl refl
shape verbs.AltGroup = Plain refl refl refl
shape verbs.DelGroup = Plain refl refl refl
shape verbs.Connect = Plain refl refl refl
shape verbs.Remove = Plain refl refl refl
shape verbs.RDefine = Plain refl refl refl
shape verbs.RAlter = Plain refl refl refl
shape verbs.DefineClass = Plain refl refl refl
shape verbs.AlterClass = Plain refl refl refl
shape verbs.RDelete = Plain refl refl refl
shape verbs.SetRopts = Plain refl refl refl
shape verbs.AddSd = Quoted refl
shape verbs.AltSd = Quoted refl
shape verbs.DelSd = Quoted refl
shape verbs.Permit = Judged refl
