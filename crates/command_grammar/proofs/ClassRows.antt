-- RDEFINE and RALTER, told by the class that stands behind them.
use Rattle.std.proofs.Common.{◌≡◌, ℕ, List, [], ◌∷◌, ◌++◌, map, Bool, true, false, cond, ◌&&◌, Option, None, Some, Result, Ok, Err, refl, sym, ap, subst, ◌∙◌, append_assoc}
use Rattle.std.specs.Prelude.{is_ok, bytes_eq, find}
use Rattle.std.specs.List.{list_all}
use Rattle.std.proofs.lemmas.Bool.{and_parts}
use Rattle.std.proofs.lemmas.List.{append-nil}
use Rattle.command_fields.specs.Classes.{cdt}
use Rattle.command_words.specs.Bytes.{upper}
use Rattle.command_words.specs.Tokens.{Token, Word, Group, Open, Close}
use Rattle.command_words.specs.ValuedWords.{opens_value}
use Rattle.command_values.specs.declared.faults.Syntax.{Syntax}
use Rattle.command_values.specs.declared.faults.Syntax.TheVariants as faults
use Rattle.command_values.specs.declared.value_kinds.ValueKind.TheVariants as kinds
use Rattle.command_values.specs.declared.operand_words.Word.TheVariants as words
use Rattle.command_grammar.specs.declared.table.Verb.{Verb}
use Rattle.command_grammar.specs.declared.table.Verb.TheVariants as verbs
use Rattle.command_grammar.specs.declared.table.Position.{Position}
use Rattle.command_grammar.specs.declared.table.Operand.{Operand}
use Rattle.command_values.specs.declared.values.Content.{Content}
use Rattle.command_values.specs.declared.values.Content.TheVariants as contents
use Rattle.command_values.specs.declared.values.Scope.{Scope}
use Rattle.command_values.specs.NamedWords.{id_named}
use Rattle.command_values.specs.Results.{◌>>=◌, or_fault}
use Rattle.command_values.specs.WordsOfValues.{unless_stray}
use Rattle.command_values.specs.Values.{name_of, one}
use Rattle.command_grammar.specs.CommandTable.{commands, in_class, named_as, is_a, class_and_profile, data_set_profile}
use Rattle.command_grammar.specs.Table.{positions_of, operands_of, is_called, verb_named}
use Rattle.command_grammar.specs.Reading.{named, bounded, placed, position_at, behind, positions_at, is_late, class_of_word, class_position, class_named}
use Rattle.command_grammar.specs.Lawful.{class_in_front}
use Rattle.command_values.proofs.Names.{if-err}
use Rattle.command_values.proofs.Outcomes.{bind-ok, first-ok, or_fault-ok, triple-ok, unless_stray-ok}

-- a word that is placed among some operands is placed where there are none
placed-any : (rows : List Operand) (pos : Position) (ts : List Token) (y : (ℕ × List ℕ × Option ℕ) × List Token) → placed rows pos ts ≡ Ok y → placed [] pos ts ≡ Ok y
placed-any rows pos [] y h = cc
placed-any rows pos (Word p w ∷ ts) y h =
    let word : Result ((ℕ × List ℕ × Option ℕ) × List Token) Syntax = bounded pos.kind p w >>= λ w. Ok ((p, w, None), ts) in
    no-operand (opens_value ts) word (if-err (opens_value ts && is_ok (named rows p (map upper w))) (faults.Missing pos.word) word y h).1
  where
    no-operand : (c : Bool) (word : Result ((ℕ × List ℕ × Option ℕ) × List Token) Syntax) → word ≡ Ok y → cond (c && false) (Err (faults.Missing pos.word)) word ≡ Ok y
    no-operand true word h = h
    no-operand false word h = h
placed-any rows pos (Group tied p t ∷ ts) y h = h
placed-any rows pos (Open tied p place ∷ ts) y h = h
placed-any rows pos (Close p ∷ ts) y h = h

positions-front : (at : Scope) (rows : List Operand) (ps : List Position) (front : List Content) (ts : List Token) (all : List Content) (last : Scope) (rest : List Token) → positions_at at rows ps front ts ≡ Ok (all, last, rest)
    → (vs : List Content) × (all ≡ front ++ vs)
positions-front at rows [] front ts all last rest h = ([], sym (triple-ok front all at last ts rest h) ∙ sym (append-nil front))
positions-front at rows (pos ∷ ps) front ts all last rest h =
    let read = bind-ok (position_at at rows pos ts) (λ x. positions_at (behind at pos.kind x.0) rows ps (front ++ x.0 ∷ []) x.1) (all, last, rest) h in
    let more = positions-front (behind at pos.kind read.0.0) rows ps (front ++ read.0.0 ∷ []) read.0.1 all last rest read.2 in
    (read.0.0 ∷ more.0, more.1 ∙ append_assoc front (read.0.0 ∷ []) more.0)

-- Where a class and a profile are read, the class is the one that was named.
pub class-said : (at : Scope) (rows : List Operand) (ts : List Token) (all : List Content) (last : Scope) (rest : List Token) → positions_at at rows class_and_profile [] ts ≡ Ok (all, last, rest) → class_named ts ≡ class_in_front all
class-said at rows ts all last rest h =
    let profile : List Position = is_a words.Profile kinds.ClassProfile ∷ [] in
    let read = bind-ok (position_at at rows class_position ts) (λ x. positions_at (behind at kinds.Class x.0) rows profile ([] ++ x.0 ∷ []) x.1) (all, last, rest) h in
    let word = bind-ok (placed rows class_position ts) (λ x. one at kinds.Class x.0.0 x.0.1 >>= λ v. unless_stray x.0.2 v >>= λ v. Ok (v, x.1)) (read.0.0, read.0.1) read.1 in
    let value = bind-ok (one at kinds.Class word.0.0.0 word.0.0.1) (λ v. unless_stray word.0.0.2 v >>= λ v. Ok (v, word.0.1)) (read.0.0, read.0.1) word.2 in
    let end = bind-ok (unless_stray word.0.0.2 value.0) (λ v. Ok (v, word.0.1)) (read.0.0, read.0.1) value.2 in
    let same : value.0 ≡ read.0.0 = unless_stray-ok word.0.0.2 value.0 end.0 end.1 ∙ first-ok end.0 read.0.0 word.0.1 read.0.1 end.2 in
    let class = bind-ok (or_fault (name_of kinds.Class word.0.0.1) (faults.BadValue word.0.0.0)) (λ x. Ok (contents.Id x)) value.0 value.1 in
    let made : contents.Id class.0 ≡ value.0 = cc in
    let spelled : id_named word.0.0.1 ≡ Some class.0 = or_fault-ok (name_of kinds.Class word.0.0.1) (faults.BadValue word.0.0.0) class.0 class.1 in
    let behind_it = positions-front (behind at kinds.Class read.0.0) rows profile (read.0.0 ∷ []) read.0.1 all last rest read.2 in
    ap class_of_word (placed-any rows class_position ts word.0 word.1) ∙ spelled
    ∙ ap (λ v. class_in_front (v ∷ behind_it.0)) (made ∙ same) ∙ ap class_in_front (sym behind_it.1)

-- whether a word names the command, and not its class as well
abbrev pub is_listed : Verb → Bool
is_listed verbs.DefineClass = false
is_listed verbs.AlterClass = false
is_listed v = true

find-holds : (p q : Verb → Bool) (vs : List Verb) (v : Verb) → list_all q vs ≡ true → find p vs ≡ Some v → q v ≡ true
find-holds p q [] v all h = cc
find-holds p q (x ∷ xs) v all h = held (p x) h (find-holds p q xs v (and_parts (q x) (list_all q xs) all).1)
  where
    held : (c : Bool) → cond c (Some x) (find p xs) ≡ Some v → (find p xs ≡ Some v → q v ≡ true) → q v ≡ true
    held true h more = let same : x ≡ v = cc in subst (λ (u : Verb). q u ≡ true) same (and_parts (q x) (list_all q xs) all).0
    held false h more = more h

pub named-listed : (w : List ℕ) (v : Verb) → verb_named w ≡ Some v → is_listed v ≡ true
named-listed w v h = find-holds (is_called w) is_listed commands v refl h

-- a command's own row has the positional words of the command that is named so
pub named-positions : (v : Verb) → positions_of (named_as v) ≡ positions_of v
named-positions verbs.AddUser = refl
named-positions verbs.AltUser = refl
named-positions verbs.DelUser = refl
named-positions verbs.AddGroup = refl
named-positions verbs.AltGroup = refl
named-positions verbs.DelGroup = refl
named-positions verbs.Connect = refl
named-positions verbs.Remove = refl
named-positions verbs.AddSd = refl
named-positions verbs.AltSd = refl
named-positions verbs.DelSd = refl
named-positions verbs.RDefine = refl
named-positions verbs.DefineClass = refl
named-positions verbs.RAlter = refl
named-positions verbs.AlterClass = refl
named-positions verbs.RDelete = refl
named-positions verbs.Permit = refl
named-positions verbs.SetRopts = refl

-- a command on data sets has no other row
pub own-name : (v : Verb) → positions_of v ≡ data_set_profile → named_as v ≡ v
own-name verbs.AddUser h = refl
own-name verbs.AltUser h = refl
own-name verbs.DelUser h = refl
own-name verbs.AddGroup h = refl
own-name verbs.AltGroup h = refl
own-name verbs.DelGroup h = refl
own-name verbs.Connect h = refl
own-name verbs.Remove h = refl
own-name verbs.AddSd h = refl
own-name verbs.AltSd h = refl
own-name verbs.DelSd h = refl
own-name verbs.RDefine h = refl
own-name verbs.DefineClass h = cc
own-name verbs.RAlter h = refl
own-name verbs.AlterClass h = cc
own-name verbs.RDelete h = refl
own-name verbs.Permit h = refl
own-name verbs.SetRopts h = refl

pub own-row : (v : Verb) (class : Option (List ℕ)) → positions_of v ≡ data_set_profile → in_class v class ≡ v
own-row verbs.AddUser class h = refl
own-row verbs.AltUser class h = refl
own-row verbs.DelUser class h = refl
own-row verbs.AddGroup class h = refl
own-row verbs.AltGroup class h = refl
own-row verbs.DelGroup class h = refl
own-row verbs.Connect class h = refl
own-row verbs.Remove class h = refl
own-row verbs.AddSd class h = refl
own-row verbs.AltSd class h = refl
own-row verbs.DelSd class h = refl
own-row verbs.RDefine class h = cc
own-row verbs.DefineClass class h = refl
own-row verbs.RAlter class h = cc
own-row verbs.AlterClass class h = refl
own-row verbs.RDelete class h = refl
own-row verbs.Permit class h = refl
own-row verbs.SetRopts class h = refl

-- The row is the one that the class behind the name tells.
pub row-again : (at : Scope) (v : Verb) (ts : List Token) (vs : List Content) (last : Scope) (rest : List Token) → in_class (named_as v) (class_in_front vs) ≡ v
    → positions_at at (operands_of v) (positions_of v) [] ts ≡ Ok (vs, last, rest) → in_class (named_as v) (class_named ts) ≡ v
row-again at verbs.AddUser ts vs last rest chosen h = refl
row-again at verbs.AltUser ts vs last rest chosen h = refl
row-again at verbs.DelUser ts vs last rest chosen h = refl
row-again at verbs.AddGroup ts vs last rest chosen h = refl
row-again at verbs.AltGroup ts vs last rest chosen h = refl
row-again at verbs.DelGroup ts vs last rest chosen h = refl
row-again at verbs.Connect ts vs last rest chosen h = refl
row-again at verbs.Remove ts vs last rest chosen h = refl
row-again at verbs.AddSd ts vs last rest chosen h = refl
row-again at verbs.AltSd ts vs last rest chosen h = refl
row-again at verbs.DelSd ts vs last rest chosen h = refl
row-again at verbs.RDefine ts vs last rest chosen h = ap (in_class verbs.RDefine) (class-said at (operands_of verbs.RDefine) ts vs last rest h) ∙ chosen
row-again at verbs.DefineClass ts vs last rest chosen h = ap (in_class verbs.RDefine) (class-said at (operands_of verbs.DefineClass) ts vs last rest h) ∙ chosen
row-again at verbs.RAlter ts vs last rest chosen h = ap (in_class verbs.RAlter) (class-said at (operands_of verbs.RAlter) ts vs last rest h) ∙ chosen
row-again at verbs.AlterClass ts vs last rest chosen h = ap (in_class verbs.RAlter) (class-said at (operands_of verbs.AlterClass) ts vs last rest h) ∙ chosen
row-again at verbs.RDelete ts vs last rest chosen h = refl
row-again at verbs.Permit ts vs last rest chosen h = refl
row-again at verbs.SetRopts ts vs last rest chosen h = refl

-- What holds of both rows that have a command's name: in which class it counts, they are one.
pub record IsSplit (v : Verb) : Type 0 where
  pub early : (class : Option (List ℕ)) → is_late (positions_of (in_class v class)) ≡ false
  pub rows : (class : Option (List ℕ)) → positions_of (in_class v class) ≡ class_and_profile
  pub name : (class : Option (List ℕ)) → named_as (in_class v class) ≡ v

-- what holds of either of two rows holds of the one that is picked
either : (P : Verb → Type 0) (one other : Verb) (c : Bool) → P one → P other → P (cond c one other)
either P one other true h k = h
either P one other false h k = k

defines : (P : Verb → Type 0) → P verbs.RDefine → P verbs.DefineClass → (class : Option (List ℕ)) → P (in_class verbs.RDefine class)
defines P plain own None = plain
defines P plain own (Some class) = either P verbs.DefineClass verbs.RDefine (bytes_eq class cdt) own plain

alters : (P : Verb → Type 0) → P verbs.RAlter → P verbs.AlterClass → (class : Option (List ℕ)) → P (in_class verbs.RAlter class)
alters P plain own None = plain
alters P plain own (Some class) = either P verbs.AlterClass verbs.RAlter (bytes_eq class cdt) own plain

pub define-split : IsSplit verbs.RDefine
define-split = record {
  early = defines (λ v. is_late (positions_of v) ≡ false) refl refl;
  rows = defines (λ v. positions_of v ≡ class_and_profile) refl refl;
  name = defines (λ v. named_as v ≡ verbs.RDefine) refl refl;
}

pub alter-split : IsSplit verbs.RAlter
alter-split = record {
  early = alters (λ v. is_late (positions_of v) ≡ false) refl refl;
  rows = alters (λ v. positions_of v ≡ class_and_profile) refl refl;
  name = alters (λ v. named_as v ≡ verbs.RAlter) refl refl;
}

-- the row that the class tells, by the class that was read
pub split-chosen : (at : Scope) (v : Verb) → IsSplit v → (ts : List Token) (all : List Content) (last : Scope) (rest : List Token)
    → positions_at at (operands_of (in_class v (class_named ts))) (positions_of (in_class v (class_named ts))) [] ts ≡ Ok (all, last, rest)
    → in_class (named_as (in_class v (class_named ts))) (class_in_front all) ≡ in_class v (class_named ts)
split-chosen at v split ts all last rest h =
    let row : Verb = in_class v (class_named ts) in
    let read : positions_at at (operands_of row) class_and_profile [] ts ≡ Ok (all, last, rest) = subst (λ (ps : List Position). positions_at at (operands_of row) ps [] ts ≡ Ok (all, last, rest)) (split.rows (class_named ts)) h in
    ap (λ u. in_class u (class_in_front all)) (split.name (class_named ts)) ∙ ap (in_class v) (sym (class-said at (operands_of row) ts all last rest read))
