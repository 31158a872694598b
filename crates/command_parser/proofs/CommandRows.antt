-- Texts of commands, and their canonical text or the first fault.
use Rattle.std.proofs.Common.{◌≡◌, ℕ, List, None, Some, Result, Ok, Err, refl}
use Rattle.std.specs.Prelude.{codes}
use Rattle.command_words.specs.Tokens.{tokens}
use Rattle.command_values.specs.declared.faults.Syntax.{Syntax}
use Rattle.command_values.specs.declared.faults.Syntax.TheVariants.{UnknownCommand, UnknownOperand, AmbiguousOperand, Missing, Repeated, Excluded, BadValue, Unclosed}
use Rattle.command_values.specs.declared.operand_words.Word.TheVariants as words
use Rattle.command_values.specs.Results.{◌>>=◌}
use Rattle.command_grammar.specs.Reading.{parsed}
use Rattle.command_values.specs.declared.values.Context.{Context}
use Rattle.command_grammar.specs.Canon.{canon, spelled}
use Rattle.command_fields.specs.declared.fields.CommandFields.{CommandFields}
use Rattle.command_fields.specs.declared.fields.CommandFields.TheVariants as command
use Rattle.command_fields.specs.ProfileNames.{form_in}
use Rattle.command_parser.specs.Canonical.{canonical}
use Rattle.command_parser.specs.Fields.{front, behind}
use Rattle.command_parser.specs.CommandOf.{command_of, command_in}

by_joe : Context
by_joe = record { issuer = codes "JOE" }

abbrev written : List ℕ → Result (List ℕ) Syntax
written text = spelled by_joe text >>= λ g. Ok (canon g)

default-group : written (codes "adduser joe dfltgrp(sys1)") ≡ Ok (codes "ADDUSER JOE DFLTGRP(SYS1)")
unfolding tokens parsed canon
default-group = refl

no-separators : written (codes "AU(JOE)OWNER(X)NAME('Y')") ≡ Ok (codes "ADDUSER JOE NAME('Y') OWNER(X)")
unfolding tokens parsed canon
no-separators = refl

name-in-quotes : written (codes "AU JOE NAME('It''s (me')") ≡ Ok (codes "ADDUSER JOE NAME('It''s (me')")
unfolding tokens parsed canon
name-in-quotes = refl

table-order : written (codes "CO U3 NOAUDITOR,REVOKE SP") ≡ Ok (codes "CONNECT U3 SPECIAL NOAUDITOR REVOKE")
unfolding tokens parsed canon
table-order = refl

list-as-given : written (codes "ALU U2 ADDCATEGORY(CATB,CATA CATB)") ≡ Ok (codes "ALTUSER U2 ADDCATEGORY(CATB CATA CATB)")
unfolding tokens parsed canon
list-as-given = refl

no-command : written (codes "LISTCAT") ≡ Err UnknownCommand
unfolding tokens parsed canon
no-command = refl

user-lacks : written (codes "AU OWNER (X") ≡ Err (Missing words.User)
unfolding tokens parsed canon
user-lacks = refl

no-operand : written (codes "AU JOE OWNER (X) (Y)") ≡ Err (UnknownOperand 18)
unfolding tokens parsed canon
no-operand = refl

several-operands : written (codes "ALU JOE SEC(") ≡ Err (AmbiguousOperand 9)
unfolding tokens parsed canon
several-operands = refl

repeated-at-once : written (codes "ALU JOE REVOKE REV FOO") ≡ Err (Repeated words.Revoke)
unfolding tokens parsed canon
repeated-at-once = refl

excluded-last : written (codes "ALU JOE NOSPECIAL SPECIAL FOO(X)") ≡ Err (UnknownOperand 27)
unfolding tokens parsed canon
excluded-last = refl

excluded-in-order : written (codes "ALU JOE NOSECLABEL RESUME REVOKE SECLABEL(A)") ≡ Err (Excluded words.Revoke words.Resume)
unfolding tokens parsed canon
excluded-in-order = refl

second-word : written (codes "AU JOE OWNER(A B)") ≡ Err (BadValue 16)
unfolding tokens parsed canon
second-word = refl

word-with-value : written (codes "AU JOE OWNER(A(B))") ≡ Err (BadValue 14)
unfolding tokens parsed canon
word-with-value = refl

value-lacks : written (codes "AU JOE OWNER,(A)") ≡ Err (BadValue 8)
unfolding tokens parsed canon
value-lacks = refl

group-name : written (codes "AG 9G") ≡ Err (BadValue 4)
unfolding tokens parsed canon
group-name = refl

open-quote : written (codes "ALU JOE NAME('x'')") ≡ Err (Unclosed 14)
unfolding tokens parsed canon
open-quote = refl

open-parenthesis : written (codes "ALU JOE NAME('x'") ≡ Err (Unclosed 13)
unfolding tokens parsed canon
open-parenthesis = refl

-- OWNER and SUPGROUP fill the fields of their names, and are written in the order of the table
altered : List ℕ → List ℕ → CommandFields
altered superior owner = command.AltGroup (record { group = codes "G"; supgroup = Some superior; owner = Some owner })

superior-then-owner : command_in (codes "JOE") (codes "ALG G SUPGROUP(A) OWNER(B)") ≡ Some (altered (codes "A") (codes "B"))
unfolding tokens parsed canon command_of front behind altered
superior-then-owner = refl

owner-then-superior : command_in (codes "JOE") (codes "ALG G OWNER(B) SUPGROUP(A)") ≡ Some (altered (codes "A") (codes "B"))
unfolding tokens parsed canon command_of front behind altered
owner-then-superior = refl

owner-is-owner : command_in (codes "JOE") (codes "ALG G OWNER(A)") ≡ Some (command.AltGroup (record { group = codes "G"; supgroup = None; owner = Some (codes "A") }))
unfolding tokens parsed canon command_of front behind
owner-is-owner = refl

superior-written-first : canonical (altered (codes "A") (codes "B")) ≡ codes "ALTGROUP G SUPGROUP(A) OWNER(B)"
unfolding canonical altered
superior-written-first = refl

-- RDEFINE and RALTER have operands of their own in class CDT, and there alone.
class-defined : written (codes "rdef cdt appx m(7) op(yes)") ≡ Ok (codes "RDEFINE CDT APPX MAXLENGTH(7) OPERATIONS(YES)")
unfolding tokens parsed canon form_in
class-defined = refl

class-in-parentheses : written (codes "RDEFINE (CDT) (A) NAMES(ID) OW(SYS1)") ≡ Ok (codes "RDEFINE CDT A OWNER(SYS1) NAMES(ID)")
unfolding tokens parsed canon form_in
class-in-parentheses = refl

class-altered : written (codes "RALT CDT A O(X)") ≡ Ok (codes "RALTER CDT A OWNER(X)")
unfolding tokens parsed canon form_in
class-altered = refl

class-operand-elsewhere : written (codes "RDEF FACILITY A MAXLENGTH(7)") ≡ Err (UnknownOperand 17)
unfolding tokens parsed canon form_in
class-operand-elsewhere = refl

no-class-operand : written (codes "RDEF CDT 9A UACC(READ)") ≡ Err (UnknownOperand 13)
unfolding tokens parsed canon form_in
no-class-operand = refl

several-class-operands : written (codes "RDEF CDT D O(SYS1)") ≡ Err (AmbiguousOperand 12)
unfolding tokens parsed canon form_in
several-class-operands = refl

zero-in-front : written (codes "RDEF CDT C MAXLENGTH(05)") ≡ Err (BadValue 22)
unfolding tokens parsed canon form_in
zero-in-front = refl

no-length : written (codes "RDEF CDT C MAXLENGTH(247)") ≡ Err (BadValue 22)
unfolding tokens parsed canon form_in
no-length = refl

no-class-name : written (codes "RDEL CDT A.B") ≡ Err (BadValue 10)
unfolding tokens parsed canon form_in
no-class-name = refl

profile-lacks : written (codes "RDEF CDT MAXLENGTH(7)") ≡ Err (Missing words.Profile)
unfolding tokens parsed canon form_in
profile-lacks = refl
