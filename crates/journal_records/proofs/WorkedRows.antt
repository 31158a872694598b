-- Records, worked out: those of stored journals, and bytes with each fault.
use Rattle.std.proofs.Common.{◌≡◌, ℕ, false, List, [], ◌∷◌, ◌++◌, None, Some, Ok, refl}
use Rattle.std.specs.Prelude.{codes}
use Rattle.command_words.specs.Tokens.{tokens}
use Rattle.command_grammar.specs.Reading.{parsed}
use Rattle.command_grammar.specs.Canon.{canon}
use Rattle.command_fields.specs.declared.issuer.Issuer.{Issuer}
use Rattle.command_fields.specs.declared.fields.CommandFields.{CommandFields}
use Rattle.command_fields.specs.declared.fields.CommandFields.TheVariants as commands
use Rattle.command_parser.specs.Canonical.{canonical}
use Rattle.command_parser.specs.Fields.{front, behind}
use Rattle.command_parser.specs.CommandOf.{command_of}
use Rattle.journal_records.specs.declared.record.CommandRecord.{CommandRecord}
use Rattle.journal_records.specs.declared.record.RecordFault.TheVariants.{Short, BadLength, BadIssuer, BadGroup, BadText}
use Rattle.journal_records.specs.Spelling.{spelled}
use Rattle.journal_records.specs.Reading.{record_of, record_fault}

abbrev ibmuser : Issuer
ibmuser = record { id = codes "IBMUSER"; group = codes "SYS1"; group_spelled = refl }

abbrev add_joe : CommandFields
add_joe = commands.AddUser (record { user = codes "JOE"; name = None; dfltgrp = None; owner = None; authority = None; special = false; nospecial = false; operations = false; nooperations = false; auditor = false; noauditor = false; restricted = false; norestricted = false; clauth = []; seclevel = None; addcategory = []; seclabel = None })

abbrev connect_u1 : CommandFields
connect_u1 = commands.Connect (record { user = codes "U1"; group = Some (codes "G3"); authority = None; special = false; nospecial = false; operations = false; nooperations = false; auditor = false; noauditor = false; revoke = false; resume = false })

abbrev by_ibmuser : CommandFields → CommandRecord
by_ibmuser command = record { issuer = ibmuser; command = command }

-- A length below 256, and what stands behind it.
abbrev of_length : (length : ℕ) → List ℕ → List ℕ
of_length length content = 0 ∷ 0 ∷ 0 ∷ length ∷ content

-- ---- records

add-user-written : spelled (by_ibmuser add_joe) ≡ of_length 27 (codes "IBMUSER SYS1    ADDUSER JOE")
unfolding spelled canonical
add-user-written = refl

add-user-read : record_of (of_length 27 (codes "IBMUSER SYS1    ADDUSER JOE")) ≡ Ok (by_ibmuser add_joe)
unfolding record_of tokens parsed canon command_of front behind canonical
add-user-read = refl

-- from a journal that another program wrote
connect-written : spelled (by_ibmuser connect_u1) ≡ of_length 36 (codes "IBMUSER SYS1    CONNECT U1 GROUP(G3)")
unfolding spelled canonical
connect-written = refl

connect-read : record_of (of_length 36 (codes "IBMUSER SYS1    CONNECT U1 GROUP(G3)")) ≡ Ok (by_ibmuser connect_u1)
unfolding record_of tokens parsed canon command_of front behind canonical
connect-read = refl

-- ---- faults, each once, and each before those behind it

short : record_fault (0 ∷ 0 ∷ 27 ∷ []) ≡ Some Short
unfolding record_of
short = refl

length-of-the-whole : record_fault (of_length 31 (codes "IBMUSER SYS1    ADDUSER JOE")) ≡ Some BadLength
unfolding record_of
length-of-the-whole = refl

no-text : record_fault (of_length 16 (codes "ibmuser sys1    ")) ≡ Some BadLength
unfolding record_of
no-text = refl

lowest-first : record_fault (27 ∷ 0 ∷ 0 ∷ 0 ∷ codes "IBMUSER SYS1    ADDUSER JOE") ≡ Some BadLength
unfolding record_of
lowest-first = refl

issuer-folded : record_fault (of_length 22 (codes "ibmuser sys1    AU JOE")) ≡ Some BadIssuer
unfolding record_of
issuer-folded = refl

blank-in-issuer : record_fault (of_length 27 (codes "IBM USERSYS1    ADDUSER JOE")) ≡ Some BadIssuer
unfolding record_of
blank-in-issuer = refl

issuer-zero-filled : record_fault (of_length 27 (codes "IBMUSER" ++ 0 ∷ codes "SYS1    ADDUSER JOE")) ≡ Some BadIssuer
unfolding record_of
issuer-zero-filled = refl

group-with-digit : record_fault (of_length 22 (codes "IBMUSER 1SYS    AU JOE")) ≡ Some BadGroup
unfolding record_of
group-with-digit = refl

group-behind-blank : record_fault (of_length 27 (codes "IBMUSER  SYS1   ADDUSER JOE")) ≡ Some BadGroup
unfolding record_of
group-behind-blank = refl

short-name : record_fault (of_length 22 (codes "IBMUSER SYS1    AU JOE")) ≡ Some BadText
unfolding record_of tokens parsed canon command_of front behind canonical
short-name = refl

no-command : record_fault (of_length 23 (codes "IBMUSER SYS1    LISTCAT")) ≡ Some BadText
unfolding record_of tokens parsed canon command_of front behind canonical
no-command = refl
