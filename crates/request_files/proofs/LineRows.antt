-- Worked rows: what lines ask for, and the places of what doesn't fit.
use Rattle.std.proofs.Common.{◌≡◌, refl, codes, Ok, Err, Some, None}
use Rattle.access_levels.specs.declared.levels.Level.TheVariants.{Read as ReadLevel, Update}
use Rattle.access_levels.specs.declared.entries.PortClass.TheVariants.{Terminal}
use Rattle.generic_names.specs.declared.kind.NameKind.TheVariants.{DataSet, General}
use Rattle.generic_names.specs.declared.fault.NameFault.TheVariants.{EmptyQualifier}
use Rattle.request_files.specs.declared.line.LineRefusal.TheVariants.{BadLine, BadName}
use Rattle.command_words.specs.LineWords.{words_at}
use Rattle.request_files.specs.Grammar.{Verify, Auth, Fastauth, Delete, After, Skip, next, deleted, number_after, asked_by, verified_by, requested, read}

-- lines that ask for nothing

blank : read (codes " \t ") ≡ Ok Skip
unfolding words_at next deleted number_after asked_by verified_by requested read
blank = refl

empty : read (codes "") ≡ Ok Skip
unfolding words_at next deleted number_after asked_by verified_by requested read
empty = refl

comment : read (codes "/* AUTH") ≡ Ok Skip
unfolding words_at next deleted number_after asked_by verified_by requested read
comment = refl

late_comment : read (codes " /* x") ≡ Err (BadLine 2)
unfolding words_at next deleted number_after asked_by verified_by requested read
late_comment = refl

-- DELETE and *AFTER

delete : read (codes "delete a") ≡ Ok (Delete (codes "A"))
unfolding words_at next deleted number_after asked_by verified_by requested read
delete = refl

delete_nothing : read (codes "DELETE  ") ≡ Err (BadLine 9)
unfolding words_at next deleted number_after asked_by verified_by requested read
delete_nothing = refl

delete_two : read (codes "DELETE A B") ≡ Err (BadLine 10)
unfolding words_at next deleted number_after asked_by verified_by requested read
delete_two = refl

after : read (codes "*AFTER 3") ≡ Ok (After 3)
unfolding words_at next deleted number_after asked_by verified_by requested read
after = refl

after_word : read (codes "*AFTER 03") ≡ Err (BadLine 8)
unfolding words_at next deleted number_after asked_by verified_by requested read
after_word = refl

after_nothing : read (codes "*AFTER") ≡ Err (BadLine 7)
unfolding words_at next deleted number_after asked_by verified_by requested read
after_nothing = refl

-- AUTH and FASTAUTH

auth : read (codes "AUTH A dataset sys1.x Read") ≡ Ok (Auth (codes "A") record { class = codes "DATASET"; name = record { kind = DataSet; text = codes "SYS1.X" }; asked = ReadLevel })
unfolding words_at next deleted number_after asked_by verified_by requested read
auth = refl

fastauth : read (codes "FASTAUTH A FACILITY 1.X UPDATE") ≡ Ok (Fastauth (codes "A") record { class = codes "FACILITY"; name = record { kind = General; text = codes "1.X" }; asked = Update })
unfolding words_at next deleted number_after asked_by verified_by requested read
fastauth = refl

execute : read (codes "AUTH A DATASET SYS1.A EXECUTE") ≡ Err (BadLine 23)
unfolding words_at next deleted number_after asked_by verified_by requested read
execute = refl

no_level : read (codes "AUTH A DATASET SYS1.A") ≡ Err (BadLine 22)
unfolding words_at next deleted number_after asked_by verified_by requested read
no_level = refl

class_word : read (codes "AUTH A DATASET.X SYS1.A READ") ≡ Err (BadLine 8)
unfolding words_at next deleted number_after asked_by verified_by requested read
class_word = refl

word_too_many : read (codes "AUTH A DATASET SYS1.A READ X") ≡ Err (BadLine 28)
unfolding words_at next deleted number_after asked_by verified_by requested read
word_too_many = refl

bad_name : read (codes "AUTH A DATASET A..B READ") ≡ Err (BadName (codes "A") (EmptyQualifier 2))
unfolding words_at next deleted number_after asked_by verified_by requested read
bad_name = refl

bad_line_first : read (codes "AUTH A DATASET A..B READ X") ≡ Err (BadLine 26)
unfolding words_at next deleted number_after asked_by verified_by requested read
bad_line_first = refl

-- VERIFY

verify : read (codes "VERIFY A IBMUSER") ≡ Ok (Verify (codes "A") record { user = codes "IBMUSER"; group = None; port = None; application = None; label = None })
unfolding words_at next deleted number_after asked_by verified_by requested read
verify = refl

operands : read (codes "VERIFY A JOE TERMINAL(T1) GROUP(G1) SECLABEL(L) APPL(X)") ≡ Ok (Verify (codes "A") record { user = codes "JOE"; group = Some (codes "G1"); port = Some record { class = Terminal; name = codes "T1" }; application = Some (codes "X"); label = Some (codes "L") })
unfolding words_at next deleted number_after asked_by verified_by requested read
operands = refl

second_port : read (codes "VERIFY A JOE TERMINAL(T1) CONSOLE(C)") ≡ Err (BadLine 27)
unfolding words_at next deleted number_after asked_by verified_by requested read
second_port = refl

operand_twice : read (codes "VERIFY A JOE APPL(X) APPL(X)") ≡ Err (BadLine 22)
unfolding words_at next deleted number_after asked_by verified_by requested read
operand_twice = refl

group_digit : read (codes "VERIFY A JOE GROUP(9X)") ≡ Err (BadLine 14)
unfolding words_at next deleted number_after asked_by verified_by requested read
group_digit = refl

no_user : read (codes "VERIFY A ") ≡ Err (BadLine 10)
unfolding words_at next deleted number_after asked_by verified_by requested read
no_user = refl

-- no other first word

other : read (codes "  LIST A") ≡ Err (BadLine 3)
unfolding words_at next deleted number_after asked_by verified_by requested read
other = refl

comma : read (codes "VERIFY,A JOE") ≡ Err (BadLine 1)
unfolding words_at next deleted number_after asked_by verified_by requested read
comma = refl
