-- What the code reads, as what its words say.
use Rattle.std.specs.Prelude.{ℕ, Result, Ok, Err}
use Rattle.std.specs.Result.{result_map_both}
use Rattle.generic_names.specs.Spelled.{Spelled}
use Rattle.generic_names.specs.Faults.{resource_of}
use Rattle.generic_names.specs.declared.fault.NameFault.{NameFault}
use Rattle.command_words.specs.LineWords.{UnreadLine}
use Rattle.decision.specs.declared.request.Request.{Request}
use Rattle.request_files.specs.declared.asked.Asked as code
use Rattle.request_files.specs.declared.asked.ResourceWord.{ResourceWord}
use Rattle.request_files.specs.declared.line.RequestLine.{RequestLine}
use Rattle.request_files.specs.declared.line.LineRefusal.{LineRefusal}
use Rattle.request_files.specs.declared.line.LineRefusal.TheVariants.{BadLine, BadName}
use Rattle.request_files.specs.declared.said.SaidLine.{SaidLine}
use Rattle.request_files.specs.declared.said.SaidLine.TheVariants as said
use Rattle.request_files.specs.Spellings.{folded}
use Rattle.request_files.specs.Grammar.{Access, Asked, Line, Auth, Fastauth, Delete, After, Skip, access_of, access_to, accessed, line_of, verify_line}

-- the name that a word spells
abbrev pub spelled : ResourceWord → Result Spelled NameFault
spelled word = resource_of word.kind (folded word.text.now)

-- such a word that was taken, with what is left behind it
abbrev pub name_seen : Result (ResourceWord × UnreadLine) ℕ → Result (Result Spelled NameFault × UnreadLine) ℕ
name_seen taken = result_map_both (λ t. (spelled t.0, t.1)) (λ place. place) taken

abbrev pub words_seen : code.Asked → Asked
words_seen asked = record { acee = asked.acee; access = access_to asked.class asked.level (spelled asked.name) }

abbrev pub asked_seen : Result code.Asked ℕ → Result Asked ℕ
asked_seen asked = result_map_both words_seen (λ place. place) asked

-- the access that words ask for, once the name in them is read: a fault of it is told with the name of the ACEE
abbrev pub named_access : code.Asked → Result Access LineRefusal
named_access asked = result_map_both (λ access. access) (BadName asked.acee) (words_seen asked).access

abbrev pub request_seen : Result Request LineRefusal → Result Access LineRefusal
request_seen request = result_map_both access_of (λ refusal. refusal) request

-- what the words of a line say, as what it asks for
abbrev pub said_line : SaidLine → Result Line LineRefusal
said_line (said.Verify verified) = Ok (verify_line verified)
said_line (said.Auth asked) = accessed Auth (Ok (words_seen asked))
said_line (said.Fastauth asked) = accessed Fastauth (Ok (words_seen asked))
said_line (said.Delete acee) = Ok (Delete acee)
said_line (said.After number) = Ok (After number)
said_line said.Skip = Ok Skip

abbrev pub line_said : Result SaidLine ℕ → Result Line LineRefusal
line_said (Ok words) = said_line words
line_said (Err place) = Err (BadLine place)

-- a line that was read
abbrev pub line_read : Result RequestLine LineRefusal → Result Line LineRefusal
line_read line = result_map_both line_of (λ refusal. refusal) line
