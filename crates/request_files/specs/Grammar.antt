-- What a line asks for, by its words.
use Rattle.std.specs.Prelude.{ℕ, nat_lt, nat_eq, if◌then◌else◌, List, [], ◌∷◌, length, Option, Some, None, is_none, Result, Ok, Err, option_and_then, codes, bytes_eq}
use Rattle.std.specs.List.{starts_with}
use Rattle.access_levels.specs.declared.levels.Level.{Level}
use Rattle.generic_names.specs.Spelled.{Spelled}
use Rattle.generic_names.specs.declared.fault.NameFault.{NameFault}
use Rattle.racf_profiles.specs.LawfulProfiles.{kind_in}
use Rattle.acee.specs.declared.request.VerifyRequest.{VerifyRequest}
use Rattle.decision.specs.declared.request.Request.{Request}
use Rattle.request_files.specs.declared.line.RequestLine.{RequestLine}
use Rattle.request_files.specs.declared.line.RequestLine.TheVariants as line
use Rattle.request_files.specs.declared.line.LineRefusal.{LineRefusal}
use Rattle.request_files.specs.declared.line.LineRefusal.TheVariants.{BadLine, BadName, LineTooLong}
use Rattle.request_files.specs.declared.operands.Operand.{Operand}
use Rattle.request_files.specs.declared.operands.Operand.TheVariants as operand
use Rattle.request_files.specs.declared.reading.Verified.{Verified}
use Rattle.command_words.specs.LineWords.{LineWord, UnreadLine, line_at}
use Rattle.command_values.specs.NamedWords.{id_named}
use Rattle.request_files.specs.Spellings.{folded, name_word, level_word, number_word, operand_word}

-- ---- what is asked for

-- the access that AUTH and FASTAUTH ask for
pub record Access : Type 0 where
  pub class : List ℕ
  pub name : Spelled
  pub asked : Level

-- the lines, each with the name of its ACEE
pub data Line : Type 0 where
  Verify : List ℕ → VerifyRequest → Line
  Auth : List ℕ → Access → Line
  Fastauth : List ℕ → Access → Line
  Delete : List ℕ → Line
  After : ℕ → Line
  Skip : Line

abbrev pub access_of : Request → Access
access_of request = record { class = request.class; name = request.name; asked = request.asked }

abbrev pub line_of : RequestLine → Line
line_of (line.Verify acee request) = Verify acee request
line_of (line.Auth acee request) = Auth acee (access_of request)
line_of (line.Fastauth acee request) = Fastauth acee (access_of request)
line_of (line.Delete acee) = Delete acee
line_of (line.After number) = After number
line_of line.Skip = Skip

-- ---- the words in their order; what doesn't fit is told by its place

-- `Ok x`, and then what follows from it
infixl 10 ◌>>=◌
abbrev pub ◌>>=◌ : {A B : Type 0} → Result A ℕ → (A → Result B ℕ) → Result B ℕ
(Ok x) >>= f = f x
(Err place) >>= f = Err place

abbrev pub fits : {X : Type 0} → Option X → ℕ → Result X ℕ
fits (Some x) place = Ok x
fits None place = Err place

-- What the next word says, with what is left behind it. Where no word is left, one lacks at the line's end.
abbrev pub next_of : {X : Type 0} → (List ℕ → Option X) → List LineWord → ℕ → Result (X × UnreadLine) ℕ
next_of read [] end = Err end
next_of read (word ∷ words) end = do
  said ← fits (read word.text) word.place
  Ok (said, record { words = words; end = end })

unfoldable pub next : {X : Type 0} → (List ℕ → Option X) → UnreadLine → Result (X × UnreadLine) ℕ
next read unread = next_of read unread.words unread.end

-- No word may be left.
abbrev pub ended : {X : Type 0} → List LineWord → X → Result X ℕ
ended [] said = Ok said
ended (word ∷ words) said = Err word.place

-- ---- the lines

-- DELETE: an ACEE
unfoldable pub deleted : UnreadLine → Result (List ℕ) ℕ
deleted unread = do
  acee ← next id_named unread
  ended acee.1.words acee.0

-- *AFTER: a number
unfoldable pub number_after : UnreadLine → Result ℕ ℕ
number_after unread = do
  number ← next number_word unread
  ended number.1.words number.0

-- AUTH and FASTAUTH: an ACEE, a class, the name of a resource, and a level. The name may have a fault, which is told
-- once all words fit.
pub record Asked : Type 0 where
  pub acee : List ℕ
  pub access : Result Access NameFault

abbrev pub access_to : List ℕ → Level → Result Spelled NameFault → Result Access NameFault
access_to class level (Ok name) = Ok record { class = class; name = name; asked = level }
access_to class level (Err fault) = Err fault

unfoldable pub asked_by : UnreadLine → Result Asked ℕ
asked_by unread = do
  acee ← next id_named unread
  class ← next id_named acee.1
  name ← next (name_word (kind_in class.0)) class.1
  level ← next level_word name.1
  ended level.1.words record { acee = acee.0; access = access_to class.0 level.0 name.0 }

-- VERIFY: an ACEE, a user, and operands in any order. Each stands once at most, and one port of entry at most is named.
abbrev pub user_alone : List ℕ → VerifyRequest
user_alone user = record { user = user; group = None; port = None; application = None; label = None }

abbrev pub with_operand : VerifyRequest → Operand → Option VerifyRequest
with_operand request (operand.Group group) = if is_none request.group then Some record request { group = Some group } else None
with_operand request (operand.Port port) = if is_none request.port then Some record request { port = Some port } else None
with_operand request (operand.Application name) = if is_none request.application then Some record request { application = Some name } else None
with_operand request (operand.Label label) = if is_none request.label then Some record request { label = Some label } else None

abbrev pub with_word : VerifyRequest → LineWord → Result VerifyRequest ℕ
with_word request word = fits (option_and_then (with_operand request) (operand_word word.text)) word.place

abbrev pub with_words : VerifyRequest → List LineWord → Result VerifyRequest ℕ
with_words request [] = Ok request
with_words request (word ∷ words) = with_word request word >>= λ longer. with_words longer words

unfoldable pub verified_by : UnreadLine → Result Verified ℕ
verified_by unread = do
  acee ← next id_named unread
  user ← next id_named acee.1
  request ← with_words (user_alone user.0) user.1.words
  Ok record { acee = acee.0; request = request }

-- ---- a whole line

abbrev pub made : {X : Type 0} → (X → Line) → Result X ℕ → Result Line LineRefusal
made line_for (Ok said) = Ok (line_for said)
made line_for (Err place) = Err (BadLine place)

abbrev pub named : (Access → Line) → List ℕ → Result Access NameFault → Result Line LineRefusal
named line_for acee (Ok access) = Ok (line_for access)
named line_for acee (Err fault) = Err (BadName acee fault)

abbrev pub accessed : (List ℕ → Access → Line) → Result Asked ℕ → Result Line LineRefusal
accessed line_for (Ok asked) = named (line_for asked.acee) asked.acee asked.access
accessed line_for (Err place) = Err (BadLine place)

abbrev pub verify_line : Verified → Line
verify_line verified = Verify verified.acee verified.request

-- The first word says what the line asks for; no other word fits there.
abbrev pub request_by : List ℕ → ℕ → UnreadLine → Result Line LineRefusal
request_by verb place unread =
    if bytes_eq verb (codes "VERIFY") then made verify_line (verified_by unread)
    else if bytes_eq verb (codes "AUTH") then accessed Auth (asked_by unread)
    else if bytes_eq verb (codes "FASTAUTH") then accessed Fastauth (asked_by unread)
    else if bytes_eq verb (codes "DELETE") then made Delete (deleted unread)
    else if bytes_eq verb (codes "*AFTER") then made After (number_after unread)
    else Err (BadLine place)

-- A line without a word is skipped.
abbrev pub request_of : List LineWord → ℕ → Result Line LineRefusal
request_of [] end = Ok Skip
request_of (verb ∷ words) end = request_by (folded verb.text) verb.place record { words = words; end = end }

unfoldable pub requested : UnreadLine → Result Line LineRefusal
requested unread = request_of unread.words unread.end

-- So is one that begins with `/*`. Too long is tested before all else.
abbrev pub longest_line : ℕ
longest_line = 4096

unfoldable pub read : List ℕ → Result Line LineRefusal
read bytes =
    if nat_lt longest_line (length bytes) then Err LineTooLong
    else if starts_with nat_eq bytes (codes "/*") then Ok Skip
    else requested (line_at 1 bytes)

-- what a line by itself can be refused for
abbrev pub IsOfTheLine : LineRefusal → Type 0
IsOfTheLine LineTooLong = Unit {0}
IsOfTheLine (BadLine place) = Unit {0}
IsOfTheLine (BadName acee fault) = Unit {0}
IsOfTheLine others = ⊥
