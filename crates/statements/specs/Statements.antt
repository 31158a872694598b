-- What the lines of a stream are, by how they begin.
use Rattle.std.specs.Prelude.{ℕ, Bool, ◌||◌, List, map, codes, nat_eq, if◌then◌else◌}
use Rattle.std.specs.List.{starts_with, list_all}
use Rattle.std.specs.Str.{bytes_eq}
use Rattle.command_words.specs.Bytes.{is_blank_byte, upper}
use Rattle.command_words.specs.FrontWords as words
use Rattle.command_words.specs.declared.front_words.Parting.TheVariants.{Line}
use Rattle.statements.specs.declared.statement.Kind.{Kind}
use Rattle.statements.specs.declared.statement.Kind.TheVariants.{Stream, Deck}
use Rattle.statements.specs.declared.statement.Statement.{Statement}
use Rattle.statements.specs.declared.statement.Statement.TheVariants.{Issuer, Request}

-- A line of blanks and tabs alone, and a comment, whose first two bytes are `/*`, are skipped.
abbrev pub is_skipped : List ℕ → Bool
is_skipped text = list_all is_blank_byte text || starts_with nat_eq text (codes "/*")

-- The first word of a line, in upper case. Here blanks and tabs alone part words.
abbrev pub first_word : List ℕ → List ℕ
first_word text = map upper (words.first_word Line text)

-- The lines of requests, and of the issuer, are known by their first word.
unfoldable pub is_request : List ℕ → Bool
is_request text = let word = first_word text in
    bytes_eq word (codes "VERIFY") || bytes_eq word (codes "AUTH") || bytes_eq word (codes "FASTAUTH")
    || bytes_eq word (codes "DELETE") || bytes_eq word (codes "*AFTER") || bytes_eq word (codes "*ISSUER")

abbrev pub is_issuer : List ℕ → Bool
is_issuer text = bytes_eq (first_word text) (codes "*ISSUER")

-- The lines that never go on in the next line: in a stream those of requests and of the issuer; in a deck, where every
-- other line begins a command, those of the issuer alone.
abbrev pub stands_alone : Kind → List ℕ → Bool
stands_alone Stream text = is_request text
stands_alone Deck text = is_issuer text

-- A line of the issuer names him. Each other one of them asks for an answer.
unfoldable pub request_of : List ℕ → Statement
request_of text = if is_issuer text then Issuer text else Request text
