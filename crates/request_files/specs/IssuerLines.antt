-- The line that names the issuer: `*ISSUER id [GROUP(g)]`. It is read as the lines of requests are.
use Rattle.std.specs.Prelude.{ℕ, nat_lt, List, [], ◌∷◌, length, Option, Some, None, Result, Ok, Err, option_and_then, if◌then◌else◌}
use Rattle.std.specs.Result.{result_map_both}
use Rattle.command_words.specs.LineWords.{LineWord, UnreadLine, line_at}
use Rattle.command_values.specs.NamedWords.{id_named}
use Rattle.request_files.specs.declared.operands.Operand.{Operand}
use Rattle.request_files.specs.declared.operands.Operand.TheVariants as operand
use Rattle.request_files.specs.declared.issuer_line.NamedIssuer.{NamedIssuer}
use Rattle.request_files.specs.declared.line.LineRefusal.{LineRefusal}
use Rattle.request_files.specs.declared.line.LineRefusal.TheVariants.{BadLine, LineTooLong}
use Rattle.request_files.specs.Spellings.{operand_word}
use Rattle.request_files.specs.Grammar.{◌>>=◌, fits, next, ended, longest_line}

-- GROUP(g) is one word.
abbrev pub group_in : Operand → Option (List ℕ)
group_in (operand.Group group) = Some group
group_in (operand.Port port) = None
group_in (operand.Application name) = None
group_in (operand.Label label) = None

abbrev pub group_word : List ℕ → Option (List ℕ)
group_word text = option_and_then group_in (operand_word text)

-- The issuer alone, or with the group that is to be current for him. No other word may stand behind.
abbrev pub with_group : List ℕ → List LineWord → Result NamedIssuer ℕ
with_group id [] = Ok record { id = id; group = None }
with_group id (word ∷ words) = do
  group ← fits (group_word word.text) word.place
  ended words record { id = id; group = Some group }

unfoldable pub issuer_by : UnreadLine → Result NamedIssuer ℕ
issuer_by unread = do
  id ← next id_named unread
  with_group id.0 id.1.words

-- The first word is `*ISSUER`: the line is known by it.
abbrev pub issuer_behind : List LineWord → ℕ → Result NamedIssuer ℕ
issuer_behind [] end = Err end
issuer_behind (verb ∷ words) end = issuer_by record { words = words; end = end }

-- Too long is tested before all else.
unfoldable pub issuer_of_line : List ℕ → Result NamedIssuer LineRefusal
issuer_of_line bytes =
    if nat_lt longest_line (length bytes) then Err LineTooLong
    else let unread = line_at 1 bytes in result_map_both (λ issuer. issuer) BadLine (issuer_behind unread.words unread.end)
