-- What the words `make N OUT` write: the generated text, and a line with the counts of what its stream answers.
use Rattle.std.specs.Prelude.{◌≡◌, ℕ, nat_le, ◌&&◌, Option, Some, None, option_and_then, List, [], ◌∷◌, ◌++◌, length, codes, if◌then◌else◌}
use Rattle.std.specs.Str.{bytes_eq}
use Rattle.std.specs.Io.KnownBytes.{append_known}
use Rattle.request_files.specs.Spellings.{number_word}
use Rattle.racf_generator.specs.MadeText.{made_lines, made_text}
use Rattle.racf_generator.specs.Tally.{tally, ended_lines, summary}
use Rattle.desk_rules.specs.Position.{first_position}
use Rattle.statements.specs.declared.status.Status.{Status}
use Rattle.statements.specs.declared.status.Status.TheVariants.{Done, WriteFault, NoMemory}
use Rattle.statements.specs.declared.issuer.Issuing.TheVariants.{Free}
use Rattle.racf_stream.specs.Script.{script_output}

-- The last line: the counts of what the stream of the text is answered on a new database.
abbrev pub summary_text : ℕ → List ℕ
summary_text users = summary (length (made_lines users)) (tally (ended_lines (script_output None Free first_position (made_text users))))

unfoldable pub make_text : ℕ → List ℕ
make_text users = made_text users ++ summary_text users

-- A front of the text was written behind what was there.
pub record WroteFront (text : List ℕ) (before now : Option (List ℕ)) : Type 0 where
  pub front : List ℕ
  pub rest : List ℕ
  pub parts : text ≡ front ++ rest
  pub wrote : now ≡ append_known before front

-- Where all went well the text was written whole; else a front of it, and the status is one of two.
abbrev pub WroteText : Status → List ℕ → Option (List ℕ) → Option (List ℕ) → Type 0
WroteText Done text before now = now ≡ append_known before text
WroteText WriteFault text before now = WroteFront text before now
WroteText NoMemory text before now = WroteFront text before now
WroteText others text before now = ⊥

-- ---- the words
-- the number of users, and the name of the output
pub record MakeWords : Type 0 where
  pub users : ℕ
  pub output : List ℕ

-- From 1 to 10,000 users are made.
abbrev pub most_users : ℕ
most_users = 10000

abbrev pub if_made : List ℕ → ℕ → Option MakeWords
if_made output users = if nat_le 1 users && nat_le users most_users then Some record { users = users; output = output } else None

abbrev pub make_words : List (List ℕ) → Option MakeWords
make_words (verb ∷ number ∷ output ∷ []) =
    if bytes_eq verb (codes "make") then option_and_then (if_made output) (number_word number) else None
make_words others = None
