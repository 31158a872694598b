-- How a text is read: the command, its positional words, its operands.
use Rattle.std.specs.Prelude.{ℕ, List, [], ◌∷◌, ◌++◌, Bool, true, false, ◌&&◌, ◌||◌, not, nat_lt, nat_eq, length, map, bytes_eq, slice_set, replicate, count_by, position, find, if◌then◌else◌, is_some, is_ok, Option, None, Some, option_map, Result, Ok, Err}
use Rattle.std.specs.List.{starts_with, slice_index_or, list_any}
use Rattle.command_words.specs.declared.quoting.Quoting.TheVariants.{Ignored}
use Rattle.command_words.specs.Bytes.{upper}
use Rattle.command_words.specs.Tokens.{Token, Word, Group, Open, Close, tokens, of_command, of_naming_command}
use Rattle.command_words.specs.ValuedWords.{ValuedWord, Alone, Valued, Unclosed, Parenthesis, valued_words, opens_value}
use Rattle.command_values.specs.declared.faults.Syntax.{Syntax}
use Rattle.command_values.specs.declared.faults.Syntax.TheVariants as faults
use Rattle.command_values.specs.declared.operand_words.Word.{Word as OperandWord}
use Rattle.command_values.specs.declared.operand_words.Word.TheVariants as words
use Rattle.command_grammar.specs.declared.table.Verb.{Verb}
use Rattle.command_grammar.specs.declared.table.Verb.TheVariants as verbs
use Rattle.command_values.specs.declared.value_kinds.ValueKind.{ValueKind}
use Rattle.command_values.specs.declared.value_kinds.ValueKind.TheVariants as kinds
use Rattle.command_grammar.specs.declared.table.Position.{Position}
use Rattle.command_grammar.specs.declared.table.Operand.{Operand}
use Rattle.command_values.specs.declared.values.Content.{Content}
use Rattle.command_values.specs.declared.values.Content.TheVariants as contents
use Rattle.command_values.specs.OperandWords.{spelling_of, same_word}
use Rattle.command_grammar.specs.CommandTable.{Needed, in_class}
use Rattle.command_grammar.specs.Table.{positions_of, operands_of, excluded_of, needed_of, default_of, verb_named}
use Rattle.command_values.specs.NamedWords.{id_named}
use Rattle.command_values.specs.Results.{◌>>=◌, or_fault}
use Rattle.command_values.specs.declared.values.Context.{Context}
use Rattle.command_values.specs.declared.values.Scope.{Scope}
use Rattle.command_values.specs.declared.values.Known.{Known}
use Rattle.command_values.specs.WordsOfValues.{clean, held, unless_stray}
use Rattle.command_fields.specs.ProfileNames.{is_unclosed, any_named}
use Rattle.command_values.specs.Values.{value, one, bare}
use Rattle.generic_names.specs.Spelled.{Spelled}
use Rattle.generic_names.specs.Covers.{is_generic}

-- A word names the operand that it spells; else the only one that it is the beginning of.
abbrev pub is_spelling : List ℕ → Operand → Bool
is_spelling w o = bytes_eq w (spelling_of o.word)

abbrev pub is_beginning : List ℕ → Operand → Bool
is_beginning w o = starts_with nat_eq (spelling_of o.word) w

abbrev pub only_beginning : List Operand → ℕ → List ℕ → Result ℕ Syntax
only_beginning rows p w = if nat_lt 1 (count_by (is_beginning w) rows) then Err (faults.AmbiguousOperand p) else or_fault (position (is_beginning w) rows) (faults.UnknownOperand p)

abbrev pub first_or : Option ℕ → Result ℕ Syntax → Result ℕ Syntax
first_or None r = r
first_or (Some k) r = Ok k

-- the row that the word at place p names
abbrev pub named : List Operand → ℕ → List ℕ → Result ℕ Syntax
named rows p w = first_or (position (is_spelling w) rows) (only_beginning rows p w)

-- the row at a place of the table; past its end it stands for nothing
abbrev pub no_operand : Operand
no_operand = record { word = words.Name; kind = kinds.Flag }

abbrev pub row_at : List Operand → ℕ → Operand
row_at rows k = slice_index_or rows k no_operand

-- Where the name of a data set profile may stand, a word that begins with a quote must be closed by another.
abbrev pub takes_quotes : ValueKind → Bool
takes_quotes kinds.DataSetProfile = true
takes_quotes kinds.AnyProfile = true
takes_quotes k = false

abbrev pub bounded : ValueKind → ℕ → List ℕ → Result (List ℕ) Syntax
bounded k p w = if takes_quotes k && is_unclosed w then Err (faults.Unclosed p) else clean Ignored p w

-- The word in a positional place, which may stand in parentheses: its place, its bytes and the place of what stands
-- behind it there; and the tokens behind all. It lacks where the text ends, and where the next word names an operand
-- and a value follows.
abbrev pub placed : List Operand → Position → List Token → Result ((ℕ × List ℕ × Option ℕ) × List Token) Syntax
placed rows pos [] = Err (faults.Missing pos.word)
placed rows pos (Word p w ∷ ts) =
    if opens_value ts && is_ok (named rows p (map upper w)) then Err (faults.Missing pos.word)
    else (bounded pos.kind p w >>= λ w. Ok ((p, w, None), ts))
placed rows pos (Group tied p t ∷ ts) = held Ignored p (valued_words (tokens t)) >>= λ h. Ok (h, ts)
placed rows pos (Open tied p place ∷ ts) = Err (faults.Unclosed place)
placed rows pos (Close p ∷ ts) = Err (faults.BadValue p)

-- A positional word's value, and the tokens behind it.
abbrev pub position_at : Scope → List Operand → Position → List Token → Result (Content × List Token) Syntax
position_at at rows pos ts = placed rows pos ts >>= λ x. one at pos.kind x.0.0 x.0.1 >>= λ v. unless_stray x.0.2 v >>= λ v. Ok (v, x.1)

-- What a positional word tells of those behind it: the class, or the profile's name.
abbrev pub known_behind : Known → ValueKind → Content → Known
known_behind known kinds.Class (contents.Id class) = record { class = Some class; profile = known.profile }
known_behind known kinds.DataSetProfile (contents.Profile n) = record { class = known.class; profile = Some n }
known_behind known kinds.ClassProfile (contents.Profile n) = record { class = known.class; profile = Some n }
known_behind known k v = known

abbrev pub behind : Scope → ValueKind → Content → Scope
behind at k v = record { issuer = at.issuer; known = known_behind at.known k v }

-- all positional words, behind those of `front`; what they tell; and the tokens behind
abbrev pub positions_at : Scope → List Operand → List Position → List Content → List Token → Result (List Content × Scope × List Token) Syntax
positions_at at rows [] front ts = Ok (front, at, ts)
positions_at at rows (pos ∷ more) front ts = position_at at rows pos ts >>= λ x. positions_at (behind at pos.kind x.0) rows more (front ++ x.0 ∷ []) x.1

-- What was read of the operands: for each row of the table its value, if it was given.
abbrev pub Slots : Type 0
Slots = List (Option Content)

abbrev pub is_given : Slots → ℕ → Bool
is_given slots k = is_some (slice_index_or slots k None)

abbrev pub fresh : List Operand → Slots → ℕ → Result ℕ Syntax
fresh rows slots k = if is_given slots k then Err (faults.Repeated (row_at rows k).word) else Ok k

-- The row of the operand that the word at place p names, if it wasn't given before.
abbrev pub slot_of : List Operand → Slots → ℕ → List ℕ → Result ℕ Syntax
slot_of rows slots p w = clean Ignored p w >>= λ w. named rows p (map upper w) >>= λ k. fresh rows slots k

-- An operand: its row, and its value.
abbrev pub operand_at : Scope → List Operand → Slots → ValuedWord → Result (ℕ × Content) Syntax
operand_at at rows slots (Alone p w) = slot_of rows slots p w >>= λ k. bare at (row_at rows k).kind p >>= λ v. Ok (k, v)
operand_at at rows slots (Valued p w t) = slot_of rows slots p w >>= λ k. value at (row_at rows k).kind p (valued_words (tokens t)) >>= λ v. Ok (k, v)
operand_at at rows slots (Unclosed p w place) = slot_of rows slots p w >>= λ k. Err (faults.Unclosed place)
operand_at at rows slots (Parenthesis p) = Err (faults.UnknownOperand p)

-- The operands from the left.
abbrev pub operands_at : Scope → List Operand → Slots → List ValuedWord → Result Slots Syntax
operands_at at rows slots [] = Ok slots
operands_at at rows slots (i ∷ is) = operand_at at rows slots i >>= λ x. operands_at at rows (slice_set slots x.0 (Some x.1)) is

-- The slot of the operand with this word.
abbrev pub has_word : OperandWord → Operand → Bool
has_word w o = same_word o.word w

abbrev pub slot_at : Option ℕ → Slots → Option Content
slot_at None slots = None
slot_at (Some k) slots = slice_index_or slots k None

abbrev pub slot_for : Verb → OperandWord → Slots → Option Content
slot_for v w slots = slot_at (position (has_word w) (operands_of v)) slots

abbrev pub stands : Verb → OperandWord → Slots → Bool
stands v w slots = is_some (slot_for v w slots)

-- the slots where that one has another value
abbrev pub set_at : Option ℕ → Option Content → Slots → Slots
set_at None value slots = slots
set_at (Some k) value slots = slice_set slots k value

abbrev pub with_slot : Verb → OperandWord → Option Content → Slots → Slots
with_slot v w value slots = set_at (position (has_word w) (operands_of v)) value slots

-- the first pair of operands that stand and exclude one another
abbrev pub clash : Verb → Slots → Option (OperandWord × OperandWord)
clash v slots = find (λ (pair : OperandWord × OperandWord). stands v pair.0 slots && stands v pair.1 slots) (excluded_of v)

abbrev pub unless_clash : Option (OperandWord × OperandWord) → Slots → Result Slots Syntax
unless_clash None slots = Ok slots
unless_clash (Some both) slots = Err (faults.Excluded both.0 both.1)

-- GENERIC leaves nothing behind.
abbrev pub is_generic_kind : ValueKind → Bool
is_generic_kind kinds.Generic = true
is_generic_kind k = false

abbrev pub generic_place : List Operand → Option ℕ
generic_place rows = position (λ o. is_generic_kind o.kind) rows

abbrev pub cleared : Option ℕ → Slots → Slots
cleared None slots = slots
cleared (Some k) slots = slice_set slots k None

-- Whether the profile's name is judged when the whole text was read, by the class that an operand names: in PERMIT.
abbrev pub is_late_kind : ValueKind → Bool
is_late_kind kinds.AnyProfile = true
is_late_kind k = false

abbrev pub is_late : List Position → Bool
is_late [] = false
is_late (pos ∷ more) = is_late_kind pos.kind

-- whether PERMIT's operand with this word was given
abbrev pub permits : OperandWord → Slots → Bool
permits w slots = stands verbs.Permit w slots

-- PERMIT's class has its default where none is named, and ACCESS where ID stands without ACCESS and DELETE.
abbrev pub with_default : OperandWord → Slots → Slots
with_default w slots = with_slot verbs.Permit w (default_of verbs.Permit w) slots

abbrev pub with_class : Slots → Slots
with_class slots = if permits words.Class slots then slots else with_default words.Class slots

abbrev pub means_read : Slots → Bool
means_read slots = permits words.Id slots && not (permits words.Access slots || permits words.Delete slots)

abbrev pub with_access : Slots → Slots
with_access slots = if means_read slots then with_default words.Access slots else slots

-- the operands with the defaults that the canonical text writes
abbrev pub completed : Verb → Slots → Slots
completed v slots =
    if is_late (positions_of v) then with_access (with_class (cleared (generic_place (operands_of v)) slots))
    else cleared (generic_place (operands_of v)) slots

-- whether one of these operands stands
abbrev pub any_stands : Verb → List OperandWord → Slots → Bool
any_stands v ws slots = list_any (λ w. stands v w slots) ws

-- Operands that a command needs lack where they are asked for and none of them stands.
abbrev pub is_asked : Verb → Option (List OperandWord) → Slots → Bool
is_asked v None slots = true
is_asked v (Some ws) slots = any_stands v ws slots

abbrev pub lacks : Verb → Slots → Needed → Bool
lacks v slots row = is_asked v row.asked_by slots && not (any_stands v row.one_of slots)

-- the word that a refusal names for the first of them
abbrev pub lacking : Verb → Slots → Option OperandWord
lacking v slots = option_map (λ (row : Needed). row.missing) (find (lacks v slots) (needed_of v))

abbrev pub unless_lacking : Option OperandWord → Result Slots Syntax → Result Slots Syntax
unless_lacking None r = r
unless_lacking (Some w) r = Err (faults.Missing w)

-- What is judged when the whole text was read: the operands that lack, and then those that exclude one another.
abbrev pub closed : Verb → Slots → Result Slots Syntax
closed v slots = unless_lacking (lacking v slots) (unless_clash (clash v (completed v slots)) (completed v slots))

-- A command as the table sees it: its positional words, and a slot for each row of its operands.
pub record Generic : Type 0 where
  pub verb : Verb
  pub positions : List Content
  pub slots : Slots

abbrev pub no_slots : List Operand → Slots
no_slots rows = replicate (length rows) None

abbrev pub plain_at : Scope → Verb → List Token → Result Generic Syntax
plain_at at v ts =
    positions_at at (operands_of v) (positions_of v) [] ts >>= λ x.
    operands_at x.1 (operands_of v) (no_slots (operands_of v)) (valued_words x.2) >>= λ slots.
    closed v slots >>= λ slots.
    Ok (record { verb = v; positions = x.0; slots = slots })

-- PERMIT: the class that was named or is its default, and GENERIC's place where it was given
abbrev pub or_default : Option Content → Option Content → Option Content
or_default None value = value
or_default (Some v) value = Some v

abbrev pub class_of_slot : Option Content → Option (List ℕ)
class_of_slot (Some (contents.Id class)) = Some class
class_of_slot s = None

abbrev pub class_in : Slots → Option (List ℕ)
class_in slots = class_of_slot (or_default (slot_for verbs.Permit words.Class slots) (default_of verbs.Permit words.Class))

abbrev pub mark_of_slot : Option Content → Option ℕ
mark_of_slot (Some (contents.Generic p)) = Some p
mark_of_slot s = None

abbrev pub mark_in : Slots → Option ℕ
mark_in slots = mark_of_slot (slot_for verbs.Permit words.Generic slots)

abbrev pub unless_mark : Spelled → Option ℕ → Slots → Result Slots Syntax
unless_mark n None slots = Ok slots
unless_mark n (Some p) slots = if is_generic n then Ok slots else Err (faults.BadValue p)

abbrev pub late_position : Position
late_position = record { word = words.Profile; kind = kinds.AnyProfile }

-- the word of the profile's name, its place, and the tokens behind it
abbrev pub late_word : List Operand → List Token → Result (ℕ × List ℕ × List Token) Syntax
late_word rows ts = placed rows late_position ts >>= λ x. unless_stray x.0.2 (x.0.0, x.0.1, x.1)

abbrev pub late_name : Scope → Slots → ℕ → List ℕ → Result Spelled Syntax
late_name at slots p w = or_fault (any_named at.issuer (class_in slots) w) (faults.BadValue p)

abbrev pub late_closed : Spelled → Verb → Slots → Result Slots Syntax
late_closed n v slots = unless_mark n (mark_in slots) slots >>= λ slots. closed v slots

-- The name, then GENERIC, then the other operands are judged when the whole text was read.
abbrev pub late_at : Scope → Verb → List Token → Result Generic Syntax
late_at at v ts =
    late_word (operands_of v) ts >>= λ x.
    operands_at at (operands_of v) (no_slots (operands_of v)) (valued_words x.2) >>= λ slots.
    late_name at slots x.0 x.1 >>= λ n.
    late_closed n v slots >>= λ slots.
    Ok (record { verb = v; positions = contents.Profile n ∷ []; slots = slots })

-- The class that the first positional word names, if it names one.
abbrev pub class_of_word : Result ((ℕ × List ℕ × Option ℕ) × List Token) Syntax → Option (List ℕ)
class_of_word (Ok x) = id_named x.0.1
class_of_word (Err fault) = None

abbrev pub class_position : Position
class_position = record { word = words.Class; kind = kinds.Class }

abbrev pub class_named : List Token → Option (List ℕ)
class_named ts = class_of_word (placed [] class_position ts)

abbrev pub body_at : Scope → Verb → List Token → Result Generic Syntax
body_at at v ts = if is_late (positions_of v) then late_at at v ts else plain_at at (in_class v (class_named ts)) ts

-- whether the first positional word may be a name in quotes
abbrev pub begins_with_name : List Position → Bool
begins_with_name [] = false
begins_with_name (pos ∷ more) = takes_quotes pos.kind

abbrev pub behind_first : List Token → List Token
behind_first [] = []
behind_first (t ∷ ts) = ts

-- at the beginning of a command nothing but its issuer is known
abbrev pub begun : Context → Scope
begun at = record { issuer = at.issuer; known = record { class = None; profile = None } }

-- The first word is the command's name. The tokens of its text, and those where the second word may be in quotes.
abbrev pub command_at : Context → List Token → List Token → Result Generic Syntax
command_at at [] us = Err faults.UnknownCommand
command_at at (Word p w ∷ ts) us =
    clean Ignored p w >>= λ w. or_fault (verb_named (map upper w)) faults.UnknownCommand >>= λ v.
    body_at (begun at) v (if begins_with_name (positions_of v) then behind_first us else ts)
command_at at (Group tied p t ∷ ts) us = Err faults.UnknownCommand
command_at at (Open tied p place ∷ ts) us = Err faults.UnknownCommand
command_at at (Close p ∷ ts) us = Err faults.UnknownCommand

-- A text of more than 30,000 bytes is too long before every other fault.
unfoldable pub parsed : Context → List ℕ → Result Generic Syntax
parsed at text = if nat_lt 30000 (length text) then Err faults.TextTooLong else command_at at (tokens (of_command text)) (tokens (of_naming_command text))
