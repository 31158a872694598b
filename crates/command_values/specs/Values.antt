-- The values of positional words and operands: what is read, and how a value is written.
use Rattle.std.specs.Prelude.{ℕ, List, [], ◌∷◌, ◌++◌, Bool, true, false, ◌==◌, map, find, codes, bytes_eq, if◌then◌else◌, Option, None, Some, Result, Ok, Err}
use Rattle.access_levels.specs.Level.{authority_name, level_name}
use Rattle.generic_names.specs.Spelled.{Spelled}
use Rattle.generic_names.specs.Covers.{is_generic}
use Rattle.command_words.specs.declared.quoting.Quoting.{Quoting}
use Rattle.command_words.specs.declared.quoting.Quoting.TheVariants.{Ignored, Outside}
use Rattle.command_words.specs.Bytes.{upper}
use Rattle.command_words.specs.Quotes.{doubled}
use Rattle.command_words.specs.Tokens.{tokens}
use Rattle.command_words.specs.ValuedWords.{ValuedWord, Alone, Valued, Unclosed, Parenthesis, valued_words}
use Rattle.command_values.specs.declared.faults.Syntax.{Syntax}
use Rattle.command_values.specs.declared.faults.Syntax.TheVariants as faults
use Rattle.command_values.specs.declared.value_kinds.ValueKind.{ValueKind}
use Rattle.command_values.specs.declared.value_kinds.ValueKind.TheVariants as kinds
use Rattle.command_values.specs.declared.values.Content.{Content}
use Rattle.command_values.specs.declared.values.Content.TheVariants as contents
use Rattle.command_fields.specs.declared.resets.Reset.{Reset}
use Rattle.command_fields.specs.declared.resets.Reset.TheVariants as resets
use Rattle.command_values.specs.declared.values.Scope.{Scope}
use Rattle.command_values.specs.Results.{◌>>=◌, or_fault}
use Rattle.command_values.specs.NamedWords.{id_named, group_named, level_named, authority_named}
use Rattle.command_values.specs.WordsOfValues.{clean, refused_at, word_of, stray, held, unless_stray}
use Rattle.command_fields.specs.ProfileNames.{dataset_named, class_profile, profile_text}
use Rattle.command_fields.specs.UserNames.{is_name}
use Rattle.command_fields.specs.Resets.{reset_name}
use Rattle.command_fields.specs.declared.class_fields.ClassNames.{ClassNames}
use Rattle.command_fields.specs.declared.class_fields.ClassNames.TheVariants as class_names
use Rattle.command_fields.specs.Classes.{class_names_name, is_longest}
use Rattle.command_values.specs.Audits.{audit_rule, audit_text}
use Rattle.command_values.specs.Members.{added, dropped, number_of, number_text, member_text}
use Rattle.command_fields.specs.MemberForms.{member_form}
use Rattle.command_values.specs.Entries.{whos_text, port, port_text}
use Rattle.command_fields.specs.declared.log_clauses.LogClause.{LogClause}
use Rattle.command_values.specs.LogOptions.{log_option_name, log_option_of, unless_given, put_clause}
use Rattle.racf_profiles.specs.declared.class_rows.LogOption.{LogOption}
use Rattle.access_levels.specs.declared.entries.Who.{Who}
use Rattle.access_levels.specs.declared.entries.Who.TheVariants.{Star, Named}

-- The text between quotes, of which `front` was read, where the word ends with its closing quote. A quote written twice
-- stands for one.
abbrev pub unquoted : Bool → List ℕ → List ℕ → Option (List ℕ)
unquoted met front [] = if met then Some front else None
unquoted false front (b ∷ bs) = if b == 39 then unquoted true front bs else unquoted false (front ++ b ∷ []) bs
unquoted true front (b ∷ bs) = if b == 39 then unquoted false (front ++ 39 ∷ []) bs else None

abbrev pub if_name : Option (List ℕ) → Option (List ℕ)
if_name None = None
if_name (Some t) = if is_name t then Some t else None

abbrev pub name_text : List ℕ → Option (List ℕ)
name_text [] = None
name_text (b ∷ bs) = if b == 39 then if_name (unquoted false [] bs) else None

-- the name of a class in which a user may define profiles: any but DATASET
abbrev pub unless_dataset : Option (List ℕ) → Option (List ℕ)
unless_dataset None = None
unless_dataset (Some w) = if bytes_eq w (codes "DATASET") then None else Some w

-- the name that a word spells where a name of this kind stands
abbrev pub name_of : ValueKind → List ℕ → Option (List ℕ)
name_of kinds.Id w = id_named w
name_of kinds.Ids w = id_named w
name_of kinds.Group w = group_named w
name_of kinds.Classes w = unless_dataset (id_named w)
name_of kinds.Class w = id_named w
name_of k w = None

-- Which access lists RESET empties.
abbrev pub all_resets : List Reset
all_resets = resets.All ∷ resets.Standard ∷ resets.When ∷ []

abbrev pub reset_of : List ℕ → Option Reset
reset_of w = find (λ r. bytes_eq w (reset_name r)) all_resets

-- PROTECTALL and MLS hold FAILURES, the only word that fits.
abbrev pub failures_of : List ℕ → Option Content
failures_of w = if bytes_eq w (codes "FAILURES") then Some contents.Failures else None

-- MAXLENGTH holds a number that a length can be, without a zero in front.
abbrev pub if_longest : Option ℕ → Option ℕ
if_longest None = None
if_longest (Some n) = if is_longest n then Some n else None

-- OPERATIONS of a class holds YES or NO.
abbrev pub truth_name : Bool → List ℕ
truth_name true = codes "YES"
truth_name false = codes "NO"

abbrev pub truth_of : List ℕ → Option Bool
truth_of w = find (λ b. bytes_eq w (truth_name b)) (true ∷ false ∷ [])

-- NAMES holds FULL or ID.
abbrev pub class_names_of : List ℕ → Option ClassNames
class_names_of w = find (λ n. bytes_eq w (class_names_name n)) (class_names.Full ∷ class_names.Id ∷ [])

-- the value that the word at place p is
abbrev pub one : Scope → ValueKind → ℕ → List ℕ → Result Content Syntax
one at kinds.Id p w = or_fault (name_of kinds.Id w) (faults.BadValue p) >>= λ x. Ok (contents.Id x)
one at kinds.Group p w = or_fault (name_of kinds.Group w) (faults.BadValue p) >>= λ x. Ok (contents.Id x)
one at kinds.Class p w = or_fault (name_of kinds.Class w) (faults.BadValue p) >>= λ x. Ok (contents.Id x)
one at kinds.Authority p w = or_fault (authority_named w) (faults.BadValue p) >>= λ a. Ok (contents.Authority a)
one at kinds.Name p w = or_fault (name_text w) (faults.BadValue p) >>= λ t. Ok (contents.Name t)
one at kinds.Level p w = or_fault (level_named w) (faults.BadValue p) >>= λ l. Ok (contents.Level l)
one at kinds.DataSetProfile p w = or_fault (dataset_named at.issuer w) (faults.BadValue p) >>= λ n. Ok (contents.Profile n)
one at kinds.ClassProfile p w = or_fault (class_profile at.known.class (map upper w)) (faults.BadValue p) >>= λ n. Ok (contents.Profile n)
one at kinds.Reset p w = or_fault (reset_of (map upper w)) (faults.BadValue p) >>= λ r. Ok (contents.Reset r)
one at kinds.Failures p w = or_fault (failures_of (map upper w)) (faults.BadValue p)
one at kinds.Length p w = or_fault (if_longest (number_of w)) (faults.BadValue p) >>= λ n. Ok (contents.Length n)
one at kinds.Truth p w = or_fault (truth_of (map upper w)) (faults.BadValue p) >>= λ b. Ok (contents.Truth b)
one at kinds.ClassNames p w = or_fault (class_names_of (map upper w)) (faults.BadValue p) >>= λ n. Ok (contents.ClassNames n)
one at k p w = Err (faults.BadValue p)

-- In the quotes of a user's name any byte may stand, and the name as a whole is judged.
abbrev pub quotes_of : ValueKind → Quoting
quotes_of kinds.Name = Outside
quotes_of k = Ignored

-- a value of one word; where there is none it is refused at place p
abbrev pub single : Scope → ValueKind → ℕ → List ValuedWord → Result Content Syntax
single at k p is = held (quotes_of k) p is >>= λ h. one at k h.0 h.1 >>= λ v. unless_stray h.2 v

-- the names of a list, behind those of `front`
abbrev pub names : ValueKind → List (List ℕ) → List ValuedWord → Result (List (List ℕ)) Syntax
names k front [] = Ok front
names k front (i ∷ is) = word_of Ignored i >>= λ w. or_fault (name_of k w.1) (faults.BadValue w.0) >>= λ x. names k (front ++ x ∷ []) is

-- a list of one name or more
abbrev pub some_names : ValueKind → ℕ → List ValuedWord → Result (List (List ℕ)) Syntax
some_names k p [] = Err (faults.BadValue p)
some_names k p (i ∷ is) = names k [] (i ∷ is)

abbrev pub several : ValueKind → ℕ → List ValuedWord → Result Content Syntax
several k p is = some_names k p is >>= λ xs. Ok (contents.Ids xs)

-- Users and groups; `*` stands alone.
abbrev pub star_or : Bool → ValuedWord → List ValuedWord → Result (List Who) Syntax
star_or true i is = unless_stray (stray Ignored is) (Star ∷ [])
star_or false i is = names kinds.Ids [] (i ∷ is) >>= λ xs. Ok (map Named xs)

abbrev pub whos : ℕ → List ValuedWord → Result (List Who) Syntax
whos p [] = Err (faults.BadValue p)
whos p (i ∷ is) = word_of Ignored i >>= λ w. star_or (bytes_eq w.1 (codes "*")) i is

-- LOGOPTIONS: the word at place p, where it wasn't given before
abbrev pub log_option_at : List LogClause → ℕ → List ℕ → Result LogOption Syntax
log_option_at clauses p w = clean Ignored p w >>= λ w. or_fault (unless_given clauses (log_option_of (map upper w))) (faults.BadValue p)

-- a word with one class or more in its parentheses, behind those of `clauses`
abbrev pub clause_at : List LogClause → ValuedWord → Result LogClause Syntax
clause_at clauses (Valued p w t) = log_option_at clauses p w >>= λ option. some_names kinds.Ids p (valued_words (tokens t)) >>= λ xs. Ok (record { option = option; classes = xs })
clause_at clauses (Alone p w) = Err (faults.BadValue (refused_at Ignored (Alone p w)))
clause_at clauses (Unclosed p w place) = Err (faults.BadValue (refused_at Ignored (Unclosed p w place)))
clause_at clauses (Parenthesis p) = Err (faults.BadValue p)

abbrev pub clauses_from : List LogClause → List ValuedWord → Result (List LogClause) Syntax
clauses_from clauses [] = Ok clauses
clauses_from clauses (i ∷ is) = clause_at clauses i >>= λ clause. clauses_from (put_clause clause clauses) is

-- one of them or more
abbrev pub log_clauses : ℕ → List ValuedWord → Result (List LogClause) Syntax
log_clauses p [] = Err (faults.BadValue p)
log_clauses p (i ∷ is) = clauses_from [] (i ∷ is)

-- The value that stands in the parentheses behind an operand at place p.
abbrev pub value : Scope → ValueKind → ℕ → List ValuedWord → Result Content Syntax
value at kinds.Ids p is = several kinds.Ids p is
value at kinds.Classes p is = several kinds.Classes p is
value at kinds.Id p is = single at kinds.Id p is
value at kinds.Group p is = single at kinds.Group p is
value at kinds.Class p is = single at kinds.Class p is
value at kinds.Authority p is = single at kinds.Authority p is
value at kinds.Name p is = single at kinds.Name p is
value at kinds.Level p is = single at kinds.Level p is
value at kinds.Reset p is = single at kinds.Reset p is
value at kinds.Audit p is = audit_rule p is >>= λ rule. Ok (contents.Audit rule)
value at kinds.Whos p is = whos p is >>= λ ws. Ok (contents.Whos ws)
value at kinds.When p is = port p is >>= λ c. Ok (contents.When c)
value at kinds.AddedMembers p is = added (member_form at.known.class at.known.profile) p is >>= λ ms. Ok (contents.Members ms)
value at kinds.DroppedMembers p is = dropped (member_form at.known.class at.known.profile) p is >>= λ ns. Ok (contents.MemberNames ns)
value at kinds.Failures p is = single at kinds.Failures p is
value at kinds.LogOptions p is = log_clauses p is >>= λ cs. Ok (contents.LogOptions cs)
value at kinds.Length p is = single at kinds.Length p is
value at kinds.Truth p is = single at kinds.Truth p is
value at kinds.ClassNames p is = single at kinds.ClassNames p is
value at k p is = Err (faults.BadValue p)

-- GENERIC stands with a generic name alone; where the name isn't known yet it is judged later, at its place.
abbrev pub generic_at : Option Spelled → ℕ → Result Content Syntax
generic_at None p = Ok (contents.Generic p)
generic_at (Some n) p = if is_generic n then Ok (contents.Generic p) else Err (faults.BadValue p)

-- An operand alone stands for itself where it takes no value, RESET for RESET(ALL), PROTECTALL and MLS for theirs with
-- FAILURES; else its value lacks.
abbrev pub bare : Scope → ValueKind → ℕ → Result Content Syntax
bare at kinds.Flag p = Ok contents.Flag
bare at kinds.Reset p = Ok (contents.Reset resets.All)
bare at kinds.Generic p = generic_at at.known.profile p
bare at kinds.Failures p = Ok contents.Failures
bare at k p = Err (faults.BadValue p)

-- names parted by one blank: the first, and those behind it
abbrev pub more_text : List (List ℕ) → List ℕ
more_text [] = []
more_text (x ∷ xs) = 32 ∷ (x ++ more_text xs)

abbrev pub ids_text : List (List ℕ) → List ℕ
ids_text [] = []
ids_text (x ∷ xs) = x ++ more_text xs

-- a word of LOGOPTIONS with its classes
abbrev pub clause_text : LogClause → List ℕ
clause_text clause = log_option_name clause.option ++ (40 ∷ (ids_text clause.classes ++ 41 ∷ []))

-- how a value is written
abbrev pub text_of : Content → List ℕ
text_of contents.Flag = []
text_of (contents.Id w) = w
text_of (contents.Authority a) = authority_name a
text_of (contents.Name t) = 39 ∷ (doubled t ++ 39 ∷ [])
text_of (contents.Ids xs) = ids_text xs
text_of (contents.Level l) = level_name l
text_of (contents.Audit rule) = audit_text rule
text_of (contents.Profile n) = profile_text n
text_of (contents.Reset r) = reset_name r
text_of (contents.Whos ws) = whos_text ws
text_of (contents.When c) = port_text c
text_of (contents.Members ms) = ids_text (map member_text ms)
text_of (contents.MemberNames ns) = ids_text (map profile_text ns)
text_of (contents.Generic p) = []
text_of contents.Failures = codes "FAILURES"
text_of (contents.LogOptions cs) = ids_text (map clause_text cs)
text_of (contents.Length n) = number_text n
text_of (contents.Truth b) = truth_name b
text_of (contents.ClassNames n) = class_names_name n
