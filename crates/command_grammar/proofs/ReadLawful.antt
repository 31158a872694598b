-- What is read is lawful.
use Rattle.std.proofs.Common.{◌≡◌, ℕ, List, [], ◌∷◌, ◌++◌, length, map, Bool, true, false, cond, Option, None, Some, Result, Ok, Err, refl, sym, ap, subst, ◌∙◌, append_assoc}
use Rattle.std.specs.Prelude.{nat_lt, if◌then◌else◌}
use Rattle.std.proofs.lemmas.List.{append-nil}
use Rattle.generic_names.specs.Spelled.{Spelled}
use Rattle.generic_names.specs.Covers.{is_generic}
use Rattle.racf_profiles.specs.declared.fixed_classes.NameForm.{NameForm}
use Rattle.racf_profiles.specs.declared.fixed_classes.NameForm.TheVariants as name_forms
use Rattle.command_values.specs.declared.operand_words.Word.{Word as OperandWord}
use Rattle.command_words.specs.declared.quoting.Quoting.TheVariants.{Ignored}
use Rattle.command_words.specs.Bytes.{upper}
use Rattle.command_words.specs.Tokens.{Token, Word, Group, Open, Close, tokens, of_command, of_naming_command}
use Rattle.command_words.specs.ValuedWords.{valued_words}
use Rattle.command_values.specs.declared.faults.Syntax.{Syntax}
use Rattle.command_values.specs.declared.faults.Syntax.TheVariants as faults
use Rattle.command_grammar.specs.declared.table.Verb.{Verb}
use Rattle.command_grammar.specs.declared.table.Verb.TheVariants as verbs
use Rattle.command_grammar.specs.declared.table.Position.{Position}
use Rattle.command_grammar.specs.declared.table.Operand.{Operand}
use Rattle.command_values.specs.declared.values.Content.{Content}
use Rattle.command_values.specs.declared.values.Content.TheVariants as contents
use Rattle.command_values.specs.declared.values.Context.{Context}
use Rattle.command_values.specs.declared.values.Scope.{Scope}
use Rattle.command_values.specs.declared.values.Known.{Known}
use Rattle.command_values.specs.Results.{◌>>=◌, or_fault}
use Rattle.command_grammar.specs.CommandTable.{in_class, named_as}
use Rattle.command_grammar.proofs.ClassRows.{is_listed, named-listed, IsSplit, define-split, alter-split, split-chosen}
use Rattle.command_grammar.specs.Table.{positions_of, operands_of, verb_named}
use Rattle.command_values.specs.WordsOfValues.{clean, unless_stray}
use Rattle.command_fields.specs.ProfileNames.{profile_in, form_in, named_by_form, any_named, any_profile}
use Rattle.command_values.specs.Values.{one}
use Rattle.command_grammar.specs.Reading.{Generic, Slots, placed, position_at, behind, positions_at, operands_at, clash, unless_clash, is_late, completed, lacking, unless_lacking, closed, no_slots, plain_at, class_in, mark_in, unless_mark, late_word, late_name, late_closed, late_at, class_named, body_at, begins_with_name, behind_first, begun, command_at, parsed}
use Rattle.command_grammar.specs.Lawful.{FitsPositions, FitsAll, SuitsPositions, known_last, SuitsAll, class_known, first_known, class_in_front, IsLawful}
use Rattle.command_values.proofs.Names.{if-err}
use Rattle.command_grammar.proofs.SuitsNone.{suits-none}
use Rattle.command_values.proofs.Patterns.{general-named}
use Rattle.command_values.proofs.Outcomes.{bind-ok, first-ok, or_fault-ok, triple-ok, triple-second, unless_stray-ok}
use Rattle.command_values.proofs.ValueLawful.{FitsHere, along-here, dataset-fits, one-fits}
use Rattle.command_grammar.proofs.OperandsLawful.{HoldsAll, HoldsAll-none, operands-hold}
use Rattle.command_grammar.proofs.CompletedLawful.{completed-fits, settled-slots}

-- positional words
position-fits : (at : Scope) (rows : List Operand) (pos : Position) (ts : List Token) (v : Content) (rest : List Token) → position_at at rows pos ts ≡ Ok (v, rest) → FitsHere at.known pos.kind v
position-fits at rows pos ts v rest h =
    let word = bind-ok (placed rows pos ts) (λ x. one at pos.kind x.0.0 x.0.1 >>= λ v. unless_stray x.0.2 v >>= λ v. Ok (v, x.1)) (v, rest) h in
    let read = bind-ok (one at pos.kind word.0.0.0 word.0.0.1) (λ v. unless_stray word.0.0.2 v >>= λ v. Ok (v, word.0.1)) (v, rest) word.2 in
    let end = bind-ok (unless_stray word.0.0.2 read.0) (λ v. Ok (v, word.0.1)) (v, rest) read.2 in
    let same : read.0 ≡ v = unless_stray-ok word.0.0.2 read.0 end.0 end.1 ∙ first-ok end.0 v word.0.1 rest end.2 in
    along-here at.known pos.kind read.0 v same (one-fits at pos.kind word.0.0.0 word.0.0.1 read.0 read.1)

-- the values behind those that were there
positions-fit : (at : Scope) (rows : List Operand) (ps : List Position) (front : List Content) (ts : List Token) (all : List Content) (last : Scope) (rest : List Token) → positions_at at rows ps front ts ≡ Ok (all, last, rest)
    → (vs : List Content) × (all ≡ front ++ vs) × FitsPositions ps vs × SuitsPositions at.known ps vs × (last.known ≡ known_last at.known ps vs)
positions-fit at rows [] front ts all last rest h = ([], sym (triple-ok front all at last ts rest h) ∙ sym (append-nil front), tt, tt, ap (λ (x : Scope). x.known) (sym (triple-second front all at last ts rest h)))
positions-fit at rows (pos ∷ ps) front ts all last rest h =
    let read = bind-ok (position_at at rows pos ts) (λ x. positions_at (behind at pos.kind x.0) rows ps (front ++ x.0 ∷ []) x.1) (all, last, rest) h in
    let more = positions-fit (behind at pos.kind read.0.0) rows ps (front ++ read.0.0 ∷ []) read.0.1 all last rest read.2 in
    let fits = position-fits at rows pos ts read.0.0 read.0.1 read.1 in
    (read.0.0 ∷ more.0, more.1 ∙ append_assoc front (read.0.0 ∷ []) more.0, (fits.0, more.2), (fits.1, more.3), more.4)

unless_clash-ok : (c : Option (OperandWord × OperandWord)) (slots ss : Slots) → unless_clash c slots ≡ Ok ss → (c ≡ None) × (slots ≡ ss)
unless_clash-ok None slots ss h = (refl, cc)
unless_clash-ok (Some both) slots ss h = cc

unless_lacking-ok : (lack : Option OperandWord) (r : Result Slots Syntax) (ss : Slots) → unless_lacking lack r ≡ Ok ss → (lack ≡ None) × (r ≡ Ok ss)
unless_lacking-ok None r ss h = (refl, h)
unless_lacking-ok (Some w) r ss h = cc

closed-ok : (v : Verb) (slots ss : Slots) → closed v slots ≡ Ok ss → (lacking v slots ≡ None) × (clash v ss ≡ None) × (completed v slots ≡ ss)
closed-ok v slots ss h =
    let complete = unless_lacking-ok (lacking v slots) (unless_clash (clash v (completed v slots)) (completed v slots)) ss h in
    let apart = unless_clash-ok (clash v (completed v slots)) (completed v slots) ss complete.1 in
    (complete.0, subst (λ (xs : Slots). clash v xs ≡ None) apart.1 apart.0, apart.1)

-- what holds of the slots when they were closed
record AreClosed (known : Known) (v : Verb) (slots ss : Slots) : Type 0 where
  suits : SuitsAll known (operands_of v) ss
  operands : FitsAll (operands_of v) ss
  class : first_known v ss ≡ first_known v slots
  lacks : lacking v ss ≡ None
  whole : completed v ss ≡ ss
  alone : clash v ss ≡ None

closed-slots : (known : Known) (v : Verb) (slots ss : Slots) → HoldsAll known (operands_of v) slots → closed v slots ≡ Ok ss → AreClosed known v slots ss
closed-slots known v slots ss holds h =
    let ok = closed-ok v slots ss h in
    let settled = settled-slots known v slots holds in
    let both = completed-fits known v slots holds in
    record {
      operands = subst (λ (xs : Slots). FitsAll (operands_of v) xs) ok.2 both.0;
      suits = subst (λ (xs : Slots). SuitsAll known (operands_of v) xs) ok.2 both.1;
      class = ap (first_known v) (sym ok.2) ∙ settled.class;
      lacks = ap (lacking v) (sym ok.2) ∙ settled.lacks ∙ ok.0;
      whole = ap (completed v) (sym ok.2) ∙ settled.again ∙ ok.2;
      alone = ok.1;
    }

plain-lawful : (at : Context) (v : Verb) (ts : List Token) (g : Generic) → is_late (positions_of v) ≡ false
    → ((all : List Content) (last : Scope) (rest : List Token) → positions_at (begun at) (operands_of v) (positions_of v) [] ts ≡ Ok (all, last, rest) → in_class (named_as v) (class_in_front all) ≡ v)
    → plain_at (begun at) v ts ≡ Ok g → IsLawful g
plain-lawful at v ts g early chosen h =
    let words = bind-ok (positions_at (begun at) (operands_of v) (positions_of v) [] ts) (λ x. operands_at x.1 (operands_of v) (no_slots (operands_of v)) (valued_words x.2) >>= λ slots. closed v slots >>= λ slots. Ok (record { verb = v; positions = x.0; slots = slots })) g h in
    let filled = bind-ok (operands_at words.0.1 (operands_of v) (no_slots (operands_of v)) (valued_words words.0.2)) (λ slots. closed v slots >>= λ slots. Ok (record { verb = v; positions = words.0.0; slots = slots })) g words.2 in
    let end = bind-ok (closed v filled.0) (λ slots. Ok (record { verb = v; positions = words.0.0; slots = slots })) g filled.2 in
    let closed_so = closed-slots words.0.1.known v filled.0 end.0 (operands-hold words.0.1 (operands_of v) (no_slots (operands_of v)) (valued_words words.0.2) filled.0 filled.1 (HoldsAll-none words.0.1.known (operands_of v))) end.1 in
    let found = positions-fit (begun at) (operands_of v) (positions_of v) [] ts words.0.0 words.0.1 words.0.2 words.1 in
    let positions : FitsPositions (positions_of v) words.0.0 = subst (λ (vs : List Content). FitsPositions (positions_of v) vs) (sym found.1) found.2 in
    let suited : SuitsPositions (class_known None) (positions_of v) words.0.0 = subst (λ (vs : List Content). SuitsPositions (class_known None) (positions_of v) vs) (sym found.1) found.3 in
    let nothing : first_known v end.0 ≡ class_known None = closed_so.class ∙ ap (λ c. class_known (if c then class_in filled.0 else None)) early in
    let suited_here : SuitsPositions (first_known v end.0) (positions_of v) words.0.0 = subst (λ (k : Known). SuitsPositions k (positions_of v) words.0.0) (sym nothing) suited in
    let last : words.0.1.known ≡ known_last (first_known v end.0) (positions_of v) words.0.0 =
    found.4 ∙ ap (known_last (class_known None) (positions_of v)) (sym found.1) ∙ ap (λ k. known_last k (positions_of v) words.0.0) (sym nothing) in
    let suited_slots : SuitsAll (known_last (first_known v end.0) (positions_of v) words.0.0) (operands_of v) end.0 = subst (λ (k : Known). SuitsAll k (operands_of v) end.0) last closed_so.suits in
    let made_here : Generic = record { verb = v; positions = words.0.0; slots = end.0 } in
    let same : made_here ≡ g = cc in
    subst (λ (x : Generic). IsLawful x) same (record { chosen = chosen words.0.0 words.0.1 words.0.2 words.1; fits_positions = positions; fits_operands = closed_so.operands; suits_positions = suited_here; suits_operands = suited_slots; needed = closed_so.lacks; complete = closed_so.whole; apart = closed_so.alone })

-- PERMIT's name is judged by the class that its operand names
form-fits : (issuer : List ℕ) (form : NameForm) (w : List ℕ) (n : Spelled) → named_by_form issuer form w ≡ Some n → profile_in form n.text ≡ Some n
form-fits issuer name_forms.DataSet w n h = dataset-fits issuer w n h
form-fits issuer name_forms.General w n h = ap (profile_in name_forms.General) (general-named name_forms.General (map upper w) n h).text ∙ h
form-fits issuer name_forms.Identifier w n h = ap (profile_in name_forms.Identifier) (general-named name_forms.Identifier (map upper w) n h).text ∙ h
form-fits issuer name_forms.LevelOrCategory w n h = ap (profile_in name_forms.LevelOrCategory) (general-named name_forms.LevelOrCategory (map upper w) n h).text ∙ h
form-fits issuer name_forms.Class w n h = ap (profile_in name_forms.Class) (general-named name_forms.Class (map upper w) n h).text ∙ h

any-fits : (issuer : List ℕ) (class : Option (List ℕ)) (w : List ℕ) (n : Spelled) → any_named issuer class w ≡ Some n → any_profile class n.text ≡ Some n
any-fits issuer None w n h = cc
any-fits issuer (Some c) w n h = form-fits issuer (form_in c) w n h

unless_mark-ok : (n : Spelled) (m : Option ℕ) (slots ss : Slots) → unless_mark n m slots ≡ Ok ss → slots ≡ ss
unless_mark-ok n None slots ss h = cc
unless_mark-ok n (Some p) slots ss h = mark-tested (is_generic n) h
  where
    mark-tested : (c : Bool) → cond c (Ok slots) (Err (faults.BadValue p)) ≡ Ok ss → slots ≡ ss
    mark-tested true h = cc
    mark-tested false h = cc

late-lawful : (at : Context) (ts : List Token) (g : Generic) → late_at (begun at) verbs.Permit ts ≡ Ok g → IsLawful g
late-lawful at ts g h =
    let rows : List Operand = operands_of verbs.Permit in
    let word = bind-ok (late_word rows ts) (λ x. operands_at (begun at) rows (no_slots rows) (valued_words x.2) >>= λ slots. late_name (begun at) slots x.0 x.1 >>= λ n. late_closed n verbs.Permit slots >>= λ slots. Ok (record { verb = verbs.Permit; positions = contents.Profile n ∷ []; slots = slots })) g h in
    let filled = bind-ok (operands_at (begun at) rows (no_slots rows) (valued_words word.0.2)) (λ slots. late_name (begun at) slots word.0.0 word.0.1 >>= λ n. late_closed n verbs.Permit slots >>= λ slots. Ok (record { verb = verbs.Permit; positions = contents.Profile n ∷ []; slots = slots })) g word.2 in
    let name = bind-ok (late_name (begun at) filled.0 word.0.0 word.0.1) (λ n. late_closed n verbs.Permit filled.0 >>= λ slots. Ok (record { verb = verbs.Permit; positions = contents.Profile n ∷ []; slots = slots })) g filled.2 in
    let end = bind-ok (late_closed name.0 verbs.Permit filled.0) (λ slots. Ok (record { verb = verbs.Permit; positions = contents.Profile name.0 ∷ []; slots = slots })) g name.2 in
    let marked = bind-ok (unless_mark name.0 (mark_in filled.0) filled.0) (λ slots. closed verbs.Permit slots) end.0 end.1 in
    let kept : filled.0 ≡ marked.0 = unless_mark-ok name.0 (mark_in filled.0) filled.0 marked.0 marked.1 in
    let closed_here : closed verbs.Permit filled.0 ≡ Ok end.0 = ap (closed verbs.Permit) kept ∙ marked.2 in
    let closed_so = closed-slots (begun at).known verbs.Permit filled.0 end.0 (operands-hold (begun at) rows (no_slots rows) (valued_words word.0.2) filled.0 filled.1 (HoldsAll-none (begun at).known rows)) closed_here in
    let named : any_named at.issuer (class_in filled.0) word.0.1 ≡ Some name.0 = or_fault-ok (any_named at.issuer (class_in filled.0) word.0.1) (faults.BadValue word.0.0) name.0 name.1 in
    let suits : any_profile (class_in filled.0) name.0.text ≡ Some name.0 = any-fits at.issuer (class_in filled.0) word.0.1 name.0 named in
    let suited : SuitsPositions (first_known verbs.Permit end.0) (positions_of verbs.Permit) (contents.Profile name.0 ∷ []) = subst (λ (k : Known). SuitsPositions k (positions_of verbs.Permit) (contents.Profile name.0 ∷ [])) (sym closed_so.class) (suits, tt) in
    let made_here : Generic = record { verb = verbs.Permit; positions = contents.Profile name.0 ∷ []; slots = end.0 } in
    let same : made_here ≡ g = cc in
    subst (λ (x : Generic). IsLawful x) same (record { chosen = refl; fits_positions = (tt, tt); fits_operands = closed_so.operands; suits_positions = suited; suits_operands = suits-none (known_last (first_known verbs.Permit end.0) (positions_of verbs.Permit) (contents.Profile name.0 ∷ [])) rows end.0 refl; needed = closed_so.lacks; complete = closed_so.whole; apart = closed_so.alone })

-- RDEFINE and RALTER, in CDT and elsewhere
split-lawful : (at : Context) (v : Verb) (ts : List Token) (g : Generic) → IsSplit v → plain_at (begun at) (in_class v (class_named ts)) ts ≡ Ok g → IsLawful g
split-lawful at v ts g split h = plain-lawful at (in_class v (class_named ts)) ts g (split.early (class_named ts)) (split-chosen (begun at) v split ts) h

body-lawful : (at : Context) (v : Verb) (ts : List Token) (g : Generic) → is_listed v ≡ true → body_at (begun at) v ts ≡ Ok g → IsLawful g
body-lawful at verbs.AddUser ts g listed h = plain-lawful at verbs.AddUser ts g refl (λ all last rest read. refl) h
body-lawful at verbs.AltUser ts g listed h = plain-lawful at verbs.AltUser ts g refl (λ all last rest read. refl) h
body-lawful at verbs.DelUser ts g listed h = plain-lawful at verbs.DelUser ts g refl (λ all last rest read. refl) h
body-lawful at verbs.AddGroup ts g listed h = plain-lawful at verbs.AddGroup ts g refl (λ all last rest read. refl) h
body-lawful at verbs.AltGroup ts g listed h = plain-lawful at verbs.AltGroup ts g refl (λ all last rest read. refl) h
body-lawful at verbs.DelGroup ts g listed h = plain-lawful at verbs.DelGroup ts g refl (λ all last rest read. refl) h
body-lawful at verbs.Connect ts g listed h = plain-lawful at verbs.Connect ts g refl (λ all last rest read. refl) h
body-lawful at verbs.Remove ts g listed h = plain-lawful at verbs.Remove ts g refl (λ all last rest read. refl) h
body-lawful at verbs.AddSd ts g listed h = plain-lawful at verbs.AddSd ts g refl (λ all last rest read. refl) h
body-lawful at verbs.AltSd ts g listed h = plain-lawful at verbs.AltSd ts g refl (λ all last rest read. refl) h
body-lawful at verbs.DelSd ts g listed h = plain-lawful at verbs.DelSd ts g refl (λ all last rest read. refl) h
body-lawful at verbs.RDefine ts g listed h = split-lawful at verbs.RDefine ts g define-split h
body-lawful at verbs.RAlter ts g listed h = split-lawful at verbs.RAlter ts g alter-split h
body-lawful at verbs.RDelete ts g listed h = plain-lawful at verbs.RDelete ts g refl (λ all last rest read. refl) h
body-lawful at verbs.SetRopts ts g listed h = plain-lawful at verbs.SetRopts ts g refl (λ all last rest read. refl) h
body-lawful at verbs.DefineClass ts g listed h = cc
body-lawful at verbs.AlterClass ts g listed h = cc
body-lawful at verbs.Permit ts g listed h = late-lawful at ts g h

command-lawful : (at : Context) (ts us : List Token) (g : Generic) → command_at at ts us ≡ Ok g → IsLawful g
command-lawful at [] us g h = cc
command-lawful at (Word p w ∷ ts) us g h =
    let word = bind-ok (clean Ignored p w) (λ w. or_fault (verb_named (map upper w)) faults.UnknownCommand >>= λ v. body_at (begun at) v (if begins_with_name (positions_of v) then behind_first us else ts)) g h in
    let verb = bind-ok (or_fault (verb_named (map upper word.0)) faults.UnknownCommand) (λ v. body_at (begun at) v (if begins_with_name (positions_of v) then behind_first us else ts)) g word.2 in
    let listed : is_listed verb.0 ≡ true = named-listed (map upper word.0) verb.0 (or_fault-ok (verb_named (map upper word.0)) faults.UnknownCommand verb.0 verb.1) in
    body-lawful at verb.0 (if begins_with_name (positions_of verb.0) then behind_first us else ts) g listed verb.2
command-lawful at (Group tied p t ∷ ts) us g h = cc
command-lawful at (Open tied p place ∷ ts) us g h = cc
command-lawful at (Close p ∷ ts) us g h = cc

pub read_lawful : (at : Context) (text : List ℕ) (g : Generic) → parsed at text ≡ Ok g → IsLawful g
unfolding parsed
read_lawful at text g h =
    let short = if-err (nat_lt 30000 (length text)) faults.TextTooLong (command_at at (tokens (of_command text)) (tokens (of_naming_command text))) g h in
    command-lawful at (tokens (of_command text)) (tokens (of_naming_command text)) g short.1
