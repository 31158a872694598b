-- The canonical text of a lawful command is read as that command, whoever reads it.
use Rattle.std.proofs.Common.{◌≡◌, ℕ, suc, ◌+◌, List, [], ◌∷◌, ◌++◌, length, Bool, true, false, cond, ◌&&◌, None, Some, Result, Ok, Err, refl, sym, ap, subst, ◌∙◌, append_assoc}
use Rattle.std.specs.Prelude.{◌==◌, nat_lt, if◌then◌else◌}
use Rattle.std.specs.List.{list_all, list_any}
use Rattle.std.proofs.lemmas.List.{append-nil}
use Rattle.generic_names.specs.Spelled.{Spelled}
use Rattle.command_grammar.specs.declared.table.Verb.TheVariants as verbs
use Rattle.command_values.specs.declared.values.Known.{Known}
use Rattle.command_words.specs.declared.quoting.Quoting.TheVariants.{Ignored, BeforeName, AtName}
use Rattle.command_words.specs.Tokens.{Token, Word, tokens, tokens_from}
use Rattle.command_words.specs.ValuedWords.{valued_words, opens_value, faulty_at}
use Rattle.command_words.proofs.Letters.{is_letter, BeforeName-steady, EndsWord}
use Rattle.command_words.proofs.Spelled.{word_token, name_token}
use Rattle.command_values.specs.declared.faults.Syntax.{Syntax}
use Rattle.command_values.specs.declared.faults.Syntax.TheVariants as faults
use Rattle.command_grammar.specs.CommandTable.{in_class, named_as, data_set_profile}
use Rattle.command_grammar.proofs.ClassRows.{named-positions, own-name, own-row, row-again}
use Rattle.command_grammar.specs.declared.table.Verb.{Verb}
use Rattle.command_values.specs.declared.value_kinds.ValueKind.TheVariants as kinds
use Rattle.command_grammar.specs.declared.table.Position.{Position}
use Rattle.command_grammar.specs.declared.table.Operand.{Operand}
use Rattle.command_values.specs.declared.values.Content.{Content}
use Rattle.command_values.specs.declared.values.Content.TheVariants as contents
use Rattle.command_values.specs.declared.values.Context.{Context}
use Rattle.command_values.specs.declared.values.Scope.{Scope}
use Rattle.command_values.specs.Results.{◌>>=◌}
use Rattle.command_grammar.specs.Table.{full_name, positions_of, operands_of}
use Rattle.command_fields.specs.ProfileNames.{dataset_profile, dataset_named, text_by_kind, profile_text}
use Rattle.command_grammar.specs.Reading.{Generic, Slots, is_late, known_behind, behind, positions_at, operands_at, closed, no_slots, plain_at, class_in, late_at, class_named, body_at, begins_with_name, begun, command_at, parsed}
use Rattle.command_grammar.specs.Canon.{positions_text, operands_text, canon, spelled}
use Rattle.command_grammar.specs.Lawful.{FitsPositions, SuitsPositions, known_last, SuitsAll, class_known, IsLawful}
use Rattle.command_values.proofs.Patterns.{dataset-named, quoted-named, quote_closes, quoted-sound}
use Rattle.command_grammar.proofs.TableFacts.{IsMore, full_name-plain, verb_named-full_name, Shape, Plain, Quoted, Judged, shape}
use Rattle.command_grammar.proofs.OperandsAgain.{IsApart, behind_again, operands-apart, plain_token}
use Rattle.command_grammar.proofs.PositionsAgain.{are_names, positions_again}
use Rattle.command_grammar.proofs.PermitAgain.{permit_one}

abbrev then_operands : Verb → Result (List Content × Scope × List Token) Syntax → Result Generic Syntax
then_operands v r = r >>= λ x. operands_at x.1 (operands_of v) (no_slots (operands_of v)) (valued_words x.2) >>= λ slots. closed v slots >>= λ slots. Ok (record { verb = v; positions = x.0; slots = slots })

-- nothing is known before the first positional word
nothing-first : (g : Generic) → IsLawful g → is_late (positions_of g.verb) ≡ false → SuitsPositions (class_known None) (positions_of g.verb) g.positions
nothing-first g lawful early = subst (λ (k : Known). SuitsPositions k (positions_of g.verb) g.positions) (ap (λ c. class_known (if c then class_in g.slots else None)) early) lawful.suits_positions

-- what the operands behind the positional words know
suits-last : (g : Generic) → IsLawful g → is_late (positions_of g.verb) ≡ false → (k : Known) → k ≡ known_last (class_known None) (positions_of g.verb) g.positions → SuitsAll k (operands_of g.verb) g.slots
suits-last g lawful early k same =
    subst (λ (m : Known). SuitsAll m (operands_of g.verb) g.slots)
    (ap (λ c. known_last (class_known (if c then class_in g.slots else None)) (positions_of g.verb) g.positions) early ∙ sym same) lawful.suits_operands

early_body : (at : Context) (v : Verb) (ts : List Token) → is_late (positions_of v) ≡ false → body_at (begun at) v ts ≡ plain_at (begun at) (in_class v (class_named ts)) ts
early_body at v ts early = ap (λ c. if c then late_at (begun at) v ts else plain_at (begun at) (in_class v (class_named ts)) ts) early

-- what follows the command's name, where no name is in quotes
plain_again : (at : Context) (g : Generic) (tied : Bool) (p : ℕ) → IsLawful g → is_late (positions_of g.verb) ≡ false → are_names (positions_of g.verb) ≡ true
    → body_at (begun at) (named_as g.verb) (tokens_from Ignored tied 0 p (positions_text g.positions ++ operands_text (operands_of g.verb) g.slots)) ≡ Ok g
plain_again at g tied p lawful early names =
    let ts : List Token = tokens_from Ignored tied 0 p (positions_text g.positions ++ operands_text (operands_of g.verb) g.slots) in
    let read = positions_again (begun at) (operands_of g.verb) (positions_of g.verb) [] g.positions (operands_text (operands_of g.verb) g.slots) tied p names lawful.fits_positions (nothing-first g lawful early) (operands-apart (operands_of g.verb) g.slots) in
    early_body at (named_as g.verb) ts (ap is_late (named-positions g.verb) ∙ early)
    ∙ ap (λ v. plain_at (begun at) v ts) (row-again (begun at) g.verb ts g.positions read.scope_behind (tokens_from Ignored read.tied_behind 0 read.place_behind (operands_text (operands_of g.verb) g.slots)) lawful.chosen read.reads)
    ∙ ap (then_operands g.verb) read.reads ∙ behind_again read.scope_behind g read.tied_behind read.place_behind lawful (suits-last g lawful early read.scope_behind.known read.known_is)

-- a data set's name in quotes
quoted_again : (at : Scope) (rows : List Operand) (n : Spelled) (rest : List ℕ) (tied : Bool) (p : ℕ) → dataset_profile n.text ≡ Some n → IsApart rest
    → positions_at at rows data_set_profile [] (tokens_from AtName tied 0 p (positions_text (contents.Profile n ∷ []) ++ rest))
    ≡ Ok (contents.Profile n ∷ [], behind at kinds.DataSetProfile (contents.Profile n), tokens_from Ignored true 0 (suc p + length (39 ∷ (n.text ++ 39 ∷ []))) rest)
quoted_again at rows n rest tied p h apart =
    let named = dataset-named n.text n h in
    let q : ℕ = suc p + length (39 ∷ (n.text ++ 39 ∷ [])) in
    let text : profile_text n ≡ 39 ∷ (n.text ++ 39 ∷ []) = ap (λ k. text_by_kind k n.text) named.kinds in
    let regrouped : positions_text (contents.Profile n ∷ []) ++ rest ≡ 32 ∷ (39 ∷ (n.text ++ 39 ∷ rest)) =
    ap (λ bs. 32 ∷ (bs ++ rest)) (append-nil (profile_text n) ∙ text) ∙ ap (λ bs. 32 ∷ (39 ∷ bs)) (append_assoc n.text (39 ∷ []) rest) in
    let first : tokens_from AtName tied 0 p (positions_text (contents.Profile n ∷ []) ++ rest) ≡ Word (suc p) (39 ∷ (n.text ++ 39 ∷ [])) ∷ tokens_from Ignored true 0 q rest =
    ap (tokens_from AtName tied 0 p) regrouped ∙ name_token (tied && true) (suc p) n.text rest named.plain.letters apart.ends in
    let opens : opens_value (tokens_from Ignored true 0 q rest) ≡ false = apart.opens true q in
    let closes : list_any (λ c. c == 39) (n.text ++ 39 ∷ []) ≡ true = quote_closes n.text in
    let sound : faulty_at Ignored (suc p) (39 ∷ (n.text ++ 39 ∷ [])) ≡ None = quoted-sound (suc p) n.text named.plain.sound in
    let named_so : dataset_named at.issuer (39 ∷ (n.text ++ 39 ∷ [])) ≡ Some n = quoted-named at.issuer n.text named.plain ∙ h in
    ap (positions_at at rows data_set_profile []) first ∙ rw (opens, closes, sound, named_so) refl

text-ends : (g : Generic) → EndsWord (positions_text g.positions ++ operands_text (operands_of g.verb) g.slots)
text-ends g = ends-at g.positions
  where
    ends-at : (vs : List Content) → EndsWord (positions_text vs ++ operands_text (operands_of g.verb) g.slots)
    ends-at [] = (operands-apart (operands_of g.verb) g.slots).ends
    ends-at (v ∷ vs) = refl

-- the tokens behind the command's name
abbrev rest_of : Verb → List Token → List Token → List Token
rest_of v us ts = if begins_with_name (positions_of v) then us else ts

one_profile : (g : Generic) → positions_of g.verb ≡ data_set_profile → IsLawful g → (n : Spelled) × (g.positions ≡ contents.Profile n ∷ []) × (dataset_profile n.text ≡ Some n)
one_profile g same lawful = one-in g.positions (subst (λ (ps : List Position). FitsPositions ps g.positions) same lawful.fits_positions)
  where
    one-in : (vs : List Content) → FitsPositions data_set_profile vs → (n : Spelled) × (vs ≡ contents.Profile n ∷ []) × (dataset_profile n.text ≡ Some n)
    one-in [] h = absurd h
    one-in (contents.Profile n ∷ []) h = (n, refl, h.0)
    one-in (v ∷ (w ∷ vs)) h = absurd h.1
    one-in (contents.Flag ∷ []) h = absurd h.0
    one-in (contents.Id w ∷ []) h = absurd h.0
    one-in (contents.Authority a ∷ []) h = absurd h.0
    one-in (contents.Name t ∷ []) h = absurd h.0
    one-in (contents.Ids xs ∷ []) h = absurd h.0
    one-in (contents.Level l ∷ []) h = absurd h.0
    one-in (contents.Audit r ∷ []) h = absurd h.0
    one-in (contents.Reset r ∷ []) h = absurd h.0
    one-in (contents.Whos ws ∷ []) h = absurd h.0
    one-in (contents.When c ∷ []) h = absurd h.0
    one-in (contents.Members ms ∷ []) h = absurd h.0
    one-in (contents.MemberNames ns ∷ []) h = absurd h.0
    one-in (contents.Generic g ∷ []) h = absurd h.0
    one-in (contents.Failures ∷ []) h = absurd h.0
    one-in (contents.LogOptions cs ∷ []) h = absurd h.0
    one-in (contents.Length n ∷ []) h = absurd h.0
    one-in (contents.Truth b ∷ []) h = absurd h.0
    one-in (contents.ClassNames n ∷ []) h = absurd h.0

dataset_again : (at : Context) (g : Generic) (tied : Bool) (p : ℕ) → IsLawful g → positions_of g.verb ≡ data_set_profile
    → body_at (begun at) g.verb (tokens_from AtName tied 0 p (positions_text g.positions ++ operands_text (operands_of g.verb) g.slots)) ≡ Ok g
dataset_again at g tied p lawful same =
    let found = one_profile g same lawful in
    let rest : List ℕ = operands_text (operands_of g.verb) g.slots in
    let read : positions_at (begun at) (operands_of g.verb) (positions_of g.verb) [] (tokens_from AtName tied 0 p (positions_text g.positions ++ rest))
    ≡ Ok (g.positions, behind (begun at) kinds.DataSetProfile (contents.Profile found.0), tokens_from Ignored true 0 (suc p + length (39 ∷ (found.0.text ++ 39 ∷ []))) rest) =
    ap (λ ps. positions_at (begun at) (operands_of g.verb) ps [] (tokens_from AtName tied 0 p (positions_text g.positions ++ rest))) same
    ∙ ap (λ vs. positions_at (begun at) (operands_of g.verb) data_set_profile [] (tokens_from AtName tied 0 p (positions_text vs ++ rest))) found.1
    ∙ quoted_again (begun at) (operands_of g.verb) found.0 rest tied p found.2 (operands-apart (operands_of g.verb) g.slots)
    ∙ ap (λ vs. Ok (vs, behind (begun at) kinds.DataSetProfile (contents.Profile found.0), tokens_from Ignored true 0 (suc p + length (39 ∷ (found.0.text ++ 39 ∷ []))) rest)) (sym found.1) in
    early_body at g.verb (tokens_from AtName tied 0 p (positions_text g.positions ++ rest)) (ap is_late same)
    ∙ ap (λ v. plain_at (begun at) v (tokens_from AtName tied 0 p (positions_text g.positions ++ rest))) (own-row g.verb (class_named (tokens_from AtName tied 0 p (positions_text g.positions ++ rest))) same)
    ∙ ap (then_operands g.verb) read ∙ behind_again (behind (begun at) kinds.DataSetProfile (contents.Profile found.0)) g true (suc p + length (39 ∷ (found.0.text ++ 39 ∷ []))) lawful
    (suits-last g lawful (ap is_late same) (known_behind (class_known None) kinds.DataSetProfile (contents.Profile found.0))
    (sym (ap (λ ps. known_last (class_known None) ps g.positions) same ∙ ap (known_last (class_known None) data_set_profile) found.1)))

abbrev ReadsPermit : Context → List Content → Slots → Bool → ℕ → Verb → Type 0
ReadsPermit at vs slots tied p v =
    (let g : Generic = record { verb = v; positions = vs; slots = slots } in IsLawful g)
    → body_at (begun at) v (tokens_from AtName tied 0 p (positions_text vs ++ operands_text (operands_of v) slots)) ≡ Ok (record { verb = v; positions = vs; slots = slots })

judged_again : (at : Context) (g : Generic) (tied : Bool) (p : ℕ) → IsLawful g → g.verb ≡ verbs.Permit
    → body_at (begun at) g.verb (tokens_from AtName tied 0 p (positions_text g.positions ++ operands_text (operands_of g.verb) g.slots)) ≡ Ok g
judged_again at g tied p lawful same =
    let permits : ReadsPermit at g.positions g.slots tied p verbs.Permit = permit_one at g.positions g.slots tied p in
    let here : ReadsPermit at g.positions g.slots tied p g.verb = subst (λ (v : Verb). ReadsPermit at g.positions g.slots tied p v) (sym same) permits in
    here lawful

-- what follows the name of a command whose row a class tells
abbrev ReadsBody : Context → Generic → Bool → ℕ → Verb → Type 0
ReadsBody at g tied p v =
    body_at (begun at) v (rest_of v (tokens_from AtName tied 0 p (positions_text g.positions ++ operands_text (operands_of g.verb) g.slots)) (tokens_from Ignored tied 0 p (positions_text g.positions ++ operands_text (operands_of g.verb) g.slots))) ≡ Ok g

body_again : (at : Context) (g : Generic) (tied : Bool) (p : ℕ) → IsLawful g → Shape g.verb → ReadsBody at g tied p (named_as g.verb)
body_again at g tied p lawful (Plain other early names) =
    ap (λ c. body_at (begun at) (named_as g.verb) (if c then tokens_from AtName tied 0 p (positions_text g.positions ++ operands_text (operands_of g.verb) g.slots) else tokens_from Ignored tied 0 p (positions_text g.positions ++ operands_text (operands_of g.verb) g.slots))) (ap begins_with_name (named-positions g.verb) ∙ other)
    ∙ plain_again at g tied p lawful early names
body_again at g tied p lawful (Quoted same) =
    let own : ReadsBody at g tied p g.verb =
    ap (λ ps. body_at (begun at) g.verb (if begins_with_name ps then tokens_from AtName tied 0 p (positions_text g.positions ++ operands_text (operands_of g.verb) g.slots) else tokens_from Ignored tied 0 p (positions_text g.positions ++ operands_text (operands_of g.verb) g.slots))) same
    ∙ dataset_again at g tied p lawful same in
    subst (λ (v : Verb). ReadsBody at g tied p v) (sym (own-name g.verb same)) own
body_again at g tied p lawful (Judged same) =
    let own : ReadsBody at g tied p g.verb =
    ap (λ v. body_at (begun at) g.verb (if begins_with_name (positions_of v) then tokens_from AtName tied 0 p (positions_text g.positions ++ operands_text (operands_of g.verb) g.slots) else tokens_from Ignored tied 0 p (positions_text g.positions ++ operands_text (operands_of g.verb) g.slots))) same
    ∙ judged_again at g tied p lawful same in
    let name : named_as g.verb ≡ g.verb = ap named_as same ∙ sym same in
    subst (λ (v : Verb). ReadsBody at g tied p v) (sym name) own

naming_token : (tied : Bool) (p : ℕ) (w rest : List ℕ) → IsMore w → list_all is_letter w ≡ true → EndsWord rest
    → tokens_from BeforeName tied 0 p (w ++ rest) ≡ Word p w ∷ tokens_from AtName true 0 (p + length w) rest
naming_token tied p [] rest some letters ends = absurd some
naming_token tied p (b ∷ w) rest some letters ends = word_token BeforeName BeforeName-steady tied p b w rest letters ends

pub read_again : (at : Context) (g : Generic) → IsLawful g → nat_lt 30000 (length (canon g)) ≡ false → parsed at (canon g) ≡ Ok g
unfolding tokens parsed canon
read_again at g lawful short =
    let plain = full_name-plain g.verb in
    let rest : List ℕ = positions_text g.positions ++ operands_text (operands_of g.verb) g.slots in
    let sound : faulty_at Ignored 1 (full_name g.verb) ≡ None = plain.sound 1 in
    let first : tokens_from Ignored false 0 1 (canon g) ≡ Word 1 (full_name g.verb) ∷ tokens_from Ignored true 0 (1 + length (full_name g.verb)) rest =
    plain_token false 1 (full_name g.verb) rest plain.some plain.letters (text-ends g) in
    let second : tokens_from BeforeName false 0 1 (canon g) ≡ Word 1 (full_name g.verb) ∷ tokens_from AtName true 0 (1 + length (full_name g.verb)) rest =
    naming_token false 1 (full_name g.verb) rest plain.some plain.letters (text-ends g) in
    ap (λ b. cond b (Err faults.TextTooLong) (command_at at (tokens_from Ignored false 0 1 (canon g)) (tokens_from BeforeName false 0 1 (canon g)))) short
    ∙ ap (λ ts. command_at at ts (tokens_from BeforeName false 0 1 (canon g))) first
    ∙ ap (command_at at (Word 1 (full_name g.verb) ∷ tokens_from Ignored true 0 (1 + length (full_name g.verb)) rest)) second
    ∙ rw (sound, plain.folded, verb_named-full_name g.verb) (body_again at g true (1 + length (full_name g.verb)) lawful (shape g.verb))

pub spelled_again : (at : Context) (g : Generic) → IsLawful g → nat_lt 30000 (length (canon g)) ≡ false → spelled at (canon g) ≡ Ok g
spelled_again at g lawful short = rw (read_again at g lawful short, short) refl
