-- PERMIT's text is read again: its name is judged by the class that its operand names.
use Rattle.std.proofs.Common.{◌≡◌, ℕ, zero, suc, ◌+◌, List, [], ◌∷◌, ◌++◌, length, map, Bool, true, false, not, ◌&&◌, Option, None, Some, Ok, refl, ap, subst, ◌∙◌, append_assoc}
use Rattle.std.specs.Prelude.{◌==◌}
use Rattle.std.specs.List.{list_all, list_any, slice_index_or}
use Rattle.std.proofs.lemmas.List.{append-nil}
use Rattle.std.proofs.lemmas.Bool.{and_parts}
use Rattle.generic_names.specs.Spelled.{Spelled}
use Rattle.racf_profiles.specs.declared.fixed_classes.NameForm.{NameForm}
use Rattle.racf_profiles.specs.declared.fixed_classes.NameForm.TheVariants as name_forms
use Rattle.command_grammar.specs.declared.table.Verb.TheVariants as verbs
use Rattle.command_words.specs.declared.quoting.Quoting.TheVariants.{Ignored, AtName}
use Rattle.command_words.specs.Tokens.{Word, tokens_from}
use Rattle.command_words.specs.ValuedWords.{valued_words, opens_value, faulty_at}
use Rattle.command_words.proofs.Letters.{is_letter, letter-quote, EndsWord}
use Rattle.command_words.proofs.Spelled.{name_token, bare_name_token}
use Rattle.command_words.specs.Bytes.{upper}
use Rattle.command_values.specs.declared.faults.Syntax.TheVariants as faults
use Rattle.command_values.specs.declared.value_kinds.ValueKind.{ValueKind}
use Rattle.command_values.specs.declared.value_kinds.ValueKind.TheVariants as kinds
use Rattle.command_grammar.specs.declared.table.Operand.{Operand}
use Rattle.command_values.specs.declared.values.Content.{Content}
use Rattle.command_values.specs.declared.values.Content.TheVariants as contents
use Rattle.command_values.specs.declared.values.Context.{Context}
use Rattle.command_values.specs.Results.{◌>>=◌, or_fault}
use Rattle.command_grammar.specs.Table.{operands_of}
use Rattle.command_fields.specs.ProfileNames.{dataset_profile, profile_in, form_in, general_form, named_by_form, any_named, any_profile, is_unclosed, text_by_kind, profile_text}
use Rattle.command_grammar.specs.Reading.{Generic, Slots, row_at, operands_at, closed, no_slots, class_in, mark_of_slot, mark_in, unless_mark, late_word, late_name, late_closed, body_at, begun}
use Rattle.command_grammar.specs.Canon.{positions_text, operands_text}
use Rattle.command_values.specs.LawfulValues.{Fits}
use Rattle.command_grammar.specs.Lawful.{FitsAll, IsLawful}
use Rattle.command_values.proofs.Patterns.{IsSome, dataset-named, general-named, quoted-named, quote_closes, quoted-sound}
use Rattle.command_grammar.proofs.SuitsNone.{suits-none}
use Rattle.command_grammar.proofs.OperandsAgain.{IsApart, closed-again, filled-again, operands-apart}

-- PERMIT's name, as it is written
record IsAnyName (issuer : List ℕ) (class : Option (List ℕ)) (n : Spelled) : Type 0 where
  word : List ℕ
  is : profile_text n ≡ word
  token : (tied : Bool) (p : ℕ) (rest : List ℕ) → EndsWord rest → tokens_from AtName tied 0 p (word ++ rest) ≡ Word p word ∷ tokens_from Ignored true 0 (p + length word) rest
  closes : is_unclosed word ≡ false
  sound : (p : ℕ) → faulty_at Ignored p word ≡ None
  reads : any_named issuer class word ≡ Some n

letters-closed : (w : List ℕ) → list_all is_letter w ≡ true → is_unclosed w ≡ false
letters-closed [] h = refl
letters-closed (b ∷ w) h = rw (letter-quote b (and_parts (is_letter b) (list_all is_letter w) h).0) refl

letters-token : (w : List ℕ) → IsSome w → list_all is_letter w ≡ true → (tied : Bool) (p : ℕ) (rest : List ℕ) → EndsWord rest → tokens_from AtName tied 0 p (w ++ rest) ≡ Word p w ∷ tokens_from Ignored true 0 (p + length w) rest
letters-token [] some h tied p rest ends = absurd some
letters-token (b ∷ w) some h tied p rest ends = bare_name_token tied p b w rest h ends

abbrev named_in : List ℕ → NameForm → List ℕ → Option Spelled
named_in issuer form w = named_by_form issuer form w

record IsFormName (issuer : List ℕ) (form : NameForm) (n : Spelled) : Type 0 where
  word : List ℕ
  is : profile_text n ≡ word
  token : (tied : Bool) (p : ℕ) (rest : List ℕ) → EndsWord rest → tokens_from AtName tied 0 p (word ++ rest) ≡ Word p word ∷ tokens_from Ignored true 0 (p + length word) rest
  closes : is_unclosed word ≡ false
  sound : (p : ℕ) → faulty_at Ignored p word ≡ None
  reads : named_in issuer form word ≡ Some n

quoted-form : (issuer : List ℕ) (n : Spelled) → dataset_profile n.text ≡ Some n → IsFormName issuer name_forms.DataSet n
quoted-form issuer n h =
    let named = dataset-named n.text n h in
    let closing : list_any (λ c. c == 39) (n.text ++ 39 ∷ []) ≡ true = quote_closes n.text in
    record {
      word = 39 ∷ (n.text ++ 39 ∷ []);
      is = ap (λ k. text_by_kind k n.text) named.kinds;
      token = λ tied p rest ends. ap (λ bs. tokens_from AtName tied 0 p (39 ∷ bs)) (append_assoc n.text (39 ∷ []) rest) ∙ name_token tied p n.text rest named.plain.letters ends;
      closes = ap not closing;
      sound = λ p. quoted-sound p n.text named.plain.sound;
      reads = quoted-named issuer n.text named.plain ∙ h;
    }

general-form : (issuer : List ℕ) (form : NameForm) (n : Spelled) → profile_in (general_form form) n.text ≡ Some n → ((w : List ℕ) → named_in issuer form w ≡ profile_in (general_form form) (map upper w)) → IsFormName issuer form n
general-form issuer form n h reads_so =
    let named = general-named form n.text n h in
    record {
      word = n.text;
      is = ap (λ k. text_by_kind k n.text) named.kinds;
      token = letters-token n.text named.plain.some named.plain.letters;
      closes = letters-closed n.text named.plain.letters;
      sound = named.plain.sound;
      reads = reads_so n.text ∙ ap (profile_in (general_form form)) named.plain.folded ∙ h;
    }

form_name : (issuer : List ℕ) (form : NameForm) (n : Spelled) → profile_in form n.text ≡ Some n → IsFormName issuer form n
form_name issuer name_forms.DataSet n h = quoted-form issuer n h
form_name issuer name_forms.General n h = general-form issuer name_forms.General n h (λ w. refl)
form_name issuer name_forms.Identifier n h = general-form issuer name_forms.Identifier n h (λ w. refl)
form_name issuer name_forms.LevelOrCategory n h = general-form issuer name_forms.LevelOrCategory n h (λ w. refl)
form_name issuer name_forms.Class n h = general-form issuer name_forms.Class n h (λ w. refl)

any_name : (issuer : List ℕ) (class : Option (List ℕ)) (n : Spelled) → any_profile class n.text ≡ Some n → IsAnyName issuer class n
any_name issuer None n h = cc
any_name issuer (Some c) n h =
    let name = form_name issuer (form_in c) n h in
    record { word = name.word; is = name.is; token = name.token; closes = name.closes; sound = name.sound; reads = name.reads }

late_again : (at : Context) (rows : List Operand) (class : Option (List ℕ)) (n : Spelled) (rest : List ℕ) (tied : Bool) (p : ℕ) (name : IsAnyName at.issuer class n) → IsApart rest
    → late_word rows (tokens_from AtName tied 0 p (positions_text (contents.Profile n ∷ []) ++ rest)) ≡ Ok (suc p, name.word, tokens_from Ignored true 0 (suc p + length name.word) rest)
late_again at rows class n rest tied p name apart =
    let regrouped : positions_text (contents.Profile n ∷ []) ++ rest ≡ 32 ∷ (name.word ++ rest) = ap (λ bs. 32 ∷ (bs ++ rest)) (append-nil (profile_text n) ∙ name.is) in
    let first : tokens_from AtName tied 0 p (positions_text (contents.Profile n ∷ []) ++ rest) ≡ Word (suc p) name.word ∷ tokens_from Ignored true 0 (suc p + length name.word) rest =
    ap (tokens_from AtName tied 0 p) regrouped ∙ name.token (tied && true) (suc p) rest apart.ends in
    let opens : opens_value (tokens_from Ignored true 0 (suc p + length name.word) rest) ≡ false = apart.opens true (suc p + length name.word) in
    let closes : is_unclosed name.word ≡ false = name.closes in
    let sound : faulty_at Ignored (suc p) name.word ≡ None = name.sound (suc p) in
    ap (late_word rows) first ∙ rw (opens, closes, sound) refl

-- GENERIC's slot is empty
mark-none : (os : List Operand) (ss : Slots) (k : ℕ) → FitsAll os ss → (row_at os k).kind ≡ kinds.Generic → slice_index_or ss k None ≡ None
mark-none [] [] k h is = refl
mark-none [] (s ∷ ss) k h is = absurd h
mark-none (o ∷ os) [] k h is = absurd h
mark-none (o ∷ os) (None ∷ ss) zero h is = refl
mark-none (o ∷ os) (Some v ∷ ss) zero h is = let no : Fits kinds.Generic v = subst (λ (k : ValueKind). Fits k v) is h.0 in absurd no
mark-none (o ∷ os) (None ∷ ss) (suc k) h is = mark-none os ss k h is
mark-none (o ∷ os) (Some v ∷ ss) (suc k) h is = mark-none os ss k h.1 is

permit_again : (at : Context) (n : Spelled) (slots : Slots) (tied : Bool) (p : ℕ) → let g : Generic = record { verb = verbs.Permit; positions = contents.Profile n ∷ []; slots = slots } in IsLawful g
    → body_at (begun at) verbs.Permit (tokens_from AtName tied 0 p (positions_text (contents.Profile n ∷ []) ++ operands_text (operands_of verbs.Permit) slots)) ≡ Ok g
permit_again at n slots tied p lawful =
    let g : Generic = record { verb = verbs.Permit; positions = contents.Profile n ∷ []; slots = slots } in
    let rows : List Operand = operands_of verbs.Permit in
    let rest : List ℕ = operands_text rows slots in
    let suits : any_profile (class_in slots) n.text ≡ Some n = lawful.suits_positions.0 in
    let name = any_name at.issuer (class_in slots) n suits in
    let q : ℕ = suc p + length name.word in
    let mark : mark_in slots ≡ None = ap mark_of_slot (mark-none rows slots 6 lawful.fits_operands refl) in
    ap (λ r. r >>= λ x. operands_at (begun at) rows (no_slots rows) (valued_words x.2) >>= λ ss. late_name (begun at) ss x.0 x.1 >>= λ m. late_closed m verbs.Permit ss >>= λ ss. Ok (record { verb = verbs.Permit; positions = contents.Profile m ∷ []; slots = ss }))
    (late_again at rows (class_in slots) n rest tied p name (operands-apart rows slots))
    ∙ ap (λ r. r >>= λ ss. late_name (begun at) ss (suc p) name.word >>= λ m. late_closed m verbs.Permit ss >>= λ ss. Ok (record { verb = verbs.Permit; positions = contents.Profile m ∷ []; slots = ss }))
    (filled-again (begun at) g true q lawful (suits-none (begun at).known rows slots refl))
    ∙ ap (λ o. or_fault o (faults.BadValue (suc p)) >>= λ m. late_closed m verbs.Permit slots >>= λ ss. Ok (record { verb = verbs.Permit; positions = contents.Profile m ∷ []; slots = ss })) name.reads
    ∙ ap (λ m. (unless_mark n m slots >>= λ ss. closed verbs.Permit ss) >>= λ ss. Ok (record { verb = verbs.Permit; positions = contents.Profile n ∷ []; slots = ss })) mark
    ∙ ap (λ r. r >>= λ ss. Ok (record { verb = verbs.Permit; positions = contents.Profile n ∷ []; slots = ss })) (closed-again g lawful)

pub permit_one : (at : Context) (vs : List Content) (slots : Slots) (tied : Bool) (p : ℕ) → let g : Generic = record { verb = verbs.Permit; positions = vs; slots = slots } in IsLawful g
    → body_at (begun at) verbs.Permit (tokens_from AtName tied 0 p (positions_text vs ++ operands_text (operands_of verbs.Permit) slots)) ≡ Ok g
permit_one at [] slots tied p lawful = absurd lawful.fits_positions
permit_one at (contents.Profile n ∷ []) slots tied p lawful = permit_again at n slots tied p lawful
permit_one at (v ∷ (w ∷ vs)) slots tied p lawful = absurd lawful.fits_positions.1
permit_one at (contents.Flag ∷ []) slots tied p lawful = absurd lawful.fits_positions.0
permit_one at (contents.Id w ∷ []) slots tied p lawful = absurd lawful.fits_positions.0
permit_one at (contents.Authority a ∷ []) slots tied p lawful = absurd lawful.fits_positions.0
permit_one at (contents.Name t ∷ []) slots tied p lawful = absurd lawful.fits_positions.0
permit_one at (contents.Ids xs ∷ []) slots tied p lawful = absurd lawful.fits_positions.0
permit_one at (contents.Level l ∷ []) slots tied p lawful = absurd lawful.fits_positions.0
permit_one at (contents.Audit r ∷ []) slots tied p lawful = absurd lawful.fits_positions.0
permit_one at (contents.Reset r ∷ []) slots tied p lawful = absurd lawful.fits_positions.0
permit_one at (contents.Whos ws ∷ []) slots tied p lawful = absurd lawful.fits_positions.0
permit_one at (contents.When c ∷ []) slots tied p lawful = absurd lawful.fits_positions.0
permit_one at (contents.Members ms ∷ []) slots tied p lawful = absurd lawful.fits_positions.0
permit_one at (contents.MemberNames ns ∷ []) slots tied p lawful = absurd lawful.fits_positions.0
permit_one at (contents.Generic g ∷ []) slots tied p lawful = absurd lawful.fits_positions.0
permit_one at (contents.Failures ∷ []) slots tied p lawful = absurd lawful.fits_positions.0
permit_one at (contents.LogOptions cs ∷ []) slots tied p lawful = absurd lawful.fits_positions.0
permit_one at (contents.Length n ∷ []) slots tied p lawful = absurd lawful.fits_positions.0
permit_one at (contents.Truth b ∷ []) slots tied p lawful = absurd lawful.fits_positions.0
permit_one at (contents.ClassNames n ∷ []) slots tied p lawful = absurd lawful.fits_positions.0
