-- The operands of a lawful command are read again from their texts, and closed as they are.
use Rattle.std.proofs.Common.{◌≡◌, ℕ, suc, ◌+◌, List, [], ◌∷◌, ◌++◌, length, replicate, Bool, true, false, not, ◌&&◌, None, Some, Ok, refl, sym, ap, subst, ◌∙◌, arith, append_assoc, length-append}
use Rattle.std.specs.Prelude.{position, slice_set, is_some}
use Rattle.std.specs.List.{list_all}
use Rattle.std.proofs.lemmas.List.{get_or_at, set_at}
use Rattle.generic_names.specs.Spelled.{Spelled}
use Rattle.command_values.specs.declared.values.Known.{Known}
use Rattle.command_words.specs.declared.quoting.Quoting.TheVariants.{Ignored}
use Rattle.command_words.specs.Tokens.{Word, within, tokens_from}
use Rattle.command_words.specs.ValuedWords.{ValuedWord, Alone, Valued, valued_words, opens_value, faulty_at}
use Rattle.command_words.proofs.Letters.{is_letter, Ignored-steady, EndsWord}
use Rattle.command_words.proofs.Spelled.{word_token, group_token}
use Rattle.command_values.specs.declared.value_kinds.ValueKind.{ValueKind}
use Rattle.command_values.specs.declared.value_kinds.ValueKind.TheVariants as kinds
use Rattle.command_grammar.specs.declared.table.Operand.{Operand}
use Rattle.command_values.specs.declared.values.Content.{Content}
use Rattle.command_values.specs.declared.values.Content.TheVariants as contents
use Rattle.command_values.specs.declared.values.Scope.{Scope}
use Rattle.command_values.specs.Results.{◌>>=◌}
use Rattle.command_values.specs.OperandWords.{spelling_of}
use Rattle.command_grammar.specs.Table.{operands_of}
use Rattle.command_values.specs.Values.{bare, text_of}
use Rattle.command_grammar.specs.Reading.{Generic, Slots, is_spelling, row_at, no_operand, is_given, slot_of, operand_at, operands_at, clash, unless_clash, completed, unless_lacking, closed, no_slots}
use Rattle.command_grammar.specs.Canon.{value_text, operands_text}
use Rattle.command_values.specs.LawfulValues.{Fits, Suits}
use Rattle.command_grammar.specs.Lawful.{FitsAll, SuitsAll, IsLawful}
use Rattle.command_values.proofs.WordItems.{word_items}
use Rattle.command_values.proofs.ValueAgain.{IsShown, value-again, value-ends}
use Rattle.command_grammar.proofs.TableFacts.{IsMore, spelling-plain, is_profile_kind, AreFound, operands-found}

-- the first token is a plain word
pub plain_token : (tied : Bool) (p : ℕ) (w rest : List ℕ) → IsMore w → list_all is_letter w ≡ true → EndsWord rest
    → tokens_from Ignored tied 0 p (w ++ rest) ≡ Word p w ∷ tokens_from Ignored true 0 (p + length w) rest
plain_token tied p [] rest some letters ends = absurd some
plain_token tied p (b ∷ w) rest some letters ends = word_token Ignored Ignored-steady tied p b w rest letters ends

-- what follows an operand begins with no byte of a word, and with no value
pub record IsApart (rest : List ℕ) : Type 0 where
  pub ends : EndsWord rest
  pub opens : (tied : Bool) (p : ℕ) → opens_value (tokens_from Ignored tied 0 p rest) ≡ false

nil-apart : IsApart []
nil-apart = record { ends = tt; opens = λ tied p. refl }

-- a blank and a word
pub word-apart : (w rest : List ℕ) → IsMore w → list_all is_letter w ≡ true → EndsWord rest → IsApart (32 ∷ (w ++ rest))
word-apart w rest some letters ends =
    record { ends = refl; opens = λ tied p. ap opens_value (plain_token (tied && true) (suc p) w rest some letters ends) }

value-then_ends : (v : Content) (rest : List ℕ) → EndsWord rest → EndsWord (value_text v ++ rest)
value-then_ends contents.Flag rest h = h
value-then_ends (contents.Id w) rest h = refl
value-then_ends (contents.Authority a) rest h = refl
value-then_ends (contents.Name t) rest h = refl
value-then_ends (contents.Ids xs) rest h = refl
value-then_ends (contents.Level l) rest h = refl
value-then_ends (contents.Audit r) rest h = refl
value-then_ends (contents.Profile n) rest h = refl
value-then_ends (contents.Reset r) rest h = refl
value-then_ends (contents.Whos ws) rest h = refl
value-then_ends (contents.When c) rest h = refl
value-then_ends (contents.Members ms) rest h = refl
value-then_ends (contents.MemberNames ns) rest h = refl
value-then_ends (contents.Generic g) rest h = refl
value-then_ends contents.Failures rest h = refl
value-then_ends (contents.LogOptions cs) rest h = refl
value-then_ends (contents.Length n) rest h = refl
value-then_ends (contents.Truth b) rest h = refl
value-then_ends (contents.ClassNames n) rest h = refl

pub operands-apart : (os : List Operand) (ss : Slots) → IsApart (operands_text os ss)
operands-apart [] [] = nil-apart
operands-apart [] (s ∷ ss) = nil-apart
operands-apart (o ∷ os) [] = nil-apart
operands-apart (o ∷ os) (None ∷ ss) = operands-apart os ss
operands-apart (o ∷ os) (Some v ∷ ss) =
    let plain = spelling-plain o.word in
    word-apart (spelling_of o.word) (value_text v ++ operands_text os ss) plain.some plain.letters (value-then_ends v (operands_text os ss) (operands-apart os ss).ends)

-- an operand that wasn't given before, by its full spelling
slot-ok : (rows : List Operand) (slots : Slots) (p : ℕ) (o : Operand) (k : ℕ) → position (is_spelling (spelling_of o.word)) rows ≡ Some k → is_given slots k ≡ false
    → slot_of rows slots p (spelling_of o.word) ≡ Ok k
slot-ok rows slots p o k found free =
    let plain = spelling-plain o.word in
    let sound : faulty_at Ignored p (spelling_of o.word) ≡ None = plain.sound p in
    rw (sound, plain.folded, found, free) refl

bare-again : (at : Scope) (k : ValueKind) (p : ℕ) → Fits k contents.Flag → bare at k p ≡ Ok contents.Flag
bare-again at kinds.Flag p h = refl
bare-again at kinds.Id p h = absurd h
bare-again at kinds.Group p h = absurd h
bare-again at kinds.Authority p h = absurd h
bare-again at kinds.Name p h = absurd h
bare-again at kinds.Ids p h = absurd h
bare-again at kinds.Classes p h = absurd h
bare-again at kinds.Level p h = absurd h
bare-again at kinds.Audit p h = absurd h
bare-again at kinds.Class p h = absurd h
bare-again at kinds.DataSetProfile p h = absurd h
bare-again at kinds.ClassProfile p h = absurd h
bare-again at kinds.AnyProfile p h = absurd h
bare-again at kinds.Reset p h = absurd h
bare-again at kinds.Whos p h = absurd h
bare-again at kinds.When p h = absurd h
bare-again at kinds.AddedMembers p h = absurd h
bare-again at kinds.DroppedMembers p h = absurd h
bare-again at kinds.Generic p h = absurd h
bare-again at kinds.Failures p h = absurd h
bare-again at kinds.LogOptions p h = absurd h
bare-again at kinds.Length p h = absurd h
bare-again at kinds.Truth p h = absurd h
bare-again at kinds.ClassNames p h = absurd h

-- what an operand's text is read as: an item, and the text behind it
pub record IsReadAs (known : Known) (o : Operand) (v : Content) (rest : List ℕ) (tied : Bool) (p : ℕ) : Type 0 where
  pub item : ValuedWord
  pub tied_behind : Bool
  pub place_behind : ℕ
  pub item_first : valued_words (tokens_from Ignored tied 0 p (32 ∷ (spelling_of o.word ++ (value_text v ++ rest)))) ≡ item ∷ valued_words (tokens_from Ignored tied_behind 0 place_behind rest)
  pub reads : (at : Scope) → at.known ≡ known → (rows : List Operand) (slots : Slots) (k : ℕ) → row_at rows k ≡ o → position (is_spelling (spelling_of o.word)) rows ≡ Some k → is_given slots k ≡ false
      → operand_at at rows slots item ≡ Ok (k, v)

flag-read : (known : Known) (o : Operand) (rest : List ℕ) (tied : Bool) (p : ℕ) → Fits o.kind contents.Flag → IsApart rest → IsReadAs known o contents.Flag rest tied p
flag-read known o rest tied p h apart =
    let plain = spelling-plain o.word in
    record {
      item = Alone (suc p) (spelling_of o.word);
      tied_behind = true;
      place_behind = suc p + length (spelling_of o.word);
      item_first = ap valued_words (plain_token (tied && true) (suc p) (spelling_of o.word) rest plain.some plain.letters apart.ends)
          ∙ word_items (tokens_from Ignored true 0 (suc p + length (spelling_of o.word)) rest) (suc p) (spelling_of o.word) (apart.opens true (suc p + length (spelling_of o.word)));
      reads = λ at same rows slots k here found free.
          rw (slot-ok rows slots (suc p) o k found free, here, bare-again at o.kind (suc p) h) refl;
    }

-- an operand and its value
valued-read : (known : Known) (o : Operand) (v : Content) (rest : List ℕ) (tied : Bool) (p : ℕ) → Fits o.kind v → Suits known o.kind v → IsShown v → value_text v ≡ 40 ∷ (text_of v ++ 41 ∷ []) → IsReadAs known o v rest tied p
valued-read known o v rest tied p h suits shown written =
    let plain = spelling-plain o.word in
    let S : List ℕ = spelling_of o.word in
    let q : ℕ = suc p + length (spelling_of o.word) in
    let regrouped : value_text v ++ rest ≡ 40 ∷ (text_of v ++ 41 ∷ rest) =
    ap (λ bs. bs ++ rest) written ∙ ap (λ bs. 40 ∷ bs) (append_assoc (text_of v) (41 ∷ []) rest) in
    let first : tokens_from Ignored (tied && true) 0 (suc p) (spelling_of o.word ++ (value_text v ++ rest)) ≡ Word (suc p) (spelling_of o.word) ∷ tokens_from Ignored true 0 (suc p + length (spelling_of o.word)) (40 ∷ (text_of v ++ 41 ∷ rest)) =
    ap (λ bs. tokens_from Ignored (tied && true) 0 (suc p) (spelling_of o.word ++ bs)) regrouped
    ∙ plain_token (tied && true) (suc p) (spelling_of o.word) (40 ∷ (text_of v ++ 41 ∷ rest)) plain.some plain.letters refl in
    let second = group_token Ignored true (suc p + length (spelling_of o.word)) (text_of v) rest (value-ends known o.kind v (suc p + length (spelling_of o.word)) (suc (suc p + length (spelling_of o.word))) rest h shown suits) in
    record {
      item = Valued (suc p) (spelling_of o.word) (within (suc p + length (spelling_of o.word)) (text_of v));
      tied_behind = false;
      place_behind = suc p + length (spelling_of o.word) + length (text_of v) + 2;
      item_first = ap valued_words first ∙ ap (λ ts. valued_words (Word (suc p) (spelling_of o.word) ∷ ts)) second;
      reads = λ at same rows slots k here found free.
          let suits_here : Suits at.known o.kind v = subst (λ (k : Known). Suits k o.kind v) (sym same) suits in
          rw (slot-ok rows slots (suc p) o k found free, here, value-again at o.kind (suc p) (suc p + length (spelling_of o.word)) v h shown suits_here) refl;
    }

no-profile : (k : ValueKind) (n : Spelled) → not (is_profile_kind k) ≡ true → Fits k (contents.Profile n) → ⊥
no-profile kinds.Flag n other h = h
no-profile kinds.Id n other h = h
no-profile kinds.Group n other h = h
no-profile kinds.Authority n other h = h
no-profile kinds.Name n other h = h
no-profile kinds.Ids n other h = h
no-profile kinds.Classes n other h = h
no-profile kinds.Level n other h = h
no-profile kinds.Audit n other h = h
no-profile kinds.Class n other h = h
no-profile kinds.DataSetProfile n other h = cc
no-profile kinds.ClassProfile n other h = cc
no-profile kinds.AnyProfile n other h = cc
no-profile kinds.Reset n other h = h
no-profile kinds.Whos n other h = h
no-profile kinds.When n other h = h
no-profile kinds.AddedMembers n other h = h
no-profile kinds.DroppedMembers n other h = h
no-profile kinds.Generic n other h = h
no-profile kinds.Failures n other h = h
no-profile kinds.LogOptions n other h = h
no-profile kinds.Length n other h = h
no-profile kinds.Truth n other h = h
no-profile kinds.ClassNames n other h = h

operand-read : (known : Known) (o : Operand) (v : Content) (rest : List ℕ) (tied : Bool) (p : ℕ) → not (is_profile_kind o.kind) ≡ true → Fits o.kind v → Suits known o.kind v → IsApart rest → IsReadAs known o v rest tied p
operand-read known o contents.Flag rest tied p other h suits apart = flag-read known o rest tied p h apart
operand-read known o (contents.Id w) rest tied p other h suits apart = valued-read known o (contents.Id w) rest tied p h suits tt refl
operand-read known o (contents.Authority a) rest tied p other h suits apart = valued-read known o (contents.Authority a) rest tied p h suits tt refl
operand-read known o (contents.Name t) rest tied p other h suits apart = valued-read known o (contents.Name t) rest tied p h suits tt refl
operand-read known o (contents.Ids xs) rest tied p other h suits apart = valued-read known o (contents.Ids xs) rest tied p h suits tt refl
operand-read known o (contents.Level l) rest tied p other h suits apart = valued-read known o (contents.Level l) rest tied p h suits tt refl
operand-read known o (contents.Audit r) rest tied p other h suits apart = valued-read known o (contents.Audit r) rest tied p h suits tt refl
operand-read known o (contents.Profile n) rest tied p other h suits apart = absurd (no-profile o.kind n other h)
operand-read known o (contents.Reset r) rest tied p other h suits apart = valued-read known o (contents.Reset r) rest tied p h suits tt refl
operand-read known o (contents.Whos ws) rest tied p other h suits apart = valued-read known o (contents.Whos ws) rest tied p h suits tt refl
operand-read known o (contents.When c) rest tied p other h suits apart = valued-read known o (contents.When c) rest tied p h suits tt refl
operand-read known o (contents.Members ms) rest tied p other h suits apart = valued-read known o (contents.Members ms) rest tied p h suits tt refl
operand-read known o (contents.MemberNames ns) rest tied p other h suits apart = valued-read known o (contents.MemberNames ns) rest tied p h suits tt refl
operand-read known o (contents.Generic g) rest tied p other h suits apart = valued-read known o (contents.Generic g) rest tied p h suits tt refl
operand-read known o contents.Failures rest tied p other h suits apart = valued-read known o contents.Failures rest tied p h suits tt refl
operand-read known o (contents.LogOptions cs) rest tied p other h suits apart = valued-read known o (contents.LogOptions cs) rest tied p h suits tt refl
operand-read known o (contents.Length n) rest tied p other h suits apart = valued-read known o (contents.Length n) rest tied p h suits tt refl
operand-read known o (contents.Truth b) rest tied p other h suits apart = valued-read known o (contents.Truth b) rest tied p h suits tt refl
operand-read known o (contents.ClassNames n) rest tied p other h suits apart = valued-read known o (contents.ClassNames n) rest tied p h suits tt refl

-- The rows from os on: what stands before them was read, and their slots are empty.
operands_again : (at : Scope) (rows pre os : List Operand) (front ss : Slots) (k : ℕ) (tied : Bool) (p : ℕ) → rows ≡ pre ++ os → length pre ≡ k → length front ≡ k → AreFound rows k os → FitsAll os ss → SuitsAll at.known os ss
    → operands_at at rows (front ++ replicate (length os) None) (valued_words (tokens_from Ignored tied 0 p (operands_text os ss))) ≡ Ok (front ++ ss)
operands_again at rows pre [] front [] k tied p whole at_pre at_front found h suits = refl
operands_again at rows pre [] front (s ∷ ss) k tied p whole at_pre at_front found h suits = absurd h
operands_again at rows pre (o ∷ os) front [] k tied p whole at_pre at_front found h suits = absurd h
operands_again at rows pre (o ∷ os) front (None ∷ ss) k tied p whole at_pre at_front found h suits =
    let pre' : length (pre ++ o ∷ []) ≡ suc k = omega (arith, length-append pre (o ∷ [])) in
    let front' : length (front ++ None ∷ []) ≡ suc k = omega (arith, length-append front (None ∷ [])) in
    let whole' : rows ≡ (pre ++ o ∷ []) ++ os = whole ∙ sym (append_assoc pre (o ∷ []) os) in
    ap (λ slots. operands_at at rows slots (valued_words (tokens_from Ignored tied 0 p (operands_text os ss)))) (sym (append_assoc front (None ∷ []) (replicate (length os) None)))
    ∙ operands_again at rows (pre ++ o ∷ []) os (front ++ None ∷ []) ss (suc k) tied p whole' pre' front' found.2 h suits
    ∙ ap Ok (append_assoc front (None ∷ []) ss)
operands_again at rows pre (o ∷ os) front (Some v ∷ ss) k tied p whole at_pre at_front found h suits =
    let pre' : length (pre ++ o ∷ []) ≡ suc k = omega (arith, length-append pre (o ∷ [])) in
    let front' : length (front ++ Some v ∷ []) ≡ suc k = omega (arith, length-append front (Some v ∷ [])) in
    let whole' : rows ≡ (pre ++ o ∷ []) ++ os = whole ∙ sym (append_assoc pre (o ∷ []) os) in
    let here : row_at rows k ≡ o = ap (λ rs. row_at rs k) whole ∙ get_or_at pre o os no_operand k at_pre in
    let free : is_given (front ++ None ∷ replicate (length os) None) k ≡ false = ap is_some (get_or_at front None (replicate (length os) None) None k at_front) in
    let read = operand-read at.known o v (operands_text os ss) tied p found.1 h.0 suits.0 (operands-apart os ss) in
    let stored : slice_set (front ++ None ∷ replicate (length os) None) k (Some v) ≡ (front ++ Some v ∷ []) ++ replicate (length os) None =
    set_at front None (replicate (length os) None) (Some v) k at_front ∙ sym (append_assoc front (Some v ∷ []) (replicate (length os) None)) in
    ap (operands_at at rows (front ++ None ∷ replicate (length os) None)) read.item_first
    ∙ ap (λ r. r >>= λ x. operands_at at rows (slice_set (front ++ None ∷ replicate (length os) None) x.0 (Some x.1)) (valued_words (tokens_from Ignored read.tied_behind 0 read.place_behind (operands_text os ss))))
    (read.reads at refl rows (front ++ None ∷ replicate (length os) None) k here found.0 free)
    ∙ ap (λ slots. operands_at at rows slots (valued_words (tokens_from Ignored read.tied_behind 0 read.place_behind (operands_text os ss)))) stored
    ∙ operands_again at rows (pre ++ o ∷ []) os (front ++ Some v ∷ []) ss (suc k) read.tied_behind read.place_behind whole' pre' front' found.2 h.1 suits.1
    ∙ ap Ok (append_assoc front (Some v ∷ []) ss)

-- the slots of a lawful command are closed as they are
pub closed-again : (g : Generic) → IsLawful g → closed g.verb g.slots ≡ Ok g.slots
closed-again g lawful =
    ap (λ lack. unless_lacking lack (unless_clash (clash g.verb (completed g.verb g.slots)) (completed g.verb g.slots))) lawful.needed
    ∙ ap (λ ss. unless_clash (clash g.verb ss) ss) lawful.complete
    ∙ ap (λ c. unless_clash c g.slots) lawful.apart

pub filled-again : (at : Scope) (g : Generic) (tied : Bool) (p : ℕ) → IsLawful g → SuitsAll at.known (operands_of g.verb) g.slots
    → operands_at at (operands_of g.verb) (no_slots (operands_of g.verb)) (valued_words (tokens_from Ignored tied 0 p (operands_text (operands_of g.verb) g.slots))) ≡ Ok g.slots
filled-again at g tied p lawful suits = operands_again at (operands_of g.verb) [] (operands_of g.verb) [] g.slots 0 tied p refl refl refl (operands-found g.verb) lawful.fits_operands suits

-- the operands behind the positional words
pub behind_again : (at : Scope) (g : Generic) (tied : Bool) (p : ℕ) → IsLawful g → SuitsAll at.known (operands_of g.verb) g.slots
    → (operands_at at (operands_of g.verb) (no_slots (operands_of g.verb)) (valued_words (tokens_from Ignored tied 0 p (operands_text (operands_of g.verb) g.slots))) >>= λ slots. closed g.verb slots >>= λ slots. Ok (record { verb = g.verb; positions = g.positions; slots = slots })) ≡ Ok g
behind_again at g tied p lawful suits =
    ap (λ r. r >>= λ slots. closed g.verb slots >>= λ slots. Ok (record { verb = g.verb; positions = g.positions; slots = slots })) (filled-again at g tied p lawful suits)
    ∙ ap (λ r. r >>= λ slots. Ok (record { verb = g.verb; positions = g.positions; slots = slots })) (closed-again g lawful)
