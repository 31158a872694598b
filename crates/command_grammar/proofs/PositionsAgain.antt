-- Positional words that are names are read again from their texts.
use Rattle.std.proofs.Common.{◌≡◌, ℕ, suc, ◌+◌, List, [], ◌∷◌, ◌++◌, length, Bool, true, false, ◌&&◌, None, Some, Ok, refl, sym, ap, subst, ◌∙◌, append_assoc}
use Rattle.std.specs.List.{list_all}
use Rattle.std.proofs.lemmas.List.{append-nil}
use Rattle.std.proofs.lemmas.Bool.{and_parts}
use Rattle.generic_names.specs.Spelled.{Spelled}
use Rattle.command_words.specs.declared.quoting.Quoting.TheVariants.{Ignored}
use Rattle.command_words.specs.Tokens.{Token, Word, tokens_from}
use Rattle.command_words.specs.ValuedWords.{opens_value, faulty_at}
use Rattle.command_words.proofs.Letters.{is_letter}
use Rattle.access_levels.specs.Spelling.{id_of}
use Rattle.command_values.specs.declared.faults.Syntax.TheVariants as faults
use Rattle.command_values.specs.declared.value_kinds.ValueKind.{ValueKind}
use Rattle.command_values.specs.declared.value_kinds.ValueKind.TheVariants as kinds
use Rattle.command_grammar.specs.declared.table.Position.{Position}
use Rattle.command_grammar.specs.declared.table.Operand.{Operand}
use Rattle.command_values.specs.declared.values.Content.{Content}
use Rattle.command_values.specs.declared.values.Content.TheVariants as contents
use Rattle.command_values.specs.declared.values.Scope.{Scope}
use Rattle.command_values.specs.Results.{◌>>=◌, or_fault}
use Rattle.command_fields.specs.ProfileNames.{class_profile, text_by_kind}
use Rattle.command_values.specs.Values.{name_of, one, text_of}
use Rattle.command_grammar.specs.Reading.{takes_quotes, position_at, behind, positions_at}
use Rattle.command_grammar.specs.Canon.{positions_text}
use Rattle.command_values.specs.LawfulValues.{Fits, Suits}
use Rattle.command_grammar.specs.Lawful.{FitsPositions, SuitsPositions, known_last}
use Rattle.command_values.proofs.Names.{IsPlainName, name-plain}
use Rattle.command_values.proofs.Patterns.{IsSome, class-named}
use Rattle.command_grammar.proofs.TableFacts.{IsMore, is_name_kind}
use Rattle.command_grammar.proofs.OperandsAgain.{IsApart, plain_token, word-apart}

-- a positional word that is written as a name
record IsNameValue (at : Scope) (k : ValueKind) (v : Content) : Type 0 where
  name : List ℕ
  is : text_of v ≡ name
  some : IsMore name
  letters : list_all is_letter name ≡ true
  sound : (p : ℕ) → faulty_at Ignored p name ≡ None
  reads : (p : ℕ) → one at k p name ≡ Ok v

plain-some : (w : List ℕ) → IsPlainName w → IsMore w
plain-some [] plain = let no : id_of [] ≡ Ok [] = plain.spelled in cc
plain-some (b ∷ w) plain = tt

id-value : (at : Scope) (k : ValueKind) (w : List ℕ) → name_of k w ≡ Some w → ((p : ℕ) → one at k p w ≡ Ok (contents.Id w)) → IsNameValue at k (contents.Id w)
id-value at k w h reads =
    let plain = name-plain k w w h in
    record { name = w; is = refl; some = plain-some w plain; letters = plain.letters; sound = plain.sound; reads = reads }

text-some : (w : List ℕ) → IsSome w → IsMore w
text-some [] h = h
text-some (b ∷ w) h = tt

profile-value : (at : Scope) (n : Spelled) → class_profile at.known.class n.text ≡ Some n → IsNameValue at kinds.ClassProfile (contents.Profile n)
profile-value at n h =
    let named = class-named at.known.class n.text n h in
    record {
      name = n.text;
      is = ap (λ k. text_by_kind k n.text) named.kinds;
      some = text-some n.text named.plain.some;
      letters = named.plain.letters;
      sound = named.plain.sound;
      reads = λ p. ap (λ o. or_fault o (faults.BadValue p) >>= λ m. Ok (contents.Profile m)) (ap (class_profile at.known.class) named.plain.folded ∙ h);
    }

name_value : (at : Scope) (k : ValueKind) (v : Content) → is_name_kind k ≡ true → Fits k v → Suits at.known k v → IsNameValue at k v
name_value at kinds.Id (contents.Id w) names h suits = id-value at kinds.Id w h (λ p. rw h refl)
name_value at kinds.Group (contents.Id w) names h suits = id-value at kinds.Group w h (λ p. rw h refl)
name_value at kinds.Class (contents.Id w) names h suits = id-value at kinds.Class w h (λ p. rw h refl)
name_value at kinds.ClassProfile (contents.Profile n) names h suits = profile-value at n suits
name_value at kinds.Id contents.Flag names h suits = absurd h
name_value at kinds.Id (contents.Authority a) names h suits = absurd h
name_value at kinds.Id (contents.Name t) names h suits = absurd h
name_value at kinds.Id (contents.Ids xs) names h suits = absurd h
name_value at kinds.Id (contents.Level l) names h suits = absurd h
name_value at kinds.Id (contents.Audit r) names h suits = absurd h
name_value at kinds.Id (contents.Profile n) names h suits = absurd h
name_value at kinds.Id (contents.Reset r) names h suits = absurd h
name_value at kinds.Id (contents.Whos ws) names h suits = absurd h
name_value at kinds.Id (contents.When c) names h suits = absurd h
name_value at kinds.Id (contents.Members ms) names h suits = absurd h
name_value at kinds.Id (contents.MemberNames ns) names h suits = absurd h
name_value at kinds.Id (contents.Generic g) names h suits = absurd h
name_value at kinds.Id contents.Failures names h suits = absurd h
name_value at kinds.Id (contents.LogOptions cs) names h suits = absurd h
name_value at kinds.Id (contents.Length n) names h suits = absurd h
name_value at kinds.Id (contents.Truth b) names h suits = absurd h
name_value at kinds.Id (contents.ClassNames n) names h suits = absurd h
name_value at kinds.Group contents.Flag names h suits = absurd h
name_value at kinds.Group (contents.Authority a) names h suits = absurd h
name_value at kinds.Group (contents.Name t) names h suits = absurd h
name_value at kinds.Group (contents.Ids xs) names h suits = absurd h
name_value at kinds.Group (contents.Level l) names h suits = absurd h
name_value at kinds.Group (contents.Audit r) names h suits = absurd h
name_value at kinds.Group (contents.Profile n) names h suits = absurd h
name_value at kinds.Group (contents.Reset r) names h suits = absurd h
name_value at kinds.Group (contents.Whos ws) names h suits = absurd h
name_value at kinds.Group (contents.When c) names h suits = absurd h
name_value at kinds.Group (contents.Members ms) names h suits = absurd h
name_value at kinds.Group (contents.MemberNames ns) names h suits = absurd h
name_value at kinds.Group (contents.Generic g) names h suits = absurd h
name_value at kinds.Group contents.Failures names h suits = absurd h
name_value at kinds.Group (contents.LogOptions cs) names h suits = absurd h
name_value at kinds.Group (contents.Length n) names h suits = absurd h
name_value at kinds.Group (contents.Truth b) names h suits = absurd h
name_value at kinds.Group (contents.ClassNames n) names h suits = absurd h
name_value at kinds.Class contents.Flag names h suits = absurd h
name_value at kinds.Class (contents.Authority a) names h suits = absurd h
name_value at kinds.Class (contents.Name t) names h suits = absurd h
name_value at kinds.Class (contents.Ids xs) names h suits = absurd h
name_value at kinds.Class (contents.Level l) names h suits = absurd h
name_value at kinds.Class (contents.Audit r) names h suits = absurd h
name_value at kinds.Class (contents.Profile n) names h suits = absurd h
name_value at kinds.Class (contents.Reset r) names h suits = absurd h
name_value at kinds.Class (contents.Whos ws) names h suits = absurd h
name_value at kinds.Class (contents.When c) names h suits = absurd h
name_value at kinds.Class (contents.Members ms) names h suits = absurd h
name_value at kinds.Class (contents.MemberNames ns) names h suits = absurd h
name_value at kinds.Class (contents.Generic g) names h suits = absurd h
name_value at kinds.Class contents.Failures names h suits = absurd h
name_value at kinds.Class (contents.LogOptions cs) names h suits = absurd h
name_value at kinds.Class (contents.Length n) names h suits = absurd h
name_value at kinds.Class (contents.Truth b) names h suits = absurd h
name_value at kinds.Class (contents.ClassNames n) names h suits = absurd h
name_value at kinds.ClassProfile contents.Flag names h suits = absurd h
name_value at kinds.ClassProfile (contents.Id w) names h suits = absurd h
name_value at kinds.ClassProfile (contents.Authority a) names h suits = absurd h
name_value at kinds.ClassProfile (contents.Name t) names h suits = absurd h
name_value at kinds.ClassProfile (contents.Ids xs) names h suits = absurd h
name_value at kinds.ClassProfile (contents.Level l) names h suits = absurd h
name_value at kinds.ClassProfile (contents.Audit r) names h suits = absurd h
name_value at kinds.ClassProfile (contents.Reset r) names h suits = absurd h
name_value at kinds.ClassProfile (contents.Whos ws) names h suits = absurd h
name_value at kinds.ClassProfile (contents.When c) names h suits = absurd h
name_value at kinds.ClassProfile (contents.Members ms) names h suits = absurd h
name_value at kinds.ClassProfile (contents.MemberNames ns) names h suits = absurd h
name_value at kinds.ClassProfile (contents.Generic g) names h suits = absurd h
name_value at kinds.ClassProfile contents.Failures names h suits = absurd h
name_value at kinds.ClassProfile (contents.LogOptions cs) names h suits = absurd h
name_value at kinds.ClassProfile (contents.Length n) names h suits = absurd h
name_value at kinds.ClassProfile (contents.Truth b) names h suits = absurd h
name_value at kinds.ClassProfile (contents.ClassNames n) names h suits = absurd h
name_value at kinds.Flag v names h suits = cc
name_value at kinds.Authority v names h suits = cc
name_value at kinds.Name v names h suits = cc
name_value at kinds.Ids v names h suits = cc
name_value at kinds.Classes v names h suits = cc
name_value at kinds.Level v names h suits = cc
name_value at kinds.Audit v names h suits = cc
name_value at kinds.DataSetProfile v names h suits = cc
name_value at kinds.AnyProfile v names h suits = cc
name_value at kinds.Reset v names h suits = cc
name_value at kinds.Whos v names h suits = cc
name_value at kinds.When v names h suits = cc
name_value at kinds.AddedMembers v names h suits = cc
name_value at kinds.DroppedMembers v names h suits = cc
name_value at kinds.Generic v names h suits = cc
name_value at kinds.Failures v names h suits = cc
name_value at kinds.LogOptions v names h suits = cc
name_value at kinds.Length v names h suits = cc
name_value at kinds.Truth v names h suits = cc
name_value at kinds.ClassNames v names h suits = cc

not-quoted : (k : ValueKind) → is_name_kind k ≡ true → takes_quotes k ≡ false
not-quoted kinds.Flag h = refl
not-quoted kinds.Id h = refl
not-quoted kinds.Group h = refl
not-quoted kinds.Authority h = refl
not-quoted kinds.Name h = refl
not-quoted kinds.Ids h = refl
not-quoted kinds.Classes h = refl
not-quoted kinds.Level h = refl
not-quoted kinds.Audit h = refl
not-quoted kinds.Class h = refl
not-quoted kinds.ClassProfile h = refl
not-quoted kinds.Reset h = refl
not-quoted kinds.Whos h = refl
not-quoted kinds.When h = refl
not-quoted kinds.AddedMembers h = refl
not-quoted kinds.DroppedMembers h = refl
not-quoted kinds.Generic h = refl
not-quoted kinds.Failures h = refl
not-quoted kinds.LogOptions h = refl
not-quoted kinds.Length h = refl
not-quoted kinds.Truth h = refl
not-quoted kinds.ClassNames h = refl
not-quoted kinds.DataSetProfile h = cc
not-quoted kinds.AnyProfile h = cc

-- no value opens: the word is judged
judged : (at : Scope) (rows : List Operand) (pos : Position) (p : ℕ) (w : List ℕ) (ts : List Token) (v : Content) → is_name_kind pos.kind ≡ true → opens_value ts ≡ false → faulty_at Ignored p w ≡ None → one at pos.kind p w ≡ Ok v
    → position_at at rows pos (Word p w ∷ ts) ≡ Ok (v, ts)
judged at rows pos p w ts v names opens sound reads = rw (opens, not-quoted pos.kind names, sound, reads) refl

pub record ArePositionsRead (at : Scope) (rows : List Operand) (ps : List Position) (front vs : List Content) (rest : List ℕ) (tied : Bool) (p : ℕ) : Type 0 where
  pub tied_behind : Bool
  pub place_behind : ℕ
  pub scope_behind : Scope
  pub known_is : scope_behind.known ≡ known_last at.known ps vs
  pub reads : positions_at at rows ps front (tokens_from Ignored tied 0 p (positions_text vs ++ rest)) ≡ Ok (front ++ vs, scope_behind, tokens_from Ignored tied_behind 0 place_behind rest)

abbrev pub are_names : List Position → Bool
are_names ps = list_all (λ (pos : Position). is_name_kind pos.kind) ps

positions-apart : (at : Scope) (ps : List Position) (vs : List Content) (rest : List ℕ) → are_names ps ≡ true → FitsPositions ps vs → SuitsPositions at.known ps vs → IsApart rest → IsApart (positions_text vs ++ rest)
positions-apart at [] [] rest names h suits apart = apart
positions-apart at [] (v ∷ vs) rest names h suits apart = absurd h
positions-apart at (pos ∷ ps) [] rest names h suits apart = absurd h
positions-apart at (pos ∷ ps) (v ∷ vs) rest names h suits apart =
    let named = name_value at pos.kind v (and_parts _ _ names).0 h.0 suits.0 in
    let more = positions-apart (behind at pos.kind v) ps vs rest (and_parts _ _ names).1 h.1 suits.1 apart in
    let regrouped : 32 ∷ (named.name ++ (positions_text vs ++ rest)) ≡ positions_text (v ∷ vs) ++ rest =
    ap (λ bs. 32 ∷ bs) (sym (append_assoc named.name (positions_text vs) rest)) ∙ ap (λ bs. 32 ∷ ((bs ++ positions_text vs) ++ rest)) (sym named.is) in
    subst (λ (bs : List ℕ). IsApart bs) regrouped (word-apart named.name (positions_text vs ++ rest) named.some named.letters more.ends)

pub positions_again : (at : Scope) (rows : List Operand) (ps : List Position) (front vs : List Content) (rest : List ℕ) (tied : Bool) (p : ℕ) → are_names ps ≡ true → FitsPositions ps vs → SuitsPositions at.known ps vs → IsApart rest
    → ArePositionsRead at rows ps front vs rest tied p
positions_again at rows [] front [] rest tied p names h suits apart =
    record { tied_behind = tied; place_behind = p; scope_behind = at; known_is = refl; reads = ap (λ vs. Ok (vs, at, tokens_from Ignored tied 0 p rest)) (sym (append-nil front)) }
positions_again at rows [] front (v ∷ vs) rest tied p names h suits apart = absurd h
positions_again at rows (pos ∷ ps) front [] rest tied p names h suits apart = absurd h
positions_again at rows (pos ∷ ps) front (v ∷ vs) rest tied p names h suits apart =
    let name_here : is_name_kind pos.kind ≡ true = (and_parts _ _ names).0 in
    let named = name_value at pos.kind v name_here h.0 suits.0 in
    let beyond = positions-apart (behind at pos.kind v) ps vs rest (and_parts _ _ names).1 h.1 suits.1 apart in
    let regrouped : positions_text (v ∷ vs) ++ rest ≡ 32 ∷ (named.name ++ (positions_text vs ++ rest)) =
    ap (λ bs. 32 ∷ ((bs ++ positions_text vs) ++ rest)) named.is ∙ ap (λ bs. 32 ∷ bs) (append_assoc named.name (positions_text vs) rest) in
    let first : tokens_from Ignored tied 0 p (positions_text (v ∷ vs) ++ rest) ≡ Word (suc p) named.name ∷ tokens_from Ignored true 0 (suc p + length named.name) (positions_text vs ++ rest) =
    ap (tokens_from Ignored tied 0 p) regrouped
    ∙ plain_token (tied && true) (suc p) named.name (positions_text vs ++ rest) named.some named.letters beyond.ends in
    let more = positions_again (behind at pos.kind v) rows ps (front ++ v ∷ []) vs rest true (suc p + length named.name) (and_parts _ _ names).1 h.1 suits.1 apart in
    record {
      tied_behind = more.tied_behind;
      place_behind = more.place_behind;
      scope_behind = more.scope_behind;
      known_is = more.known_is;
      reads = ap (positions_at at rows (pos ∷ ps) front) first
          ∙ ap (λ r. r >>= λ x. positions_at (behind at pos.kind x.0) rows ps (front ++ x.0 ∷ []) x.1)
          (judged at rows pos (suc p) named.name (tokens_from Ignored true 0 (suc p + length named.name) (positions_text vs ++ rest)) v name_here
          (beyond.opens true (suc p + length named.name)) (named.sound (suc p)) (named.reads (suc p)))
          ∙ more.reads
          ∙ ap (λ us. Ok (us, more.scope_behind, tokens_from Ignored more.tied_behind 0 more.place_behind rest)) (append_assoc front (v ∷ []) vs);
    }
