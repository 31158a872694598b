-- A value that was written is read again, whatever follows its parenthesis.
use Rattle.std.proofs.Common.{◌≡◌, ℕ, suc, ◌+◌, List, [], ◌∷◌, ◌++◌, length, map, Bool, true, false, cond, None, Some, Ok, refl, sym, ap, subst, ◌∙◌, append_assoc, arith}
use Rattle.std.specs.Prelude.{◌==◌, nat_le, bytes_eq, codes}
use Rattle.std.specs.List.{list_all}
use Rattle.std.proofs.lemmas.List.{append-nil}
use Rattle.std.proofs.lemmas.Bool.{eqb-true, and_parts}
use Rattle.std.proofs.lemmas.Bool.Decides.{nat_tests}
use Rattle.std.proofs.lemmas.Slice.Eq.{bytes_eq-Decides}
use Rattle.access_levels.specs.declared.entries.Who.{Who}
use Rattle.access_levels.specs.declared.entries.Who.TheVariants.{Star, Named}
use Rattle.access_levels.specs.Level.{authority_name, level_name}
use Rattle.access_levels.specs.declared.levels.Level.{Level}
use Rattle.access_levels.specs.declared.levels.Level.TheVariants.{NoAccess, Execute, Read, Update, Control, Alter}
use Rattle.access_levels.specs.declared.authorities.GroupAuthority.{GroupAuthority}
use Rattle.access_levels.specs.declared.authorities.GroupAuthority.TheVariants.{MayUse, MayCreate, MayConnect, MayJoin}
use Rattle.access_levels.specs.Spelling.{id_of}
use Rattle.command_words.specs.declared.quoting.Quoting.TheVariants.{Ignored, Outside}
use Rattle.command_words.specs.Quotes.{doubled}
use Rattle.command_words.specs.Tokens.{within, group_end, tokens, tokens_from}
use Rattle.command_words.specs.ValuedWords.{ValuedWord, Alone, valued_words, faulty_at}
use Rattle.command_words.proofs.Letters.{is_letter, Outside-steady}
use Rattle.command_words.proofs.Spelled.{is_calm, quoted, word_token, word_alone, quoted_token, group_end-calm, group_end-quoted, calm-letters}
use Rattle.command_values.specs.declared.value_kinds.ValueKind.{ValueKind}
use Rattle.command_values.specs.declared.value_kinds.ValueKind.TheVariants as kinds
use Rattle.command_values.specs.declared.values.Content.{Content}
use Rattle.command_values.specs.declared.values.Content.TheVariants as contents
use Rattle.command_values.specs.declared.values.Scope.{Scope}
use Rattle.command_fields.specs.declared.resets.Reset.{Reset}
use Rattle.command_fields.specs.declared.resets.Reset.TheVariants as resets
use Rattle.command_values.specs.declared.faults.Syntax.TheVariants as faults
use Rattle.command_fields.specs.declared.class_fields.ClassNames.{ClassNames}
use Rattle.command_fields.specs.declared.class_fields.ClassNames.TheVariants as class_names
use Rattle.command_fields.specs.Classes.{class_names_name, is_longest}
use Rattle.command_values.specs.Members.{number_of, number_text}
use Rattle.command_values.specs.Results.{◌>>=◌, or_fault}
use Rattle.command_values.specs.Values.{name_of, if_name, unquoted, name_text, if_longest, truth_name, single, names, several, whos, value, more_text, ids_text, text_of}
use Rattle.command_fields.specs.UserNames.{is_name}
use Rattle.command_fields.specs.Resets.{reset_name}
use Rattle.command_values.specs.LawfulValues.{AreNames, IsNonEmpty, AreWhos, Fits, Suits}
use Rattle.command_values.proofs.Names.{IsPlainName, name-plain}
use Rattle.command_values.proofs.WordItems.{word_items}
use Rattle.command_values.proofs.NamesAgain.{more_ends, no_empty, more_opens, names_step, names_again, some_names_again, ids_calm}
use Rattle.command_values.proofs.LogOptionsAgain.{log_clauses_again, log_clauses_end}
use Rattle.command_values.specs.Entries.{whos_text}
use Rattle.command_values.specs.declared.values.Known.{Known}
use Rattle.command_fields.specs.MemberForms.{member_form}
use Rattle.command_values.proofs.Patterns.{IsSome, sound-letters, sound-faultless}
use Rattle.command_values.proofs.MembersAgain.{IsNumberText, number-text, added_again, dropped_again, added_end, dropped_end}
use Rattle.command_values.proofs.EntriesAgain.{listed, port_again, port_ends}
use Rattle.command_values.proofs.AuditAgain.{level_calm, audit_again, audit_ends}

-- a value of one name
name_item : (q : ℕ) (w : List ℕ) → IsPlainName w → valued_words (tokens (within q w)) ≡ Alone (suc q) w ∷ []
unfolding tokens
name_item q [] plain = let no : id_of [] ≡ Ok [] = plain.spelled in cc
name_item q (b ∷ w) plain = ap valued_words (word_alone Outside Outside-steady false (suc q) b w plain.letters)

single_id : (at : Scope) (p q : ℕ) (w : List ℕ) → name_of kinds.Id w ≡ Some w → single at kinds.Id p (valued_words (tokens (within q w))) ≡ Ok (contents.Id w)
single_id at p q w h =
    let plain = name-plain kinds.Id w w h in
    let sound : faulty_at Ignored (suc q) w ≡ None = plain.sound (suc q) in
    rw (name_item q w plain, sound, h) refl

single_group : (at : Scope) (p q : ℕ) (w : List ℕ) → name_of kinds.Group w ≡ Some w → single at kinds.Group p (valued_words (tokens (within q w))) ≡ Ok (contents.Id w)
single_group at p q w h =
    let plain = name-plain kinds.Group w w h in
    let sound : faulty_at Ignored (suc q) w ≡ None = plain.sound (suc q) in
    rw (name_item q w plain, sound, h) refl

single_class : (at : Scope) (p q : ℕ) (w : List ℕ) → name_of kinds.Class w ≡ Some w → single at kinds.Class p (valued_words (tokens (within q w))) ≡ Ok (contents.Id w)
single_class at p q w h =
    let plain = name-plain kinds.Class w w h in
    let sound : faulty_at Ignored (suc q) w ≡ None = plain.sound (suc q) in
    rw (name_item q w plain, sound, h) refl

single_level : (at : Scope) (p q : ℕ) (l : Level) → single at kinds.Level p (valued_words (tokens (within q (level_name l)))) ≡ Ok (contents.Level l)
unfolding tokens
single_level at p q NoAccess = refl
single_level at p q Execute = refl
single_level at p q Read = refl
single_level at p q Update = refl
single_level at p q Control = refl
single_level at p q Alter = refl

single_reset : (at : Scope) (p q : ℕ) (r : Reset) → single at kinds.Reset p (valued_words (tokens (within q (reset_name r)))) ≡ Ok (contents.Reset r)
unfolding tokens
single_reset at p q resets.All = refl
single_reset at p q resets.Standard = refl
single_reset at p q resets.When = refl

single_failures : (at : Scope) (p q : ℕ) → single at kinds.Failures p (valued_words (tokens (within q (codes "FAILURES")))) ≡ Ok contents.Failures
unfolding tokens
single_failures at p q = refl

single_authority : (at : Scope) (p q : ℕ) (a : GroupAuthority) → single at kinds.Authority p (valued_words (tokens (within q (authority_name a)))) ≡ Ok (contents.Authority a)
unfolding tokens
single_authority at p q MayUse = refl
single_authority at p q MayCreate = refl
single_authority at p q MayConnect = refl
single_authority at p q MayJoin = refl

-- a value of one word of letters and digits
word_item : (q : ℕ) (w : List ℕ) → IsSome w → list_all is_letter w ≡ true → valued_words (tokens (within q w)) ≡ Alone (suc q) w ∷ []
unfolding tokens
word_item q [] some letters = absurd some
word_item q (b ∷ w) some letters = ap valued_words (word_alone Outside Outside-steady false (suc q) b w letters)

number-some : (w : List ℕ) (n : ℕ) → number_of w ≡ Some n → IsSome w
number-some [] n h = cc
number-some (b ∷ w) n h = tt

length_text : (n : ℕ) → is_longest n ≡ true → IsNumberText n
length_text n h =
    let low : nat_le 1 n ≡ true = (and_parts (nat_le 1 n) (nat_le n 246) h).0 in
    let high : nat_le n 246 ≡ true = (and_parts (nat_le 1 n) (nat_le n 246) h).1 in
    let below : nat_le n 254 ≡ true = grind (arith, nat_tests) in
    number-text n (rw (low, below) refl)

single_length : (at : Scope) (p q n : ℕ) → is_longest n ≡ true → single at kinds.Length p (valued_words (tokens (within q (number_text n)))) ≡ Ok (contents.Length n)
single_length at p q n h =
    let number = length_text n h in
    let item : valued_words (tokens (within q (number_text n))) ≡ Alone (suc q) (number_text n) ∷ [] = word_item q (number_text n) (number-some (number_text n) n number.back) (sound-letters (number_text n) number.sound) in
    let sound : faulty_at Ignored (suc q) (number_text n) ≡ None = sound-faultless (suc q) (number_text n) number.sound in
    let read : or_fault (if_longest (number_of (number_text n))) (faults.BadValue (suc q)) ≡ Ok n = ap (λ o. or_fault (if_longest o) (faults.BadValue (suc q))) number.back ∙ ap (λ c. or_fault (cond c (Some n) None) (faults.BadValue (suc q))) h in
    rw (item, sound, read) refl

single_truth : (at : Scope) (p q : ℕ) (b : Bool) → single at kinds.Truth p (valued_words (tokens (within q (truth_name b)))) ≡ Ok (contents.Truth b)
unfolding tokens
single_truth at p q true = refl
single_truth at p q false = refl

single_class_names : (at : Scope) (p q : ℕ) (n : ClassNames) → single at kinds.ClassNames p (valued_words (tokens (within q (class_names_name n)))) ≡ Ok (contents.ClassNames n)
unfolding tokens
single_class_names at p q class_names.Full = refl
single_class_names at p q class_names.Id = refl

-- the text of a name, between its quotes
unquoted-one : (front t : List ℕ) (b : ℕ) (c : Bool) → (b == 39) ≡ c
    → ((front : List ℕ) → unquoted false front (doubled t ++ 39 ∷ []) ≡ Some (front ++ t))
    → unquoted false front (doubled (b ∷ t) ++ 39 ∷ []) ≡ Some (front ++ b ∷ t)
unquoted-one front t b true quote more =
    let same : b ≡ 39 = eqb-true b 39 quote in
    rw quote (more (front ++ 39 ∷ []) ∙ ap Some (append_assoc front (39 ∷ []) t ∙ ap (λ n. front ++ n ∷ t) (sym same)))
unquoted-one front t b false other more =
    rw other (rw other (more (front ++ b ∷ []) ∙ ap Some (append_assoc front (b ∷ []) t)))

unquoted-doubled : (front t : List ℕ) → unquoted false front (doubled t ++ 39 ∷ []) ≡ Some (front ++ t)
unquoted-doubled front [] = ap Some (sym (append-nil front))
unquoted-doubled front (b ∷ t) = unquoted-one front t b (b == 39) refl (λ f. unquoted-doubled f t)

name_text-quoted : (t : List ℕ) → is_name t ≡ true → name_text (quoted t) ≡ Some t
name_text-quoted t h = ap if_name (unquoted-doubled [] t) ∙ rw h refl

single_name : (at : Scope) (p q : ℕ) (t : List ℕ) → is_name t ≡ true → single at kinds.Name p (valued_words (tokens (within q (quoted t)))) ≡ Ok (contents.Name t)
unfolding tokens
single_name at p q t h =
    let text : name_text (quoted t) ≡ Some t = name_text-quoted t h in
    ap (λ ts. single at kinds.Name p (valued_words ts)) (quoted_token false (suc q) t) ∙ rw text refl

several_again : (k : ValueKind) (p q : ℕ) (xs : List (List ℕ)) → IsNonEmpty xs → AreNames k xs → several k p (valued_words (tokens (within q (ids_text xs)))) ≡ Ok (contents.Ids xs)
several_again k p q xs some h = ap (λ r. r >>= λ xs. Ok (contents.Ids xs)) (some_names_again k p q xs some h)

-- users and groups: a word that is no `*`, and the names with it
not_star : (b : ℕ) (w : List ℕ) → id_of (b ∷ w) ≡ Ok (b ∷ w) → bytes_eq (b ∷ w) (codes "*") ≡ false
not_star b w h = star-tested (bytes_eq (b ∷ w) (codes "*")) refl
  where
    star-tested : (c : Bool) → bytes_eq (b ∷ w) (codes "*") ≡ c → c ≡ false
    star-tested true is =
        let same : b ∷ w ≡ codes "*" = (bytes_eq-Decides (b ∷ w) (codes "*")).0 is in
        let no : id_of (codes "*") ≡ Ok (codes "*") = subst (λ (x : List ℕ). id_of x ≡ Ok x) same h in
        cc
    star-tested false is = refl

-- the same for a list of names that begins with b ∷ w
whos_names : (p n b : ℕ) (w : List ℕ) (is : List ValuedWord) (xs : List (List ℕ)) → id_of (b ∷ w) ≡ Ok (b ∷ w) → faulty_at Ignored n (b ∷ w) ≡ None → names kinds.Ids [] (Alone n (b ∷ w) ∷ is) ≡ Ok xs
    → whos p (Alone n (b ∷ w) ∷ is) ≡ Ok (map Named xs)
whos_names p n b w is xs h sound read =
    let other : bytes_eq (b ∷ w) (codes "*") ≡ false = not_star b w h in
    rw (sound, other) (ap (λ r. r >>= λ xs. Ok (map Named xs)) read)

whos_listed : (p q : ℕ) (x : List ℕ) (xs : List (List ℕ)) → AreNames kinds.Ids (x ∷ xs) → whos p (valued_words (tokens (within q (ids_text (x ∷ xs))))) ≡ Ok (map Named (x ∷ xs))
unfolding tokens
whos_listed p q [] xs h = absurd (no_empty kinds.Ids h.0)
whos_listed p q (b ∷ w) xs h =
    let plain = name-plain kinds.Ids (b ∷ w) (b ∷ w) h.0 in
    let rest : List ValuedWord = valued_words (tokens_from Outside true 0 (suc q + length (b ∷ w)) (more_text xs)) in
    let first : valued_words (tokens_from Outside false 0 (suc q) ((b ∷ w) ++ more_text xs)) ≡ Alone (suc q) (b ∷ w) ∷ rest =
    ap valued_words (word_token Outside Outside-steady false (suc q) b w (more_text xs) plain.letters (more_ends xs))
    ∙ word_items (tokens_from Outside true 0 (suc q + length (b ∷ w)) (more_text xs)) (suc q) (b ∷ w) (more_opens kinds.Ids (suc q + length (b ∷ w)) true xs h.1) in
    let read : names kinds.Ids [] (Alone (suc q) (b ∷ w) ∷ rest) ≡ Ok ((b ∷ w) ∷ xs) =
    ap (names kinds.Ids []) (sym first) ∙ names_step kinds.Ids [] false (suc q) (b ∷ w) xs h.0 h.1 ∙ names_again kinds.Ids ((b ∷ w) ∷ []) true (suc q + length (b ∷ w)) xs h.1 in
    ap (whos p) first ∙ whos_names p (suc q) b w rest ((b ∷ w) ∷ xs) plain.spelled (plain.sound (suc q)) read

whos_named : (p q : ℕ) (x : List ℕ) (ws : List Who) → AreWhos (Named x ∷ ws) → whos p (valued_words (tokens (within q (whos_text (Named x ∷ ws))))) ≡ Ok (Named x ∷ ws)
whos_named p q x ws h =
    let list = listed x ws h in
    ap (λ bs. whos p (valued_words (tokens (within q bs)))) list.text ∙ whos_listed p q x list.others list.named ∙ ap Ok list.whole

whos_again : (p q : ℕ) (ws : List Who) → AreWhos ws → whos p (valued_words (tokens (within q (whos_text ws)))) ≡ Ok ws
unfolding tokens
whos_again p q [] h = absurd h
whos_again p q (Star ∷ []) h = refl
whos_again p q (Star ∷ (w ∷ ws)) h = absurd h
whos_again p q (Named x ∷ ws) h = whos_named p q x ws h

-- a value other than none
abbrev pub IsShown : Content → Type 0
IsShown contents.Flag = ⊥
IsShown (contents.Id w) = Unit {0}
IsShown (contents.Authority a) = Unit {0}
IsShown (contents.Name t) = Unit {0}
IsShown (contents.Ids xs) = Unit {0}
IsShown (contents.Level l) = Unit {0}
IsShown (contents.Audit r) = Unit {0}
IsShown (contents.Profile n) = ⊥
IsShown (contents.Reset r) = Unit {0}
IsShown (contents.Whos ws) = Unit {0}
IsShown (contents.When c) = Unit {0}
IsShown (contents.Members ms) = Unit {0}
IsShown (contents.MemberNames ns) = Unit {0}
IsShown (contents.Generic g) = Unit {0}
IsShown contents.Failures = Unit {0}
IsShown (contents.LogOptions cs) = Unit {0}
IsShown (contents.Length n) = Unit {0}
IsShown (contents.Truth b) = Unit {0}
IsShown (contents.ClassNames n) = Unit {0}

pub value-again : (at : Scope) (k : ValueKind) (p q : ℕ) (v : Content) → Fits k v → IsShown v → Suits at.known k v → value at k p (valued_words (tokens (within q (text_of v)))) ≡ Ok v
value-again at kinds.Flag p q contents.Flag h shown suits = absurd shown
value-again at kinds.Id p q (contents.Id w) h shown suits = single_id at p q w h
value-again at kinds.Group p q (contents.Id w) h shown suits = single_group at p q w h
value-again at kinds.Authority p q (contents.Authority a) h shown suits = single_authority at p q a
value-again at kinds.Name p q (contents.Name t) h shown suits = single_name at p q t h
value-again at kinds.Ids p q (contents.Ids xs) h shown suits = several_again kinds.Ids p q xs h.0 h.1
value-again at kinds.Classes p q (contents.Ids xs) h shown suits = several_again kinds.Classes p q xs h.0 h.1
value-again at kinds.Class p q (contents.Id w) h shown suits = single_class at p q w h
value-again at kinds.Level p q (contents.Level l) h shown suits = single_level at p q l
value-again at kinds.Reset p q (contents.Reset r) h shown suits = single_reset at p q r
value-again at kinds.Audit p q (contents.Audit rule) h shown suits = ap (λ r. r >>= λ rule. Ok (contents.Audit rule)) (audit_again p q rule h)
value-again at kinds.DataSetProfile p q (contents.Profile n) h shown suits = absurd shown
value-again at kinds.ClassProfile p q (contents.Profile n) h shown suits = absurd shown
value-again at kinds.AnyProfile p q (contents.Profile n) h shown suits = absurd shown
value-again at kinds.Whos p q (contents.Whos ws) h shown suits = ap (λ r. r >>= λ ws. Ok (contents.Whos ws)) (whos_again p q ws h)
value-again at kinds.When p q (contents.When c) h shown suits = ap (λ r. r >>= λ c. Ok (contents.When c)) (port_again p q c h)
value-again at kinds.AddedMembers p q (contents.Members ms) h shown suits = ap (λ r. r >>= λ ms. Ok (contents.Members ms)) (added_again (member_form at.known.class at.known.profile) p q ms h suits)
value-again at kinds.DroppedMembers p q (contents.MemberNames ns) h shown suits = ap (λ r. r >>= λ ns. Ok (contents.MemberNames ns)) (dropped_again (member_form at.known.class at.known.profile) p q ns h suits)
value-again at kinds.Failures p q contents.Failures h shown suits = single_failures at p q
value-again at kinds.LogOptions p q (contents.LogOptions cs) h shown suits = ap (λ r. r >>= λ cs. Ok (contents.LogOptions cs)) (log_clauses_again p q cs h)
value-again at kinds.Length p q (contents.Length n) h shown suits = single_length at p q n h
value-again at kinds.Truth p q (contents.Truth b) h shown suits = single_truth at p q b
value-again at kinds.ClassNames p q (contents.ClassNames n) h shown suits = single_class_names at p q n
value-again at k p q v h shown suits = absurd h

-- where the parenthesis of a value that was written closes
authority_calm : (a : GroupAuthority) → list_all is_calm (authority_name a) ≡ true
authority_calm MayUse = refl
authority_calm MayCreate = refl
authority_calm MayConnect = refl
authority_calm MayJoin = refl

whos_end : (outer p : ℕ) (ws : List Who) (rest : List ℕ) → AreWhos ws → group_end outer Outside 0 p (whos_text ws ++ 41 ∷ rest) ≡ Ok (p + length (whos_text ws))
whos_end outer p [] rest h = absurd h
whos_end outer p (Star ∷ []) rest h = group_end-calm outer p (codes "*") rest refl
whos_end outer p (Star ∷ (w ∷ ws)) rest h = absurd h
whos_end outer p (Named x ∷ ws) rest h =
    let list = listed x ws h in
    group_end-calm outer p (whos_text (Named x ∷ ws)) rest (subst (λ (bs : List ℕ). list_all is_calm bs ≡ true) (sym list.text) (ids_calm kinds.Ids (x ∷ list.others) list.named))

reset_calm : (r : Reset) → list_all is_calm (reset_name r) ≡ true
reset_calm resets.All = refl
reset_calm resets.Standard = refl
reset_calm resets.When = refl

truth_calm : (b : Bool) → list_all is_calm (truth_name b) ≡ true
truth_calm true = refl
truth_calm false = refl

class_names_calm : (n : ClassNames) → list_all is_calm (class_names_name n) ≡ true
class_names_calm class_names.Full = refl
class_names_calm class_names.Id = refl

pub value-ends : (known : Known) (k : ValueKind) (v : Content) (outer p : ℕ) (rest : List ℕ) → Fits k v → IsShown v → Suits known k v → group_end outer Outside 0 p (text_of v ++ 41 ∷ rest) ≡ Ok (p + length (text_of v))
value-ends known kinds.Flag contents.Flag outer p rest h shown suits = absurd shown
value-ends known kinds.Id (contents.Id w) outer p rest h shown suits = group_end-calm outer p w rest (calm-letters w (name-plain kinds.Id w w h).letters)
value-ends known kinds.Group (contents.Id w) outer p rest h shown suits = group_end-calm outer p w rest (calm-letters w (name-plain kinds.Group w w h).letters)
value-ends known kinds.Authority (contents.Authority a) outer p rest h shown suits = group_end-calm outer p (authority_name a) rest (authority_calm a)
value-ends known kinds.Name (contents.Name t) outer p rest h shown suits = group_end-quoted outer p t rest
value-ends known kinds.Ids (contents.Ids xs) outer p rest h shown suits = group_end-calm outer p (ids_text xs) rest (ids_calm kinds.Ids xs h.1)
value-ends known kinds.Classes (contents.Ids xs) outer p rest h shown suits = group_end-calm outer p (ids_text xs) rest (ids_calm kinds.Classes xs h.1)
value-ends known kinds.Class (contents.Id w) outer p rest h shown suits = group_end-calm outer p w rest (calm-letters w (name-plain kinds.Class w w h).letters)
value-ends known kinds.Level (contents.Level l) outer p rest h shown suits = group_end-calm outer p (level_name l) rest (level_calm l)
value-ends known kinds.Reset (contents.Reset r) outer p rest h shown suits = group_end-calm outer p (reset_name r) rest (reset_calm r)
value-ends known kinds.Audit (contents.Audit rule) outer p rest h shown suits = audit_ends outer p rule rest
value-ends known kinds.DataSetProfile (contents.Profile n) outer p rest h shown suits = absurd shown
value-ends known kinds.ClassProfile (contents.Profile n) outer p rest h shown suits = absurd shown
value-ends known kinds.AnyProfile (contents.Profile n) outer p rest h shown suits = absurd shown
value-ends known kinds.Whos (contents.Whos ws) outer p rest h shown suits = whos_end outer p ws rest h
value-ends known kinds.When (contents.When c) outer p rest h shown suits = port_ends outer p c rest h
value-ends known kinds.AddedMembers (contents.Members ms) outer p rest h shown suits = added_end (member_form known.class known.profile) outer p ms rest h suits
value-ends known kinds.DroppedMembers (contents.MemberNames ns) outer p rest h shown suits = dropped_end (member_form known.class known.profile) outer p ns rest h suits
value-ends known kinds.Failures contents.Failures outer p rest h shown suits = group_end-calm outer p (codes "FAILURES") rest refl
value-ends known kinds.LogOptions (contents.LogOptions cs) outer p rest h shown suits = log_clauses_end outer p cs rest h
value-ends known kinds.Length (contents.Length n) outer p rest h shown suits = group_end-calm outer p (number_text n) rest (calm-letters (number_text n) (sound-letters (number_text n) (length_text n h).sound))
value-ends known kinds.Truth (contents.Truth b) outer p rest h shown suits = group_end-calm outer p (truth_name b) rest (truth_calm b)
value-ends known kinds.ClassNames (contents.ClassNames n) outer p rest h shown suits = group_end-calm outer p (class_names_name n) rest (class_names_calm n)
value-ends known k v outer p rest h shown suits = absurd h
