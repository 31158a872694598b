-- Members are read again from how they are written.
use Rattle.std.proofs.Common.{◌≡◌, ℕ, zero, suc, ◌+◌, ◌<◌, List, [], ◌∷◌, ◌++◌, length, map, Bool, true, false, cond, not, ◌&&◌, ◌||◌, Option, None, Some, Ok, refl, sym, ap, subst, ◌∙◌, arith, append_assoc}
use Rattle.std.specs.Prelude.{◌==◌, nat_le, is_none, is_ok}
use Rattle.std.specs.List.{list_all}
use Rattle.std.specs.Result.{result_ok}
use Rattle.std.proofs.lemmas.List.{append-nil}
use Rattle.std.proofs.lemmas.List.Folds.{list_all-append}
use Rattle.std.proofs.lemmas.Bool.{eqb-true, and_parts}
use Rattle.std.proofs.lemmas.Bool.Decides.{nat_tests}
use Rattle.access_levels.specs.declared.levels.Level.{Level}
use Rattle.access_levels.specs.declared.levels.Level.TheVariants.{NoAccess, Execute, Read, Update, Control, Alter}
use Rattle.access_levels.specs.Level.{level_name}
use Rattle.access_levels.specs.Spelling.{id_of, level_of}
use Rattle.generic_names.specs.declared.kind.NameKind.{NameKind}
use Rattle.generic_names.specs.declared.kind.NameKind.TheVariants.{DataSet, General}
use Rattle.generic_names.specs.Spelled.{Spelled}
use Rattle.generic_names.specs.Faults.{member_of}
use Rattle.racf_profiles.specs.declared.profiles.Member.{Member}
use Rattle.racf_profiles.specs.declared.profiles.Member.TheVariants as member
use Rattle.command_words.specs.declared.quoting.Quoting.TheVariants.{Ignored, Outside}
use Rattle.command_words.specs.Bytes.{is_faulty_byte, upper}
use Rattle.command_words.specs.Tokens.{Word, within, group_end, tokens, tokens_from}
use Rattle.command_words.specs.ValuedWords.{ValuedWord, Alone, valued_words, opens_value, faulty_at}
use Rattle.command_words.proofs.Letters.{is_letter, letter-quote, Outside-steady, EndsWord}
use Rattle.command_words.proofs.Spelled.{is_calm, letter-calm, word_token, quoted_word_token, quoted_word-through, group_end-through}
use Rattle.command_fields.specs.declared.member_form.MemberForm.{MemberForm}
use Rattle.command_fields.specs.declared.member_form.MemberForm.TheVariants as forms
use Rattle.command_fields.specs.ProfileNames.{text_by_kind, profile_text}
use Rattle.command_values.specs.Members.{whole_text, named_so, member_named, parted, number_of, number_text, access_with, access_of, security_level_with, security_level_of, category_of, member_in, dropped_in, each_of, some_of, added, dropped, member_text}
use Rattle.command_fields.specs.LawfulMembers.{if_number, id_name}
use Rattle.command_values.specs.Values.{more_text, ids_text}
use Rattle.command_values.specs.LawfulValues.{AreSome}
use Rattle.command_fields.specs.LawfulMembers.{IsMember, IsDropped, Each, AreMembers, AreDropped}
use Rattle.command_values.proofs.Names.{plain_name, all_of}
use Rattle.command_values.proofs.Patterns.{IsSome, IsPlainText, is_sound_byte, sound-letters, sound-faultless, member-named-so, in-quotes}
use Rattle.command_values.proofs.MemberParts.{parted-last}
use Rattle.command_values.proofs.WordItems.{word_items}
use Rattle.command_values.proofs.ListEnds.{IsBehind, IsPassed, list_end, each-so}

-- a word as a list has it
pub record IsWordText (w : List ℕ) : Type 0 where
  pub token : (tied : Bool) (p : ℕ) (rest : List ℕ) → EndsWord rest → tokens_from Outside tied 0 p (w ++ rest) ≡ Word p w ∷ tokens_from Outside true 0 (p + length w) rest
  pub sound : (p : ℕ) → faulty_at Ignored p w ≡ None
  pub passes : (outer p : ℕ) (rest : List ℕ) → IsBehind rest → group_end outer Outside 0 p (w ++ rest) ≡ group_end outer Outside 0 (p + length w) rest

letters-word : (w : List ℕ) → IsSome w → list_all is_letter w ≡ true → ((p : ℕ) → faulty_at Ignored p w ≡ None) → IsWordText w
letters-word [] some h sound = absurd some
letters-word (b ∷ w) some h sound =
    record {
      token = λ tied p rest ends. word_token Outside Outside-steady tied p b w rest h ends;
      sound = sound;
      passes = λ outer p rest behind. group_end-through outer 0 p (b ∷ w) rest (all_of is_letter is_calm letter-calm (b ∷ w) h);
    }

quoted-word : (t u : List ℕ) → list_all is_letter t ≡ true → list_all is_letter u ≡ true → ((p : ℕ) → faulty_at Ignored p (39 ∷ (t ++ 39 ∷ u)) ≡ None) → IsWordText (39 ∷ (t ++ 39 ∷ u))
quoted-word t u h k sound =
    record {
      token = λ tied p rest ends. ap (λ bs. tokens_from Outside tied 0 p (39 ∷ bs)) (append_assoc t (39 ∷ u) rest) ∙ quoted_word_token tied p t u rest h k ends;
      sound = sound;
      passes = λ outer p rest behind. ap (λ bs. group_end outer Outside 0 p (39 ∷ bs)) (append_assoc t (39 ∷ u) rest) ∙ quoted_word-through outer p t u rest h k (λ n o. behind outer n o);
    }

sound-then : (p : ℕ) (x y : List ℕ) → faulty_at Ignored p x ≡ None → ((n : ℕ) → faulty_at Ignored n y ≡ None) → faulty_at Ignored p (x ++ y) ≡ None
sound-then p [] y h k = k p
sound-then p (b ∷ x) y h k = sound-step (is_faulty_byte b) refl h (λ more. sound-then (suc p) x y more k)
  where
    sound-step : (c : Bool) → is_faulty_byte b ≡ c → cond c (Some p) (faulty_at Ignored (suc p) x) ≡ None → (faulty_at Ignored (suc p) x ≡ None → faulty_at Ignored (suc p) (x ++ y) ≡ None) → faulty_at Ignored p (b ∷ (x ++ y)) ≡ None
    sound-step true is h more = cc
    sound-step false is h more = rw is (more h)

-- the name of a member, alone and in front of more letters
pub record IsMemberName (kind : NameKind) (n : Spelled) : Type 0 where
  pub named : member_named kind (profile_text n) ≡ Some n
  pub then_more : (u : List ℕ) → list_all is_letter u ≡ true → ((p : ℕ) → faulty_at Ignored p u ≡ None) → IsWordText (profile_text n ++ u)

some-then : (x y : List ℕ) → IsSome x → IsSome (x ++ y)
some-then [] y h = absurd h
some-then (b ∷ x) y h = tt

whole-letters : (t : List ℕ) → IsPlainText t → whole_text t ≡ Some t
whole-letters t plain = whole-one t plain.some plain.letters plain.folded
  where
    whole-one : (t : List ℕ) → IsSome t → list_all is_letter t ≡ true → map upper t ≡ t → whole_text t ≡ Some t
    whole-one [] some h folded = absurd some
    whole-one (b ∷ t) some h folded = rw (letter-quote b (and_parts (is_letter b) (list_all is_letter t) h).0) (ap Some folded)

name-text : (kind : NameKind) (n : Spelled) → result_ok (member_of kind n.text) ≡ Some n → profile_text n ≡ text_by_kind kind n.text
name-text kind n h = ap (λ k. text_by_kind k n.text) (member-named-so kind n.text n h).kinds

member-name : (kind : NameKind) (n : Spelled) → result_ok (member_of kind n.text) ≡ Some n → IsMemberName kind n
member-name DataSet n h =
    let plain = (member-named-so DataSet n.text n h).plain in
    let text : profile_text n ≡ 39 ∷ (n.text ++ 39 ∷ []) = name-text DataSet n h in
    record {
      named = ap (member_named DataSet) text ∙ ap (named_so DataSet) (in-quotes n.text plain) ∙ h;
      then_more = λ u letters sound.
          let whole : 39 ∷ (n.text ++ 39 ∷ u) ≡ profile_text n ++ u = ap (λ bs. 39 ∷ bs) (sym (append_assoc n.text (39 ∷ []) u)) ∙ ap (λ bs. bs ++ u) (sym text) in
          subst (λ (w : List ℕ). IsWordText w) whole
          (quoted-word n.text u plain.letters letters (λ p. sound-then (suc p) n.text (39 ∷ u) (plain.sound (suc p)) (λ q. sound (suc q))));
    }
member-name General n h =
    let plain = (member-named-so General n.text n h).plain in
    let text : profile_text n ≡ n.text = name-text General n h in
    record {
      named = ap (member_named General) text ∙ ap (named_so General) (whole-letters n.text plain) ∙ h;
      then_more = λ u letters sound.
          subst (λ (w : List ℕ). IsWordText w) (ap (λ bs. bs ++ u) (sym text))
          (letters-word (n.text ++ u) (some-then n.text u plain.some) (list_all-append is_letter n.text u ∙ rw (plain.letters) letters) (λ p. sound-then p n.text u (plain.sound p) sound));
    }

name-alone : (kind : NameKind) (n : Spelled) → IsMemberName kind n → IsWordText (profile_text n)
name-alone kind n name = subst (λ (w : List ℕ). IsWordText w) (append-nil (profile_text n)) (name.then_more [] refl (λ p. refl))

-- levels
record IsLevelText (l : Level) : Type 0 where
  letters : list_all is_letter (47 ∷ level_name l) ≡ true
  sound : (p : ℕ) → faulty_at Ignored p (47 ∷ level_name l) ≡ None
  whole : parted (level_name l) ≡ None
  back : level_of (map upper (level_name l)) ≡ Some l

level-text : (l : Level) → IsLevelText l
level-text NoAccess = record { letters = refl; sound = λ p. refl; whole = refl; back = refl }
level-text Execute = record { letters = refl; sound = λ p. refl; whole = refl; back = refl }
level-text Read = record { letters = refl; sound = λ p. refl; whole = refl; back = refl }
level-text Update = record { letters = refl; sound = λ p. refl; whole = refl; back = refl }
level-text Control = record { letters = refl; sound = λ p. refl; whole = refl; back = refl }
level-text Alter = record { letters = refl; sound = λ p. refl; whole = refl; back = refl }

-- numbers, each by itself
abbrev is_that : Option ℕ → ℕ → Bool
is_that None n = false
is_that (Some m) n = m == n

number_tested : ℕ → Bool
number_tested n = not (nat_le 1 n && nat_le n 254) || (list_all is_sound_byte (number_text n) && (is_none (parted (number_text n)) && is_that (number_of (number_text n)) n))

all_below : (ℕ → Bool) → ℕ → Bool
all_below f zero = true
all_below f (suc k) = f k && all_below f k

numbers_tested : all_below number_tested 255 ≡ true
unfolding all_below number_tested
numbers_tested = refl

below-one : (f : ℕ → Bool) (k n : ℕ) (c : Bool) → (n == k) ≡ c → n < suc k → f k ≡ true → (n < k → f n ≡ true) → f n ≡ true
below-one f k n true is less here more = let same : n ≡ k = eqb-true n k is in subst (λ (m : ℕ). f m ≡ true) (sym same) here
below-one f k n false is less here more = more (grind (arith, nat_tests))

below : (f : ℕ → Bool) (k n : ℕ) → all_below f k ≡ true → n < k → f n ≡ true
unfolding all_below
below f zero n h less = absurd (omega arith)
below f (suc k) n h less = below-one f k n (n == k) refl less (and_parts (f k) (all_below f k) h).0 (below f k n (and_parts (f k) (all_below f k) h).1)

pub record IsNumberText (n : ℕ) : Type 0 where
  pub sound : list_all is_sound_byte (number_text n) ≡ true
  pub whole : parted (number_text n) ≡ None
  pub back : number_of (number_text n) ≡ Some n

range-true : (n : ℕ) → if_number (Some n) ≡ Some n → (nat_le 1 n && nat_le n 254) ≡ true
range-true n h = range-one (nat_le 1 n && nat_le n 254) refl h
  where
    range-one : (c : Bool) → (nat_le 1 n && nat_le n 254) ≡ c → cond c (Some n) None ≡ Some n → c ≡ true
    range-one true is h = refl
    range-one false is h = cc

otherwise-true : (a b : Bool) → a ≡ true → (not a || b) ≡ true → b ≡ true
otherwise-true true b is h = h
otherwise-true false b is h = cc

none-so : {A : Type 0} (o : Option A) → is_none o ≡ true → o ≡ None
none-so None h = refl
none-so (Some x) h = cc

that-so : (o : Option ℕ) (n : ℕ) → is_that o n ≡ true → o ≡ Some n
that-so None n h = cc
that-so (Some m) n h = ap Some (eqb-true m n h)

pub number-text : (n : ℕ) → if_number (Some n) ≡ Some n → IsNumberText n
unfolding number_tested
number-text n h =
    let ranged : (nat_le 1 n && nat_le n 254) ≡ true = range-true n h in
    let low : nat_le n 254 ≡ true = (and_parts (nat_le 1 n) (nat_le n 254) ranged).1 in
    let less : n < 255 = grind (arith, nat_tests) in
    let tested : number_tested n ≡ true = below number_tested 255 n numbers_tested less in
    let each = otherwise-true (nat_le 1 n && nat_le n 254) (list_all is_sound_byte (number_text n) && (is_none (parted (number_text n)) && is_that (number_of (number_text n)) n)) ranged tested in
    let behind = (and_parts (list_all is_sound_byte (number_text n)) (is_none (parted (number_text n)) && is_that (number_of (number_text n)) n) each).1 in
    record {
      sound = (and_parts (list_all is_sound_byte (number_text n)) (is_none (parted (number_text n)) && is_that (number_of (number_text n)) n) each).0;
      whole = none-so (parted (number_text n)) (and_parts (is_none (parted (number_text n))) (is_that (number_of (number_text n)) n) behind).0;
      back = that-so (number_of (number_text n)) n (and_parts (is_none (parted (number_text n))) (is_that (number_of (number_text n)) n) behind).1;
    }

-- a word and what it is read as
pub record IsGood {X : Type 0} (read : List ℕ → Option X) (text : X → List ℕ) (x : X) : Type 0 where
  pub word : IsWordText (text x)
  pub reads : read (text x) ≡ Some x

id-some : (x : List ℕ) → id_of x ≡ Ok x → IsSome x
id-some [] h = cc
id-some (b ∷ x) h = tt

id-back : (x : List ℕ) → id_of x ≡ Ok x → result_ok (id_of (map upper x)) ≡ Some x
id-back x h = ap (λ t. result_ok (id_of t)) (plain_name x h).folded ∙ ap result_ok h

member-good : (form : MemberForm) (m : Member) → IsMember form m → IsGood (member_in form) member_text m
member-good (forms.Access kind) (member.Access n l) h =
    let name = member-name kind n h in
    let level = level-text l in
    record {
      word = name.then_more (47 ∷ level_name l) level.letters level.sound;
      reads = ap (access_of kind) (parted-last (profile_text n) (level_name l) level.whole)
          ∙ ap (λ o. access_with o (level_of (map upper (level_name l)))) name.named ∙ ap (access_with (Some n)) level.back;
    }
member-good forms.SecurityLevel (member.SecurityLevel x n) h =
    let plain = plain_name x h.0 in
    let number = number-text n h.1 in
    let slash_letters : list_all is_letter (47 ∷ number_text n) ≡ true = sound-letters (47 ∷ number_text n) (rw number.sound refl) in
    let slash_sound : (p : ℕ) → faulty_at Ignored p (47 ∷ number_text n) ≡ None = λ p. sound-faultless p (47 ∷ number_text n) (rw number.sound refl) in
    record {
      word = letters-word (x ++ 47 ∷ number_text n) (some-then x (47 ∷ number_text n) (id-some x h.0)) (list_all-append is_letter x (47 ∷ number_text n) ∙ rw plain.letters slash_letters) (λ p. sound-then p x (47 ∷ number_text n) (plain.sound p) slash_sound);
      reads = ap security_level_of (parted-last x (number_text n) number.whole) ∙ ap (λ o. security_level_with o (number_of (number_text n))) (id-back x h.0) ∙ ap (security_level_with (Some x)) number.back;
    }
member-good forms.Category (member.Category x) h =
    let plain = plain_name x h in
    record { word = letters-word x (id-some x h) plain.letters plain.sound; reads = ap category_of (id-back x h) }
member-good (forms.Access kind) (member.SecurityLevel x n) h = absurd h
member-good (forms.Access kind) (member.Category x) h = absurd h
member-good forms.SecurityLevel (member.Access n l) h = absurd h
member-good forms.SecurityLevel (member.Category x) h = absurd h
member-good forms.Category (member.Access n l) h = absurd h
member-good forms.Category (member.SecurityLevel x n) h = absurd h
member-good (forms.Access kind) (member.Traits traits) h = absurd h
member-good forms.SecurityLevel (member.Traits traits) h = absurd h
member-good forms.Category (member.Traits traits) h = absurd h

id_name-so : (t : List ℕ) (n : Spelled) → id_name t ≡ Some n → result_ok (member_of General t) ≡ Some n
id_name-so t n h = id-one (is_ok (id_of t)) h
  where
    id-one : (c : Bool) → cond c (result_ok (member_of General t)) None ≡ Some n → result_ok (member_of General t) ≡ Some n
    id-one true h = h
    id-one false h = cc

id-dropped : (n : Spelled) → id_name n.text ≡ Some n → IsWordText (profile_text n) × (id_name (map upper (profile_text n)) ≡ Some n)
id-dropped n h =
    let named = id_name-so n.text n h in
    let name = member-name General n named in
    let plain = (member-named-so General n.text n named).plain in
    (name-alone General n name, ap (λ t. id_name (map upper t)) (name-text General n named) ∙ ap id_name plain.folded ∙ h)

dropped-good : (form : MemberForm) (n : Spelled) → IsDropped form n → IsGood (dropped_in form) profile_text n
dropped-good (forms.Access kind) n h = let name = member-name kind n h in record { word = name-alone kind n name; reads = name.named }
dropped-good forms.SecurityLevel n h = let both = id-dropped n h in record { word = both.0; reads = both.1 }
dropped-good forms.Category n h = let both = id-dropped n h in record { word = both.0; reads = both.1 }

-- lists of such words
module _ {X : Type 0} (read : List ℕ → Option X) (text : X → List ℕ) where
  list_ends-word : (xs : List X) → EndsWord (more_text (map text xs))
  list_ends-word [] = tt
  list_ends-word (x ∷ xs) = refl

  list_opens : (tied : Bool) (p : ℕ) (xs : List X) → Each (IsGood read text) xs → opens_value (tokens_from Outside tied 0 p (more_text (map text xs))) ≡ false
  list_opens tied p [] h = refl
  list_opens tied p (x ∷ xs) h = ap opens_value (h.0.word.token false (suc p) (more_text (map text xs)) (list_ends-word xs))

  list_first : (tied : Bool) (p : ℕ) (x : X) (xs : List X) → IsGood read text x → Each (IsGood read text) xs
      → valued_words (tokens_from Outside tied 0 p (text x ++ more_text (map text xs))) ≡ Alone p (text x) ∷ valued_words (tokens_from Outside true 0 (p + length (text x)) (more_text (map text xs)))
  list_first tied p x xs good h =
      ap valued_words (good.word.token tied p (more_text (map text xs)) (list_ends-word xs))
      ∙ word_items (tokens_from Outside true 0 (p + length (text x)) (more_text (map text xs))) p (text x) (list_opens true (p + length (text x)) xs h)

  list_step : (front : List X) (p : ℕ) (x : X) (is : List ValuedWord) → IsGood read text x → each_of read front (Alone p (text x) ∷ is) ≡ each_of read (front ++ x ∷ []) is
  list_step front p x is good =
      let sound : faulty_at Ignored p (text x) ≡ None = good.word.sound p in
      let reads : read (text x) ≡ Some x = good.reads in
      rw (sound, reads) refl

  list_again : (front : List X) (tied : Bool) (p : ℕ) (xs : List X) → Each (IsGood read text) xs → each_of read front (valued_words (tokens_from Outside tied 0 p (more_text (map text xs)))) ≡ Ok (front ++ xs)
  list_again front tied p [] h = ap Ok (sym (append-nil front))
  list_again front tied p (x ∷ xs) h =
      ap (each_of read front) (list_first false (suc p) x xs h.0 h.1)
      ∙ list_step front (suc p) x (valued_words (tokens_from Outside true 0 (suc p + length (text x)) (more_text (map text xs)))) h.0
      ∙ list_again (front ++ x ∷ []) true (suc p + length (text x)) xs h.1
      ∙ ap Ok (append_assoc front (x ∷ []) xs)

  pub some_again : (p q : ℕ) (xs : List X) → AreSome xs → Each (IsGood read text) xs → some_of read p (valued_words (tokens (within q (ids_text (map text xs))))) ≡ Ok xs
  unfolding tokens
  some_again p q [] some h = absurd some
  some_again p q (x ∷ xs) some h =
      ap (some_of read p) (list_first false (suc q) x xs h.0 h.1)
      ∙ list_step [] (suc q) x (valued_words (tokens_from Outside true 0 (suc q + length (text x)) (more_text (map text xs)))) h.0
      ∙ list_again (x ∷ []) true (suc q + length (text x)) xs h.1

pub added_again : (form : Option MemberForm) (p q : ℕ) (ms : List Member) → AreSome ms → AreMembers form ms → added form p (valued_words (tokens (within q (ids_text (map member_text ms))))) ≡ Ok ms
added_again None p q ms some h = absurd h
added_again (Some form) p q ms some h = some_again (member_in form) member_text p q ms some (each-so (IsMember form) (IsGood (member_in form) member_text) (member-good form) ms h)

pub dropped_again : (form : Option MemberForm) (p q : ℕ) (ns : List Spelled) → AreSome ns → AreDropped form ns → dropped form p (valued_words (tokens (within q (ids_text (map profile_text ns))))) ≡ Ok ns
dropped_again None p q ns some h = absurd h
dropped_again (Some form) p q ns some h = some_again (dropped_in form) profile_text p q ns some (each-so (IsDropped form) (IsGood (dropped_in form) profile_text) (dropped-good form) ns h)

pub added_end : (form : Option MemberForm) (outer p : ℕ) (ms : List Member) (rest : List ℕ) → AreSome ms → AreMembers form ms → group_end outer Outside 0 p (ids_text (map member_text ms) ++ 41 ∷ rest) ≡ Ok (p + length (ids_text (map member_text ms)))
added_end None outer p ms rest some h = absurd h
added_end (Some form) outer p ms rest some h = list_end member_text outer p ms rest some (each-so (IsMember form) (IsPassed member_text) (λ m lawful. (member-good form m lawful).word.passes) ms h)

pub dropped_end : (form : Option MemberForm) (outer p : ℕ) (ns : List Spelled) (rest : List ℕ) → AreSome ns → AreDropped form ns → group_end outer Outside 0 p (ids_text (map profile_text ns) ++ 41 ∷ rest) ≡ Ok (p + length (ids_text (map profile_text ns)))
dropped_end None outer p ns rest some h = absurd h
dropped_end (Some form) outer p ns rest some h = list_end profile_text outer p ns rest some (each-so (IsDropped form) (IsPassed profile_text) (λ n lawful. (dropped-good form n lawful).word.passes) ns h)
