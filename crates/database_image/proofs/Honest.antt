-- What the fields of an image are read as: the value that was written, or nothing, where a type keeps the value.
use Rattle.std.proofs.Common.{◌≡◌, ◌⊎◌, ℕ, zero, suc, ◌+◌, ◌-◌, ◌/◌, ◌%◌, ◌^◌, ◌<◌, Bool, true, false, cond, List, [], ◌∷◌, ◌++◌, length, replicate, Option, Some, None, Result, Err, is_ok, bytes_eq, refl, sym, ap, subst, ◌∙◌, true≢false, arith, inl, inr, ltb-true, lt-ltb, lit<, zero-add}
use Rattle.std.specs.Prelude.{◌==◌, not, nat_lt, codes, option_map}
use Rattle.std.specs.List.{position_from, before_first, list_all}
use Rattle.std.proofs.Math.Nat.{mod-lt}
use Rattle.std.proofs.lemmas.Bool.{le-ltb}
use Rattle.std.proofs.lemmas.Bool.Decides.{nat_tests}
use Rattle.std.proofs.lemmas.List.{length-append, length-replicate, append-nil, take_at, drop_at}
use Rattle.std.proofs.lemmas.List.Sums.{take_while-cons}
use Rattle.std.proofs.lemmas.Slice.Eq.{bytes_eq-Decides}
use Rattle.byteorder.specs.Endian.{big_bytes, big_number, little_bytes, little_number}
use Rattle.byteorder.specs.Numbers.{length-bytes_high_first, length-bytes_low_first, big_from-bytes, big_number-reads_back, little_from-bytes, little_number-reads_back}
use Rattle.access_levels.specs.Spelling.{is_id_byte, group_of, unless_bad, bad_byte}
use Rattle.access_levels.specs.Level.{level_rank, levels, authority_rank, authorities, port_classes}
use Rattle.access_levels.specs.declared.ids.IdFault.{IdFault}
use Rattle.access_levels.specs.declared.ids.IdFault.TheVariants.{Empty, TooLong}
use Rattle.access_levels.specs.declared.levels.Level.{Level}
use Rattle.access_levels.specs.declared.levels.Level.TheVariants.{NoAccess, Execute, Read, Update, Control, Alter}
use Rattle.access_levels.specs.declared.authorities.GroupAuthority.{GroupAuthority}
use Rattle.access_levels.specs.declared.authorities.GroupAuthority.TheVariants.{MayUse, MayCreate, MayConnect, MayJoin}
use Rattle.access_levels.specs.declared.entries.PortClass.{PortClass}
use Rattle.access_levels.specs.declared.entries.PortClass.TheVariants.{Terminal, Console, Jesinput, Appcport}
use Rattle.access_levels.specs.declared.entries.Who.{Who}
use Rattle.access_levels.specs.declared.entries.Who.TheVariants.{Star, Named}
use Rattle.access_levels.proofs.SpelledIds.{id_of-short}
use Rattle.racf_profiles.specs.declared.class_rows.LogOption.{LogOption}
use Rattle.racf_profiles.specs.declared.class_rows.LogOption.TheVariants as log
use Rattle.racf_profiles.specs.LawfulProfiles.{is_logged_level}
use Rattle.racf_profiles.specs.LawfulUsers.{is_printable}
use Rattle.database_image.specs.Reading.{Reading, ◌>>=◌, where_lawful}
use Rattle.database_image.specs.Forms.{Spelling, IsSpelled, spelled_at, field, number_spelling}
use Rattle.database_image.specs.Fields.{filled, is_blank, front, text_in, of_text, filled_spelling, itself, id_text, group_text, text_or_none, unless_blank, who_text, who_of, rank_spelling, set_spelling, text_spelling}
use Rattle.database_image.specs.Description.{printable, audit_rank, audit_levels, flag_rank, port_rank, log_rank, log_options}
use Rattle.database_image.specs.Facts.{told, first_broken}
use Rattle.database_image.specs.Misleading.{has_room, is_of_bytes}
use Rattle.database_image.specs.Spelled.{IsId, IsIdOrNone, IsWho}
use Rattle.database_image.proofs.Exact.{IsUnique, exact-field, spelled_again}
use Rattle.database_image.proofs.Judged.{IsJudged, FindsIn, IsWhole, Judgement, number_read}

-- ---- a field

-- The value has its width, and is read as itself or not at all.
pub record IsHonest {A : Type 0} (s : Spelling A) (x : A) : Type 0 where
  pub whole : length (s.spelled x) ≡ s.width
  pub reads : (s.value (s.spelled x) ≡ Some x) ⊎ (s.value (s.spelled x) ≡ None)

none_read : {A : Type 0} (s : Spelling A) (x : A) (rest : List ℕ) → length (s.spelled x) ≡ s.width → s.value (s.spelled x) ≡ None → spelled_at s (s.spelled x ++ rest) ≡ Err (length (s.spelled x ++ rest))
unfolding spelled_at
none_read s x rest whole none =
    let long : nat_lt (length (s.spelled x ++ rest)) s.width ≡ false = le-ltb _ _ (omega (arith, length-append (s.spelled x) rest, whole)) in
    rw (long, take_at (s.spelled x) rest s.width whole, drop_at (s.spelled x) rest s.width whole, none) refl

refused : {A : Type 0} (b : Bool) (bytes : List ℕ) (y : A) → b ≡ false → where_lawful b bytes y ≡ Err (length bytes)
refused true bytes y h = absurd cc
refused false bytes y h = refl

none-some : {A : Type 0} (o : Option A) (x : A) → o ≡ None → o ≡ Some x → ⊥
none-some o x h k = cc

module _ {A : Type 0} (s : Spelling A) (is_lawful : A → Bool) (x : A) where
  abbrev Fits : Type 0
  Fits = (field s is_lawful).Fits x

  abbrev Fault : ℕ → Type 0
  Fault = (field s is_lawful).FaultAt x

  fault-here : (Fits → ⊥) → (bytes : List ℕ) → (field s is_lawful).reading bytes ≡ Err (length bytes) → FindsIn Fault bytes ((field s is_lawful).reading bytes)
  fault-here unfit bytes e = record { place = 0; left = length bytes; is = (unfit, refl); whole = zero-add (length bytes); reads = e }

  honest-lawful : (b : Bool) → is_lawful x ≡ b → length (s.spelled x) ≡ s.width → s.value (s.spelled x) ≡ Some x → IsWhole Fits Fault (s.spelled x) (field s is_lawful).reading
  honest-lawful true e whole back = inl (record { whole = whole; back = back }, e)
  honest-lawful false e whole back = inr (λ rest. fault-here (λ f. true≢false (sym f.1 ∙ e)) (s.spelled x ++ rest)
      (ap (λ (r : Reading A). r >>= λ y. where_lawful (is_lawful y.0) (s.spelled x ++ rest) y) (spelled_again s x rest (record { whole = whole; back = back })) ∙ refused (is_lawful x) (s.spelled x ++ rest) (x, rest) e))

  honest-either : length (s.spelled x) ≡ s.width → (s.value (s.spelled x) ≡ Some x) ⊎ (s.value (s.spelled x) ≡ None) → IsWhole Fits Fault (s.spelled x) (field s is_lawful).reading
  honest-either whole (inl back) = honest-lawful (is_lawful x) refl whole back
  honest-either whole (inr none) = inr (λ rest. fault-here (λ f. none-some (s.value (s.spelled x)) x none f.0.back) (s.spelled x ++ rest)
      (ap (λ (r : Reading A). r >>= λ y. where_lawful (is_lawful y.0) (s.spelled x ++ rest) y) (none_read s x rest whole none)))

  pub honest-whole : IsHonest s x → IsWhole Fits Fault (s.spelled x) (field s is_lawful).reading
  honest-whole h = honest-either h.whole h.reads

  none-left : (width : ℕ) → 0 < width → nat_lt 0 width ≡ true
  none-left width h = grind (arith, nat_tests)

  pub nothing_read : 0 < s.width → (field s is_lawful).reading [] ≡ Err 0
  unfolding spelled_at
  nothing_read h = rw (none-left s.width h) refl

  pub marked : (test : Bool) → (test ≡ true → IsHonest s x) → (test ≡ false → Fits → ⊥) → 0 < s.width → (begin : ℕ) → Judgement Fits Fault (s.spelled x) (field s is_lawful).reading begin (first_broken (told begin test ∷ []))
  marked true honest unfit wide begin = honest-whole (honest refl)
  marked false honest unfit wide begin = record { count = 0; at = omega arith; within = omega arith; found = fault-here (unfit refl) [] (nothing_read wide) }

-- ---- a field that never misleads, and one that may
pub judged-field : {A : Type 0} (s : Spelling A) (is_lawful : A → Bool) (Kept : A → Type 0) → IsUnique s → ((x : A) → Kept x → IsHonest s x) → IsJudged (field s is_lawful) (λ x. s.width) Kept (λ begin x. [])
judged-field s is_lawful Kept unique honest = record {
  wide = λ x k. sym (honest x k).whole;
  again = λ x h rest. (exact-field s is_lawful unique).again x rest h;
  judged = λ x k begin. honest-whole s is_lawful x (honest x k);
}

pub record MayMislead {A : Type 0} (s : Spelling A) (Kept : A → Type 0) (test : A → Bool) : Type 0 where
  pub wide : (x : A) → Kept x → s.width ≡ length (s.spelled x)
  pub some : (x : A) → Kept x → 0 < s.width
  pub honest : (x : A) → Kept x → test x ≡ true → IsHonest s x
  pub unspelled : (x : A) → Kept x → test x ≡ false → IsSpelled s x → ⊥

pub judged-marked : {A : Type 0} (s : Spelling A) (is_lawful : A → Bool) (Kept : A → Type 0) (test : A → Bool) → IsUnique s → MayMislead s Kept test → IsJudged (field s is_lawful) (λ x. s.width) Kept (λ begin x. told begin (test x) ∷ [])
judged-marked s is_lawful Kept test unique may = record {
  wide = may.wide;
  again = λ x h rest. (exact-field s is_lawful unique).again x rest h;
  judged = λ x k begin. marked s is_lawful x (test x) (may.honest x k) (λ e f. may.unspelled x k e f.0) (may.some x k) begin;
}

-- ---- a number of which more is read than is lawful
module _ (width : ℕ) (is_lawful is_read test : ℕ → Bool) (unique : IsUnique (number_spelling width)) (some : 0 < width) (positive : 0 < 256 ^ width)
    (more : (n : ℕ) → is_lawful n ≡ true → is_read n ≡ true) (alike : (n : ℕ) → test n ≡ true → is_read n ≡ is_lawful n) (honest : (n : ℕ) → test n ≡ true → IsHonest (number_spelling width) n)
    (unfit : (n : ℕ) → test n ≡ false → IsSpelled (number_spelling width) n → is_lawful n ≡ true → ⊥) where
  read-whole : (n : ℕ) → test n ≡ true → IsWhole ((number_read width is_lawful is_read).Fits n) ((number_read width is_lawful is_read).FaultAt n) (big_bytes width n) (number_read width is_lawful is_read).reading
  read-whole n e =
      subst (λ (b : Bool). IsWhole (IsSpelled (number_spelling width) n × (b ≡ true)) (λ place. ¬ (IsSpelled (number_spelling width) n × (b ≡ true)) × (place ≡ 0)) (big_bytes width n) (number_read width is_lawful is_read).reading)
      (alike n e) (honest-whole (number_spelling width) is_read n (honest n e))

  read-marked : (n : ℕ) (b : Bool) → test n ≡ b → (begin : ℕ) → Judgement ((number_read width is_lawful is_read).Fits n) ((number_read width is_lawful is_read).FaultAt n) (big_bytes width n) (number_read width is_lawful is_read).reading begin (first_broken (told begin b ∷ []))
  read-marked n true e begin = read-whole n e
  read-marked n false e begin =
      record { count = 0; at = omega arith; within = omega arith; found = record { place = 0; left = 0; is = (λ f. unfit n e f.0 f.1, refl); whole = refl; reads = nothing_read (number_spelling width) is_read n some } }

  pub judged-read : IsJudged (number_read width is_lawful is_read) (λ n. width) (λ n. Unit {0}) (λ begin n. told begin (test n) ∷ [])
  judged-read = record {
    wide = λ n k. sym (length-bytes_high_first width n);
    again = λ n h rest. (exact-field (number_spelling width) is_read unique).again n rest (h.0, more n h.1);
    judged = λ n k begin. read-marked n (test n) refl begin;
  }

-- ---- numbers
room : (width n : ℕ) → has_room width n ≡ true → n < 256 ^ width
room width n h = ltb-true n (256 ^ width) h

pub honest-number : (width n : ℕ) → n < 256 ^ width → IsHonest (number_spelling width) n
honest-number width n h = record {
  whole = length-bytes_high_first width n;
  reads = inl (ap (λ (m : ℕ). Some m) (ap (big_number width) (sym (append-nil (big_bytes width n))) ∙ big_number-reads_back width n [] h));
}

the-number : (m n : ℕ) → (let o : Option ℕ = Some m in o ≡ Some n) → m ≡ n
the-number m n h = cc

above-room : (width n : ℕ) → 0 < 256 ^ width → IsSpelled (number_spelling width) n → n < 256 ^ width
above-room width n pos h =
    let back : big_number width (big_bytes width n) ≡ n = the-number _ _ h.back in
    let small : big_number width (big_bytes width n) ≡ n % 256 ^ width = ap (big_number width) (sym (append-nil (big_bytes width n))) ∙ big_from-bytes width n [] in
    subst (λ (m : ℕ). m < 256 ^ width) (sym small ∙ back) (mod-lt n pos)

no-room : (width n : ℕ) → has_room width n ≡ false → n < 256 ^ width → ⊥
no-room width n h lt = grind (arith, nat_tests)

pub misleading-count : (width : ℕ) → 0 < width → 0 < 256 ^ width → MayMislead (number_spelling width) (λ n. Unit {0}) (has_room width)
misleading-count width some pos = record {
  wide = λ n k. sym (length-bytes_high_first width n);
  some = λ n k. some;
  honest = λ n k h. honest-number width n (room width n h);
  unspelled = λ n k h s. no-room width n h (above-room width n pos s);
}

-- ---- texts in eight bytes
abbrev named : (empty long : Bool) → Option ℕ → List ℕ → Result (List ℕ) IdFault
named empty long bad text = cond empty (Err Empty) (cond long (Err TooLong) (unless_bad bad text))

name-good : (empty long : Bool) (bad : Option ℕ) (text : List ℕ) → is_ok (named empty long bad text) ≡ true → bad ≡ None
name-good true long bad text h = absurd cc
name-good false true bad text h = absurd cc
name-good false false None text h = refl
name-good false false (Some place) text h = absurd cc

id-good : (text : List ℕ) → IsId text → bad_byte text ≡ None
id-good text h = name-good (length text == 0) (nat_lt 8 (length text)) (bad_byte text) text (ap is_ok h)

no_blank : (byte : ℕ) → not (is_id_byte byte) ≡ false → is_blank byte ≡ false
no_blank byte h = grind (arith, nat_tests)

abbrev blanks : ℕ → List ℕ
blanks n = replicate n 32

only_blanks : (n : ℕ) → before_first is_blank (blanks n) ≡ []
only_blanks zero = refl
only_blanks (suc n) = refl

passed : (bad : Bool) (place : ℕ) (rest : Option ℕ) → cond bad (Some place) rest ≡ None → (bad ≡ false) × (rest ≡ None)
passed true place rest h = absurd cc
passed false place rest h = (refl, h)

front-filled : (text : List ℕ) (place n : ℕ) → position_from (λ byte. not (is_id_byte byte)) place text ≡ None → before_first is_blank (text ++ blanks n) ≡ text
front-filled [] place n h = only_blanks n
front-filled (byte ∷ text) place n h =
    let both = passed (not (is_id_byte byte)) place (position_from (λ byte. not (is_id_byte byte)) (place + 1) text) h in
    let blank : is_blank byte ≡ false = no_blank byte both.0 in
    let rest = front-filled text (place + 1) n both.1 in
    take_while-cons (λ byte. not (is_blank byte)) byte (text ++ blanks n) ∙ rw blank (ap (λ (t : List ℕ). byte ∷ t) rest)

-- The field of a text says the text.
pub record IsFilled (text : List ℕ) : Type 0 where
  pub whole : length (filled text) ≡ 8
  pub back : text_in (filled text) ≡ Some text

pub filled-id : (text : List ℕ) → IsId text → IsFilled text
filled-id text h = record {
  whole = let short = id_of-short text text h in omega (arith, length-append text (blanks (8 - length text)), length-replicate {A = ℕ} (8 - length text) 32);
  back =
      let only : front (filled text) ≡ text = front-filled text 1 (8 - length text) (id-good text h) in
      let same : bytes_eq (filled text) (filled text) ≡ true = (bytes_eq-Decides (filled text) (filled text)).1 refl in
      rw (only, same) refl;
}

honest-filled : {A : Type 0} (text : A → List ℕ) (value : List ℕ → Option A) (x : A) → IsFilled (text x) → (value (text x) ≡ Some x) ⊎ (value (text x) ≡ None) → IsHonest (filled_spelling text value) x
honest-filled text value x f (inl h) = record { whole = f.whole; reads = inl (ap (of_text value) f.back ∙ h) }
honest-filled text value x f (inr h) = record { whole = f.whole; reads = inr (ap (of_text value) f.back ∙ h) }

either-text : (spelled : Bool) (text : List ℕ) → let o : Option (List ℕ) = cond spelled (Some text) None in (o ≡ Some text) ⊎ (o ≡ None)
either-text true text = inl refl
either-text false text = inr refl

is-text : (text : List ℕ) → IsId text → id_text text ≡ Some text
is-text text h = rw h refl

pub honest-id : (text : List ℕ) → IsId text → IsHonest (filled_spelling itself id_text) text
honest-id text h = honest-filled itself id_text text (filled-id text h) (inl (is-text text h))

pub honest-group : (text : List ℕ) → IsId text → IsHonest (filled_spelling itself group_text) text
honest-group text h = honest-filled itself group_text text (filled-id text h) (either-text (is_ok (group_of text)) text)

-- a text that is there isn't empty
unless-blank-id : (value : List ℕ → Option (List ℕ)) (text : List ℕ) → IsId text → unless_blank value text ≡ option_map Some (value text)
unless-blank-id value [] h = absurd cc
unless-blank-id value (byte ∷ text) h = refl

mapped : (o : Option (List ℕ)) (text : List ℕ) → (o ≡ Some text) ⊎ (o ≡ None) → let m : Option (Option (List ℕ)) = option_map Some o in (m ≡ Some (Some text)) ⊎ (m ≡ None)
mapped o text (inl h) = inl (ap (option_map Some) h)
mapped o text (inr h) = inr (ap (option_map Some) h)

along : {A : Type 0} (o p : Option A) (x : A) → o ≡ p → (p ≡ Some x) ⊎ (p ≡ None) → (o ≡ Some x) ⊎ (o ≡ None)
along o p x e (inl h) = inl (e ∙ h)
along o p x e (inr h) = inr (e ∙ h)

filled-none : IsFilled []
filled-none = record { whole = refl; back = refl }

pub honest-label : (label : Option (List ℕ)) → IsIdOrNone label → IsHonest (filled_spelling text_or_none (unless_blank id_text)) label
honest-label None h = honest-filled text_or_none (unless_blank id_text) None filled-none (inl refl)
honest-label (Some text) h = honest-filled text_or_none (unless_blank id_text) (Some text) (filled-id text h) (along _ _ _ (unless-blank-id id_text text h) (mapped (id_text text) text (inl (is-text text h))))

pub honest-superior : (superior : Option (List ℕ)) → IsIdOrNone superior → IsHonest (filled_spelling text_or_none (unless_blank group_text)) superior
honest-superior None h = honest-filled text_or_none (unless_blank group_text) None filled-none (inl refl)
honest-superior (Some text) h = honest-filled text_or_none (unless_blank group_text) (Some text) (filled-id text h) (along _ _ _ (unless-blank-id group_text text h) (mapped (group_text text) text (either-text (is_ok (group_of text)) text)))

-- no identifier is a star
pub no-star : (text : List ℕ) → IsId text → bytes_eq text (codes "*") ≡ false
no-star text h = by (bytes_eq text (codes "*")) refl
  where
    by : (b : Bool) → bytes_eq text (codes "*") ≡ b → b ≡ false
    by false e = refl
    by true e = let star : IsId (codes "*") = subst IsId ((bytes_eq-Decides text (codes "*")).0 e) h in absurd cc

pub named-who : (text : List ℕ) → IsId text → who_of text ≡ Some (Named text)
named-who text h = rw (no-star text h, is-text text h) refl

pub honest-who : (who : Who) → IsWho who → IsHonest (filled_spelling who_text who_of) who
honest-who Star h = record { whole = refl; reads = inl refl }
honest-who (Named text) h = honest-filled who_text who_of (Named text) (filled-id text h) (inl (named-who text h))

-- ---- ranks
pub honest-level : (level : Level) → IsHonest (rank_spelling level_rank levels) level
honest-level NoAccess = record { whole = refl; reads = inl refl }
honest-level Execute = record { whole = refl; reads = inl refl }
honest-level Read = record { whole = refl; reads = inl refl }
honest-level Update = record { whole = refl; reads = inl refl }
honest-level Control = record { whole = refl; reads = inl refl }
honest-level Alter = record { whole = refl; reads = inl refl }

pub honest-authority : (authority : GroupAuthority) → IsHonest (rank_spelling authority_rank authorities) authority
honest-authority MayUse = record { whole = refl; reads = inl refl }
honest-authority MayCreate = record { whole = refl; reads = inl refl }
honest-authority MayConnect = record { whole = refl; reads = inl refl }
honest-authority MayJoin = record { whole = refl; reads = inl refl }

pub honest-port : (class : PortClass) → IsHonest (rank_spelling port_rank port_classes) class
honest-port Terminal = record { whole = refl; reads = inl refl }
honest-port Console = record { whole = refl; reads = inl refl }
honest-port Jesinput = record { whole = refl; reads = inl refl }
honest-port Appcport = record { whole = refl; reads = inl refl }

pub honest-log : (option : LogOption) → IsHonest (rank_spelling log_rank log_options) option
honest-log log.ByProfile = record { whole = refl; reads = inl refl }
honest-log log.Always = record { whole = refl; reads = inl refl }
honest-log log.Never = record { whole = refl; reads = inl refl }
honest-log log.Successes = record { whole = refl; reads = inl refl }
honest-log log.Failures = record { whole = refl; reads = inl refl }

pub honest-flag : (flag : Bool) → IsHonest (rank_spelling flag_rank (false ∷ true ∷ [])) flag
honest-flag false = record { whole = refl; reads = inl refl }
honest-flag true = record { whole = refl; reads = inl refl }

honest-audit : (level : Option Level) → is_logged_level level ≡ true → IsHonest (rank_spelling audit_rank audit_levels) level
honest-audit None h = record { whole = refl; reads = inl refl }
honest-audit (Some NoAccess) h = absurd cc
honest-audit (Some Execute) h = record { whole = refl; reads = inl refl }
honest-audit (Some Read) h = record { whole = refl; reads = inl refl }
honest-audit (Some Update) h = record { whole = refl; reads = inl refl }
honest-audit (Some Control) h = record { whole = refl; reads = inl refl }
honest-audit (Some Alter) h = record { whole = refl; reads = inl refl }

the-level : (a b : Option Level) → (let o : Option (Option Level) = Some a in o ≡ Some b) → a ≡ b
the-level a b h = cc

unlogged : (level : Option Level) → is_logged_level level ≡ false → IsSpelled (rank_spelling audit_rank audit_levels) level → ⊥
unlogged None h s = absurd cc
unlogged (Some NoAccess) h s = let e : None ≡ Some NoAccess = the-level _ _ s.back in cc
unlogged (Some Execute) h s = absurd cc
unlogged (Some Read) h s = absurd cc
unlogged (Some Update) h s = absurd cc
unlogged (Some Control) h s = absurd cc
unlogged (Some Alter) h s = absurd cc

pub misleading-audit : MayMislead (rank_spelling audit_rank audit_levels) (λ level. Unit {0}) is_logged_level
misleading-audit = record { wide = λ x k. refl; some = λ x k. omega arith; honest = λ x k. honest-audit x; unspelled = λ x k. unlogged x }

-- ---- sets, and texts of their own length
honest-set : (set : ℕ) → set < 2 ^ 256 → IsHonest set_spelling set
honest-set set h = record {
  whole = length-bytes_low_first 0 32 set;
  reads = inl (ap (λ (m : ℕ). Some m) (ap (little_number 32) (sym (append-nil (little_bytes 32 set))) ∙ little_number-reads_back 32 set [] h));
}

numbers-of : (set : ℕ) → is_of_bytes set ≡ true → set < 2 ^ 256
numbers-of set h = ltb-true set (2 ^ 256) h

the-set : (set : ℕ) → IsSpelled set_spelling set → set < 2 ^ 256
the-set set h =
    let back : little_number 32 (little_bytes 32 set) ≡ set = the-number _ _ h.back in
    let small : little_number 32 (little_bytes 32 set) ≡ set / 256 ^ 0 % 256 ^ 32 = ap (little_number 32) (sym (append-nil (little_bytes 32 set))) ∙ little_from-bytes 32 0 set [] in
    subst (λ (m : ℕ). m < 2 ^ 256) (sym small ∙ back) (mod-lt (set / 256 ^ 0) {m = 2 ^ 256} (lit< tt))

other-set : (set : ℕ) → is_of_bytes set ≡ false → set < 2 ^ 256 → ⊥
other-set set h lt = let no : true ≡ false = sym (lt-ltb set (2 ^ 256) lt) ∙ h in cc

pub misleading-set : MayMislead set_spelling (λ set. Unit {0}) is_of_bytes
misleading-set = record {
  wide = λ set k. sym (length-bytes_low_first 0 32 set);
  some = λ set k. omega arith;
  honest = λ set k h. honest-set set (numbers-of set h);
  unspelled = λ set k h s. other-set set h (the-set set s);
}

pub honest-printable : (width : ℕ) (name : List ℕ) → length name ≡ width → IsHonest (text_spelling itself printable width) name
honest-printable width name h = record { whole = h; reads = either-text (list_all is_printable name) name }
