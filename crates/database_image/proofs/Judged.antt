-- A value is judged by its bytes as it is by itself: where bytes are read that were written up to a field that
-- misleads, the fault that is found is the value's first. Each way to make a form of others keeps this.
use Rattle.std.proofs.Common.{◌≡◌, ◌⊎◌, ℕ, suc, ◌+◌, ◌≤◌, Bool, true, List, [], ◌∷◌, ◌++◌, length, take, Option, Some, None, Result, Ok, Err, refl, sym, ap, subst, ◌∙◌, append_assoc, length-append, arith, inl, inr, zero-add}
use Rattle.std.specs.List.{flat_map, AllByRecursion, sum_by}
use Rattle.std.specs.Option.{option_or}
use Rattle.std.proofs.lemmas.List.{take-append-le}
use Rattle.std.proofs.lemmas.List.Sums.{sum_by-cons}
use Rattle.byteorder.specs.Endian.{big_bytes}
use Rattle.byteorder.specs.Numbers.{length-bytes_high_first}
use Rattle.database_image.specs.Reading.{Reading, ◌>>=◌}
use Rattle.database_image.specs.Forms.{Form, Spelling, field, number, number_spelling, Part, the, FirstOf, followed, done, items_from, ItemsFit, ItemsFaultAt, listed}
use Rattle.database_image.specs.Facts.{Fact, told, told_of_each, first_broken}
use Rattle.database_image.specs.Misleading.{has_room}
use Rattle.database_image.proofs.Exact.{IsExact, IsUnique, IsSteady, exact-field, exact-listed}
use Rattle.database_image.proofs.Told.{first-append}

-- ---- a value fits or has one first fault, and not both
module _ (fits fits' : Type 0) (fault fault' : ℕ → Type 0) (width : ℕ) where
  apart-first : (fits → (p : ℕ) → fault p → ⊥) → (fits' → (p : ℕ) → fault' p → ⊥) → fits × fits' → (p : ℕ) → FirstOf fault fits width fault' p → ⊥
  apart-first apart apart' f p (inl a) = apart f.0 p a
  apart-first apart apart' f p (inr b) = apart' f.1 b.1.0 b.1.1

  one-first : (fits → (p : ℕ) → fault p → ⊥) → ((p q : ℕ) → fault p → fault q → p ≡ q) → ((p q : ℕ) → fault' p → fault' q → p ≡ q) → (p q : ℕ) → FirstOf fault fits width fault' p → FirstOf fault fits width fault' q → p ≡ q
  one-first apart one one' p q (inl a) (inl b) = one p q a b
  one-first apart one one' p q (inl a) (inr b) = absurd (apart b.0 p a)
  one-first apart one one' p q (inr a) (inl b) = absurd (apart a.0 q b)
  one-first apart one one' p q (inr a) (inr b) = a.1.2 ∙ ap (λ n. width + n) (one' a.1.0 b.1.0 a.1.1 b.1.1) ∙ sym b.1.2

pub record IsDecided {A : Type 0} (form : Form A) : Type 0 where
  pub apart : (x : A) → form.Fits x → (p : ℕ) → form.FaultAt x p → ⊥
  pub one : (x : A) (p q : ℕ) → form.FaultAt x p → form.FaultAt x q → p ≡ q

pub decided-field : {A : Type 0} (s : Spelling A) (is_lawful : A → Bool) → IsDecided (field s is_lawful)
decided-field s is_lawful = record { apart = λ x f p h. h.0 f; one = λ x p q h k. h.1 ∙ sym k.1 }

pub decided-followed : {A K : Type 0} (part : Part A K) (rest : K → Form A) → IsDecided part.form → ((k : K) → IsDecided (rest k)) → IsDecided (followed part rest)
decided-followed part rest first others = record {
  apart = λ x. apart-first (part.form.Fits (part.of x)) ((rest (part.of x)).Fits x) (part.form.FaultAt (part.of x)) ((rest (part.of x)).FaultAt x) (length (part.form.bytes (part.of x))) (first.apart (part.of x)) ((others (part.of x)).apart x);
  one = λ x. one-first (part.form.Fits (part.of x)) ((rest (part.of x)).Fits x) (part.form.FaultAt (part.of x)) ((rest (part.of x)).FaultAt x) (length (part.form.bytes (part.of x))) (first.apart (part.of x)) (first.one (part.of x)) ((others (part.of x)).one x);
}

pub decided-done : {A : Type 0} (x : A) → IsDecided (done x)
decided-done x = record { apart = λ y f p h. h; one = λ y p q h k. absurd h }

items-apart : {A : Type 0} (item : List A → Form A) → ((before : List A) → IsDecided (item before)) → (before items : List A) → ItemsFit item before items → (p : ℕ) → ItemsFaultAt item before items p → ⊥
items-apart item decided before [] f p h = h
items-apart item decided before (x ∷ items) f p h =
    apart-first ((item before).Fits x) (ItemsFit item (before ++ x ∷ []) items) ((item before).FaultAt x) (ItemsFaultAt item (before ++ x ∷ []) items) (length ((item before).bytes x))
    ((decided before).apart x) (items-apart item decided (before ++ x ∷ []) items) f p h

items-one : {A : Type 0} (item : List A → Form A) → ((before : List A) → IsDecided (item before)) → (before items : List A) (p q : ℕ) → ItemsFaultAt item before items p → ItemsFaultAt item before items q → p ≡ q
items-one item decided before [] p q h k = absurd h
items-one item decided before (x ∷ items) p q h k =
    one-first ((item before).Fits x) (ItemsFit item (before ++ x ∷ []) items) ((item before).FaultAt x) (ItemsFaultAt item (before ++ x ∷ []) items) (length ((item before).bytes x))
    ((decided before).apart x) ((decided before).one x) (items-one item decided (before ++ x ∷ []) items) p q h k

pub decided-listed : {A : Type 0} (width : ℕ) (is_lawful : ℕ → Bool) (item : List A → Form A) → ((before : List A) → IsDecided (item before)) → IsDecided (listed width is_lawful item)
decided-listed width is_lawful item decided =
    let count : IsDecided (number width is_lawful) = decided-field (number_spelling width) is_lawful in
    record {
      apart = λ items. apart-first ((number width is_lawful).Fits (length items)) (ItemsFit item [] items) ((number width is_lawful).FaultAt (length items)) (ItemsFaultAt item [] items) width (count.apart (length items)) (items-apart item decided [] items);
      one = λ items. one-first ((number width is_lawful).Fits (length items)) (ItemsFit item [] items) ((number width is_lawful).FaultAt (length items)) (ItemsFaultAt item [] items) width (count.apart (length items)) (count.one (length items)) (items-one item decided [] items);
    }

-- ---- a count of which more is read than is lawful: what no rows have, and is read all the same, is marked
abbrev pub number_read : (width : ℕ) → (is_lawful is_read : ℕ → Bool) → Form ℕ
number_read width is_lawful is_read = record { bytes = (number width is_lawful).bytes; Fits = (number width is_lawful).Fits; FaultAt = (number width is_lawful).FaultAt; reading = (number width is_read).reading }

abbrev pub listed_read : {A : Type 0} → (width : ℕ) → (is_lawful is_read : ℕ → Bool) → (List A → Form A) → Form (List A)
listed_read width is_lawful is_read item = record { bytes = (listed width is_lawful item).bytes; Fits = (listed width is_lawful item).Fits; FaultAt = (listed width is_lawful item).FaultAt; reading = (listed width is_read item).reading }

-- ---- what is read of bytes

-- A fault is found at its place.
pub record FindsIn {B : Type 0} (fault : ℕ → Type 0) (bytes : List ℕ) (read : Result B ℕ) : Type 0 where
  pub place : ℕ
  pub left : ℕ
  pub is : fault place
  pub whole : place + left ≡ length bytes
  pub reads : read ≡ Err left

-- No field misleads: the value fits, or its fault is found whatever stands behind.
abbrev pub IsWhole : {B : Type 0} → (fits : Type 0) → (fault : ℕ → Type 0) → (bytes : List ℕ) → (read : List ℕ → Result B ℕ) → Type 0
IsWhole fits fault bytes read = fits ⊎ ((rest : List ℕ) → FindsIn fault (bytes ++ rest) (read (bytes ++ rest)))

-- A field misleads, at so many bytes: its fault, or one before it, is found in the bytes before it.
pub record IsCut {B : Type 0} (fault : ℕ → Type 0) (bytes : List ℕ) (read : List ℕ → Result B ℕ) (begin place : ℕ) : Type 0 where
  pub count : ℕ
  pub at : place ≡ begin + count
  pub within : count ≤ length bytes
  pub found : FindsIn fault (take count bytes) (read (take count bytes))

abbrev pub Judgement : {B : Type 0} → (fits : Type 0) → (fault : ℕ → Type 0) → (bytes : List ℕ) → (read : List ℕ → Result B ℕ) → (begin : ℕ) → Option ℕ → Type 0
Judgement fits fault bytes read begin None = IsWhole fits fault bytes read
Judgement fits fault bytes read begin (Some place) = IsCut fault bytes read begin place

take-behind : (a b : List ℕ) (n : ℕ) → take (length a + n) (a ++ b) ≡ a ++ take n b
take-behind [] b n = ap (λ m. take m b) (zero-add n)
take-behind (x ∷ a) b n =
    let e : suc (length a) + n ≡ suc (length a + n) = omega arith in
    ap (λ m. take m (x ∷ (a ++ b))) e ∙ ap (λ t. x ∷ t) (take-behind a b n)

-- ---- one part behind another
module _ {K B : Type 0} (fits fits' : Type 0) (fault fault' : ℕ → Type 0) (a b : List ℕ) (read : List ℕ → Reading K) (k : K) (next : K × List ℕ → Result B ℕ) (width : ℕ)
    (wide : width ≡ length a) (again : fits → (rest : List ℕ) → read (a ++ rest) ≡ Ok (k, rest)) where
  in-first : (bytes : List ℕ) → FindsIn fault bytes (read bytes) → FindsIn (FirstOf fault fits width fault') bytes (read bytes >>= next)
  in-first bytes f = record { place = f.place; left = f.left; is = inl f.is; whole = f.whole; reads = ap (λ r. r >>= next) f.reads }

  in-rest : fits → (t : List ℕ) → FindsIn fault' t (next (k, t)) → FindsIn (FirstOf fault fits width fault') (a ++ t) (read (a ++ t) >>= next)
  in-rest f t g = record {
    place = width + g.place;
    left = g.left;
    is = inr (f, (g.place, g.is, refl));
    whole = omega (arith, length-append a t, wide, g.whole);
    reads = ap (λ r. r >>= next) (again f t) ∙ g.reads;
  }

  abbrev Both : List ℕ → Type 0
  Both t = FindsIn (FirstOf fault fits width fault') t (read t >>= next)

  both-whole : IsWhole fits fault a read → IsWhole fits' fault' b (λ t. next (k, t)) → IsWhole (fits × fits') (FirstOf fault fits width fault') (a ++ b) (λ t. read t >>= next)
  both-whole (inl f) (inl g) = inl (f, g)
  both-whole (inl f) (inr g) = inr (λ rest. subst Both (sym (append_assoc a b rest)) (in-rest f (b ++ rest) (g rest)))
  both-whole (inr f) g = inr (λ rest. subst Both (sym (append_assoc a b rest)) (in-first (a ++ (b ++ rest)) (f (b ++ rest))))

  first-cut : (begin place : ℕ) → IsCut fault a read begin place → IsCut (FirstOf fault fits width fault') (a ++ b) (λ t. read t >>= next) begin place
  first-cut begin place c = record {
    count = c.count;
    at = c.at;
    within = omega (arith, c.within, length-append a b);
    found = subst Both (sym (take-append-le c.count a b c.within)) (in-first (take c.count a) c.found);
  }

  found-cut : (n : ℕ) → IsWhole fits fault a read → FindsIn fault' (take n b) (next (k, take n b)) → Both (a ++ take n b)
  found-cut n (inl f) g = in-rest f (take n b) g
  found-cut n (inr f) g = in-first (a ++ take n b) (f (take n b))

  rest-cut : (begin behind place : ℕ) → behind ≡ begin + width → IsWhole fits fault a read → IsCut fault' b (λ t. next (k, t)) behind place → IsCut (FirstOf fault fits width fault') (a ++ b) (λ t. read t >>= next) begin place
  rest-cut begin behind place e h c =
      let same : take (width + c.count) (a ++ b) ≡ a ++ take c.count b = ap (λ n. take (n + c.count) (a ++ b)) wide ∙ take-behind a b c.count in
      record {
        count = width + c.count;
        at = omega (arith, c.at, e);
        within = omega (arith, c.within, length-append a b, wide);
        found = subst Both (sym same) (found-cut c.count h c.found);
      }

  pub both : (begin behind : ℕ) (o p : Option ℕ) → behind ≡ begin + width → Judgement fits fault a read begin o → Judgement fits' fault' b (λ t. next (k, t)) behind p
      → Judgement (fits × fits') (FirstOf fault fits width fault') (a ++ b) (λ t. read t >>= next) begin (option_or o p)
  both begin behind None None e h g = both-whole h g
  both begin behind None (Some place) e h c = rest-cut begin behind place e h c
  both begin behind (Some place) p e c g = first-cut begin place c

-- ---- a form judges values that their types keep

-- `Kept` says what types keep of a value, and `marks` which of its fields may mislead.
pub record IsJudged {A : Type 0} (form : Form A) (width : A → ℕ) (Kept : A → Type 0) (marks : ℕ → A → List Fact) : Type 0 where
  pub wide : (x : A) → Kept x → width x ≡ length (form.bytes x)
  pub again : (x : A) → form.Fits x → (rest : List ℕ) → form.reading (form.bytes x ++ rest) ≡ Ok (x, rest)
  pub judged : (x : A) → Kept x → (begin : ℕ) → Judgement (form.Fits x) (form.FaultAt x) (form.bytes x) form.reading begin (first_broken (marks begin x))

pub record Judged (A : Type 0) : Type 1 where
  pub form : Form A
  pub width : A → ℕ
  pub Kept : A → Type 0
  pub marks : ℕ → A → List Fact
  pub is : IsJudged form width Kept marks
  pub decided : IsDecided form

-- the same, told otherwise
pub judged-as : {A : Type 0} (form : Form A) (width width' : A → ℕ) (Kept Kept' : A → Type 0) (marks marks' : ℕ → A → List Fact) → IsJudged form width Kept marks
    → ((x : A) → Kept' x → Kept x) → ((x : A) → width' x ≡ width x) → ((begin : ℕ) (x : A) → marks' begin x ≡ marks begin x) → IsJudged form width' Kept' marks'
judged-as form width width' Kept Kept' marks marks' is kept widths same = record {
  wide = λ x k. widths x ∙ is.wide x (kept x k);
  again = is.again;
  judged = λ x k begin. subst (λ (m : List Fact). Judgement (form.Fits x) (form.FaultAt x) (form.bytes x) form.reading begin (first_broken m)) (sym (same begin x)) (is.judged x (kept x k) begin);
}

pub judged-followed : {A K : Type 0} (part : Part A K) (rest : K → Form A) (width : K → ℕ) (width' : K → A → ℕ) (Kept : K → Type 0) (Kept' : K → A → Type 0) (marks : ℕ → K → List Fact) (marks' : K → ℕ → A → List Fact)
    → IsJudged part.form width Kept marks → ((k : K) → IsJudged (rest k) (width' k) (Kept' k) (marks' k))
    → IsJudged (followed part rest) (λ x. width (part.of x) + width' (part.of x) x) (λ x. Kept (part.of x) × Kept' (part.of x) x) (λ begin x. marks begin (part.of x) ++ marks' (part.of x) (begin + width (part.of x)) x)
judged-followed {A = A} {K = K} part rest width width' Kept Kept' marks marks' first others = record {
  wide = λ x h. omega (arith, first.wide (part.of x) h.0, (others (part.of x)).wide x h.1, length-append (part.form.bytes (part.of x)) ((rest (part.of x)).bytes x));
  again = λ x h behind.
      ap (λ (t : List ℕ). part.form.reading t >>= λ k. (rest k.0).reading k.1) (append_assoc (part.form.bytes (part.of x)) ((rest (part.of x)).bytes x) behind)
      ∙ ap (λ (r : Reading K). r >>= λ k. (rest k.0).reading k.1) (first.again (part.of x) h.0 ((rest (part.of x)).bytes x ++ behind))
      ∙ (others (part.of x)).again x h.1 behind;
  judged = λ x h begin.
      let of : K = part.of x in
      let here : List Fact = marks begin of in
      let there : List Fact = marks' of (begin + width of) x in
      subst (Judgement ((followed part rest).Fits x) ((followed part rest).FaultAt x) ((followed part rest).bytes x) (followed part rest).reading begin) (sym (first-append here there))
      (both (part.form.Fits of) ((rest of).Fits x) (part.form.FaultAt of) ((rest of).FaultAt x) (part.form.bytes of) ((rest of).bytes x) part.form.reading of (λ k. (rest k.0).reading k.1)
      (length (part.form.bytes of)) refl (first.again of) begin (begin + width of) (first_broken here) (first_broken there) (ap (λ n. begin + n) (first.wide of h.0)) (first.judged of h.0 begin) ((others of).judged x h.1 (begin + width of)));
}

abbrev pub then_ : {A K : Type 0} (of : A → K) (first : Judged K) (rest : K → Judged A) → Judged A
then_ of first rest = record {
  form = followed (the of first.form) (λ k. (rest k).form);
  width = λ x. first.width (of x) + (rest (of x)).width x;
  Kept = λ x. first.Kept (of x) × (rest (of x)).Kept x;
  marks = λ begin x. first.marks begin (of x) ++ (rest (of x)).marks (begin + first.width (of x)) x;
  is = judged-followed (the of first.form) (λ k. (rest k).form) first.width (λ k. (rest k).width) first.Kept (λ k. (rest k).Kept) first.marks (λ k. (rest k).marks) first.is (λ k. (rest k).is);
  decided = decided-followed (the of first.form) (λ k. (rest k).form) first.decided (λ k. (rest k).decided);
}

pub judged-done : {A : Type 0} (x : A) → IsJudged (done x) (λ y. 0) (λ y. y ≡ x) (λ begin y. [])
judged-done {A = A} x = record { wide = λ y h. refl; again = λ y h rest. ap (λ (z : A). Ok (z, rest)) (sym h); judged = λ y h begin. inl h }

abbrev pub done_ : {A : Type 0} → A → Judged A
done_ x = record { form = done x; width = λ y. 0; Kept = λ y. y ≡ x; marks = λ begin y. []; is = judged-done x; decided = decided-done x }

-- ---- lists
module _ {A : Type 0} (item : List A → Form A) (width : A → ℕ) (Kept : A → Type 0) (marks : ℕ → A → List Fact) (steady : IsSteady item) (items_judged : (before : List A) → IsJudged (item before) width Kept marks) where
  wide-items : (items : List A) → AllByRecursion Kept items → sum_by width items ≡ length (flat_map (item []).bytes items)
  wide-items [] k = refl
  wide-items (x ∷ items) k =
      omega (arith, (items_judged []).wide x k.0, wide-items items k.1, length-append ((item []).bytes x) (flat_map (item []).bytes items), sum_by-cons width x items)

  judged-items : (before items : List A) → AllByRecursion Kept items → (begin : ℕ)
      → Judgement (ItemsFit item before items) (ItemsFaultAt item before items) (flat_map (item []).bytes items) (λ t. items_from item (length items) before t) begin (first_broken (told_of_each width marks begin items))
  judged-items before [] k begin = inl tt
  judged-items before (x ∷ items) k begin =
      let here : List Fact = marks begin x in
      let there : List Fact = told_of_each width marks (begin + width x) items in
      let is = items_judged before in
      let P : List ℕ → Option ℕ → Type 0 = λ bytes o. Judgement (ItemsFit item before (x ∷ items)) (ItemsFaultAt item before (x ∷ items)) bytes (λ t. items_from item (suc (length items)) before t) begin o in
      let made : P ((item before).bytes x ++ flat_map (item []).bytes items) (option_or (first_broken here) (first_broken there)) =
      both ((item before).Fits x) (ItemsFit item (before ++ x ∷ []) items) ((item before).FaultAt x) (ItemsFaultAt item (before ++ x ∷ []) items) ((item before).bytes x) (flat_map (item []).bytes items) (item before).reading x
      (λ y. items_from item (length items) (before ++ y.0 ∷ []) y.1) (length ((item before).bytes x)) refl (is.again x) begin (begin + width x) (first_broken here) (first_broken there) (ap (λ n. begin + n) (is.wide x k.0)) (is.judged x k.0 begin)
      (judged-items (before ++ x ∷ []) items k.1 (begin + width x)) in
      let steady_made : P ((item []).bytes x ++ flat_map (item []).bytes items) (option_or (first_broken here) (first_broken there)) =
      subst (λ (t : List ℕ). P (t ++ flat_map (item []).bytes items) (option_or (first_broken here) (first_broken there))) (steady before x) made in
      subst (P (flat_map (item []).bytes (x ∷ items))) (sym (first-append here there)) steady_made

  -- the same where the count is read so
  pub judged-listed_read : (bytes : ℕ) (is_lawful is_read test : ℕ → Bool) → IsUnique (number_spelling bytes) → ((before : List A) → IsExact (item before)) → ((n : ℕ) → is_lawful n ≡ true → is_read n ≡ true)
      → IsJudged (number_read bytes is_lawful is_read) (λ n. bytes) (λ n. Unit {0}) (λ begin n. told begin (test n) ∷ [])
      → IsJudged (listed_read bytes is_lawful is_read item) (λ items. bytes + sum_by width items) (λ items. AllByRecursion Kept items) (λ begin items. told begin (test (length items)) ∷ told_of_each width marks (begin + bytes) items)
  judged-listed_read bytes is_lawful is_read test unique exact more counts = record {
    wide = λ items k. omega (arith, wide-items items k, length-append (big_bytes bytes (length items)) (flat_map (item []).bytes items), length-bytes_high_first bytes (length items));
    again = λ items h rest. (exact-listed bytes is_read item (exact-field (number_spelling bytes) is_read unique) exact steady).again items rest ((h.0.0, more (length items) h.0.1), h.1);
    judged = λ items k begin.
        let here : List Fact = told begin (test (length items)) ∷ [] in
        let there : List Fact = told_of_each width marks (begin + bytes) items in
        subst (Judgement ((listed bytes is_lawful item).Fits items) ((listed bytes is_lawful item).FaultAt items) ((listed bytes is_lawful item).bytes items) (listed bytes is_read item).reading begin) (sym (first-append here there))
        (both ((number bytes is_lawful).Fits (length items)) (ItemsFit item [] items) ((number bytes is_lawful).FaultAt (length items)) (ItemsFaultAt item [] items) (big_bytes bytes (length items)) (flat_map (item []).bytes items)
        (number bytes is_read).reading (length items) (λ count. items_from item count.0 [] count.1) bytes (sym (length-bytes_high_first bytes (length items))) (counts.again (length items)) begin (begin + bytes)
        (first_broken here) (first_broken there) refl (counts.judged (length items) tt begin) (judged-items [] items k (begin + bytes)));
  }

  pub judged-listed : (bytes : ℕ) (is_lawful : ℕ → Bool) → IsUnique (number_spelling bytes) → ((before : List A) → IsExact (item before)) → IsJudged (number bytes is_lawful) (λ n. bytes) (λ n. Unit {0}) (λ begin n. told begin (has_room bytes n) ∷ [])
      → IsJudged (listed bytes is_lawful item) (λ items. bytes + sum_by width items) (λ items. AllByRecursion Kept items) (λ begin items. told begin (has_room bytes (length items)) ∷ told_of_each width marks (begin + bytes) items)
  judged-listed bytes is_lawful unique exact counts = record {
    wide = λ items k. omega (arith, wide-items items k, length-append (big_bytes bytes (length items)) (flat_map (item []).bytes items), length-bytes_high_first bytes (length items));
    again = λ items h rest. (exact-listed bytes is_lawful item (exact-field (number_spelling bytes) is_lawful unique) exact steady).again items rest h;
    judged = λ items k begin.
        let here : List Fact = told begin (has_room bytes (length items)) ∷ [] in
        let there : List Fact = told_of_each width marks (begin + bytes) items in
        subst (Judgement ((listed bytes is_lawful item).Fits items) ((listed bytes is_lawful item).FaultAt items) ((listed bytes is_lawful item).bytes items) (listed bytes is_lawful item).reading begin) (sym (first-append here there))
        (both ((number bytes is_lawful).Fits (length items)) (ItemsFit item [] items) ((number bytes is_lawful).FaultAt (length items)) (ItemsFaultAt item [] items) (big_bytes bytes (length items)) (flat_map (item []).bytes items)
        (number bytes is_lawful).reading (length items) (λ count. items_from item count.0 [] count.1) bytes (sym (length-bytes_high_first bytes (length items))) (counts.again (length items)) begin (begin + bytes)
        (first_broken here) (first_broken there) refl (counts.judged (length items) tt begin) (judged-items [] items k (begin + bytes)));
  }

pub no-marks : {A : Type 0} (width : A → ℕ) (begin : ℕ) (items : List A) → told_of_each width (λ place x. []) begin items ≡ []
no-marks width begin [] = refl
no-marks width begin (x ∷ items) = no-marks width (begin + width x) items
