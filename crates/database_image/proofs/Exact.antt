-- A form is exact: what is read is lawful and was written so, and what is lawful is read again from how it is written.
-- Each way to make a form of others keeps this.
use Rattle.std.proofs.Common.{◌≡◌, ℕ, zero, suc, ◌+◌, ◌≤◌, Bool, true, false, cond, le-ltb, List, [], ◌∷◌, ◌++◌, length, take, drop, Option, Some, None, Result, Ok, Err, refl, sym, ap, subst, ◌∙◌, append_assoc, arith, inl, inr}
use Rattle.std.specs.Prelude.{IsTrue, nat_lt}
use Rattle.std.specs.List.{flat_map}
use Rattle.std.proofs.lemmas.Bool.{cases_lt, ltb-false}
use Rattle.std.proofs.lemmas.List.{take_at, drop_at, take-append-drop, length-append, length-take, get_or-drop, get_or-take, get_or_past, append-nil}
use Rattle.byteorder.specs.Endian.{big_bytes}
use Rattle.database_image.specs.Reading.{AreBytes, Reading, ◌>>=◌, where_lawful}
use Rattle.database_image.specs.Forms.{Form, Spelling, IsSpelled, valued, spelled_at, field, number, Part, followed, done, items_from, ItemsFit, listed}

pub AreBytes-drop : (n : ℕ) (bytes : List ℕ) → AreBytes bytes → AreBytes (drop n bytes)
AreBytes-drop n bytes h i = rw get_or-drop (h (n + i))

pub AreBytes-take : (n : ℕ) (bytes : List ℕ) → AreBytes bytes → AreBytes (take n bytes)
AreBytes-take n bytes h i =
    elim (cases_lt i n) [
      | inl lt ↦ rw (get_or-take n bytes i 0 lt) (h i)
      | inr le ↦ rw (get_or_past (take n bytes) i 0 (omega (arith, length-take n bytes))) (omega arith)
    ]

-- ---- what was read

pub record Takes {A : Type 0} (form : Form A) (bytes : List ℕ) (x : A) (rest : List ℕ) : Type 0 where
  pub parts : bytes ≡ form.bytes x ++ rest
  pub fits : form.Fits x
  pub behind : AreBytes rest

pub record IsExact {A : Type 0} (form : Form A) : Type 0 where
  pub takes : (bytes : List ℕ) (x : A) (rest : List ℕ) → AreBytes bytes → form.reading bytes ≡ Ok (x, rest) → Takes form bytes x rest
  pub again : (x : A) (rest : List ℕ) → form.Fits x → form.reading (form.bytes x ++ rest) ≡ Ok (x, rest)

pub bind_ok : {A B : Type 0} (r : Result A ℕ) (f : A → Result B ℕ) (y : B) → (r >>= f) ≡ Ok y → (x : A) × (r ≡ Ok x) × (f x ≡ Ok y)
bind_ok (Ok x) f y e = (x, refl, e)
bind_ok (Err d) f y e = absurd cc

lawful_ok : {A : Type 0} (b : Bool) (bytes : List ℕ) (x y : A) → where_lawful b bytes x ≡ Ok y → (b ≡ true) × (x ≡ y)
lawful_ok true bytes x y e = (refl, cc)
lawful_ok false bytes x y e = absurd cc

-- ---- a field

-- No other bytes spell the value.
abbrev pub IsUnique : {A : Type 0} → Spelling A → Type 0
IsUnique {A = A} spelling = (bytes : List ℕ) (x : A) → AreBytes bytes → length bytes ≡ spelling.width → spelling.value bytes ≡ Some x → spelling.spelled x ≡ bytes

valued_ok : {A : Type 0} (value : Option A) (bytes rest : List ℕ) (y : A × List ℕ) → valued value bytes rest ≡ Ok y → (value ≡ Some y.0) × (rest ≡ y.1)
valued_ok None bytes rest y e = absurd cc
valued_ok (Some x) bytes rest y e = (cc, cc)

test_ok : {A : Type 0} (b : Bool) (d : ℕ) (r : Result A ℕ) (y : A) → cond b (Err d) r ≡ Ok y → (b ≡ false) × (r ≡ Ok y)
test_ok true d r y e = absurd cc
test_ok false d r y e = (refl, e)

spelled_ok : {A : Type 0} (s : Spelling A) (bytes : List ℕ) (y : A × List ℕ) → spelled_at s bytes ≡ Ok y → (s.width ≤ length bytes) × (s.value (take s.width bytes) ≡ Some y.0) × (drop s.width bytes ≡ y.1)
unfolding spelled_at
spelled_ok s bytes y e =
    let t = test_ok (nat_lt (length bytes) s.width) (length bytes) (valued (s.value (take s.width bytes)) bytes (drop s.width bytes)) y e in
    let v = valued_ok (s.value (take s.width bytes)) bytes (drop s.width bytes) y t.1 in
    (ltb-false _ _ t.0, v.0, v.1)

pub spelled_again : {A : Type 0} (s : Spelling A) (x : A) (rest : List ℕ) → IsSpelled s x → spelled_at s (s.spelled x ++ rest) ≡ Ok (x, rest)
unfolding spelled_at
spelled_again s x rest h =
    let long : nat_lt (length (s.spelled x ++ rest)) s.width ≡ false = le-ltb _ _ (omega (arith, length-append (s.spelled x) rest, h.whole)) in
    rw (long, take_at (s.spelled x) rest s.width h.whole, drop_at (s.spelled x) rest s.width h.whole, h.back) refl

lawful_again : {A : Type 0} (b : Bool) (bytes : List ℕ) (y : A) → IsTrue b → where_lawful b bytes y ≡ Ok y
lawful_again true bytes y h = refl
lawful_again false bytes y h = absurd cc

pub exact-field : {A : Type 0} (s : Spelling A) (is_lawful : A → Bool) → IsUnique s → IsExact (field s is_lawful)
exact-field {A = A} s is_lawful unique = record {
  takes = λ bytes x rest fits e.
      let b = bind_ok (spelled_at s bytes) (λ y. where_lawful (is_lawful y.0) bytes y) (x, rest) e in
      let l = lawful_ok (is_lawful b.0.0) bytes b.0 (x, rest) b.2 in
      let p = spelled_ok s bytes b.0 b.1 in
      let len : length (take s.width bytes) ≡ s.width = omega (arith, length-take s.width bytes, p.0) in
      let same : s.spelled b.0.0 ≡ take s.width bytes = unique (take s.width bytes) b.0.0 (AreBytes-take s.width bytes fits) len p.1 in
      let made : Takes (field s is_lawful) bytes b.0.0 b.0.1 = record {
        parts = rw (same, ← p.2) (sym (take-append-drop s.width bytes));
        fits = (record { whole = rw same len; back = rw same p.1 }, l.0);
        behind = rw (← p.2) (AreBytes-drop s.width bytes fits);
      } in
      subst (λ (y : A × List ℕ). Takes (field s is_lawful) bytes y.0 y.1) l.1 made;
  again = λ x rest h. rw (spelled_again s x rest h.0) (lawful_again (is_lawful x) (s.spelled x ++ rest) (x, rest) h.1);
}

-- ---- parts, one behind another

-- What is behind a part says which it was.
abbrev pub Pins : {A K : Type 0} → Part A K → (K → Form A) → Type 0
Pins {A = A} {K = K} part rest = (k : K) (x : A) → part.form.Fits k → (rest k).Fits x → part.of x ≡ k

pub exact-followed : {A K : Type 0} (part : Part A K) (rest : K → Form A) → IsExact part.form → ((k : K) → IsExact (rest k)) → Pins part rest → IsExact (followed part rest)
exact-followed {A = A} {K = K} part rest first others pins = record {
  takes = λ bytes x behind fits e.
      let b = bind_ok (part.form.reading bytes) (λ k. (rest k.0).reading k.1) (x, behind) e in
      let f = first.takes bytes b.0.0 b.0.1 fits b.1 in
      let o = (others b.0.0).takes b.0.1 x behind f.behind b.2 in
      let pin : part.of x ≡ b.0.0 = pins b.0.0 x f.fits o.fits in
      let whole : bytes ≡ (part.form.bytes b.0.0 ++ (rest b.0.0).bytes x) ++ behind = f.parts ∙ ap (λ (t : List ℕ). part.form.bytes b.0.0 ++ t) o.parts ∙ sym (append_assoc (part.form.bytes b.0.0) ((rest b.0.0).bytes x) behind) in
      record {
        parts = subst (λ (k : K). bytes ≡ (part.form.bytes k ++ (rest k).bytes x) ++ behind) (sym pin) whole;
        fits = subst (λ (k : K). part.form.Fits k × (rest k).Fits x) (sym pin) (f.fits, o.fits);
        behind = o.behind;
      };
  again = λ x behind h.
      ap (λ (t : List ℕ). part.form.reading t >>= λ k. (rest k.0).reading k.1) (append_assoc (part.form.bytes (part.of x)) ((rest (part.of x)).bytes x) behind)
      ∙ ap (λ (r : Reading K). r >>= λ k. (rest k.0).reading k.1) (first.again (part.of x) ((rest (part.of x)).bytes x ++ behind) h.0)
      ∙ (others (part.of x)).again x behind h.1;
}

abbrev done_with : {A : Type 0} → A → List ℕ → Reading A
done_with x bytes = Ok (x, bytes)

both : {A : Type 0} (x : A) (bytes : List ℕ) (r : A × List ℕ) → done_with x bytes ≡ Ok r → (x, bytes) ≡ r
both x bytes r e = cc

pub exact-done : {A : Type 0} (x : A) → IsExact (done x)
exact-done {A = A} x = record {
  takes = λ bytes y rest fits e.
      let made : Takes (done x) bytes x bytes = record { parts = refl; fits = refl; behind = fits } in
      subst (λ (r : A × List ℕ). Takes (done x) bytes r.0 r.1) (both x bytes (y, rest) e) made;
  again = λ y rest h. ap (λ (z : A). Ok (z, rest)) (sym h);
}

-- ---- lists

-- Its bytes don't depend on the items before.
abbrev pub IsSteady : {A : Type 0} → (List A → Form A) → Type 0
IsSteady {A = A} item = (before : List A) (x : A) → (item before).bytes x ≡ (item []).bytes x

abbrev written : {A : Type 0} → (List A → Form A) → List A → List ℕ
written item items = flat_map (item []).bytes items

record TakesItems {A : Type 0} (item : List A → Form A) (count : ℕ) (before : List A) (bytes : List ℕ) (all : List A) (rest : List ℕ) : Type 0 where
  items : List A
  whole : all ≡ before ++ items
  counted : length items ≡ count
  parts : bytes ≡ written item items ++ rest
  fit : ItemsFit item before items
  behind : AreBytes rest

takes_items : {A : Type 0} (item : List A → Form A) → ((before : List A) → IsExact (item before)) → IsSteady item → (count : ℕ) (before : List A) (bytes : List ℕ) (all : List A) (rest : List ℕ) → AreBytes bytes → items_from item count before bytes ≡ Ok (all, rest) → TakesItems item count before bytes all rest
takes_items {A = A} item exact steady zero before bytes all rest fits e =
    let made : TakesItems item 0 before bytes before bytes = record { items = []; whole = sym (append-nil before); counted = refl; parts = refl; fit = tt; behind = fits } in
    subst (λ (r : List A × List ℕ). TakesItems item 0 before bytes r.0 r.1) (both before bytes (all, rest) e) made
takes_items {A = A} item exact steady (suc count) before bytes all rest fits e =
    let b = bind_ok ((item before).reading bytes) (λ x. items_from item count (before ++ x.0 ∷ []) x.1) (all, rest) e in
    let x = b.0.0 in
    let f = (exact before).takes bytes x b.0.1 fits b.1 in
    let o = takes_items item exact steady count (before ++ x ∷ []) b.0.1 all rest f.behind b.2 in
    record {
      items = x ∷ o.items;
      whole = o.whole ∙ append_assoc before (x ∷ []) o.items;
      counted = ap suc o.counted;
      parts = f.parts ∙ ap (λ (t : List ℕ). t ++ b.0.1) (steady before x) ∙ ap (λ (t : List ℕ). (item []).bytes x ++ t) o.parts ∙ sym (append_assoc ((item []).bytes x) (written item o.items) rest);
      fit = (f.fits, o.fit);
      behind = o.behind;
    }

items_again : {A : Type 0} (item : List A → Form A) → ((before : List A) → IsExact (item before)) → IsSteady item → (before items : List A) (rest : List ℕ) → ItemsFit item before items → items_from item (length items) before (written item items ++ rest) ≡ Ok (before ++ items, rest)
items_again item exact steady before [] rest h = ap (λ t. Ok (t, rest)) (sym (append-nil before))
items_again {A = A} item exact steady before (x ∷ items) rest h =
    let regrouped : written item (x ∷ items) ++ rest ≡ (item before).bytes x ++ (written item items ++ rest) = append_assoc ((item []).bytes x) (written item items) rest ∙ ap (λ (t : List ℕ). t ++ (written item items ++ rest)) (sym (steady before x)) in
    ap (λ (t : List ℕ). (item before).reading t >>= λ y. items_from item (length items) (before ++ y.0 ∷ []) y.1) regrouped
    ∙ ap (λ (r : Reading A). r >>= λ y. items_from item (length items) (before ++ y.0 ∷ []) y.1) ((exact before).again x (written item items ++ rest) h.0)
    ∙ items_again item exact steady (before ++ x ∷ []) items rest h.1
    ∙ ap (λ (t : List A). Ok (t, rest)) (append_assoc before (x ∷ []) items)

pub exact-listed : {A : Type 0} (width : ℕ) (is_lawful : ℕ → Bool) (item : List A → Form A) → IsExact (number width is_lawful) → ((before : List A) → IsExact (item before)) → IsSteady item → IsExact (listed width is_lawful item)
exact-listed {A = A} width is_lawful item counts exact steady = record {
  takes = λ bytes all rest fits e.
      let b = bind_ok ((number width is_lawful).reading bytes) (λ count. items_from item count.0 [] count.1) (all, rest) e in
      let f = counts.takes bytes b.0.0 b.0.1 fits b.1 in
      let o = takes_items item exact steady b.0.0 [] b.0.1 all rest f.behind b.2 in
      let count : b.0.0 ≡ length all = sym o.counted ∙ ap length (sym o.whole) in
      record {
        parts = subst (λ (xs : List A). bytes ≡ (big_bytes width (length all) ++ written item xs) ++ rest) (sym o.whole) (subst (λ (n : ℕ). bytes ≡ (big_bytes width n ++ written item o.items) ++ rest) count
            (f.parts ∙ ap (λ (t : List ℕ). big_bytes width b.0.0 ++ t) o.parts ∙ sym (append_assoc (big_bytes width b.0.0) (written item o.items) rest)));
        fits = (subst (number width is_lawful).Fits count f.fits, subst (ItemsFit item []) (sym o.whole) o.fit);
        behind = o.behind;
      };
  again = λ items rest h.
      ap (λ (t : List ℕ). (number width is_lawful).reading t >>= λ count. items_from item count.0 [] count.1) (append_assoc (big_bytes width (length items)) (written item items) rest)
      ∙ ap (λ (r : Reading ℕ). r >>= λ count. items_from item count.0 [] count.1) (counts.again (length items) (written item items ++ rest) h.0)
      ∙ items_again item exact steady [] items rest h.1;
}
