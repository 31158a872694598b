-- What holds of all that a form of an image reads, whatever the bytes are.
use Rattle.std.proofs.Common.{◌≡◌, ℕ, zero, suc, Bool, true, false, cond, List, [], ◌∷◌, ◌++◌, length, take, drop, Option, Some, None, Result, Ok, Err, refl, subst}
use Rattle.std.specs.Prelude.{nat_lt}
use Rattle.std.specs.List.{AllByRecursion}
use Rattle.database_image.specs.Reading.{Reading, ◌>>=◌, where_lawful}
use Rattle.database_image.specs.Forms.{Form, Spelling, valued, spelled_at, field, number, Part, the, followed, done, items_from, listed}
use Rattle.lawful_commands.proofs.RowLists.{all-push}

-- what is read has P
abbrev pub Only : {A : Type 0} → Form A → (A → Type 0) → Type 0
Only {A = A} form P = (bytes : List ℕ) (x : A) (rest : List ℕ) → form.reading bytes ≡ Ok (x, rest) → P x

pub record Reads {A : Type 0} (P : A → Type 0) : Type 1 where
  pub form : Form A
  pub only : Only form P

pub bind_ok : {A B : Type 0} (r : Result A ℕ) (f : A → Result B ℕ) (y : B) → (r >>= f) ≡ Ok y → (x : A) × (r ≡ Ok x) × (f x ≡ Ok y)
bind_ok (Ok x) f y e = (x, refl, e)
bind_ok (Err d) f y e = absurd cc

-- ---- a field: bytes that spell the value were read
lawful_ok : {A : Type 0} (b : Bool) (bytes : List ℕ) (x y : A) → where_lawful b bytes x ≡ Ok y → x ≡ y
lawful_ok true bytes x y e = cc
lawful_ok false bytes x y e = absurd cc

valued_ok : {A : Type 0} (value : Option A) (bytes rest : List ℕ) (y : A × List ℕ) → valued value bytes rest ≡ Ok y → value ≡ Some y.0
valued_ok None bytes rest y e = absurd cc
valued_ok (Some x) bytes rest y e = cc

test_ok : {A : Type 0} (b : Bool) (d : ℕ) (r : Result A ℕ) (y : A) → cond b (Err d) r ≡ Ok y → r ≡ Ok y
test_ok true d r y e = absurd cc
test_ok false d r y e = e

spelled_ok : {A : Type 0} (s : Spelling A) (bytes : List ℕ) (y : A × List ℕ) → spelled_at s bytes ≡ Ok y → s.value (take s.width bytes) ≡ Some y.0
unfolding spelled_at
spelled_ok s bytes y e =
    valued_ok (s.value (take s.width bytes)) bytes (drop s.width bytes) y
    (test_ok (nat_lt (length bytes) s.width) (length bytes) (valued (s.value (take s.width bytes)) bytes (drop s.width bytes)) y e)

pub only-field : {A : Type 0} (P : A → Type 0) (s : Spelling A) (is_lawful : A → Bool) → ((bytes : List ℕ) (x : A) → s.value bytes ≡ Some x → P x) → Only (field s is_lawful) P
only-field {A = A} P s is_lawful h bytes x rest e =
    let b = bind_ok (spelled_at s bytes) (λ y. where_lawful (is_lawful y.0) bytes y) (x, rest) e in
    let same : b.0 ≡ (x, rest) = lawful_ok (is_lawful b.0.0) bytes b.0 (x, rest) b.2 in
    subst (λ (y : A × List ℕ). P y.0) same (h (take s.width bytes) b.0.0 (spelled_ok s bytes b.0 b.1))

abbrev pub field_ : {A : Type 0} {P : A → Type 0} (s : Spelling A) (is_lawful : A → Bool) → ((bytes : List ℕ) (x : A) → s.value bytes ≡ Some x → P x) → Reads P
field_ {P = P} s is_lawful h = record { form = field s is_lawful; only = only-field P s is_lawful h }

-- ---- a part of which nothing is asked
abbrev pub any_ : {A : Type 0} (form : Form A) → Reads (λ (x : A). Unit {0})
any_ form = record { form = form; only = λ bytes x rest e. tt }

-- ---- parts, one behind another: the last says what holds of the whole, where those before it have what is asked
pub only-followed : {A K : Type 0} (P : K → Type 0) (Q : A → Type 0) (part : Part A K) (rest : K → Form A) → Only part.form P → ((k : K) → Only (rest k) (λ x. P k → Q x)) → Only (followed part rest) Q
only-followed P Q part rest first others bytes x behind e =
    let b = bind_ok (part.form.reading bytes) (λ k. (rest k.0).reading k.1) (x, behind) e in
    others b.0.0 b.0.1 x behind b.2 (first bytes b.0.0 b.0.1 b.1)

abbrev pub then_ : {A K : Type 0} {P : K → Type 0} {Q : A → Type 0} (of : A → K) → Reads P → ((k : K) → Reads (λ x. P k → Q x)) → Reads Q
then_ {P = P} {Q = Q} of first rest = record {
  form = followed (the of first.form) (λ k. (rest k).form);
  only = only-followed P Q (the of first.form) (λ k. (rest k).form) first.only (λ k. (rest k).only);
}

abbrev done_with : {A : Type 0} → A → List ℕ → Reading A
done_with x bytes = Ok (x, bytes)

both : {A : Type 0} (x : A) (bytes : List ℕ) (r : A × List ℕ) → done_with x bytes ≡ Ok r → (x, bytes) ≡ r
both x bytes r e = cc

pub only-done : {A : Type 0} (Q : A → Type 0) (x : A) → Q x → Only (done x) Q
only-done {A = A} Q x h bytes y rest e = subst (λ (r : A × List ℕ). Q r.0) (both x bytes (y, rest) e) h

abbrev pub done_ : {A : Type 0} {Q : A → Type 0} (x : A) → Q x → Reads Q
done_ {Q = Q} x h = record { form = done x; only = only-done Q x h }

-- ---- lists
only-items : {A : Type 0} (P : A → Type 0) (item : List A → Form A) → ((before : List A) → Only (item before) P) → (count : ℕ) (before : List A) (bytes : List ℕ) (all : List A) (rest : List ℕ)
    → AllByRecursion P before → items_from item count before bytes ≡ Ok (all, rest) → AllByRecursion P all
only-items {A = A} P item each zero before bytes all rest h e = subst (λ (r : List A × List ℕ). AllByRecursion P r.0) (both before bytes (all, rest) e) h
only-items P item each (suc count) before bytes all rest h e =
    let b = bind_ok ((item before).reading bytes) (λ x. items_from item count (before ++ x.0 ∷ []) x.1) (all, rest) e in
    only-items P item each count (before ++ b.0.0 ∷ []) b.0.1 all rest (all-push P before b.0.0 h (each before bytes b.0.0 b.0.1 b.1)) b.2

pub only-listed : {A : Type 0} (P : A → Type 0) (width : ℕ) (is_lawful : ℕ → Bool) (item : List A → Form A) → ((before : List A) → Only (item before) P) → Only (listed width is_lawful item) (AllByRecursion P)
only-listed P width is_lawful item each bytes all rest e =
    let b = bind_ok ((number width is_lawful).reading bytes) (λ count. items_from item count.0 [] count.1) (all, rest) e in
    only-items P item each b.0.0 [] b.0.1 all rest tt b.2

abbrev pub listed_ : {A : Type 0} {P : A → Type 0} (width : ℕ) (is_lawful : ℕ → Bool) (item : List A → Form A) → ((before : List A) → Only (item before) P) → Reads (AllByRecursion P)
listed_ {P = P} width is_lawful item each = record { form = listed width is_lawful item; only = only-listed P width is_lawful item each }
