-- Forms: how values are written as bytes, which are lawful, where the first fault of the others is, and how they are
-- read. A form is made of fields and lists, one behind another, so that one description says all four.
use Rattle.std.specs.Prelude.{◌≡◌, ◌⊎◌, ℕ, zero, suc, ◌+◌, Bool, nat_lt, List, [], ◌∷◌, ◌++◌, length, take, drop, Option, Some, None, Ok, Err, IsTrue, if◌then◌else◌}
use Rattle.std.specs.List.{flat_map}
use Rattle.byteorder.specs.Endian.{big_bytes, big_number}
use Rattle.database_image.specs.Reading.{Reading, ◌>>=◌, where_lawful}

-- The bytes of a value; whether it is lawful here; at which place of its bytes the first field stands that isn't; and
-- what is read from bytes that begin with such a value.
pub record Form (A : Type 0) : Type 1 where
  pub bytes : A → List ℕ
  pub Fits : A → Type 0
  pub FaultAt : A → (place : ℕ) → Type 0
  pub reading : List ℕ → Reading A

-- ---- one field

-- The values that bytes of one width spell, each in one way.
pub record Spelling (A : Type 0) : Type 0 where
  pub width : ℕ
  pub spelled : A → List ℕ
  pub value : List ℕ → Option A

-- A value is one of these where its spelling has the width and is read as it.
pub record IsSpelled {A : Type 0} (spelling : Spelling A) (x : A) : Type 0 where
  pub whole : length (spelling.spelled x) ≡ spelling.width
  pub back : spelling.value (spelling.spelled x) ≡ Some x

-- What a field that ends within the bytes spells.
abbrev pub valued : {A : Type 0} → Option A → (bytes rest : List ℕ) → Reading A
valued None bytes rest = Err (length bytes)
valued (Some x) bytes rest = Ok (x, rest)

unfoldable pub spelled_at : {A : Type 0} → Spelling A → (bytes : List ℕ) → Reading A
spelled_at spelling bytes =
    if nat_lt (length bytes) spelling.width then Err (length bytes)
    else valued (spelling.value (take spelling.width bytes)) bytes (drop spelling.width bytes)

-- A field has no lawful value where it doesn't end within the bytes, where it spells nothing, and where what it spells
-- isn't lawful.
abbrev pub field : {A : Type 0} → Spelling A → (A → Bool) → Form A
field spelling is_lawful = record {
  bytes = spelling.spelled;
  Fits = λ x. IsSpelled spelling x × IsTrue (is_lawful x);
  FaultAt = λ x place. ¬ (IsSpelled spelling x × IsTrue (is_lawful x)) × (place ≡ 0);
  reading = λ bytes. spelled_at spelling bytes >>= λ x. where_lawful (is_lawful x.0) bytes x;
}

-- A number of so many bytes, the highest first.
abbrev pub number_spelling : ℕ → Spelling ℕ
number_spelling width = record { width = width; spelled = big_bytes width; value = λ bytes. Some (big_number width bytes) }

abbrev pub number : ℕ → (ℕ → Bool) → Form ℕ
number width is_lawful = field (number_spelling width) is_lawful

-- ---- parts, one behind another

-- A part of a value, and its form.
pub record Part (A K : Type 0) : Type 1 where
  pub of : A → K
  pub form : Form K

abbrev pub the : {A K : Type 0} → (A → K) → Form K → Part A K
the of form = record { of = of; form = form }

-- The first fault of a part and the rest: that of the part; or the part fits, and behind its bytes comes that of the
-- rest.
abbrev pub FirstOf : (first : ℕ → Type 0) → (fits : Type 0) → (width : ℕ) → (rest : ℕ → Type 0) → (place : ℕ) → Type 0
FirstOf first fits width rest place = first place ⊎ (fits × ((behind : ℕ) × rest behind × (place ≡ width + behind)))

-- First that part, and then the rest, whose form it may determine.
abbrev pub followed : {A K : Type 0} → Part A K → (K → Form A) → Form A
followed part rest = record {
  bytes = λ x. part.form.bytes (part.of x) ++ (rest (part.of x)).bytes x;
  Fits = λ x. part.form.Fits (part.of x) × (rest (part.of x)).Fits x;
  FaultAt = λ x place. FirstOf (part.form.FaultAt (part.of x)) (part.form.Fits (part.of x)) (length (part.form.bytes (part.of x))) ((rest (part.of x)).FaultAt x) place;
  reading = λ bytes. part.form.reading bytes >>= λ k. (rest k.0).reading k.1;
}

-- Nothing more: the value is this one.
abbrev pub done : {A : Type 0} → A → Form A
done x = record { bytes = λ y. []; Fits = λ y. y ≡ x; FaultAt = λ y place. ⊥; reading = λ bytes. Ok (x, bytes) }

-- ---- lists

-- So many items, each in the form that it has behind those before it.
abbrev pub items_from : {A : Type 0} → (List A → Form A) → ℕ → List A → List ℕ → Reading (List A)
items_from item zero before bytes = Ok (before, bytes)
items_from item (suc count) before bytes = (item before).reading bytes >>= λ x. items_from item count (before ++ x.0 ∷ []) x.1

abbrev pub ItemsFit : {A : Type 0} → (List A → Form A) → (before items : List A) → Type 0
ItemsFit item before [] = Unit {0}
ItemsFit item before (x ∷ items) = (item before).Fits x × ItemsFit item (before ++ x ∷ []) items

abbrev pub ItemsFaultAt : {A : Type 0} → (List A → Form A) → (before items : List A) → (place : ℕ) → Type 0
ItemsFaultAt item before [] place = ⊥
ItemsFaultAt item before (x ∷ items) place = FirstOf ((item before).FaultAt x) ((item before).Fits x) (length ((item before).bytes x)) (ItemsFaultAt item (before ++ x ∷ []) items) place

-- How many there are, a number of so many bytes, and the items.
abbrev pub listed : {A : Type 0} → (width : ℕ) → (ℕ → Bool) → (List A → Form A) → Form (List A)
listed width is_lawful item = record {
  bytes = λ items. big_bytes width (length items) ++ flat_map (item []).bytes items;
  Fits = λ items. (number width is_lawful).Fits (length items) × ItemsFit item [] items;
  FaultAt = λ items place. FirstOf ((number width is_lawful).FaultAt (length items)) ((number width is_lawful).Fits (length items)) width (ItemsFaultAt item [] items) place;
  reading = λ bytes. (number width is_lawful).reading bytes >>= λ count. items_from item count.0 [] count.1;
}
