-- How many bytes values have in the forms of the image.
use Rattle.std.proofs.Common.{◌≡◌, ℕ, suc, ◌+◌, ◌*◌, Bool, List, [], ◌∷◌, ◌++◌, length, refl, sym, ap, ◌∙◌, arith, length-append, mul-zero, mul-suc}
use Rattle.std.specs.List.{sum_by, flat_map}
use Rattle.std.proofs.lemmas.List.Sums.{sum_by-cons}
use Rattle.byteorder.specs.Endian.{big_bytes}
use Rattle.database_image.specs.Forms.{Form, Spelling, field, Part, followed, done, ItemsFit, listed}
use Rattle.database_image.proofs.Exact.{IsSteady}

-- Where a value is lawful, so many bytes are its own.
abbrev pub IsWide : {A : Type 0} → Form A → (A → ℕ) → Type 0
IsWide {A = A} form width = (x : A) → form.Fits x → length (form.bytes x) ≡ width x

pub wide-field : {A : Type 0} (s : Spelling A) (is_lawful : A → Bool) → IsWide (field s is_lawful) (λ x. s.width)
wide-field s is_lawful x f = f.0.whole

pub wide-followed : {A K : Type 0} (part : Part A K) (rest : K → Form A) (first : K → ℕ) (others : K → A → ℕ) → IsWide part.form first → ((k : K) → IsWide (rest k) (others k))
    → IsWide (followed part rest) (λ x. first (part.of x) + others (part.of x) x)
wide-followed part rest first others one two x f =
    let a = length-append (part.form.bytes (part.of x)) ((rest (part.of x)).bytes x) in
    let b : length (part.form.bytes (part.of x)) ≡ first (part.of x) = one (part.of x) f.0 in
    let c : length ((rest (part.of x)).bytes x) ≡ others (part.of x) x = two (part.of x) x f.1 in
    omega (arith, a, b, c)

pub wide-done : {A : Type 0} (x : A) → IsWide (done x) (λ y. 0)
wide-done x y f = refl

wide-items : {A : Type 0} (item : List A → Form A) (item_width : A → ℕ) → IsSteady item → ((before : List A) → IsWide (item before) item_width)
    → (before items : List A) → ItemsFit item before items → length (flat_map (item []).bytes items) ≡ sum_by item_width items
wide-items item item_width steady wide before [] f = refl
wide-items item item_width steady wide before (x ∷ items) f =
    let one : length ((item []).bytes x) ≡ item_width x = ap length (sym (steady before x)) ∙ wide before x f.0 in
    let rest : length (flat_map (item []).bytes items) ≡ sum_by item_width items = wide-items item item_width steady wide (before ++ x ∷ []) items f.1 in
    let whole : length (flat_map (item []).bytes (x ∷ items)) ≡ length ((item []).bytes x) + length (flat_map (item []).bytes items) = length-append ((item []).bytes x) (flat_map (item []).bytes items) in
    let sum : sum_by item_width (x ∷ items) ≡ item_width x + sum_by item_width items = sum_by-cons item_width x items in
    omega (arith, one, rest, whole, sum)

pub wide-listed : {A : Type 0} (width : ℕ) (is_lawful : ℕ → Bool) (item : List A → Form A) (item_width : A → ℕ) → IsSteady item → ((before : List A) → IsWide (item before) item_width)
    → IsWide (listed width is_lawful item) (λ items. width + sum_by item_width items)
wide-listed width is_lawful item item_width steady wide items f =
    let count : length (big_bytes width (length items)) ≡ width = f.0.0.whole in
    let rest : length (flat_map (item []).bytes items) ≡ sum_by item_width items = wide-items item item_width steady wide [] items f.1 in
    let whole = length-append (big_bytes width (length items)) (flat_map (item []).bytes items) in
    omega (arith, count, rest, whole)

-- Items of one width.
pub same_width : {A : Type 0} (n : ℕ) (items : List A) → sum_by (λ x. n) items ≡ n * length items
same_width n [] = omega (arith, mul-zero n)
same_width n (x ∷ items) =
    let h : sum_by (λ y. n) items ≡ n * length items = same_width n items in
    let sum : sum_by (λ y. n) (x ∷ items) ≡ n + sum_by (λ y. n) items = sum_by-cons (λ y. n) x items in
    let product : n * suc (length items) ≡ n * length items + n = mul-suc n (length items) in
    omega (arith, h, sum, product)
