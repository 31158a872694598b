-- Two identifiers are equal exactly where their numbers and their lengths are.
use Rattle.std.proofs.Common.{◌≡◌, ℕ, ◌<◌, eqb, List, length, take, get_or, sym, refl, ◌∙◌, ap, subst, w64}
use Rattle.std.specs.Str.{bytes_eq}
use Rattle.std.specs.Int.{from_be_bytes}
use Rattle.std.proofs.lemmas.Bool.Decides.{same_from_decides, Decides-eqb, Decides-like}
use Rattle.std.proofs.lemmas.Nat.{be_bytes_8}
use Rattle.std.proofs.lemmas.Slice.Eq.{bytes_eq-Decides}
use Rattle.access_levels.specs.Number.{as_number}
use Rattle.access_levels.specs.Padding.{spelling, padded, IsPadded, padded-spelling}
use Rattle.access_levels.specs.declared.ids.Id.TheInside.{Inside}

-- Eight bytes are known by their number.
same_bytes : (a b : List ℕ) → length a ≡ 8 → length b ≡ 8 → ((k : ℕ) → get_or a k 0 < 256) → ((k : ℕ) → get_or b k 0 < 256) → from_be_bytes w64 a ≡ from_be_bytes w64 b → a ≡ b
same_bytes a b la lb fa fb same = sym (be_bytes_8 a (from_be_bytes w64 b) la fa (sym same)) ∙ be_bytes_8 b (from_be_bytes w64 b) lb fb refl

as_number-spelling : (id : Inside) → IsPadded id → from_be_bytes w64 id.bytes ≡ as_number (spelling id)
unfolding as_number
as_number-spelling id h = ap (λ (i : Inside). from_be_bytes w64 i.bytes) (sym (padded-spelling id h))

same_text : (a b : Inside) → IsPadded a → IsPadded b → (as_number (spelling a) ≡ as_number (spelling b)) × (a.len ≡ b.len) → spelling a ≡ spelling b
same_text a b h k same =
    let bytes : a.bytes ≡ b.bytes = same_bytes a.bytes b.bytes h.full k.full h.bytes_fit k.bytes_fit (as_number-spelling a h ∙ same.0 ∙ sym (as_number-spelling b k)) in
    ap (λ n. take n a.bytes) same.1 ∙ ap (λ bs. take b.len bs) bytes

same_number : (a b : Inside) → IsPadded a → IsPadded b → spelling a ≡ spelling b → (as_number (spelling a) ≡ as_number (spelling b)) × (a.len ≡ b.len)
same_number a b h k same = (ap as_number same, ap (λ (i : Inside). i.len) (sym (padded-spelling a h) ∙ ap padded same ∙ padded-spelling b k))

same_length : (a b : Inside) → IsPadded a → IsPadded b → as_number (spelling a) ≡ as_number (spelling b) → eqb a.len b.len ≡ bytes_eq (spelling a) (spelling b)
same_length a b h k numbers = same_from_decides _ _
    (Decides-like _ (λ lens. same_text a b h k (numbers, lens)) (λ same. (same_number a b h k same).1) (Decides-eqb _ _))
    (bytes_eq-Decides (spelling a) (spelling b))

pub bytes_eq-lengths : (a b : Inside) (x y : List ℕ) → spelling a ≡ x → spelling b ≡ y → IsPadded a → IsPadded b → as_number x ≡ as_number y → eqb a.len b.len ≡ bytes_eq x y
bytes_eq-lengths a b x y is_x is_y h k =
    let P : List ℕ → List ℕ → Type 0 = λ s t. as_number s ≡ as_number t → eqb a.len b.len ≡ bytes_eq s t in
    subst (λ s. P s y) is_x (subst (P (spelling a)) is_y (same_length a b h k))

pub as_number-bytes : (a : Inside) (x : List ℕ) → spelling a ≡ x → IsPadded a → from_be_bytes w64 a.bytes ≡ as_number x
as_number-bytes a x is h = as_number-spelling a h ∙ ap as_number is
