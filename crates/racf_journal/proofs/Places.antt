-- One byte written within a file or behind it, and the images that a crash leaves of it.
use Rattle.std.proofs.Common.{ℕ, ◌+◌, ◌<◌, ◌≤◌, ◌≡◌, ◌∙◌, false, not, ◌&&◌, ◌||◌, ltb, List, [], ◌∷◌, ◌++◌, length, get_or, drop, sym, ap, arith, append_assoc, length-append}
use Rattle.std.proofs.lemmas.List.{take_all, take_at, drop_all, drop_at, drop_more, append-nil}
use Rattle.std.proofs.lemmas.Bool.{lt-ltb, le-ltb}
use Rattle.racf_outside.specs.Moments.{Moment, IsImage, is_written, durable, written}
use Rattle.racf_outside.proofs.Images.{front_stays, back_stays}

-- a place before or behind the one range that was written
pub unwritten_before : (place from to : ℕ) → place < from → is_written ((from, to) ∷ []) place ≡ false
unwritten_before place from to before = ap (λ b. (not b && ltb place to) || false) (lt-ltb place from before)

pub unwritten_behind : (place from to : ℕ) → to ≤ place → from ≤ to → is_written ((from, to) ∷ []) place ≡ false
unwritten_behind place from to behind order =
    ap (λ b. (not b && ltb place to) || false) (le-ltb place from (omega arith)) ∙ ap (λ b. b || false) (le-ltb place to behind)

-- a write behind all bytes, and one over a byte
pub written_end : (place : ℕ) (bytes more : List ℕ) → place ≡ length bytes → (written place more (durable bytes)).bytes ≡ bytes ++ more
written_end place bytes more at_end =
    ap (λ (l : List ℕ). l ++ (more ++ drop (place + length more) bytes)) (take_all place bytes (omega (arith, at_end)))
    ∙ ap (λ (l : List ℕ). bytes ++ (more ++ l)) (drop_all (place + length more) bytes (omega (arith, at_end)))
    ∙ ap (λ (l : List ℕ). bytes ++ l) (append-nil more)

pub written_byte : (place : ℕ) (base rest : List ℕ) (old byte : ℕ) → length base ≡ place → (written place (byte ∷ []) (durable (base ++ old ∷ rest))).bytes ≡ base ++ byte ∷ rest
written_byte place base rest old byte at =
    let split : base ++ old ∷ rest ≡ (base ++ old ∷ []) ++ rest = sym (append_assoc base (old ∷ []) rest) in
    ap (λ (l : List ℕ). l ++ (byte ∷ drop (place + 1) (base ++ old ∷ rest))) (take_at base (old ∷ rest) place at)
    ∙ ap (λ (l : List ℕ). base ++ byte ∷ l) (ap (drop (place + 1)) split ∙ drop_at (base ++ old ∷ []) rest (place + 1) (omega (arith, at, length-append base (old ∷ []))))

-- a moment at which a crash leaves the bytes of a front, one byte, and those behind it
pub around_byte : (place : ℕ) (base rest : List ℕ) (old byte : ℕ) (image : List ℕ) → length base ≡ place → IsImage (written place (byte ∷ []) (durable (base ++ old ∷ rest))) image → (any : ℕ) × (image ≡ base ++ any ∷ rest)
around_byte place base rest old byte image at i =
    let m : Moment = written place (byte ∷ []) (durable (base ++ old ∷ rest)) in
    let size : length (base ++ old ∷ rest) ≡ place + 1 + length rest = omega (arith, at, length-append base (old ∷ rest)) in
    let bytes : m.bytes ≡ base ++ byte ∷ rest = written_byte place base rest old byte at in
    let size_now : length m.bytes ≡ place + 1 + length rest = omega (arith, ap length bytes, at, length-append base (byte ∷ rest)) in
    let before : image ≡ base ++ drop (length base) image = front_stays m base (byte ∷ rest) image bytes (omega (arith, size, at)) (λ p below. unwritten_before p place (place + 1) (omega (arith, at, below))) i in
    let behind : drop (place + 1) image ≡ drop (place + 1) m.bytes = back_stays m (place + 1) image (omega (arith, size, size_now)) (omega (arith, size, size_now)) (λ p above. unwritten_behind p place (place + 1) above (omega arith)) i in
    let rest_is : drop (place + 1) m.bytes ≡ rest = ap (drop (place + 1)) (bytes ∙ sym (append_assoc base (byte ∷ []) rest)) ∙ drop_at (base ++ byte ∷ []) rest (place + 1) (omega (arith, at, length-append base (byte ∷ []))) in
    let any : ℕ = get_or image place 0 in
    let first : drop place image ≡ any ∷ drop (place + 1) image = drop_more image place 0 (omega (arith, i.no_shorter, size)) in
    (any, before ∙ ap (λ n. base ++ drop n image) at ∙ ap (λ (l : List ℕ). base ++ l) (first ∙ ap (λ (l : List ℕ). any ∷ l) (behind ∙ rest_is)))
