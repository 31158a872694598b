-- The test of an image decides what a crash may leave.
use Rattle.std.proofs.Common.{ℕ, zero, suc, ◌+◌, ◌<◌, ◌≤◌, ◌≡◌, Bool, true, false, List, [], ◌∷◌, length, get_or, refl, ◌∙◌, ap, arith}
use Rattle.std.specs.Prelude.{◌&&◌, ◌||◌, ◌==◌, ◌↔◌, nat_le}
use Rattle.std.proofs.lemmas.Bool.{and_parts, and_from, eq-eqb, eqb-true, le-leb, leb-true, true≢false, false≢true}
use Rattle.racf_outside.specs.ImageTest.{agree, is_image}
use Rattle.racf_outside.specs.Moments.{Moment, IsImage, is_written}

-- the bytes from a place on agree but for those that were written
abbrev Agree : List (ℕ × ℕ) → ℕ → ℕ → List ℕ → List ℕ → Type 0
Agree ranges count place bytes image =
    (i : ℕ) → i < count → is_written ranges (place + i) ≡ false → get_or image i 0 ≡ get_or bytes i 0

-- the byte at one place
one_says : (in_range : Bool) (b c : ℕ) → (in_range || c == b) ≡ true → in_range ≡ false → c ≡ b
one_says true b c h kept = absurd (true≢false kept)
one_says false b c h kept = eqb-true c b h

one_from : (in_range : Bool) (b c : ℕ) → (in_range ≡ false → c ≡ b) → (in_range || c == b) ≡ true
one_from true b c h = refl
one_from false b c h = eq-eqb c b (h refl)

agree_more : (ranges : List (ℕ × ℕ)) (count place b c : ℕ) (bytes image : List ℕ) → (is_written ranges place ≡ false → c ≡ b) → Agree ranges count (suc place) bytes image → Agree ranges (suc count) place (b ∷ bytes) (c ∷ image)
agree_more ranges count place b c bytes image first rest zero within kept =
    let here : place ≡ place + zero = omega arith in first (ap (is_written ranges) here ∙ kept)
agree_more ranges count place b c bytes image first rest (suc i) within kept =
    let here : suc place + i ≡ place + suc i = omega arith in rest i (omega (arith, within)) (ap (is_written ranges) here ∙ kept)

agree_says : (ranges : List (ℕ × ℕ)) (count place : ℕ) (bytes image : List ℕ) → agree ranges count place bytes image ≡ true → Agree ranges count place bytes image
agree_says ranges zero place bytes image h i within kept = absurd (omega (arith, within))
agree_says ranges (suc count) place [] image h i within kept = absurd (false≢true h)
agree_says ranges (suc count) place (b ∷ bytes) [] h i within kept = absurd (false≢true h)
agree_says ranges (suc count) place (b ∷ bytes) (c ∷ image) h i within kept =
    let p = and_parts (is_written ranges place || c == b) (agree ranges count (suc place) bytes image) h in
    agree_more ranges count place b c bytes image (one_says (is_written ranges place) b c p.0) (agree_says ranges count (suc place) bytes image p.1) i within kept

agree_from : (ranges : List (ℕ × ℕ)) (count place : ℕ) (bytes image : List ℕ) → count ≤ length bytes → count ≤ length image → Agree ranges count place bytes image → agree ranges count place bytes image ≡ true
agree_from ranges zero place bytes image long whole h = refl
agree_from ranges (suc count) place [] image long whole h = absurd (omega (arith, long))
agree_from ranges (suc count) place (b ∷ bytes) [] long whole h = absurd (omega (arith, whole))
agree_from ranges (suc count) place (b ∷ bytes) (c ∷ image) long whole h =
    and_from (is_written ranges place || c == b) (agree ranges count (suc place) bytes image)
    (one_from (is_written ranges place) b c (λ kept. h zero (omega arith) (let here : place + zero ≡ place = omega arith in ap (is_written ranges) here ∙ kept)))
    (agree_from ranges count (suc place) bytes image (omega (arith, long)) (omega (arith, whole)) (λ i within kept. h (suc i) (omega (arith, within)) (let here : place + suc i ≡ suc place + i = omega arith in ap (is_written ranges) here ∙ kept)))

image_says : (m : Moment) (image : List ℕ) → is_image m image ≡ true → IsImage m image
image_says m image h =
    let p = and_parts (nat_le m.shortest (length image)) (nat_le (length image) m.longest && agree m.written m.shortest 0 m.bytes image) h in
    let q = and_parts (nat_le (length image) m.longest) (agree m.written m.shortest 0 m.bytes image) p.1 in
    record {
      no_shorter = leb-true m.shortest (length image) p.0;
      no_longer = leb-true (length image) m.longest q.0;
      stays = λ place within kept. agree_says m.written m.shortest 0 m.bytes image q.1 place within (let here : 0 + place ≡ place = omega arith in ap (is_written m.written) here ∙ kept);
    }

image_from : (m : Moment) (image : List ℕ) → m.shortest ≤ length m.bytes → IsImage m image → is_image m image ≡ true
image_from m image long i =
    and_from (nat_le m.shortest (length image)) (nat_le (length image) m.longest && agree m.written m.shortest 0 m.bytes image)
    (le-leb m.shortest (length image) i.no_shorter)
    (and_from (nat_le (length image) m.longest) (agree m.written m.shortest 0 m.bytes image)
    (le-leb (length image) m.longest i.no_longer)
    (agree_from m.written m.shortest 0 m.bytes image long i.no_shorter (λ place within kept. i.stays place within (let here : place ≡ 0 + place = omega arith in ap (is_written m.written) here ∙ kept))))

pub is_image_decides : (m : Moment) (image : List ℕ) → m.shortest ≤ length m.bytes → (is_image m image ≡ true) ↔ IsImage m image
is_image_decides m image long = (image_says m image, image_from m image long)
