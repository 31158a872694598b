-- Told bytes, piece by piece.
use Rattle.std.proofs.Common.{ℕ, ◌+◌, ◌-◌, ◌<◌, ◌≤◌, ◌≡◌, List, [], ◌∷◌, ◌++◌, length, take, drop, Bool, true, cond, zero, suc, add-one, Option, None, Some, refl, sym, ◌∙◌, ap, arith, append_assoc}
use Rattle.std.specs.Prelude.{slice_index}
use Rattle.std.specs.List.{slice_range}
use Rattle.std.specs.Io.KnownBytes.{prepend_known}
use Rattle.std.proofs.lemmas.List.{take-append-drop, drop-take, drop-drop, take_rest, length-take, length-take-le, take-append-le}
use Rattle.std.proofs.Math.Seq.{take-append-add, take-suc}

pub prepend-append : (xs ys : List ℕ) (known : Option (List ℕ)) → prepend_known (xs ++ ys) known ≡ prepend_known xs (prepend_known ys known)
prepend-append xs ys None = refl
prepend-append xs ys (Some zs) = ap Some (append_assoc xs ys zs)

pub prepend-nil : (known : Option (List ℕ)) → prepend_known [] known ≡ known
prepend-nil None = refl
prepend-nil (Some zs) = refl

-- the first n of the bytes at hand, and then the others
pub prepend-split : (n : ℕ) (ready : List ℕ) (left : Option (List ℕ)) → prepend_known ready left ≡ prepend_known (take n ready) (prepend_known (drop n ready) left)
prepend-split n ready left =
    ap (λ bytes. prepend_known bytes left) (sym (take-append-drop n ready)) ∙ prepend-append (take n ready) (drop n ready) left

-- two pieces, one after another
pub prepend-twice : (xs ys : List ℕ) (first second third : Option (List ℕ)) → first ≡ prepend_known xs second → second ≡ prepend_known ys third → first ≡ prepend_known (xs ++ ys) third
prepend-twice xs ys first second third p q = p ∙ ap (prepend_known xs) q ∙ sym (prepend-append xs ys third)

-- a range without its first n
pub drop-slice_range : (n : ℕ) (xs : List ℕ) (from to : ℕ) → n ≤ length (slice_range xs from to) → slice_range xs (from + n) to ≡ drop n (slice_range xs from to)
drop-slice_range n xs from to h =
    let m : ℕ = to - (from + n) in
    let e : to - from ≡ n + m = omega (arith, length-take (to - from) (drop from xs)) in
    sym (ap (λ k. drop n (take k (drop from xs))) e ∙ drop-take n m (drop from xs) ∙ ap (take m) (drop-drop n from xs))

-- as many as n of xs, and then ys, up to n
pub take-take-append : (n : ℕ) (xs ys : List ℕ) → take n (take n xs ++ ys) ≡ take n (xs ++ ys)
take-take-append zero xs ys = refl
take-take-append (suc n) [] ys = refl
take-take-append (suc n) (x ∷ xs) ys = ap (λ zs. x ∷ zs) (take-take-append n xs ys)

-- a piece that is cut to the room that is left
pub take-append-room : (n : ℕ) (xs ys : List ℕ) → length xs ≤ n → xs ++ take (n - length xs) ys ≡ take n (xs ++ ys)
take-append-room n xs ys h =
    let e : length xs + (n - length xs) ≡ n = omega arith in sym (ap (λ k. take k (xs ++ ys)) (sym e) ∙ take-append-add xs ys (n - length xs))

-- the bytes up to one at a place, and that one
pub take-through : (xs : List ℕ) (place : ℕ) → place < length xs → take (place + 1) xs ≡ take place xs ++ slice_index xs place ∷ []
take-through xs place h = rw add-one (take-suc xs place 0 h)

-- the front of a front
pub take-window : (n m : ℕ) (xs : List ℕ) → n ≤ length (take m xs) → take n (take m xs) ≡ take n xs
take-window zero m xs h = refl
take-window (suc n) zero xs h = absurd (omega arith)
take-window (suc n) (suc m) [] h = refl
take-window (suc n) (suc m) (x ∷ xs) h = ap (λ zs. x ∷ zs) (take-window n m xs (omega arith))

-- the first n of a range
pub take-slice_range : (n : ℕ) (xs : List ℕ) (from to : ℕ) → n ≤ length (slice_range xs from to) → slice_range xs from (from + n) ≡ take n (slice_range xs from to)
take-slice_range n xs from to h =
    let e : from + n - from ≡ n = omega arith in ap (λ k. take k (drop from xs)) e ∙ sym (take-window n (to - from) (drop from xs) h)

-- what a buffer of n bytes holds after a piece, cut to the room that it has left
pub appended : (n : ℕ) (xs ys new front : List ℕ) (ok : Bool) → length xs ≤ n → ok ≡ true → new ≡ cond ok (xs ++ front) xs → front ≡ take (n - length xs) ys → new ≡ take n (xs ++ ys)
appended n xs ys new front ok most fits items cut =
    items ∙ ap (λ b. cond b (xs ++ front) xs) fits ∙ ap (λ piece. xs ++ piece) cut ∙ take-append-room n xs ys most

-- what a read of the front leaves: `copied` is the front of the bytes from `at` on, and lies before `more`
pub read_front_bytes : (at count : ℕ) (xs shown copied more : List ℕ) → shown ≡ xs → copied ≡ take count (take (length shown - at) (drop at shown)) → count ≤ length (take (length shown - at) (drop at shown)) → drop at xs ≡ take count (copied ++ more) ++ drop (at + count) xs
read_front_bytes at count xs shown copied more same is most =
    let rest : take (length shown - at) (drop at shown) ≡ drop at xs = take_rest shown at ∙ ap (drop at) same in
    let fits : count ≤ length (drop at xs) = omega (arith, most, ap length rest) in
    let front : copied ≡ take count (drop at xs) = is ∙ ap (take count) rest in
    let whole : length copied ≡ count = ap length front ∙ length-take-le count (drop at xs) fits in
    let short : take count (copied ++ more) ≡ take count (drop at xs) = take-append-le count copied more (omega arith) ∙ ap (take count) front ∙ take-window count count (drop at xs) (omega (arith, whole, ap length front)) in
    sym (take-append-drop count (drop at xs)) ∙ ap (λ tail. take count (drop at xs) ++ tail) (drop-drop count at xs) ∙ ap (λ head. head ++ drop (at + count) xs) (sym short)
