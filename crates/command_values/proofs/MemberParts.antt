-- What stands on either side of the last `/`.
use Rattle.std.proofs.Common.{◌≡◌, ℕ, ◌+◌, ◌<◌, List, [], ◌∷◌, ◌++◌, length, take, drop, get_or, None, Some, sym, ap, ◌∙◌, add-one, drop-cons}
use Rattle.std.proofs.lemmas.List.{append-nil, take-append-drop}
use Rattle.command_values.specs.Members.{or_here, parted}

pub parted-behind : (x y a b : List ℕ) → parted y ≡ Some (a, b) → parted (x ++ y) ≡ Some (x ++ a, b)
parted-behind [] y a b h = h
parted-behind (c ∷ x) y a b h = ap (or_here c (x ++ y)) (parted-behind x y a b h)

-- the first `/` from behind
pub parted-last : (x y : List ℕ) → parted y ≡ None → parted (x ++ 47 ∷ y) ≡ Some (x, y)
parted-last x y h = parted-behind x (47 ∷ y) [] y (ap (or_here 47 y) h) ∙ ap (λ bs. Some (bs, y)) (append-nil x)

pub parted-at : (word : List ℕ) (k : ℕ) → k < length word → get_or word k 0 ≡ 47 → parted (drop (k + 1) word) ≡ None → Some (take k word, drop (k + 1) word) ≡ parted word
parted-at word k within slash none =
    let next : drop k word ≡ 47 ∷ drop (k + 1) word = rw add-one (drop-cons word k 0 within) ∙ ap (λ b. b ∷ drop (k + 1) word) slash in
    let whole : word ≡ take k word ++ 47 ∷ drop (k + 1) word = sym (take-append-drop k word) ∙ ap (λ bs. take k word ++ bs) next in
    sym (ap parted whole ∙ parted-last (take k word) (drop (k + 1) word) none)
