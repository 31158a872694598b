-- The images of a moment: what stays at the front and at the end, place by place.
use Rattle.std.proofs.Common.{ℕ, ◌+◌, ◌-◌, ◌<◌, ◌≤◌, ◌≡◌, false, List, ◌++◌, length, take, drop, get_or, refl, sym, ◌∙◌, ap, subst, arith, length-drop}
use Rattle.std.proofs.lemmas.List.{ext_get_or, get_or_append_left, get_or-drop, get_or-take, take-append-drop, length-take}
use Rattle.racf_outside.specs.Crashes.{Leaves}
use Rattle.racf_outside.specs.Moments.{Moment, IsImage, is_written, durable, synced}

-- where nothing is in doubt, a crash leaves what a read gives
pub only : (bytes image : List ℕ) → IsImage (durable bytes) image → image ≡ bytes
only bytes image i =
    let whole : length image ≡ length bytes = omega (arith, i.no_shorter, i.no_longer) in
    ext_get_or 0 image bytes whole (λ place within. i.stays place (omega (arith, whole, within)) refl)

-- a front that was not written stays
pub front_stays : (m : Moment) (front rest image : List ℕ) → m.bytes ≡ front ++ rest → length front ≤ m.shortest → ((place : ℕ) → place < length front → is_written m.written place ≡ false) → IsImage m image → image ≡ front ++ drop (length front) image
front_stays m front rest image is short untouched i =
    let taken : length (take (length front) image) ≡ length front = omega (arith, short, i.no_shorter, length-take (length front) image) in
    let same : take (length front) image ≡ front = ext_get_or 0 (take (length front) image) front taken (λ place within.
    let here : place < length front = omega (arith, within, taken) in
    get_or-take (length front) image place 0 here
    ∙ i.stays place (omega (arith, here, short)) (untouched place here)
    ∙ ap (λ bytes. get_or bytes place 0) is
    ∙ get_or_append_left front rest 0 place here) in
    sym (take-append-drop (length front) image) ∙ ap (λ bytes. bytes ++ drop (length front) image) same

-- what lies behind a place stays, where none of it was written and the end didn't move
pub back_stays : (m : Moment) (n : ℕ) (image : List ℕ) → m.shortest ≡ length m.bytes → m.longest ≡ length m.bytes → ((place : ℕ) → n ≤ place → is_written m.written place ≡ false) → IsImage m image → drop n image ≡ drop n m.bytes
back_stays m n image short long untouched i =
    let whole : length image ≡ length m.bytes = omega (arith, short, long, i.no_shorter, i.no_longer) in
    ext_get_or 0 (drop n image) (drop n m.bytes) (length-drop n image ∙ ap (λ k. k - n) whole ∙ sym (length-drop n m.bytes)) (λ place within.
    get_or-drop n image place 0
    ∙ i.stays (n + place) (omega (arith, within, length-drop n image, whole, short)) (untouched (n + place) (omega arith))
    ∙ sym (get_or-drop n m.bytes place 0))

-- where nothing is in doubt, a crash leaves what has P if a read gives it
pub durable-leaves : (P : List ℕ → Type 0) (bytes : List ℕ) → P bytes → Leaves P (durable bytes)
durable-leaves P bytes p = record { each = λ image i. subst P (sym (only bytes image i)) p }

-- a sync of a disk that reads as one of its images
pub synced-leaves : (P : List ℕ → Type 0) (m : Moment) → IsImage m m.bytes → Leaves P m → Leaves P (synced m)
synced-leaves P m reads l = durable-leaves P m.bytes (l.each m.bytes reads)
