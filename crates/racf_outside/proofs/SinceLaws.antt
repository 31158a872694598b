-- What a crash may have left since a moment, by the clause of the calls since then.
use Rattle.std.proofs.Common.{ℕ, ◌+◌, ◌-◌, ◌<◌, ◌≡◌, List, [], ◌∷◌, ◌++◌, length, take, get_or, refl, sym, ◌∙◌, ap, subst, arith, length-append, append_assoc}
use Rattle.std.specs.Prelude.{Any, Option, None, Some, IfSome, zero, suc}
use Rattle.std.specs.List.{AllByRecursion}
use Rattle.std.proofs.Math.Seq.{take-append_seam}
use Rattle.racf_outside.specs.Crashes.{moments, Leaves, Stays, StaysIn, LeftSince, moment_number}
use Rattle.racf_outside.specs.Disk.{History}
use Rattle.racf_outside.specs.Moments.{Moment, IsImage}
use Rattle.racf_outside.proofs.Runs.{same_history}

-- the moments from one on
since_then : (from to : History) (since : List Moment) → moments to ≡ since ++ moments from → take (moment_number to + 1 - moment_number from) (moments to) ≡ since ++ from.now ∷ []
since_then from to since are =
    let size : length (moments to) ≡ length (since ++ moments from) = ap length are in
    let count : moment_number to + 1 - moment_number from ≡ length (since ++ from.now ∷ []) = omega (arith, size, length-append since (moments from), length-append since (from.now ∷ [])) in
    ap (λ n. take n (moments to)) count ∙ ap (take (length (since ++ from.now ∷ []))) (are ∙ sym (append_assoc since (from.now ∷ []) from.past)) ∙ take-append_seam (since ++ from.now ∷ []) from.past

-- every one of them leaves what has P
all_leave : (P : List ℕ → Type 0) (since : List Moment) (m : Moment) → AllByRecursion (Leaves P) since → Leaves P m → (k : ℕ) (x : Moment) → k < length (since ++ m ∷ []) → get_or (since ++ m ∷ []) k x ≡ x → Leaves P x
all_leave P [] m a l zero x within is = subst (Leaves P) is l
all_leave P [] m a l (suc k) x within is = absurd (omega (arith, within))
all_leave P (s ∷ since) m a l zero x within is = subst (Leaves P) is a.0
all_leave P (s ∷ since) m a l (suc k) x within is = all_leave P since m a.1 l k x (omega (arith, within)) is

pub Stays-left : (P : List ℕ → Type 0) (from to : History) (image : List ℕ) → Stays P from to → LeftSince to (moment_number from) image → P image
Stays-left P from to image s left =
    let kept = subst (λ ms. Any (λ moment. IsImage moment image) ms) (since_then from to s.since s.are) left in
    (all_leave P s.since from.now s.each s.first kept.0 kept.1 kept.2 kept.3).each image kept.4

-- the same of a disk, whether it tells its moments or not
pub StaysIn-left : (P : List ℕ → Type 0) (from : History) (new : Option History) (image : List ℕ) → StaysIn P (Some from) new → IfSome new (λ to. LeftSince to (moment_number from) image → P image)
StaysIn-left P from None image s = tt
StaysIn-left P from (Some to) image s =
    let k = s.told from refl in
    Stays-left P from to image (subst (Stays P from) (sym (same_history to k.0 k.1)) k.2)
