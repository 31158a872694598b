-- What the disks keep behind a commit.
use Rattle.std.proofs.Common.{◌≡◌, ℕ, List, [], ◌∷◌, ◌++◌, Option, Some, None, refl, sym, subst}
use Rattle.std.specs.List.{AllByRecursion}
use Rattle.racf_outside.specs.Crashes.{Leaves, StaysIn, moments}
use Rattle.racf_outside.specs.Disk.{History, Now}
use Rattle.racf_outside.specs.Moments.{Moment}

head_is : (one other : Moment) (ones others : List Moment) → one ∷ ones ≡ other ∷ others → one ≡ other
head_is one other ones others e = cc e

at_end : (P : List ℕ → Type 0) (from to : History) (since : List Moment) → moments to ≡ since ++ moments from → Leaves P from.now
    → AllByRecursion (Leaves P) since → Leaves P to.now
at_end P from to [] are first each = subst (Leaves P) (sym (head_is to.now from.now to.past from.past are)) first
at_end P from to (moment ∷ since) are first each =
    subst (Leaves P) (sym (head_is to.now moment to.past (since ++ moments from) are)) each.0

told_now : (P : List ℕ → Type 0) (old new : Option History) → StaysIn P old new → (told : Option History) → old ≡ told → Now new (Leaves P)
told_now P old new stays None is history now = absurd (cc (stays.untold is, now))
told_now P old new stays (Some from) is history now =
    let next = stays.told from is in
    let same : history ≡ next.0 = cc (now, next.1) in
    subst (λ (h : History). Leaves P h.now) (sym same) (at_end P from next.0 next.2.since next.2.are next.2.first next.2.each)

-- what holds at every moment of a call holds behind it
pub stays_now : (P : List ℕ → Type 0) (old new : Option History) → StaysIn P old new → Now new (Leaves P)
stays_now P old new stays = told_now P old new stays old refl
