-- What a sync leaves possible of a disk, and what a call leaves behind one.
use Rattle.std.proofs.Common.{ℕ, ◌≡◌, ◌∙◌, List, [], ◌∷◌, ◌++◌, Option, None, Some, refl, sym, ap, subst}
use Rattle.std.specs.List.{AllByRecursion}
use Rattle.std.specs.Option.{option_map}
use Rattle.std.proofs.lemmas.Option.{none-some, same_Some}
use Rattle.racf_outside.specs.Crashes.{moments, Leaves, Stays, StaysIn}
use Rattle.racf_outside.specs.Disk.{History, goes, Faulty, Now}
use Rattle.racf_outside.specs.Moments.{Moment, IsImage, synced}
use Rattle.racf_outside.proofs.Images.{only, synced-leaves}
use Rattle.racf_outside.proofs.Runs.{starts, ok, ends, err, StaysIn-none, StaysIn-joined, StaysIn-weaker}
use Rattle.racf_journal.specs.Opening.{OnlySynced}
use Rattle.racf_checkpoint.specs.Stored.{WasPossible, StaysPossible}
use Rattle.racf_checkpoint.proofs.Saying.{same_as}

-- ---- the moment that is now is the last of a call

first_is : (one two : Moment) (past later : List Moment) → (one ∷ past) ≡ (two ∷ later) → one ≡ two
first_is one two past later e = cc

stays_last : (P : List ℕ → Type 0) (from to : History) → Stays P from to → Leaves P to.now
stays_last P from to s = by s.since s.are s.each
  where
    by : (since : List Moment) → moments to ≡ since ++ moments from → AllByRecursion (Leaves P) since → Leaves P to.now
    by [] are each = subst (Leaves P) (sym (first_is to.now from.now to.past from.past are)) s.first
    by (m ∷ since) are each = subst (Leaves P) (sym (first_is to.now m to.past (since ++ moments from) are)) each.0

pub left_last : (P : List ℕ → Type 0) (old new : Option History) → StaysIn P old new → Now new (Leaves P)
left_last P None new stays k e = absurd (none-some k (sym (stays.untold refl) ∙ e))
left_last P (Some h) new stays k e =
    let next = stays.told h refl in
    subst (λ (i : History). Leaves P i.now) (same_Some next.0 k (sym next.1 ∙ e)) (stays_last P h next.0 next.2)

-- ---- what was possible

possible_now : (before m : Moment) → m ≡ before → Leaves (WasPossible before) m
possible_now before m same = record { each = λ image i. record { image = image; was_left = subst (λ n. IsImage n image) same i; says = same_as image } }

pub nothing_stays : (a : Option History) → StaysPossible a a
nothing_stays a before was = StaysIn-none (WasPossible before) a (λ h e. possible_now before h.now (was h e))

pub stays_same : (a b c : Option History) → StaysPossible a b → c ≡ b → StaysPossible a c
stays_same a b c stays same = subst (StaysPossible a) (sym same) stays

pub failed_stays : (a b : Option History) → Faulty (λ m. m) a b → StaysPossible a b
failed_stays a b failed before was = err (λ m. m) (starts (WasPossible before) a (λ h e. possible_now before h.now (was h e))) failed (λ h e. possible_now before h.now (was h e))

pub synced_stays : (a b : Option History) → OnlySynced a b → StaysPossible a b
synced_stays a b s before was =
    ends (ok synced (starts (WasPossible before) a (λ h e. possible_now before h.now (was h e))) s.is (λ h e. synced-leaves (WasPossible before) h.now (s.was_left h e) (possible_now before h.now (was h e))))

pub possible_before : (m before : Moment) → m ≡ before → IsImage m m.bytes → (file : List ℕ) → WasPossible (synced m) file → WasPossible before file
possible_before m before same law file w =
    let image_is : w.image ≡ m.bytes = only m.bytes w.image w.was_left in
    record { image = w.image; was_left = subst (λ n. IsImage n w.image) same (subst (IsImage m) (sym image_is) law); says = w.says }

pub possible_joined : (a b c : Option History) → OnlySynced a b → StaysPossible b c → StaysPossible a c
possible_joined a b c s later before was = record {
  told = λ h e. (StaysIn-joined (synced_stays a b s before was)
      (StaysIn-weaker (WasPossible before) (later (synced h.now) (λ k told. ap (λ (history : History). history.now) (sym (same_Some (goes synced h) k (sym (s.is ∙ ap (option_map (goes synced)) e) ∙ told)))))
      (λ k told file w. possible_before h.now before (was h e) (s.was_left h e) file w))).told h e;
  untold = λ none.
      let next : b ≡ None = s.is ∙ ap (option_map (goes synced)) none in
      (later before (λ k told. absurd (none-some k (sym next ∙ told)))).untold next;
}
