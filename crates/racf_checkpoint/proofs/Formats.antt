-- What crashes leave while a new store is made of two disks.
use Rattle.std.proofs.Common.{ℕ, ◌-◌, ◌≡◌, ◌∙◌, inl, inr, min, List, [], length, take, drop, Option, None, refl, sym, ap, subst, arith}
use Rattle.std.specs.Option.{option_map}
use Rattle.std.proofs.lemmas.Option.{none-some, same_Some}
use Rattle.std.proofs.lemmas.List.{take_all}
use Rattle.std.proofs.lemmas.Bool.{cases_lt}
use Rattle.racf_outside.specs.Crashes.{StaysIn}
use Rattle.racf_outside.specs.Disk.{History, goes, Now}
use Rattle.racf_outside.specs.Moments.{Moment, IsImage, durable, synced}
use Rattle.racf_outside.proofs.Runs.{StaysIn-joined, StaysIn-weaker}
use Rattle.racf_journal.specs.Opening.{OnlySynced}
use Rattle.racf_profiles.specs.NewDatabase.{new_database}
use Rattle.checkpoint_disks.specs.declared.counting.Side.{Side}
use Rattle.checkpoint_disks.specs.declared.counting.Side.TheVariants.{First, Second}
use Rattle.checkpoint_disks.specs.Files.{head_is_open}
use Rattle.checkpoint_disks.specs.Compacting.{with_head, new_file, IsOneOf}
use Rattle.checkpoint_disks.specs.Baring.{IsBaring, first_to_go}
use Rattle.checkpoint_disks.proofs.Fronts.{formatted_front, which_fronts}
use Rattle.racf_checkpoint.specs.Stored.{SaysAs, StaysPossible}
use Rattle.racf_checkpoint.specs.Formatting.{WasOrSaysNothing, WasOrIsNew, StaysBaring, StaysFormatting, GoesBefore}
use Rattle.racf_checkpoint.proofs.Saying.{same_as}
use Rattle.racf_checkpoint.proofs.Syncing.{nothing_stays, synced_stays, possible_before}

-- ---- which goes first

pub front_read : (count : ℕ) (into file : List ℕ) → length into ≡ 17 → count ≡ min (length into) (length file - 0) → take count into ≡ take count (drop 0 file) → take count into ≡ take 17 file
front_read count into file size counted same = elim (cases_lt (length file) 17) [
  | inl short ↦ same ∙ take_all count file (omega (arith, size, counted, short)) ∙ sym (take_all 17 file (omega (arith, short)))
  | inr long ↦ let all : count ≡ 17 = omega (arith, size, counted, long) in same ∙ ap (λ n. take n file) all
]

pub goes_first : (one two first second : List ℕ) → one ≡ take 17 first → two ≡ take 17 second → first_to_go one two ≡ first_to_go first second
goes_first one two first second p q =
    ap (λ (l : List ℕ). first_to_go l two) p ∙ ap (first_to_go (take 17 first)) q
    ∙ rw (formatted_front 17 first (omega arith), formatted_front 17 second (omega arith), which_fronts 17 17 first second (omega arith) (omega arith)) refl

-- ---- one disk

pub possible_bares : (a b : Option History) → StaysPossible a b → StaysBaring a b
possible_bares a b s before was = StaysIn-weaker (WasOrSaysNothing before) (s before was) (λ h e file w. inl w)

pub unchanged_bares : (a b : Option History) → b ≡ a → StaysBaring a b
unchanged_bares a b same = subst (StaysBaring a) (sym same) (possible_bares a a (nothing_stays a))

durable_image : (bytes : List ℕ) → IsImage (durable bytes) bytes
durable_image bytes = record { no_shorter = omega arith; no_longer = omega arith; stays = λ place within kept. refl }

was_left : (before : Moment) → before ≡ durable before.bytes → (file : List ℕ) → IsBaring before.bytes file → WasOrSaysNothing before file
was_left before still file (inl same) =
    inl (record { image = before.bytes; was_left = subst (λ m. IsImage m before.bytes) (sym still) (durable_image before.bytes); says = subst (λ f. SaysAs f before.bytes) (sym same) (same_as before.bytes) })
was_left before still file (inr nothing) = inr nothing

pub bared : (a b c : Option History) → b ≡ a → Now a (λ m. m ≡ durable m.bytes) → ((before : List ℕ) → Now b (λ m. m.bytes ≡ before) → StaysIn (IsBaring before) b c) → StaysBaring a c
bared a b c same still moments before was =
    subst (λ (d : Option History). StaysIn (WasOrSaysNothing before) d c) same
    (StaysIn-weaker (WasOrSaysNothing before) (moments before.bytes (λ h e. ap (λ (m : Moment). m.bytes) (was h (sym same ∙ e))))
    (λ h e file left. was_left before (subst (λ m. m ≡ durable m.bytes) (was h (sym same ∙ e)) (still h (sym same ∙ e))) file left))

-- ---- behind a sync

before_sync : (m before : Moment) → m ≡ before → IsImage m m.bytes → (file : List ℕ) → WasOrSaysNothing (synced m) file → WasOrSaysNothing before file
before_sync m before same law file (inl w) = inl (possible_before m before same law file w)
before_sync m before same law file (inr nothing) = inr nothing

pub bared_behind : (a b c : Option History) → OnlySynced a b → StaysBaring b c → StaysBaring a c
bared_behind a b c s later before was = record {
  told = λ h e. (StaysIn-joined (possible_bares a b (synced_stays a b s) before was)
      (StaysIn-weaker (WasOrSaysNothing before) (later (synced h.now) (λ k told. ap (λ (history : History). history.now) (sym (same_Some (goes synced h) k (sym (s.is ∙ ap (option_map (goes synced)) e) ∙ told)))))
      (λ k told file w. before_sync h.now before (was h e) (s.was_left h e) file w))).told h e;
  untold = λ none.
      let next : b ≡ None = s.is ∙ ap (option_map (goes synced)) none in
      (later before (λ k told. absurd (none-some k (sym next ∙ told)))).untold next;
}

-- ---- the new checkpoint

pub bared_formats : (a b : Option History) → StaysBaring a b → StaysFormatting a b
bared_formats a b s before was = StaysIn-weaker (WasOrIsNew before) (s before was) (λ h e file w. inl w)

is_new : (before : Moment) (file : List ℕ) → IsOneOf (with_head 0 []) (new_file 1 0 new_database) file → WasOrIsNew before file
is_new before file (inl (inl same)) = inl (inr (inl (ap head_is_open same)))
is_new before file (inl (inr (inl closed))) = inl (inr (inl closed.closed))
is_new before file (inl (inr (inr gating))) = inl (inr (inr gating.1.ends))
is_new before file (inr same) = inr same

pub written_formats : (a b c : Option History) → StaysBaring a b → Now b (λ m. m ≡ durable (with_head 0 [])) → ((before : List ℕ) → Now b (λ m. m.bytes ≡ before) → StaysIn (IsOneOf before (new_file 1 0 new_database)) b c) → StaysFormatting a c
written_formats a b c bares bare moments before was =
    StaysIn-joined (bared_formats a b bares before was)
    (StaysIn-weaker (WasOrIsNew before) (moments (with_head 0 []) (λ h e. ap (λ (m : Moment). m.bytes) (bare h e))) (λ h e file left. is_new before file left))

-- ---- their order

pub neither_touched : (side : Side) (first second next_first next_second : Option History) → next_first ≡ first → next_second ≡ second → GoesBefore side first second next_first next_second
neither_touched First first second next_first next_second p q = inl q
neither_touched Second first second next_first next_second p q = inl p
