-- That two files say nothing older while a new database is written over an old one.
use Rattle.std.proofs.Common.{ℕ, ◌≡◌, ◌∙◌, ◌⊎◌, inl, inr, List, [], Option, None, Some, Result, Ok, Err, refl, sym, ap, subst, arith}
use Rattle.std.specs.Option.{option_map}
use Rattle.std.proofs.lemmas.Option.{none-some, same_Some}
use Rattle.racf_outside.specs.Crashes.{StaysIn}
use Rattle.racf_outside.specs.Disk.{History, goes, Now}
use Rattle.racf_outside.specs.Moments.{Moment, IsImage, durable, synced}
use Rattle.racf_outside.proofs.Images.{only}
use Rattle.racf_journal.specs.Opening.{OnlySynced}
use Rattle.racf_profiles.specs.NewDatabase.{new_database}
use Rattle.checkpoint_disks.specs.declared.counting.Side.{Side}
use Rattle.checkpoint_disks.specs.declared.counting.Side.TheVariants.{First, Second}
use Rattle.checkpoint_disks.specs.declared.fault.CheckpointFault.{CheckpointFault}
use Rattle.checkpoint_disks.specs.declared.fault.CheckpointFault.TheVariants.{NotFormatted}
use Rattle.checkpoint_disks.specs.Files.{CheckpointRead}
use Rattle.checkpoint_disks.specs.Files.{contents as file_contents}
use Rattle.checkpoint_disks.specs.Counting.{said}
use Rattle.checkpoint_disks.specs.Compacting.{with_head, new_file, new_checkpoint, IsClosed, IsOneOf, first_of, second_of, said_beside}
use Rattle.checkpoint_disks.specs.Baring.{IsBaring, first_to_go}
use Rattle.racf_checkpoint.specs.Contents.{as_stored}
use Rattle.racf_checkpoint.specs.Stored.{SaysAs, StaysPossible}
use Rattle.racf_checkpoint.specs.Formatting.{WasOrSaysNothing, StaysBaring, GoesBefore, InOrder, LeavesNoOlder}
use Rattle.racf_checkpoint.proofs.Finding.{said_together}
use Rattle.racf_checkpoint.proofs.Formats.{bared_behind}
use Rattle.racf_checkpoint.proofs.Syncing.{left_last, nothing_stays}

-- ---- what is said

of_stored : (read : Result CheckpointRead CheckpointFault) (kept : CheckpointRead) → as_stored read ≡ Ok kept → read ≡ Ok kept
of_stored (Ok read) kept e = cc
of_stored (Err why) kept e = cc

-- beside another, files that say the same
beside_same : (side : Side) (one two other : List ℕ) → SaysAs one two → said_beside side one other ≡ said_beside side two other
beside_same First one two other same = same.first other
beside_same Second one two other same = same.second other

beside_either : (side : Side) (one two other : List ℕ) → SaysAs one two → said_beside side other one ≡ said_beside side other two
beside_either First one two other same = same.second other
beside_either Second one two other same = same.first other

-- all that a disk holds is this file
held_image : (m : Moment) (bytes image : List ℕ) → m ≡ durable bytes → IsImage m image → image ≡ bytes
held_image m bytes image is i = only bytes image (subst (λ n. IsImage n image) is i)

-- ---- nothing but syncs was done

pub possible_no_older : (first second next_first next_second : Option History) → StaysPossible first next_first → StaysPossible second next_second → LeavesNoOlder first second next_first next_second
possible_no_older first second next_first next_second p q one two was_one was_two h e = record {
  each = λ file i. λ k f. record {
    each = λ other j. λ kept says.
        let (before, behind, left, also, same) = said_together one two file other ((left_last _ first next_first (p one was_one) h e).each file i) ((left_last _ second next_second (q two was_two) k f).each other j) in
        inl (before, behind, left, also, ap as_stored (sym same) ∙ says);
  };
}

pub nothing_no_older : (first second : Option History) → LeavesNoOlder first second first second
nothing_no_older first second = possible_no_older first second first second (nothing_stays first) (nothing_stays second)

-- ---- both are made bare

-- a disk that told something before, and what it told
told_before : (P : List ℕ → Type 0) (a b : Option History) (k : History) → StaysIn P a b → b ≡ Some k → (h : History) × (a ≡ Some h)
told_before P None b k s e = absurd (none-some k (sym (s.untold refl) ∙ e))
told_before P (Some h) b k s e = (h, refl)

is_now : (a : Option History) (h : History) → a ≡ Some h → Now a (λ m. m ≡ h.now)
is_now a h e k f = ap (λ (i : History). i.now) (same_Some k h (sym f ∙ e))

kept_image : (a b : Option History) (h k : History) (bytes image : List ℕ) → b ≡ a → a ≡ Some h → b ≡ Some k → h.now ≡ durable bytes → IsImage k.now image → image ≡ bytes
kept_image a b h k bytes image same ah bk is i = held_image k.now bytes image (ap (λ (i : History). i.now) (same_Some k h (sym bk ∙ same ∙ ah)) ∙ is) i

-- the file of the disk that isn't on this side is as it was, or that of the one that is is bare
abbrev AreGone : Side → (one two file other : List ℕ) → Type 0
AreGone First one two file other = (other ≡ two) ⊎ (file ≡ with_head 0 [])
AreGone Second one two file other = (file ≡ one) ⊎ (other ≡ with_head 0 [])

gone : (side : Side) (one two file other : List ℕ) (b e c f : Option History) (h k l n : History) → b ≡ Some h → e ≡ Some k → c ≡ Some l → f ≡ Some n → h.now ≡ durable one → k.now ≡ durable two
    → IsImage l.now file → IsImage n.now other → GoesBefore side b e c f → AreGone side one two file other
gone First one two file other b e c f h k l n bh ek cl fn at to i j (inl same) = inl (kept_image e f k n two other same ek fn to j)
gone First one two file other b e c f h k l n bh ek cl fn at to i j (inr bare) = inr (held_image l.now (with_head 0 []) file (bare l cl) i)
gone Second one two file other b e c f h k l n bh ek cl fn at to i j (inl same) = inl (kept_image b c h l one file same bh cl at i)
gone Second one two file other b e c f h k l n bh ek cl fn at to i j (inr bare) = inr (held_image n.now (with_head 0 []) other (bare n fn) j)

-- the law of the crate below: while the one is made bare before the other, they say what they said
pub record BaredInOrder : Type 0 where
  pub one : (side : Side) (one other file : List ℕ) (kept : CheckpointRead) → first_to_go (first_of side one other) (second_of side one other) ≡ side
      → IsBaring one file → said_beside side file other ≡ Ok kept → said_beside side one other ≡ Ok kept
  pub other : (side : Side) (one other file : List ℕ) (kept : CheckpointRead) → first_to_go (first_of side one other) (second_of side one other) ≡ side
      → IsBaring other file → said_beside side (with_head 0 []) file ≡ Ok kept → said_beside side one other ≡ Ok kept

module _ (law : BaredInOrder) where
  -- the file that goes first, beside the other as it was
  one_bared : (side : Side) (one other file : List ℕ) (kept : CheckpointRead) → first_to_go (first_of side one other) (second_of side one other) ≡ side → WasOrSaysNothing (durable one) file
      → said_beside side file other ≡ Ok kept → said_beside side one other ≡ Ok kept
  one_bared side one other file kept goes (inl was) e = sym (beside_same side file one other (subst (SaysAs file) (only one was.image was.was_left) was.says)) ∙ e
  one_bared side one other file kept goes (inr nothing) e = law.one side one other file kept goes (inr nothing) e

  -- and the other, beside that one bare
  other_bared : (side : Side) (one other file : List ℕ) (kept : CheckpointRead) → first_to_go (first_of side one other) (second_of side one other) ≡ side → WasOrSaysNothing (durable other) file
      → said_beside side (with_head 0 []) file ≡ Ok kept → said_beside side one other ≡ Ok kept
  other_bared side one other file kept goes (inl was) e =
      law.other side one other other kept goes (inl refl) (sym (beside_either side file other (with_head 0 []) (subst (SaysAs file) (only other was.image was.was_left) was.says)) ∙ e)
  other_bared side one other file kept goes (inr nothing) e = law.other side one other file kept goes (inr nothing) e

  -- so both say what they said
  both_bared : (side : Side) (one two file other : List ℕ) (kept : CheckpointRead) → first_to_go one two ≡ side → AreGone side one two file other
      → WasOrSaysNothing (durable one) file → WasOrSaysNothing (durable two) other → said file other ≡ Ok kept → said one two ≡ Ok kept
  both_bared First one two file other kept goes (inl same) w v e = one_bared First one two file kept goes w (ap (said file) (sym same) ∙ e)
  both_bared First one two file other kept goes (inr bare) w v e = other_bared First one two other kept goes v (ap (λ f. said f other) (sym bare) ∙ e)
  both_bared Second one two file other kept goes (inl same) w v e = one_bared Second two one other kept goes v (ap (λ f. said f other) (sym same) ∙ e)
  both_bared Second one two file other kept goes (inr bare) w v e = other_bared Second two one file kept goes w (ap (said file) (sym bare) ∙ e)

  pub bared_no_older : (a b c d e f : Option History) → OnlySynced a b → OnlySynced d e → InOrder b e c f → StaysBaring b c → StaysBaring e f → LeavesNoOlder a d c f
  bared_no_older a b c d e f s t order p q one two was_one was_two l cl = record {
    each = λ file i. λ n fn. record {
      each = λ other j. λ kept says.
          let (h, ah) = told_before _ a c l (bared_behind a b c s p one was_one) cl in
          let (k, dk) = told_before _ d f n (bared_behind d e f t q two was_two) fn in
          let bh : b ≡ Some (goes synced h) = s.is ∙ ap (option_map (goes synced)) ah in
          let ek : e ≡ Some (goes synced k) = t.is ∙ ap (option_map (goes synced)) dk in
          let w : WasOrSaysNothing (durable h.now.bytes) file = (left_last _ b c (p (synced h.now) (is_now b (goes synced h) bh)) l cl).each file i in
          let v : WasOrSaysNothing (durable k.now.bytes) other = (left_last _ e f (q (synced k.now) (is_now e (goes synced k) ek)) n fn).each other j in
          let side = first_to_go h.now.bytes k.now.bytes in
          let gone_so = gone side h.now.bytes k.now.bytes file other b e c f (goes synced h) (goes synced k) l n bh ek cl fn refl refl i j (order (goes synced h) bh (goes synced k) ek) in
          let before : said h.now.bytes k.now.bytes ≡ Ok kept = both_bared side h.now.bytes k.now.bytes file other kept refl gone_so w v (of_stored (said file other) kept says) in
          inl (h.now.bytes, k.now.bytes, subst (λ m. IsImage m h.now.bytes) (was_one h ah) (s.was_left h ah), subst (λ m. IsImage m k.now.bytes) (was_two k dk) (t.was_left k dk), ap as_stored before);
    };
  }

-- ---- the new checkpoint is written

same_ok : (read kept : CheckpointRead) → ◌≡◌ {A = Result CheckpointRead CheckpointFault} (Ok read) (Ok kept) → kept ≡ read
same_ok read kept e = cc

no_checkpoint : {X : Type 0} (why : CheckpointFault) (kept : CheckpointRead) → ◌≡◌ {A = Result CheckpointRead CheckpointFault} (Err why) (Ok kept) → X
no_checkpoint why kept e = absurd cc

closed_says : (file : List ℕ) → IsClosed file → said file (with_head 0 []) ≡ Err NotFormatted
closed_says file closed = rw (closed.formatted, closed.closed) refl

-- beside a bare file it alone says something
written_says : file_contents (new_file 1 0 new_database) ≡ Ok (new_checkpoint 1 0 new_database) → (file : List ℕ) (kept : CheckpointRead) → IsOneOf (with_head 0 []) (new_file 1 0 new_database) file
    → said file (with_head 0 []) ≡ Ok kept → kept ≡ new_checkpoint 1 0 new_database
written_says law file kept (inl (inl same)) e = no_checkpoint NotFormatted kept (ap (λ f. said f (with_head 0 [])) (sym same) ∙ e)
written_says law file kept (inl (inr (inl closed))) e = no_checkpoint NotFormatted kept (sym (closed_says file closed) ∙ e)
written_says law file kept (inl (inr (inr gating))) e = absurd (omega (arith, gating.0))
written_says law file kept (inr same) e = same_ok (new_checkpoint 1 0 new_database) kept (sym law ∙ ap (λ f. said f (with_head 0 [])) (sym same) ∙ e)

pub written_no_older : file_contents (new_file 1 0 new_database) ≡ Ok (new_checkpoint 1 0 new_database) → (a b c d e : Option History) → Now b (λ m. m ≡ durable (with_head 0 [])) → Now e (λ m. m ≡ durable (with_head 0 []))
    → ((before : List ℕ) → Now b (λ m. m.bytes ≡ before) → StaysIn (IsOneOf before (new_file 1 0 new_database)) b c) → LeavesNoOlder a d c e
written_no_older law a b c d e bare also files one two was_one was_two l cl = record {
  each = λ file i. λ n en. record {
    each = λ other j. λ kept says.
        let left : IsOneOf (with_head 0 []) (new_file 1 0 new_database) file = (left_last _ b c (files (with_head 0 []) (λ h told. ap (λ (m : Moment). m.bytes) (bare h told))) l cl).each file i in
        let is : other ≡ with_head 0 [] = held_image n.now (with_head 0 []) other (also n en) j in
        inr (written_says law file kept left (ap (said file) (sym is) ∙ of_stored (said file other) kept says));
  };
}
