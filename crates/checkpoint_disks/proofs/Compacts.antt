-- How the moments of the steps join, and what they say of two disks.
use Rattle.std.proofs.Common.{ℕ, ◌≤◌, ◌≡◌, ◌∙◌, inl, inr, true, false, List, [], ◌∷◌, ◌++◌, length, Option, Ok, refl, sym, ap, subst}
use Rattle.racf_profiles.specs.declared.rows.Rows.{Rows}
use Rattle.database_image.specs.Image.{image_of}
use Rattle.racf_outside.specs.Crashes.{Leaves, StaysIn}
use Rattle.racf_outside.specs.Disk.{History, Now}
use Rattle.racf_outside.specs.Moments.{durable}
use Rattle.racf_outside.proofs.Images.{durable-leaves}
use Rattle.racf_outside.proofs.Runs.{StaysIn-none, StaysIn-weaker}
use Rattle.checkpoint_disks.specs.declared.counting.Side.{Side}
use Rattle.checkpoint_disks.specs.Files.{CheckpointRead, head_is_open}
use Rattle.checkpoint_disks.specs.Compacting.{with_head, fields, new_body, IsIdle, IsClosed, IsClosing, IsOpening, IsOneOf, said_beside, CountsBeside, SaysEither}
use Rattle.checkpoint_disks.proofs.HeadGates.{left_alone}
use Rattle.checkpoint_disks.proofs.Counts.{says_either}

-- ---- the files
pub closing_is : (before made : List ℕ) (a b : Option History) → StaysIn (IsClosing before) a b → StaysIn (IsOneOf before made) a b
closing_is before made a b s = StaysIn-weaker (IsOneOf before made) s (λ h told file left. one_of before made file left)
  where
    one_of : (before made file : List ℕ) → IsClosing before file → IsOneOf before made file
    one_of before made file left = inl left

pub closed_is : (before made : List ℕ) (a b : Option History) → StaysIn IsClosed a b → StaysIn (IsOneOf before made) a b
closed_is before made a b s = StaysIn-weaker (IsOneOf before made) s (λ h told file closed. inl (inr (inl closed)))

pub opening_is : (before body : List ℕ) (a b : Option History) → StaysIn (IsOpening body) a b → StaysIn (IsOneOf before (with_head 1 body)) a b
opening_is before body a b s = StaysIn-weaker (IsOneOf before (with_head 1 body)) s (λ h told file left. one_of before body file left)
  where
    one_of : (before body file : List ℕ) → IsOpening body file → IsOneOf before (with_head 1 body) file
    one_of before body file (inl closed) = inl (inr (inl closed))
    one_of before body file (inr same) = inr same

-- the bytes of a new file
pub new_body_is : (epoch number : ℕ) (rows : Rows) (head rest : List ℕ) → head ≡ fields epoch number (length (image_of rows)) → rest ≡ image_of rows ++ 0 ∷ [] → head ++ rest ≡ new_body epoch number rows
unfolding new_body
new_body_is epoch number rows head rest front back =
    ap (λ (l : List ℕ). l ++ rest) front ∙ ap (λ (l : List ℕ). fields epoch number (length (image_of rows)) ++ l) back

pub files_are : (before body made : List ℕ) (a b : Option History) → body ≡ made → StaysIn (IsOneOf before (with_head 1 body)) a b → StaysIn (IsOneOf before (with_head 1 made)) a b
files_are before body made a b same s = subst (λ (l : List ℕ). StaysIn (IsOneOf before (with_head 1 l)) a b) same s

pub done_is : (body made : List ℕ) (b : Option History) → body ≡ made → Now b (λ m. m ≡ durable (with_head 1 body)) → Now b (λ m. m ≡ durable (with_head 1 made))
done_is body made b same done h e = done h e ∙ ap (λ (l : List ℕ). durable (with_head 1 l)) same

-- nothing was done
pub files_alone : (before made : List ℕ) (a : Option History) → Now a IsIdle → Now a (λ m. m.bytes ≡ before) → StaysIn (IsOneOf before made) a a
files_alone before made a idle holds = StaysIn-none (IsOneOf before made) a (λ h e. left_alone (IsOneOf before made) before h.now (idle h e) (holds h e) (inl (inl refl)))

-- a gate that was closed is open in the new file alone
pub body_then : (before made : List ℕ) (a b : Option History)
    → (law : (old new file : List ℕ) → IsOneOf old new file → 9 ≤ length old → head_is_open old ≡ false → head_is_open file ≡ true → file ≡ new)
    → 9 ≤ length before → head_is_open before ≡ false → StaysIn (IsOneOf before made) a b → StaysIn (λ file. head_is_open file ≡ true → file ≡ made) a b
body_then before made a b law long closed s =
    StaysIn-weaker (λ file. head_is_open file ≡ true → file ≡ made) s (λ h told file left opened. law before made file left long closed opened)

-- ---- beside the other
pub says_alone : (side : Side) (live before : List ℕ) (epoch : ℕ) (checkpoint : CheckpointRead) (a : Option History) → CountsBeside side before live epoch → Now a IsIdle → Now a (λ m. m.bytes ≡ before)
    → StaysIn (SaysEither side live checkpoint) a a
says_alone side live before epoch checkpoint a counts idle holds =
    StaysIn-none (SaysEither side live checkpoint) a (λ h e. left_alone (SaysEither side live checkpoint) before h.now (idle h e) (holds h e) (inl counts.says))

pub says_then : (side : Side) (live before made : List ℕ) (epoch : ℕ) (checkpoint : CheckpointRead) (a b : Option History) → CountsBeside side before live epoch → said_beside side made live ≡ Ok checkpoint
    → StaysIn (IsOneOf before made) a b → StaysIn (SaysEither side live checkpoint) a b
says_then side live before made epoch checkpoint a b counts says s =
    StaysIn-weaker (SaysEither side live checkpoint) s (λ h told file left. says_either side live before made file epoch checkpoint counts says left)

pub said_then : (side : Side) (live made : List ℕ) (checkpoint : CheckpointRead) (b : Option History) → said_beside side made live ≡ Ok checkpoint → Now b (λ m. m ≡ durable made)
    → Now b (Leaves (λ file. said_beside side file live ≡ Ok checkpoint))
said_then side live made checkpoint b says done h e =
    subst (Leaves (λ file. said_beside side file live ≡ Ok checkpoint)) (sym (done h e)) (durable-leaves (λ file. said_beside side file live ≡ Ok checkpoint) made says)
