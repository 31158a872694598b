-- A call of a disk in memory that is done by half is one in doubt.
use Rattle.std.proofs.Common.{ℕ, ◌≡◌, List, [], take, Some, false, refl, sym, subst, ap}
use Rattle.std.specs.Prelude.{Result, Ok, Err, OnErr}
use Rattle.std.proofs.lemmas.Option.{none-some}
use Rattle.racf_outside.specs.Calls.{no_calls}
use Rattle.racf_outside.specs.Disk.{History, then_comes, goes, IsFaulty, InDoubt, Faulty}
use Rattle.racf_outside.specs.DiskLaws.{settled_is_an_image, half_is_an_image, cut_is_an_image}
use Rattle.racf_outside.specs.MemoryDisk.{DiskInMemory, Replay, half_written, takes, begins, replayed}
use Rattle.racf_outside.specs.Moments.{Moment, IsImage, written, cut_to, reads_as}
use Rattle.racf_outside.specs.declared.memory_disk.Step.{Step}
use Rattle.racf_outside.specs.declared.memory_disk.Step.TheVariants.{Cut, Lost}
use Rattle.racf_outside.proofs.Runs.{same_history}

-- what holds whatever the result holds where it is an error
pub on_err : {T E : Type 0} (result : Result T E) (P : Type 0) → P → OnErr result P
on_err (Ok x) P p = tt
on_err (Err e) P p = p

in_doubt : (step : Moment → Moment) (old new : History) (bytes : List ℕ) → IsImage (step old.now) bytes → new ≡ then_comes (reads_as bytes (step old.now)) old → Faulty step (Some old) (Some new)
in_doubt step old new bytes image is =
    record {
      told = λ h e. (new, refl, subst (λ k. IsFaulty step k new) (same_history old h e) (InDoubt bytes image is));
      untold = λ e. absurd (none-some old (sym e));
    }

-- a disk that began with these bytes and did these calls
abbrev disk_of : List ℕ → List Step → DiskInMemory
disk_of first steps = record { first = first; steps = steps; calls = no_calls []; doubting = false }

pub faulty_write : (first : List ℕ) (steps new : List Step) (place : ℕ) (bytes : List ℕ) → ((r : Replay) → (replayed new r).history ≡ goes (half_written place bytes) (replayed steps r).history) → Faulty (written place bytes) (Some (replayed steps (begins first)).history) (Some (replayed new (begins first)).history)
faulty_write first steps new place bytes is =
    let h : History = (replayed steps (begins first)).history in
    in_doubt (written place bytes) h (replayed new (begins first)).history (half_written place bytes h.now).bytes (half_is_an_image place bytes (disk_of first steps)) (is (begins first))

pub faulty_cut : (first : List ℕ) (steps new : List Step) (end : ℕ) → ((r : Replay) → replayed new r ≡ takes (Cut end) (replayed steps r)) → Faulty (cut_to end) (Some (replayed steps (begins first)).history) (Some (replayed new (begins first)).history)
faulty_cut first steps new end is =
    let h : History = (replayed steps (begins first)).history in
    in_doubt (cut_to end) h (replayed new (begins first)).history (take end h.now.bytes) (cut_is_an_image end (disk_of first steps)) (ap (λ r. r.history) (is (begins first)))

pub faulty_sync : (first : List ℕ) (steps new : List Step) → ((r : Replay) → replayed new r ≡ takes Lost (replayed steps r)) → Faulty (λ m. m) (Some (replayed steps (begins first)).history) (Some (replayed new (begins first)).history)
faulty_sync first steps new is =
    in_doubt (λ m. m) (replayed steps (begins first)).history (replayed new (begins first)).history (replayed steps (begins first)).settled (settled_is_an_image (disk_of first steps)) (ap (λ r. r.history) (is (begins first)))
