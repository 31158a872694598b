-- That a disk as it reads is one of its images, for the disks of this crate.
use Rattle.std.specs.Prelude.{ℕ, zero, suc, ◌+◌, ◌-◌, ◌/◌, ◌≡◌, ◌<◌, ◌≤◌, ◌⊎◌, Bool, true, false, not, ◌&&◌, ◌||◌, nat_lt, List, [], ◌∷◌, ◌++◌, length, take, drop, get_or, None, Some}
use Rattle.std.proofs.Common.{refl, sym, subst, ap, ◌∙◌, arith, inl, inr, length-append, length-drop}
use Rattle.std.proofs.lemmas.Bool.{true≢false, ltb-true, ltb-false}
use Rattle.std.proofs.lemmas.List.{length-take, get_or_append_left, get_or-append_right, get_or-take, get_or-drop}
use Rattle.std.proofs.lemmas.Option.{none-some}
use Rattle.racf_outside.specs.Moments.{Moment, IsImage, is_written, durable, written, cut_to, synced, reads_as}
use Rattle.racf_outside.specs.Disk.{History}
use Rattle.racf_outside.specs.MemoryDisk.{DiskInMemory, Replay, half_written, takes, begins, replayed, history_of, settled_of}
use Rattle.racf_outside.specs.ReadOnlyDisk.{DiskReadOnly, synced_times, moments_of}
use Rattle.racf_outside.specs.declared.memory_disk.Step.{Step}
use Rattle.racf_outside.specs.declared.memory_disk.Step.TheVariants.{Wrote, WroteHalf, Cut, Synced, Lost}

-- a disk that tells nothing has no moment
pub untold_reads_an_image : (history : History) → None ≡ Some history → IsImage history.now history.now.bytes
untold_reads_an_image history told = absurd (none-some history told)

-- what a read gives is no shorter than the shortest end, and no longer than the longest
record IsBetween (m : Moment) : Type 0 where
  shortest : m.shortest ≤ length m.bytes
  longest : length m.bytes ≤ m.longest

-- a write of a part of what may be written
between_part : (place : ℕ) (part bytes : List ℕ) (m : Moment) → length part ≤ length bytes → IsBetween m → IsBetween (reads_as (written place part m).bytes (written place bytes m))
between_part place part bytes m less b =
    let size : length (take place m.bytes ++ (part ++ drop (place + length part) m.bytes)) ≡ length (take place m.bytes) + (length part + (length m.bytes - (place + length part))) = length-append (take place m.bytes) (part ++ drop (place + length part) m.bytes) ∙ ap (λ n. length (take place m.bytes) + n) (length-append part (drop (place + length part) m.bytes) ∙ ap (λ n. length part + n) (length-drop (place + length part) m.bytes)) in
    record {
      shortest = omega (arith, size, length-take place m.bytes, b.shortest);
      longest = omega (arith, size, length-take place m.bytes, b.longest, less);
    }

between_cut : (end : ℕ) (m : Moment) → IsBetween m → IsBetween (cut_to end m)
between_cut end m b =
    record {
      shortest = omega (arith, length-take end m.bytes, b.shortest);
      longest = omega (arith, length-take end m.bytes, b.longest);
    }

between_reads : (m : Moment) → IsBetween m → IsImage m m.bytes
between_reads m b = record { no_shorter = b.shortest; no_longer = b.longest; stays = λ place within kept. refl }

between_image : (image : List ℕ) (m : Moment) → IsImage m image → IsBetween (reads_as image m)
between_image image m i = record { shortest = i.no_shorter; longest = i.no_longer }

-- the bytes outside of a write stay
outside_stays : (place : ℕ) (bytes old : List ℕ) (n : ℕ) → n < length old → (n < place) ⊎ (place + length bytes ≤ n) → get_or (take place old ++ (bytes ++ drop (place + length bytes) old)) n 0 ≡ get_or old n 0
outside_stays place bytes old n within (inl before) =
    get_or_append_left (take place old) (bytes ++ drop (place + length bytes) old) 0 n (omega (arith, length-take place old, before, within))
    ∙ get_or-take place old n 0 before
outside_stays place bytes old n within (inr behind) =
    let front : length (take place old) ≡ place = omega (arith, length-take place old, within, behind) in
    let here : place + length bytes + (n - place - length bytes) ≡ n = omega (arith, behind) in
    get_or-append_right (take place old) (bytes ++ drop (place + length bytes) old) place n 0 front (omega (arith, behind))
    ∙ get_or-append_right bytes (drop (place + length bytes) old) (length bytes) (n - place) 0 refl (omega (arith, behind))
    ∙ get_or-drop (place + length bytes) old (n - place - length bytes) 0
    ∙ ap (λ k. get_or old k 0) here

-- where a place isn't written, it lies outside of each range
outside_of : (before within : Bool) (rest : Bool) → ((not before && within) || rest) ≡ false → ((before ≡ true) ⊎ (within ≡ false)) × (rest ≡ false)
outside_of true within rest h = (inl refl, h)
outside_of false true rest h = absurd (true≢false h)
outside_of false false rest h = (inr refl, h)

lies_outside : (place end n : ℕ) → (nat_lt n place ≡ true) ⊎ (nat_lt n end ≡ false) → (n < place) ⊎ (end ≤ n)
lies_outside place end n (inl h) = inl (ltb-true n place h)
lies_outside place end n (inr h) = inr (ltb-false n end h)

shorter_outside : (place n less more : ℕ) → less ≤ more → (n < place) ⊎ (place + more ≤ n) → (n < place) ⊎ (place + less ≤ n)
shorter_outside place n less more h (inl before) = inl before
shorter_outside place n less more h (inr behind) = inr (omega (arith, h, behind))

-- what a crash may have left before a write, or a part of it, it may leave behind it
image_part : (place : ℕ) (part bytes image : List ℕ) (m : Moment) → length part ≤ length bytes → IsBetween m → IsImage m image → IsImage (reads_as (written place part m).bytes (written place bytes m)) image
image_part place part bytes image m less b i =
    record {
      no_shorter = i.no_shorter;
      no_longer = omega (arith, i.no_longer);
      stays = λ n within kept.
          let o = outside_of (nat_lt n place) (nat_lt n (place + length bytes)) (is_written m.written n) kept in
          let out = lies_outside place (place + length bytes) n o.0 in
          i.stays n within o.1 ∙ sym (outside_stays place part m.bytes n (omega (arith, within, b.shortest)) (shorter_outside place n (length part) (length bytes) less out));
    }

image_cut : (end : ℕ) (image : List ℕ) (m : Moment) → IsImage m image → IsImage (cut_to end m) image
image_cut end image m i =
    record {
      no_shorter = omega (arith, i.no_shorter);
      no_longer = i.no_longer;
      stays = λ n within kept. i.stays n (omega (arith, within)) kept ∙ sym (get_or-take end m.bytes n 0 (omega (arith, within)));
    }

-- what a read gives, and what stood at the last sync, are images
pub record IsSound (r : Replay) : Type 0 where
  between : IsBetween r.history.now
  pub settled : IsImage r.history.now r.settled

sound_step : (step : Step) (r : Replay) → IsSound r → IsSound (takes step r)
sound_step (Wrote place bytes) r s =
    record {
      between = between_part place bytes.items bytes.items r.history.now (omega arith) s.between;
      settled = image_part place bytes.items bytes.items r.settled r.history.now (omega arith) s.between s.settled;
    }
sound_step (WroteHalf place bytes) r s =
    let less : length (take (length bytes.items / 2) bytes.items) ≤ length bytes.items = omega (arith, length-take (length bytes.items / 2) bytes.items) in
    record {
      between = between_part place (take (length bytes.items / 2) bytes.items) bytes.items r.history.now less s.between;
      settled = image_part place (take (length bytes.items / 2) bytes.items) bytes.items r.settled r.history.now less s.between s.settled;
    }
sound_step (Cut end) r s =
    record { between = between_cut end r.history.now s.between; settled = image_cut end r.settled r.history.now s.settled }
sound_step Synced r s =
    let still : IsBetween (synced r.history.now) = record { shortest = omega arith; longest = omega arith } in
    record { between = still; settled = between_reads (synced r.history.now) still }
sound_step Lost r s =
    let reads : IsBetween (reads_as r.settled r.history.now) = between_image r.settled r.history.now s.settled in
    record { between = reads; settled = between_reads (reads_as r.settled r.history.now) reads }

sound_replayed : (steps : List Step) (r : Replay) → IsSound r → IsSound (replayed steps r)
sound_replayed [] r s = s
sound_replayed (step ∷ steps) r s = sound_replayed steps (takes step r) (sound_step step r s)

sound_disk : (disk : DiskInMemory) → IsSound (replayed disk.steps (begins disk.first))
sound_disk disk =
    let still : IsBetween (durable disk.first) = record { shortest = omega arith; longest = omega arith } in
    sound_replayed disk.steps (begins disk.first) (record { between = still; settled = between_reads (durable disk.first) still })

same_history : (h k : History) → Some h ≡ Some k → h ≡ k
same_history h k e = cc

-- a disk in memory
pub replay_reads_an_image : (disk : DiskInMemory) (history : History) → Some (history_of disk) ≡ Some history → IsImage history.now history.now.bytes
replay_reads_an_image disk history told =
    subst (λ h. IsImage h.now h.now.bytes) (same_history (history_of disk) history told)
    (between_reads (history_of disk).now (sound_disk disk).between)

-- what a sync that loses what was written makes of it
pub settled_is_an_image : (disk : DiskInMemory) → IsImage (history_of disk).now (settled_of disk)
settled_is_an_image disk = (sound_disk disk).settled

-- what a write that is done by half makes of it
pub half_is_an_image : (place : ℕ) (bytes : List ℕ) (disk : DiskInMemory) → IsImage (written place bytes (history_of disk).now) (half_written place bytes (history_of disk).now).bytes
half_is_an_image place bytes disk =
    let m : Moment = (history_of disk).now in
    let part : List ℕ = take (length bytes / 2) bytes in
    let less : length part ≤ length bytes = omega (arith, length-take (length bytes / 2) bytes) in
    let b : IsBetween m = (sound_disk disk).between in
    let half = between_part place part bytes m less b in
    record {
      no_shorter = half.shortest;
      no_longer = half.longest;
      stays = λ n within kept.
          let o = outside_of (nat_lt n place) (nat_lt n (place + length bytes)) (is_written m.written n) kept in
          let out = lies_outside place (place + length bytes) n o.0 in
          outside_stays place part m.bytes n (omega (arith, within, b.shortest)) (shorter_outside place n (length part) (length bytes) less out)
          ∙ sym (outside_stays place bytes m.bytes n (omega (arith, within, b.shortest)) out);
    }

-- what a cut makes of it
pub cut_is_an_image : (end : ℕ) (disk : DiskInMemory) → IsImage (cut_to end (history_of disk).now) (take end (history_of disk).now.bytes)
cut_is_an_image end disk =
    let m : Moment = (history_of disk).now in
    between_reads (cut_to end m) (between_cut end m (sound_disk disk).between)

-- what a disk that is only read gives at each moment is what it holds
pub reads_what_it_holds : (count : ℕ) (bytes : List ℕ) → (synced_times count bytes).now ≡ durable bytes
reads_what_it_holds zero bytes = refl
reads_what_it_holds (suc count) bytes = ap synced (reads_what_it_holds count bytes)

-- a disk that is only read
pub held_is_an_image : (disk : DiskReadOnly) (history : History) → Some (moments_of disk) ≡ Some history → IsImage history.now history.now.bytes
held_is_an_image disk history told =
    let still : IsBetween (durable disk.bytes) = record { shortest = omega arith; longest = omega arith } in
    subst (λ h. IsImage h.now h.now.bytes) (same_history (moments_of disk) history told)
    (subst (λ m. IsImage m m.bytes) (sym (reads_what_it_holds disk.syncs disk.bytes)) (between_reads (durable disk.bytes) still))

-- what a read of it gives is what it holds
pub held_bytes : (disk : DiskReadOnly) (history : History) → Some (moments_of disk) ≡ Some history → history.now.bytes ≡ disk.bytes
held_bytes disk history told =
    sym (ap (λ h. h.now.bytes) (same_history (moments_of disk) history told)) ∙ ap (λ m. m.bytes) (reads_what_it_holds disk.syncs disk.bytes)
