-- Worked rows of what a crash may leave.
use Rattle.std.specs.Prelude.{◌≡◌, true, false, [], ◌∷◌, refl}
use Rattle.racf_outside.specs.ImageTest.{is_image}
use Rattle.racf_outside.specs.Moments.{durable, written, cut_to, synced, reads_as}

-- behind a sync a crash leaves what a read gives, and nothing else
at_rest : is_image (durable (1 ∷ 2 ∷ 3 ∷ [])) (1 ∷ 2 ∷ 3 ∷ []) ≡ true
at_rest = refl

at_rest_only : is_image (durable (1 ∷ 2 ∷ 3 ∷ [])) (1 ∷ 2 ∷ 4 ∷ []) ≡ false
at_rest_only = refl

-- one write: its range may hold the new bytes, the old ones, part of them or others, and every other byte stays
wrote_kept : is_image (written 1 (8 ∷ 9 ∷ []) (durable (1 ∷ 2 ∷ 3 ∷ 4 ∷ []))) (1 ∷ 8 ∷ 9 ∷ 4 ∷ []) ≡ true
wrote_kept = refl

wrote_lost : is_image (written 1 (8 ∷ 9 ∷ []) (durable (1 ∷ 2 ∷ 3 ∷ 4 ∷ []))) (1 ∷ 2 ∷ 3 ∷ 4 ∷ []) ≡ true
wrote_lost = refl

wrote_torn : is_image (written 1 (8 ∷ 9 ∷ []) (durable (1 ∷ 2 ∷ 3 ∷ 4 ∷ []))) (1 ∷ 2 ∷ 9 ∷ 4 ∷ []) ≡ true
wrote_torn = refl

wrote_anything : is_image (written 1 (8 ∷ 9 ∷ []) (durable (1 ∷ 2 ∷ 3 ∷ 4 ∷ []))) (1 ∷ 7 ∷ 7 ∷ 4 ∷ []) ≡ true
wrote_anything = refl

wrote_elsewhere : is_image (written 1 (8 ∷ 9 ∷ []) (durable (1 ∷ 2 ∷ 3 ∷ 4 ∷ []))) (1 ∷ 8 ∷ 9 ∷ 5 ∷ []) ≡ false
wrote_elsewhere = refl

-- a write that makes the file longer may be kept to any length, and never longer than that
grown_in_part : is_image (written 3 (8 ∷ 9 ∷ []) (durable (1 ∷ 2 ∷ 3 ∷ []))) (1 ∷ 2 ∷ 3 ∷ 8 ∷ []) ≡ true
grown_in_part = refl

grown_too_far : is_image (written 3 (8 ∷ 9 ∷ []) (durable (1 ∷ 2 ∷ 3 ∷ []))) (1 ∷ 2 ∷ 3 ∷ 8 ∷ 9 ∷ 0 ∷ []) ≡ false
grown_too_far = refl

-- two writes that overlap: the bytes of both may be in any state, in whatever order they reached the disk
overlapping : is_image (written 1 (8 ∷ 9 ∷ []) (written 0 (5 ∷ 6 ∷ []) (durable (1 ∷ 2 ∷ 3 ∷ 4 ∷ [])))) (1 ∷ 6 ∷ 9 ∷ 4 ∷ []) ≡ true
overlapping = refl

overlapping_first_alone : is_image (written 1 (8 ∷ 9 ∷ []) (written 0 (5 ∷ 6 ∷ []) (durable (1 ∷ 2 ∷ 3 ∷ 4 ∷ [])))) (5 ∷ 6 ∷ 3 ∷ 4 ∷ []) ≡ true
overlapping_first_alone = refl

overlapping_elsewhere : is_image (written 1 (8 ∷ 9 ∷ []) (written 0 (5 ∷ 6 ∷ []) (durable (1 ∷ 2 ∷ 3 ∷ 4 ∷ [])))) (5 ∷ 8 ∷ 9 ∷ 0 ∷ []) ≡ false
overlapping_elsewhere = refl

-- a write and then a cut: the file may be cut, or as long as it ever was, and past the cut anything may stand
wrote_and_cut : is_image (cut_to 2 (written 3 (9 ∷ 9 ∷ []) (durable (1 ∷ 2 ∷ 3 ∷ [])))) (1 ∷ 2 ∷ []) ≡ true
wrote_and_cut = refl

wrote_and_not_cut : is_image (cut_to 2 (written 3 (9 ∷ 9 ∷ []) (durable (1 ∷ 2 ∷ 3 ∷ [])))) (1 ∷ 2 ∷ 5 ∷ 5 ∷ 5 ∷ []) ≡ true
wrote_and_not_cut = refl

wrote_and_cut_further : is_image (cut_to 2 (written 3 (9 ∷ 9 ∷ []) (durable (1 ∷ 2 ∷ 3 ∷ [])))) (1 ∷ []) ≡ false
wrote_and_cut_further = refl

-- a cut and then a write where it ended: the cut may be undone, the write kept, or both
cut_undone : is_image (written 2 (9 ∷ []) (cut_to 2 (durable (1 ∷ 2 ∷ 3 ∷ 4 ∷ [])))) (1 ∷ 2 ∷ 3 ∷ 4 ∷ []) ≡ true
cut_undone = refl

cut_undone_and_written : is_image (written 2 (9 ∷ []) (cut_to 2 (durable (1 ∷ 2 ∷ 3 ∷ 4 ∷ [])))) (1 ∷ 2 ∷ 9 ∷ 4 ∷ []) ≡ true
cut_undone_and_written = refl

cut_and_not_written : is_image (written 2 (9 ∷ []) (cut_to 2 (durable (1 ∷ 2 ∷ 3 ∷ 4 ∷ [])))) (1 ∷ 2 ∷ []) ≡ true
cut_and_not_written = refl

cut_keeps_the_front : is_image (written 2 (9 ∷ []) (cut_to 2 (durable (1 ∷ 2 ∷ 3 ∷ 4 ∷ [])))) (1 ∷ 3 ∷ 9 ∷ []) ≡ false
cut_keeps_the_front = refl

-- a sync that succeeded: a cut before it stays
cut_and_synced : is_image (synced (cut_to 2 (durable (1 ∷ 2 ∷ 3 ∷ [])))) (1 ∷ 2 ∷ 3 ∷ []) ≡ false
cut_and_synced = refl

-- a sync that failed settles nothing: a read may give the old bytes, and a crash may still leave the new ones
failed_sync : is_image (reads_as (1 ∷ 2 ∷ []) (written 1 (9 ∷ []) (durable (1 ∷ 2 ∷ [])))) (1 ∷ 9 ∷ []) ≡ true
failed_sync = refl

failed_sync_between : is_image (written 0 (8 ∷ []) (reads_as (1 ∷ 2 ∷ []) (written 1 (9 ∷ []) (durable (1 ∷ 2 ∷ []))))) (1 ∷ 9 ∷ []) ≡ true
failed_sync_between = refl

sync_between : is_image (written 0 (8 ∷ []) (synced (written 1 (9 ∷ []) (durable (1 ∷ 2 ∷ []))))) (1 ∷ 2 ∷ []) ≡ false
sync_between = refl
