-- Worked rows of calls that fail and are done by half.
use Rattle.std.specs.Prelude.{◌≡◌, true, false, [], ◌∷◌, refl}
use Rattle.racf_outside.specs.ImageTest.{is_image}
use Rattle.racf_outside.specs.MemoryDisk.{half_written, begins, replayed}
use Rattle.racf_outside.specs.Moments.{durable, synced}
use Rattle.racf_outside.specs.declared.memory_disk.Step.TheVariants.{Cut, Synced, Lost}

-- a write of three bytes leaves one, and one of four leaves two
half_of_three : (half_written 1 (7 ∷ 8 ∷ 9 ∷ []) (durable (1 ∷ 2 ∷ 3 ∷ 4 ∷ 5 ∷ []))).bytes ≡ 1 ∷ 7 ∷ 3 ∷ 4 ∷ 5 ∷ []
half_of_three = refl

half_of_four : (half_written 1 (6 ∷ 7 ∷ 8 ∷ 9 ∷ []) (durable (1 ∷ 2 ∷ 3 ∷ 4 ∷ 5 ∷ []))).bytes ≡ 1 ∷ 6 ∷ 7 ∷ 4 ∷ 5 ∷ []
half_of_four = refl

-- one of a single byte leaves none, and one at the end makes the file longer by the half
half_of_one : (half_written 1 (9 ∷ []) (durable (1 ∷ 2 ∷ 3 ∷ []))).bytes ≡ 1 ∷ 2 ∷ 3 ∷ []
half_of_one = refl

half_at_the_end : (half_written 2 (8 ∷ 9 ∷ []) (durable (1 ∷ 2 ∷ []))).bytes ≡ 1 ∷ 2 ∷ 8 ∷ []
half_at_the_end = refl

-- a crash may leave the whole write, the half or nothing of it, and no other byte
half_kept_whole : is_image (half_written 1 (8 ∷ 9 ∷ []) (durable (1 ∷ 2 ∷ 3 ∷ 4 ∷ []))) (1 ∷ 8 ∷ 9 ∷ 4 ∷ []) ≡ true
half_kept_whole = refl

half_kept : is_image (half_written 1 (8 ∷ 9 ∷ []) (durable (1 ∷ 2 ∷ 3 ∷ 4 ∷ []))) (1 ∷ 8 ∷ 3 ∷ 4 ∷ []) ≡ true
half_kept = refl

half_lost : is_image (half_written 1 (8 ∷ 9 ∷ []) (durable (1 ∷ 2 ∷ 3 ∷ 4 ∷ []))) (1 ∷ 2 ∷ 3 ∷ 4 ∷ []) ≡ true
half_lost = refl

half_elsewhere : is_image (half_written 1 (8 ∷ 9 ∷ []) (durable (1 ∷ 2 ∷ 3 ∷ 4 ∷ []))) (1 ∷ 8 ∷ 9 ∷ 5 ∷ []) ≡ false
half_elsewhere = refl

-- a sync behind it settles the half
half_and_synced : is_image (synced (half_written 1 (8 ∷ 9 ∷ []) (durable (1 ∷ 2 ∷ 3 ∷ 4 ∷ [])))) (1 ∷ 8 ∷ 9 ∷ 4 ∷ []) ≡ false
half_and_synced = refl

-- a sync that loses: a read gives what stood at the last sync that succeeded, not what stood in the beginning
lost_since_the_sync : (replayed (Cut 3 ∷ Synced ∷ Cut 1 ∷ Lost ∷ []) (begins (1 ∷ 2 ∷ 3 ∷ 4 ∷ []))).history.now.bytes ≡ 1 ∷ 2 ∷ 3 ∷ []
lost_since_the_sync = refl

lost_since_the_beginning : (replayed (Cut 3 ∷ Cut 1 ∷ Lost ∷ []) (begins (1 ∷ 2 ∷ 3 ∷ 4 ∷ []))).history.now.bytes ≡ 1 ∷ 2 ∷ 3 ∷ 4 ∷ []
lost_since_the_beginning = refl

-- it settles nothing: a crash may still leave what was lost, until a sync succeeds
lost_in_doubt : is_image (replayed (Cut 3 ∷ Synced ∷ Cut 1 ∷ Lost ∷ []) (begins (1 ∷ 2 ∷ 3 ∷ 4 ∷ []))).history.now (1 ∷ []) ≡ true
lost_in_doubt = refl

lost_and_synced : is_image (replayed (Cut 3 ∷ Synced ∷ Cut 1 ∷ Lost ∷ Synced ∷ []) (begins (1 ∷ 2 ∷ 3 ∷ 4 ∷ []))).history.now (1 ∷ []) ≡ false
lost_and_synced = refl

-- a second sync that loses changes no more
lost_twice : (replayed (Cut 3 ∷ Synced ∷ Cut 1 ∷ Lost ∷ Lost ∷ []) (begins (1 ∷ 2 ∷ 3 ∷ 4 ∷ []))).history.now.bytes ≡ 1 ∷ 2 ∷ 3 ∷ []
lost_twice = refl
