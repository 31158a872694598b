-- What a new file says, alone and beside another.
use Rattle.std.proofs.Common.{ℕ, ◌+◌, ◌-◌, ◌<◌, ◌≤◌, ◌^◌, ◌≡◌, ◌∙◌, inl, inr, Bool, true, false, ltb, eqb, ◌||◌, Option, Some, None, List, [], ◌∷◌, ◌++◌, length, take, drop, Ok, refl, sym, ap, subst, arith, length-append, take-append-drop}
use Rattle.std.specs.List.{slice_range}
use Rattle.std.proofs.lemmas.List.{take_at, drop_at, drop-drop}
use Rattle.std.proofs.lemmas.Bool.{lt-ltb, le-ltb, ne_eqb, cases_Bool, cond-true, cond-false, false≢true}
use Rattle.std.proofs.Math.Nat.{mod-eq_of_lt}
use Rattle.byteorder.specs.Endian.{big_bytes}
use Rattle.byteorder.specs.Numbers.{big_from-bytes}
use Rattle.racf_profiles.specs.declared.rows.Rows.{Rows}
use Rattle.database_image.specs.Image.{image_of, rows_of}
use Rattle.racf_journal.specs.Kept.{ReadsAs}
use Rattle.racf_journal.specs.Reading.{Reading, reading, spelled, walk}
use Rattle.checkpoint_disks.specs.declared.counting.Side.{Side}
use Rattle.checkpoint_disks.specs.declared.counting.Side.TheVariants.{First, Second}
use Rattle.checkpoint_disks.specs.Files.{is_formatted, head_is_open, number_at, epoch_of, head_of, rows_read, ends_within, records_read, CheckpointRead, contents}
use Rattle.checkpoint_disks.specs.Counting.{which, file_on}
use Rattle.checkpoint_disks.specs.Compacting.{with_head, fields, new_body, new_file, new_checkpoint, with_image, with_records, Counts, IsHeld, IsBare, IsOneOf, said_beside, CountsBeside, SaysEither}
use Rattle.checkpoint_disks.proofs.Contents.{reading_behind, contents-whole}

-- ---- the fields of a new file
neither : (a b : Bool) → a ≡ false → b ≡ false → (a || b) ≡ false
neither a b p q = rw (p, q)

head_read : (file : List ℕ) (epoch number size : ℕ) → epoch_of file ≡ epoch → number_at 17 file ≡ number → number_at 25 file ≡ size → 0 < epoch → number ≤ 2 ^ 62 → 33 ≤ length file → size ≤ length file - 33 → length file ≤ 2 ^ 28
    → head_of file ≡ Ok (record { epoch = epoch; number = number; start = 33 + size })
unfolding head_of
head_read file epoch number size e n s positive most long within short =
    rw (e, n, s) (
    cond-false (ltb (2 ^ 28) (length file)) _ _ (le-ltb (2 ^ 28) (length file) short)
    ∙ cond-false (eqb epoch 0) _ _ (ne_eqb epoch 0 (λ z. absurd (omega arith)))
    ∙ cond-false (ltb (length file) 25 || ltb (2 ^ 62) number) _ _ (neither _ _ (le-ltb (length file) 25 (omega arith)) (le-ltb (2 ^ 62) number most))
    ∙ cond-false (ltb (length file) 33 || ltb (length file - 33) size) _ _ (neither _ _ (le-ltb (length file) 33 long) (le-ltb (length file - 33) size within)))

within_is : (found : Reading) → found.gate < 2 ^ 28 → ends_within found ≡ Ok found
within_is found within = cond-true (ltb found.gate (2 ^ 28)) _ _ (lt-ltb found.gate (2 ^ 28) within)

-- a file of these fields and this image, whatever stands behind them
module _ (epoch number : ℕ) (image rest : List ℕ) where
  abbrev size : ℕ
  size = length image

  abbrev whole : List ℕ
  whole = with_head 1 (fields epoch number size ++ (image ++ rest))

  whole_length : length whole ≡ 33 + (size + length rest)
  unfolding fields
  whole_length = omega (arith, length-append image rest)

  pub epoch_is : epoch < 2 ^ 64 → epoch_of whole ≡ epoch
  unfolding fields number_at epoch_of
  epoch_is fits = cond-false (ltb (length whole) 17) _ _ (le-ltb (length whole) 17 (omega (arith, whole_length))) ∙ big_from-bytes 8 epoch (big_bytes 8 number ++ (big_bytes 8 size ++ (image ++ rest))) ∙ mod-eq_of_lt fits

  number_is : number < 2 ^ 64 → number_at 17 whole ≡ number
  unfolding fields number_at
  number_is fits = big_from-bytes 8 number (big_bytes 8 size ++ (image ++ rest)) ∙ mod-eq_of_lt fits

  size_is : size < 2 ^ 64 → number_at 25 whole ≡ size
  unfolding fields number_at
  size_is fits = big_from-bytes 8 size (image ++ rest) ∙ mod-eq_of_lt fits

  image_is : slice_range whole 33 (33 + size) ≡ image
  unfolding fields
  image_is =
      let e : (33 + size) - 33 ≡ size = omega arith in
      ap (λ n. take n (drop 33 whole)) e ∙ take_at image rest size refl

  pub end_is : drop (33 + size) whole ≡ rest
  unfolding fields
  end_is = sym (drop-drop size 33 whole) ∙ drop_at image rest size refl

  module _ (rows : Rows) (stored : rows_of image ≡ Ok rows) (positive : 0 < epoch) (epoch_fits : epoch < 2 ^ 64) (number_fits : number ≤ 2 ^ 62) (short : length whole ≤ 2 ^ 28) where
    whole_head : head_of whole ≡ Ok (record { epoch = epoch; number = number; start = 33 + size })
    whole_head = head_read whole epoch number size (epoch_is epoch_fits) (number_is (omega arith)) (size_is (omega (arith, whole_length, short))) positive number_fits (omega (arith, whole_length)) (omega (arith, whole_length)) short

    whole_rows : rows_read (rows_of (slice_range whole 33 (33 + size))) ≡ Ok rows
    whole_rows = ap (λ bytes. rows_read (rows_of bytes)) image_is ∙ ap rows_read stored

    pub whole_says : (found : Reading) → reading (33 + size) whole ≡ Ok found → found.gate < 2 ^ 28
        → contents whole ≡ Ok (record { epoch = epoch; number = number; rows = rows; start = 33 + size; records = found.records; gate = found.gate })
    whole_says found reads within = contents-whole whole (record { epoch = epoch; number = number; start = 33 + size }) rows found whole_head whole_rows (ap records_read reads ∙ within_is found within)

-- records behind an image
pub journal_says : (epoch number : ℕ) (image : List ℕ) (rows : Rows) (records : List (List ℕ)) (file : List ℕ) → rows_of image ≡ Ok rows → 0 < epoch → epoch < 2 ^ 64 → number ≤ 2 ^ 62
    → (33 + length image) + length (spelled records) < 2 ^ 28 → length file ≤ 2 ^ 28 → ReadsAs (with_image epoch number image) records file → contents file ≡ Ok (with_records epoch number rows (33 + length image) records)
unfolding fields
journal_says epoch number image rows records file stored positive epoch_fits number_fits fits short reads =
    let front : List ℕ = with_image epoch number image in
    let rest : List ℕ = drop (length front) file in
    let size : length front ≡ 33 + length image = omega arith in
    let split : file ≡ front ++ rest = sym (take-append-drop (length front) file) ∙ ap (λ (l : List ℕ). l ++ rest) reads.front_stays in
    let found : Reading = record { records = records; gate = (33 + length image) + length (spelled records) } in
    let read : reading (33 + length image) (front ++ rest) ≡ Ok found =
    ap (λ n. reading n (front ++ rest)) (sym size) ∙ ap (reading (length front)) (sym split) ∙ reads.reads ∙ ap (λ n. Ok (record { records = records; gate = n + length (spelled records) })) size in
    ap contents split ∙ whole_says epoch number image rest rows stored positive epoch_fits number_fits (subst (λ (l : List ℕ). length l ≤ 2 ^ 28) split short) found read fits

-- and its file counts
pub journal_counts : (epoch number : ℕ) (image : List ℕ) (records : List (List ℕ)) (file : List ℕ) → epoch < 2 ^ 64 → ReadsAs (with_image epoch number image) records file → Counts epoch file
unfolding fields
journal_counts epoch number image records file fits reads =
    let front : List ℕ = with_image epoch number image in
    let rest : List ℕ = drop (length front) file in
    let split : file ≡ front ++ rest = sym (take-append-drop (length front) file) ∙ ap (λ (l : List ℕ). l ++ rest) reads.front_stays in
    record {
      formatted = ap is_formatted split;
      opened = ap head_is_open split;
      epoch_is = ap epoch_of split ∙ epoch_is epoch number image rest fits;
    }

-- a new file
new_epoch : (epoch number : ℕ) (rows : Rows) → epoch < 2 ^ 64 → epoch_of (new_file epoch number rows) ≡ epoch
unfolding new_body
new_epoch epoch number rows fits = epoch_is epoch number (image_of rows) (0 ∷ []) fits

pub new_says : (epoch number : ℕ) (rows : Rows) → rows_of (image_of rows) ≡ Ok rows → 0 < epoch → epoch < 2 ^ 64 → number ≤ 2 ^ 62 → 34 + length (image_of rows) ≤ 2 ^ 28 → contents (new_file epoch number rows) ≡ Ok (new_checkpoint epoch number rows)
unfolding new_body fields
new_says epoch number rows stored positive epoch_fits number_fits size_fits =
    let start : ℕ = 33 + length (image_of rows) in
    whole_says epoch number (image_of rows) (0 ∷ []) rows stored positive epoch_fits number_fits (omega (arith, whole_length epoch number (image_of rows) (0 ∷ []), size_fits)) (record { records = []; gate = start })
    (reading_behind start (new_file epoch number rows) (omega arith) ∙ ap (walk 0 start) (end_is epoch number (image_of rows) (0 ∷ []))) (omega (arith, size_fits))

-- ---- beside another file
-- an open file of a greater epoch counts
counts_above : (side : Side) (file live : List ℕ) → is_formatted file ≡ true → head_is_open file ≡ true → is_formatted live ≡ true → head_is_open live ≡ true → epoch_of live < epoch_of file → said_beside side file live ≡ contents file
counts_above First file live f o g p below = rw (f, g, o, p, le-ltb (epoch_of file) (epoch_of live) (omega arith)) refl
counts_above Second file live f o g p below = rw (f, g, o, p, lt-ltb (epoch_of live) (epoch_of file) below) refl

-- and so does one beside an open file of a lower epoch
counts_below : (side : Side) (file live : List ℕ) → is_formatted file ≡ true → head_is_open file ≡ true → is_formatted live ≡ true → head_is_open live ≡ true → epoch_of file < epoch_of live → said_beside side file live ≡ contents live
counts_below First file live f o g p below = rw (f, g, o, p, lt-ltb (epoch_of file) (epoch_of live) below) refl
counts_below Second file live f o g p below = rw (f, g, o, p, le-ltb (epoch_of live) (epoch_of file) (omega arith)) refl

-- a bare file has no epoch
bare_epoch : (file : List ℕ) → length file ≤ 9 → epoch_of file ≡ 0
unfolding epoch_of
bare_epoch file ends = cond-true (ltb (length file) 17) _ _ (lt-ltb (length file) 17 (omega arith))

-- the file that counts has an open head gate
no_side : {T : Type 0} → ◌≡◌ {A = Option Side} (Some Second) (Some First) → T
no_side e = cc

no_other_side : {T : Type 0} → ◌≡◌ {A = Option Side} (Some First) (Some Second) → T
no_other_side e = cc

none_counts : {T : Type 0} (side : Side) → ◌≡◌ {A = Option Side} None (Some side) → T
none_counts side e = cc

pub counted_open : (one two : List ℕ) (side : Side) → which one two ≡ Some side → head_is_open (file_on side one two) ≡ true
counted_open one two First w = elim (cases_Bool (head_is_open one)) [
  | inl opened ↦ opened
  | inr closed ↦ elim (cases_Bool (head_is_open two)) [
    | inl opened ↦ no_side (rw (closed, opened) at w)
    | inr both ↦ none_counts First (rw (closed, both) at w)
  ]
]
counted_open one two Second w = elim (cases_Bool (head_is_open two)) [
  | inl opened ↦ opened
  | inr closed ↦ elim (cases_Bool (head_is_open one)) [
    | inl opened ↦ no_other_side (rw (opened, closed) at w)
    | inr both ↦ none_counts Second (rw (both, closed) at w)
  ]
]

counted_formatted : (one two : List ℕ) (side : Side) → is_formatted one ≡ true → is_formatted two ≡ true → is_formatted (file_on side one two) ≡ true
counted_formatted one two First f g = f
counted_formatted one two Second f g = g

pub counted_held : (one two file : List ℕ) (side : Side) (read : CheckpointRead) → is_formatted one ≡ true → is_formatted two ≡ true → which one two ≡ Some side → file ≡ file_on side one two
    → (is_formatted file ≡ true → head_is_open file ≡ true → IsHeld read file) → IsHeld read (file_on side one two)
counted_held one two file side read f g w same holds =
    subst (IsHeld read) same (holds (ap is_formatted same ∙ counted_formatted one two side f g) (ap head_is_open same ∙ counted_open one two side w))

-- beside a file that is closed the other counts
counts_alone : (side : Side) (file live : List ℕ) → is_formatted file ≡ true → head_is_open file ≡ false → is_formatted live ≡ true → head_is_open live ≡ true → said_beside side file live ≡ contents live
counts_alone First file live f o g p = rw (f, g, o, p) refl
counts_alone Second file live f o g p = rw (f, g, o, p) refl

-- and so it does beside one that is bare
counts_beside_bare : (side : Side) (file live : List ℕ) → IsBare file → is_formatted live ≡ true → head_is_open live ≡ true → 0 < epoch_of live → said_beside side file live ≡ contents live
counts_beside_bare side file live bare g p some = elim (cases_Bool (head_is_open file)) [
  | inl opened ↦ counts_below side file live bare.formatted opened g p (omega (arith, bare_epoch file bare.ends, some))
  | inr closed ↦ counts_alone side file live bare.formatted closed g p
]

pub new_says_beside : (side : Side) (live before : List ℕ) (epoch number : ℕ) (rows : Rows) → CountsBeside side before live epoch → rows_of (image_of rows) ≡ Ok rows → epoch < 2 ^ 64 → number ≤ 2 ^ 62 → 34 + length (image_of rows) ≤ 2 ^ 28
    → said_beside side (new_file epoch number rows) live ≡ Ok (new_checkpoint epoch number rows)
new_says_beside side live before epoch number rows counts stored fits most room =
    let below : epoch_of live < epoch_of (new_file epoch number rows) = subst (λ n. epoch_of live < n) (sym (new_epoch epoch number rows fits)) counts.below in
    counts_above side (new_file epoch number rows) live refl refl counts.formatted counts.opened below
    ∙ new_says epoch number rows stored (omega (arith, counts.below)) fits most room

pub says_either : (side : Side) (live before made file : List ℕ) (epoch : ℕ) (checkpoint : CheckpointRead) → CountsBeside side before live epoch → said_beside side made live ≡ Ok checkpoint → IsOneOf before made file → SaysEither side live checkpoint file
says_either side live before made file epoch checkpoint counts says (inl (inl same)) = inl (ap (λ f. said_beside side f live) same ∙ counts.says)
says_either side live before made file epoch checkpoint counts says (inl (inr (inl closed))) = inl (counts_alone side file live closed.formatted closed.closed counts.formatted counts.opened)
says_either side live before made file epoch checkpoint counts says (inl (inr (inr gating))) = inl (counts_beside_bare side file live gating.1 counts.formatted counts.opened counts.some)
says_either side live before made file epoch checkpoint counts says (inr same) = inr (ap (λ f. said_beside side f live) same ∙ says)

-- a gate that was closed is open in the new file alone
pub open_is_new : (before made file : List ℕ) → IsOneOf before made file → 9 ≤ length before → head_is_open before ≡ false → head_is_open file ≡ true → file ≡ made
open_is_new before made file (inl (inl same)) long closed opened = absurd (false≢true (sym closed ∙ ap head_is_open (sym same) ∙ opened))
open_is_new before made file (inl (inr (inl left))) long closed opened = absurd (false≢true (sym left.closed ∙ opened))
open_is_new before made file (inl (inr (inr gating))) long closed opened = let short = gating.0 in absurd (omega arith)
open_is_new before made file (inr same) long closed opened = same
