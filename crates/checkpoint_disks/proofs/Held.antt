-- What a file says it holds: the fields, the image and the records.
use Rattle.std.proofs.Common.{ℕ, ◌+◌, ◌-◌, ◌<◌, ◌≤◌, ◌^◌, ◌/◌, ◌%◌, ◌≡◌, ◌∙◌, true, ltb, List, [], ◌∷◌, ◌++◌, length, take, drop, get_or, Result, Ok, Err, refl, sym, ap, subst, arith, append_assoc}
use Rattle.std.specs.List.{slice_range}
use Rattle.std.proofs.Math.Seq.{take-append-add}
use Rattle.std.proofs.lemmas.List.{take_rest, take-append-drop, drop-drop, get_or-drop, length-take, length-take-le, length-drop}
use Rattle.std.proofs.lemmas.Bool.{eqb-true, le-ltb, cond-false}
use Rattle.byteorder.specs.Endian.{big_bytes, big_number}
use Rattle.byteorder.specs.Numbers.{big_from-lt}
use Rattle.racf_profiles.specs.declared.rows.Rows.{Rows}
use Rattle.database_image.specs.Reading.{AreBytes}
use Rattle.database_image.specs.Image.{AreImageOf, rows_of, IsStored}
use Rattle.racf_journal.specs.Reading.{reading, spelled, walk}
use Rattle.racf_journal.proofs.Behind.{read_is_scanned}
use Rattle.checkpoint_disks.specs.declared.heads.Head.{Head}
use Rattle.checkpoint_disks.specs.Files.{is_formatted, head_is_open, number_at, epoch_of, rows_read, CheckpointRead}
use Rattle.checkpoint_disks.specs.Compacting.{with_head, fields, with_image, with_records, IsHeld}
use Rattle.checkpoint_disks.proofs.HeadGates.{parts}
use Rattle.checkpoint_disks.proofs.Contents.{reading_behind}

-- ---- the bytes of a number of eight bytes

byte_7 : (a b c d e f g h n : ℕ) → a < 256 → b < 256 → c < 256 → d < 256 → e < 256 → f < 256 → g < 256 → h < 256 → big_number 8 (a ∷ b ∷ c ∷ d ∷ e ∷ f ∷ g ∷ h ∷ []) ≡ n → big_bytes 8 n ≡ a ∷ b ∷ c ∷ d ∷ e ∷ f ∷ g ∷ h ∷ []
byte_7 a b c d e f g h n i j k l m o p q is =
    let s : n / 72057594037927936 % 256 ≡ a = omega (arith, i, j, k, l, m, o, p, q, is) in
    let t : n / 281474976710656 % 256 ≡ b = omega (arith, i, j, k, l, m, o, p, q, is) in
    let u : n / 1099511627776 % 256 ≡ c = omega (arith, i, j, k, l, m, o, p, q, is) in
    let v : n / 4294967296 % 256 ≡ d = omega (arith, i, j, k, l, m, o, p, q, is) in
    let w : n / 16777216 % 256 ≡ e = omega (arith, i, j, k, l, m, o, p, q, is) in
    let x : n / 65536 % 256 ≡ f = omega (arith, i, j, k, l, m, o, p, q, is) in
    let y : n / 256 % 256 ≡ g = omega (arith, i, j, k, l, m, o, p, q, is) in
    let z : n % 256 ≡ h = omega (arith, i, j, k, l, m, o, p, q, is) in
    rw (s, t, u, v, w, x, y, z) refl

eight_bytes : (xs : List ℕ) → AreBytes xs → 8 ≤ length xs → big_bytes 8 (big_number 8 xs) ≡ take 8 xs
eight_bytes [] fits long = absurd (omega arith)
eight_bytes (a ∷ []) fits long = absurd (omega arith)
eight_bytes (a ∷ b ∷ []) fits long = absurd (omega arith)
eight_bytes (a ∷ b ∷ c ∷ []) fits long = absurd (omega arith)
eight_bytes (a ∷ b ∷ c ∷ d ∷ []) fits long = absurd (omega arith)
eight_bytes (a ∷ b ∷ c ∷ d ∷ e ∷ []) fits long = absurd (omega arith)
eight_bytes (a ∷ b ∷ c ∷ d ∷ e ∷ f ∷ []) fits long = absurd (omega arith)
eight_bytes (a ∷ b ∷ c ∷ d ∷ e ∷ f ∷ g ∷ []) fits long = absurd (omega arith)
eight_bytes (a ∷ b ∷ c ∷ d ∷ e ∷ f ∷ g ∷ h ∷ rest) fits long =
    byte_7 a b c d e f g h (big_number 8 (a ∷ b ∷ c ∷ d ∷ e ∷ f ∷ g ∷ h ∷ rest)) (fits 0) (fits 1) (fits 2) (fits 3) (fits 4) (fits 5) (fits 6) (fits 7) refl

module _ (file : List ℕ) (bytes : AreBytes file) where
  bytes_behind : (place : ℕ) → AreBytes (drop place file)
  bytes_behind place i = subst (λ b. b < 256) (sym (get_or-drop place file i 0)) (bytes (place + i))

  pub field_is : (place : ℕ) → place + 8 ≤ length file → big_bytes 8 (number_at place file) ≡ take 8 (drop place file)
  unfolding number_at
  field_is place within = eight_bytes (drop place file) (bytes_behind place) (omega (arith, length-drop place file))

  pub field_fits : (place : ℕ) → number_at place file < 2 ^ 64
  unfolding number_at
  field_fits place = big_from-lt 0 8 (drop place file) (bytes_behind place)

  -- a field, and what follows it
  pub next_field : (place n : ℕ) → place + 8 ≤ length file → take (8 + n) (drop place file) ≡ big_bytes 8 (number_at place file) ++ take n (drop (place + 8) file)
  next_field place n inside =
      let xs : List ℕ = drop place file in
      let long : length (take 8 xs) ≡ 8 = length-take-le 8 xs (omega (arith, length-drop place file)) in
      ap (λ k. take (k + n) xs) (sym long)
      ∙ ap (take (length (take 8 xs) + n)) (sym (take-append-drop 8 xs))
      ∙ take-append-add (take 8 xs) (drop 8 xs) n
      ∙ ap (λ (l : List ℕ). l ++ take n (drop 8 xs)) (sym (field_is place inside))
      ∙ ap (λ (l : List ℕ). big_bytes 8 (number_at place file) ++ take n l) (drop-drop 8 place file)

-- ---- the front of the file

module _ (file : List ℕ) (epoch number size : ℕ) (image : List ℕ) (bytes : AreBytes file) (formatted : is_formatted file ≡ true) (opened : head_is_open file ≡ true)
    (epoch_at : epoch ≡ number_at 9 file) (number_is : number ≡ number_at 17 file) (size_at : size ≡ number_at 25 file) (within : 33 + size ≤ length file) (image_at : image ≡ take size (drop 33 file))
  where
    pub size_is : size ≡ length image
    size_is = sym (ap length image_at ∙ length-take-le size (drop 33 file) (omega (arith, length-drop 33 file, within)))

    head_split : file ≡ with_head 1 [] ++ drop 9 file
    head_split = parts file formatted (omega (arith, within)) ∙ ap (λ g. with_head g (drop 9 file)) (eqb-true (get_or file 8 0) 1 opened)

    abbrev e : List ℕ
    e = big_bytes 8 (number_at 9 file)

    abbrev n : List ℕ
    n = big_bytes 8 (number_at 17 file)

    abbrev s : List ℕ
    s = big_bytes 8 (number_at 25 file)

    body_split : take (24 + size) (drop 9 file) ≡ e ++ (n ++ (s ++ take size (drop 33 file)))
    body_split =
        let a : 24 + size ≡ 8 + (8 + (8 + size)) = omega arith in
        ap (λ k. take k (drop 9 file)) a
        ∙ next_field file bytes 9 (8 + (8 + size)) (omega (arith, within))
        ∙ ap (λ (l : List ℕ). e ++ l) (next_field file bytes 17 (8 + size) (omega (arith, within))
        ∙ ap (λ (l : List ℕ). n ++ l) (next_field file bytes 25 size (omega (arith, within))))

    fields_are : (e ++ (n ++ s)) ≡ fields epoch number size
    unfolding fields
    fields_are =
        ap (λ k. big_bytes 8 k ++ (n ++ s)) (sym epoch_at)
        ∙ ap (λ k. big_bytes 8 epoch ++ (big_bytes 8 k ++ s)) (sym number_is)
        ∙ ap (λ k. big_bytes 8 epoch ++ (big_bytes 8 number ++ big_bytes 8 k)) (sym size_at)

    body_is : take (24 + size) (drop 9 file) ≡ fields epoch number size ++ image
    body_is =
        body_split
        ∙ ap (λ (l : List ℕ). e ++ l) (sym (append_assoc n s (take size (drop 33 file))))
        ∙ sym (append_assoc e (n ++ s) (take size (drop 33 file)))
        ∙ ap (λ (l : List ℕ). l ++ take size (drop 33 file)) fields_are
        ∙ ap (λ (l : List ℕ). fields epoch number size ++ l) (sym image_at)

    pub front_is : take (33 + size) file ≡ with_image epoch number image
    front_is =
        let k : 33 + size ≡ length (with_head 1 []) + (24 + size) = omega arith in
        ap (λ m. take m file) k
        ∙ ap (take (length (with_head 1 []) + (24 + size))) head_split
        ∙ take-append-add (with_head 1 []) (drop 9 file) (24 + size)
        ∙ ap (λ (l : List ℕ). with_head 1 [] ++ l) (body_is ∙ ap (λ m. fields epoch number m ++ image) size_is)

-- the epoch of a file that doesn't end before it
epoch_read : (file : List ℕ) → 17 ≤ length file → epoch_of file ≡ number_at 9 file
unfolding epoch_of
epoch_read file long = cond-false (ltb (length file) 17) _ _ (le-ltb (length file) 17 long)

-- what stands in front of the journal
pub image_long : (epoch number : ℕ) (image : List ℕ) → length (with_image epoch number image) ≡ 33 + length image
unfolding fields
image_long epoch number image = omega arith

-- the last place follows
places_are : (epoch number start gate : ℕ) (rows : Rows) (records : List (List ℕ)) → gate ≡ start + length (spelled records)
    → record { epoch = epoch; number = number; rows = rows; start = start; records = records; gate = gate } ≡ with_records epoch number rows start records
places_are epoch number start gate rows records to = rw to refl

-- an image that is read
rows_found : (read : Result Rows ℕ) (rows : Rows) → rows_read read ≡ Ok rows → read ≡ Ok rows
rows_found (Ok found) rows e = cc
rows_found (Err place) rows e = cc

-- what is read of a file
pub held : (file : List ℕ) (head : Head) (rows : Rows) (records : List (List ℕ)) (gate : ℕ) → AreBytes file → is_formatted file ≡ true → head_is_open file ≡ true
    → 0 < head.epoch → head.epoch ≡ epoch_of file → (head.number ≤ 2 ^ 62) × (head.number ≡ number_at 17 file) → head.start ≡ 33 + number_at 25 file → head.start ≤ length file
    → IsStored rows × AreImageOf (slice_range file 33 head.start) rows → rows_read (rows_of (slice_range file 33 head.start)) ≡ Ok rows
    → walk 0 head.start (take (length file - head.start) (drop head.start file)) ≡ Ok (record { records = records; gate = gate })
    → length file ≤ 2 ^ 28 → gate < 2 ^ 28
    → IsHeld (record { epoch = head.epoch; number = head.number; rows = rows; start = head.start; records = records; gate = gate }) file
held file head rows records gate bytes formatted opened some epoch number start within stored found read short fits =
    let image : List ℕ = slice_range file 33 head.start in
    let size : ℕ = number_at 25 file in
    let inside : 33 + size ≤ length file = omega (arith, start, within) in
    let epoch_at : head.epoch ≡ number_at 9 file = epoch ∙ epoch_read file (omega (arith, inside)) in
    let few : head.start - 33 ≡ size = omega (arith, start) in
    let image_at : image ≡ take size (drop 33 file) = ap (λ n. take n (drop 33 file)) few in
    let size_of : size ≡ length image = size_is file head.epoch head.number size image bytes formatted opened epoch_at number.1 refl inside image_at in
    let long : length (with_image head.epoch head.number image) ≡ head.start = image_long head.epoch head.number image ∙ ap (λ n. 33 + n) (sym size_of) ∙ sym start in
    let reads : reading head.start file ≡ Ok (record { records = records; gate = gate }) = reading_behind head.start file (omega (arith, start)) ∙ ap (walk 0 head.start) (sym (take_rest file head.start)) ∙ read in
    let s = read_is_scanned head.start file (record { records = records; gate = gate }) reads in
    record {
      lawful = record {
        some = some;
        epoch = subst (λ n. n < 2 ^ 64) (sym epoch_at) (field_fits file bytes 9);
        number = number.0;
        stored = stored.0;
        image = image;
        image_is = stored.1;
        read_as = rows_found (rows_of image) rows found;
        size = subst (λ n. n < 2 ^ 64) size_of (field_fits file bytes 25);
        start = start ∙ ap (λ n. 33 + n) size_of;
        fits = fits;
        is = places_are head.epoch head.number head.start gate rows records s.to;
      };
      counts = record { formatted = formatted; opened = opened; epoch_is = sym epoch };
      short = short;
      reads = record {
        front_stays = ap (λ n. take n file) (long ∙ start) ∙ front_is file head.epoch head.number size image bytes formatted opened epoch_at number.1 refl inside image_at;
        reads = ap (λ n. reading n file) long ∙ reads ∙ ap (λ n. Ok (record { records = records; gate = n })) (s.to ∙ ap (λ n. n + length (spelled records)) (sym long));
      };
    }

-- ---- for the layers above

-- where the parts of what is held stand
pub record HeldParts (read : CheckpointRead) (image file : List ℕ) : Type 0 where
  pub behind : 33 ≤ read.start
  pub within : read.start ≤ length file
  pub long : length (with_image read.epoch read.number image) ≡ read.start
  pub front : take read.start file ≡ with_image read.epoch read.number image
  pub reads : reading read.start file ≡ Ok (record { records = read.records; gate = read.gate })

pub held_parts : (read : CheckpointRead) (file : List ℕ) → (h : IsHeld read file) → HeldParts read h.lawful.image file
held_parts read file h =
    let front : List ℕ = with_image read.epoch read.number h.lawful.image in
    let long : length front ≡ 33 + length h.lawful.image = image_long read.epoch read.number h.lawful.image in
    let at : length front ≡ read.start = long ∙ sym h.lawful.start in
    let to : read.gate ≡ length front + length (spelled read.records) = ap (λ (r : CheckpointRead). r.gate) h.lawful.is ∙ ap (λ n. n + length (spelled read.records)) (sym at) in
    record {
      behind = omega (arith, at, long);
      within = omega (arith, at, ap length h.reads.front_stays, length-take (length front) file);
      long = at;
      front = ap (λ n. take n file) (sym at) ∙ h.reads.front_stays;
      reads = ap (λ n. reading n file) (sym at) ∙ h.reads.reads ∙ ap (λ n. Ok (record { records = read.records; gate = n })) (sym to);
    }
