-- What opening a journal leaves, and what crashes leave meanwhile.
use Rattle.std.proofs.Common.{ℕ, ◌+◌, ◌-◌, ◌<◌, ◌≤◌, ◌≡◌, ◌∙◌, ◌^◌, ◌||◌, max, Bool, true, false, List, [], ◌∷◌, ◌++◌, length, take, drop, Option, None, Some, Result, Ok, Err, IfOk, MatchResult, refl, sym, ap, subst, arith, append_assoc, length-append, replicate, inl, inr, ltb}
use Rattle.std.specs.Prelude.{bytes_eq}
use Rattle.std.specs.List.{AllByRecursion}
use Rattle.std.specs.Option.{option_map}
use Rattle.std.proofs.lemmas.Option.{none-some, same_Some}
use Rattle.std.proofs.lemmas.List.{take_at, drop_at, take-take, take-append-drop, length-take, length-take-le, length-replicate}
use Rattle.std.proofs.lemmas.Bool.{cond-true, cond-false, ltb-true}
use Rattle.std.proofs.lemmas.Slice.Eq.{bytes_eq-Decides}
use Rattle.racf_outside.specs.Crashes.{Leaves, StaysIn}
use Rattle.racf_outside.specs.Disk.{History, goes, Now}
use Rattle.racf_outside.specs.Moments.{Moment, IsImage, durable, synced}
use Rattle.racf_outside.proofs.Images.{only, synced-leaves}
use Rattle.racf_outside.proofs.Runs.{Runs, starts, ok, ends, StaysIn-joined, StaysIn-weaker}
use Rattle.racf_journal.specs.declared.fault.JournalFault.{JournalFault}
use Rattle.racf_journal.specs.declared.fault.JournalFault.TheVariants.{NotFormatted}
use Rattle.racf_journal.specs.Kept.{IsAtRest, IsResting, Keeps}
use Rattle.racf_journal.specs.Opening.{IsStart, OnlySynced, WasPossible, StaysPossible}
use Rattle.racf_journal.specs.Reading.{Reading, magic, is_formatted, walk, reading, IsRecord, IsEnd, spelled}
use Rattle.racf_journal.specs.Repair.{IsScanned, Holds, HoldsEnd, HoldsFound, IsFound, Ends, EndsWithin}
use Rattle.racf_journal.proofs.Files.{reading-front}
use Rattle.racf_journal.proofs.Walks.{walk_to_end}

-- ---- the reading, by the test of the front

pub reading-formatted : (start : ℕ) (file : List ℕ) → is_formatted start file ≡ true → reading start file ≡ walk 0 start (drop start file)
reading-formatted start file is = cond-true (is_formatted start file) _ _ is

pub reading-unformatted : (start : ℕ) (file : List ℕ) → is_formatted start file ≡ false → reading start file ≡ Err NotFormatted
reading-unformatted start file is = cond-false (is_formatted start file) _ _ is

-- the front alone decides it
pub formatted_front : (start : ℕ) (file : List ℕ) → 8 ≤ start → is_formatted start (take start file) ≡ is_formatted start file
formatted_front start file least = ap (λ (l : List ℕ). ltb 8 start || bytes_eq l magic) (take-take 8 start file least)

-- a file that has the magic has that length
formatted_long : (file : List ℕ) → is_formatted 8 file ≡ true → 8 ≤ length file
formatted_long file is = let same : take 8 file ≡ magic = (bytes_eq-Decides (take 8 file) magic).0 is in omega (arith, ap length same, length-take 8 file)

-- a start lies within the file
pub start_within : (start : ℕ) (told : Option History) (h : History) → IsStart start told → told ≡ Some h → is_formatted start h.now.bytes ≡ true → (8 ≤ start) × (start ≤ length h.now.bytes)
start_within start told h (inl first) e is =
    let long : 8 ≤ length h.now.bytes = formatted_long h.now.bytes (ap (λ s. is_formatted s h.now.bytes) (sym first) ∙ is) in
    (omega (arith, first), omega (arith, first, long))
start_within start told h (inr later) e is = (omega (arith, later.0), later.1 h e)

-- a front that begins as it has to has that length too
least_start : (start : ℕ) (front : List ℕ) → length front ≡ start → is_formatted start front ≡ true → 8 ≤ start
least_start start front from is = by (ltb 8 start) refl is
  where
    by : (b : Bool) → ltb 8 start ≡ b → (b || bytes_eq (take 8 front) magic) ≡ true → 8 ≤ start
    by true behind e = let less = ltb-true 8 start behind in omega (arith, less)
    by false before e =
        let same : take 8 front ≡ magic = (bytes_eq-Decides (take 8 front) magic).0 e in
        omega (arith, ap length same, length-take 8 front, from)

-- ---- a front, records and an end

same_gate : (one two : Reading) → ◌≡◌ {A = Result Reading JournalFault} (Ok one) (Ok two) → one.gate ≡ two.gate
same_gate one two e = let same : one ≡ two = cc in ap (λ (r : Reading). r.gate) same

module _ (start gate : ℕ) (records : List (List ℕ)) (front : List ℕ) (from : length front ≡ start) (formatted : is_formatted start front ≡ true) (lawful : AllByRecursion IsRecord records) (to : gate ≡ start + length (spelled records)) where
  abbrev pub front_base : List ℕ
  front_base = front ++ spelled records

  pub front_size : length front_base ≡ gate
  front_size = omega (arith, from, to, length-append front (spelled records))

  -- each file of these records and an end is read alike
  pub front_reads : (other : List ℕ) → Ends front_base other → (take start other ≡ front) × (reading start other ≡ Ok (record { records = records; gate = gate }))
  front_reads other e =
      let split : other ≡ front ++ (spelled records ++ e.end) = e.split ∙ append_assoc front (spelled records) e.end in (
        ap (take start) split ∙ take_at front (spelled records ++ e.end) start from,
        ap (reading start) split ∙ reading-front start front (spelled records ++ e.end) from formatted ∙ walk_to_end records start e.end lawful e.ends ∙ ap (λ n. Ok (record { records = records; gate = n })) (sym to),
      )

  -- so each was possible where one was
  pub front_possible : (m : Moment) → Ends front_base m.bytes → IsImage m m.bytes → (other : List ℕ) → Ends front_base other → length other ≤ max (length m.bytes) (gate + 1) → WasPossible start m other
  front_possible m is law other e short = record {
    image = m.bytes;
    was_left = law;
    front = (front_reads other e).0 ∙ sym (front_reads m.bytes is).0;
    reads = (front_reads other e).1 ∙ sym (front_reads m.bytes is).1;
    ends = λ found reads.
        let same : gate ≡ found.gate = same_gate (record { records = records; gate = gate }) found (sym (front_reads m.bytes is).1 ∙ reads) in
        subst (λ n. length other ≤ max (length m.bytes) (n + 1)) same short;
  }

  pub front_rests : (m : Moment) → m ≡ durable (front_base ++ 0 ∷ []) → IsAtRest front start gate records m
  front_rests m is = record { from = from; formatted = formatted; to = to; lawful = lawful; is = is }

-- ---- a file whose records were found

module _ (start gate : ℕ) (records : List (List ℕ)) (file bytes : List ℕ) (least : 8 ≤ start) (within : start ≤ length file) (formatted : is_formatted start file ≡ true) (behind : bytes ≡ drop start file) (s : IsScanned start bytes records gate) where
  abbrev front : List ℕ
  front = take start file

  abbrev pub base : List ℕ
  base = front ++ spelled records

  pub from : length front ≡ start
  from = length-take-le start file within

  pub front_formatted : is_formatted start front ≡ true
  front_formatted = formatted_front start file least ∙ formatted

  pub base_size : length base ≡ gate
  base_size = front_size start gate records front from front_formatted s.lawful s.to

  pub base_whole : file ≡ base ++ s.end
  base_whole = sym (take-append-drop start file) ∙ ap (λ (l : List ℕ). front ++ l) (sym behind ∙ s.split) ∙ sym (append_assoc front (spelled records) s.end)

  pub ends_read : (other : List ℕ) → Ends base other → (take start other ≡ front) × (reading start other ≡ Ok (record { records = records; gate = gate }))
  ends_read = front_reads start gate records front from front_formatted s.lawful s.to

  pub file_reads : reading start file ≡ Ok (record { records = records; gate = gate })
  file_reads = (ends_read file (record { end = s.end; split = base_whole; ends = s.ends })).1

-- ---- the moments

-- what is shown of a disk that told its moments before is shown of every disk
Now-from : (a b : Option History) (Q : Moment → Type 0) → (a ≡ None → b ≡ None) → ((h : History) → a ≡ Some h → Now b Q) → Now b Q
Now-from None b Q untold told k e = absurd (none-some k (sym (untold refl) ∙ e))
Now-from (Some h) b Q untold told k e = told h refl k e

StaysIn-from : (P : List ℕ → Type 0) (a b : Option History) → (a ≡ None → b ≡ None) → ((h : History) → a ≡ Some h → StaysIn P a b) → StaysIn P a b
StaysIn-from P a b untold told = record { told = λ h e. (told h e).told h e; untold = untold }

possible_now : (start : ℕ) (before m : Moment) → m ≡ before → Leaves (WasPossible start before) m
possible_now start before m same = record { each = λ image i. record { image = image; was_left = subst (λ n. IsImage n image) same i; front = refl; reads = refl; ends = λ found reads. omega arith } }

pub possible_start : (start : ℕ) (before : Moment) (a : Option History) → Now a (λ m. m ≡ before) → Runs (WasPossible start before) a (λ h. h) a
possible_start start before a was = starts (WasPossible start before) a (λ h e. possible_now start before h.now (was h e))

pub possible_here : (start : ℕ) (before : Moment) (a : Option History) → Now a (λ m. m ≡ before) → (h : History) → a ≡ Some h → Leaves (WasPossible start before) h.now
possible_here start before a was h e = possible_now start before h.now (was h e)

-- a disk that was synced
module _ (start : ℕ) (a b : Option History) (s : OnlySynced a b) where
  synced_untold : a ≡ None → b ≡ None
  synced_untold none = s.is ∙ ap (option_map (goes synced)) none

  synced_told : (h : History) → a ≡ Some h → b ≡ Some (goes synced h)
  synced_told h e = s.is ∙ ap (option_map (goes synced)) e

  pub synced_stays : StaysPossible start a b
  synced_stays before was =
      ends (ok synced (possible_start start before a was) s.is (λ h e. synced-leaves (WasPossible start before) h.now (s.was_left h e) (possible_now start before h.now (was h e))))

  -- what is said of the bytes behind the sync holds of those before it
  pub synced_before : (Q : List ℕ → Type 0) → Now b (λ m. Q m.bytes) → Now a (λ m. Q m.bytes)
  synced_before Q holds h e = holds (goes synced h) (synced_told h e)

  -- and the other way round
  pub synced_behind : (Q : List ℕ → Type 0) → Now a (λ m. Q m.bytes) → Now b (λ m. Q m.bytes)
  synced_behind Q holds =
      Now-from a b (λ m. Q m.bytes) synced_untold (λ h e k told. subst (λ (i : History). Q i.now.bytes) (same_Some (goes synced h) k (sym (synced_told h e) ∙ told)) (holds h e))

  -- what was possible behind it was so before
  possible_before : (m before : Moment) → m ≡ before → IsImage m m.bytes → (file : List ℕ) → WasPossible start (synced m) file → WasPossible start before file
  possible_before m before same law file w =
      let image_is : w.image ≡ m.bytes = only m.bytes w.image w.was_left in
      record { image = w.image; was_left = subst (λ n. IsImage n w.image) same (subst (IsImage m) (sym image_is) law); front = w.front; reads = w.reads; ends = w.ends }

  pub possible_joined : (c : Option History) → StaysPossible start b c → StaysPossible start a c
  possible_joined c later before was =
      StaysIn-from (WasPossible start before) a c
      (λ none. (later before (λ k told. absurd (none-some k (sym (synced_untold none) ∙ told)))).untold (synced_untold none))
      (λ h e. StaysIn-joined (synced_stays before was)
      (StaysIn-weaker (WasPossible start before) (later (synced h.now) (λ k told. ap (λ history. history.now) (sym (same_Some (goes synced h) k (sym (synced_told h e) ∙ told)))))
      (λ k told image w. possible_before h.now before (was h e) (s.was_left h e) image w)))

-- ---- what was found behind a sync

module _ (start : ℕ) (a b c : Option History) (law : (h : History) → a ≡ Some h → IsImage h.now h.now.bytes) (done : b ≡ option_map (goes synced) a) (kept : c ≡ b) where
  pub read_synced : OnlySynced a c
  read_synced = record { was_left = law; is = kept ∙ done }

  pub read_before : (Q : List ℕ → Type 0) → Now b (λ m. Q m.bytes) → Now a (λ m. Q m.bytes)
  read_before = synced_before start a b (record { was_left = law; is = done })

  module _ (gate : ℕ) (records : List (List ℕ)) (bytes end : List ℕ) (is_start : IsStart start a) (seen : Now b (λ m. (is_formatted start m.bytes ≡ true) × (bytes ≡ drop start m.bytes))) (s : IsScanned start bytes records gate) (end_is : end ≡ drop (gate - start) bytes) where
    before : (h : History) → a ≡ Some h → (is_formatted start h.now.bytes ≡ true) × (bytes ≡ drop start h.now.bytes)
    before = read_before (λ file. (is_formatted start file ≡ true) × (bytes ≡ drop start file)) seen

    within_at : (h : History) → a ≡ Some h → (8 ≤ start) × (start ≤ length h.now.bytes)
    within_at h e = start_within start a h is_start e (before h e).0

    end_same : end ≡ s.end
    end_same = end_is ∙ ap (drop (gate - start)) s.split ∙ drop_at (spelled records) s.end (gate - start) (omega (arith, s.to))

    split_end : bytes ≡ spelled records ++ end
    split_end = s.split ∙ ap (λ (l : List ℕ). spelled records ++ l) (sym end_same)

    pub found_before : Now a (λ m. reading start m.bytes ≡ Ok (record { records = records; gate = gate }))
    found_before h e = file_reads start gate records h.now.bytes bytes (within_at h e).0 (within_at h e).1 (before h e).0 (before h e).1 s

    held_at : (h : History) → a ≡ Some h → HoldsFound start records end (synced h.now)
    held_at h e = record {
      front = take start h.now.bytes;
      from = length-take-le start h.now.bytes (within_at h e).1;
      formatted = formatted_front start h.now.bytes (within_at h e).0 ∙ (before h e).0;
      is = ap durable (sym (take-append-drop start h.now.bytes) ∙ ap (λ (l : List ℕ). take start h.now.bytes ++ l) (sym (before h e).1 ∙ split_end));
    }

    pub found_is : start + length bytes < 2 ^ 64 → IsFound start gate records end c
    found_is room = record {
      to = s.to;
      lawful = s.lawful;
      ends = subst IsEnd (sym end_same) s.ends;
      room = omega (arith, room, s.to, ap length split_end, length-append (spelled records) end);
      held = Now-from a c (HoldsFound start records end) (λ none. kept ∙ done ∙ ap (option_map (goes synced)) none) (λ h e k told.
          subst (λ (i : History). HoldsFound start records end i.now) (same_Some (goes synced h) k (sym (kept ∙ done ∙ ap (option_map (goes synced)) e) ∙ told)) (held_at h e));
    }

-- ---- the repair of what was found

module _ (start gate : ℕ) (records : List (List ℕ)) (end : List ℕ) (a : Option History) (f : IsFound start gate records end a) where
  abbrev base_at : (h : History) → a ≡ Some h → List ℕ
  base_at h e = (f.held h e).front ++ spelled records

  size_at : (h : History) (e : a ≡ Some h) → length (base_at h e) ≡ gate
  size_at h e = let held = f.held h e in front_size start gate records held.front held.from held.formatted f.lawful f.to

  moment_at : (h : History) (e : a ≡ Some h) → h.now ≡ durable (base_at h e ++ end)
  moment_at h e = let held = f.held h e in held.is ∙ ap durable (sym (append_assoc held.front (spelled records) end))

  holds_at : (h : History) (e : a ≡ Some h) → Holds (base_at h e ++ end) a
  holds_at h e k told = ap (λ history. history.now) (sym (same_Some h k (sym e ∙ told))) ∙ moment_at h e

  ends_at : (h : History) (e : a ≡ Some h) → Ends (base_at h e) h.now.bytes
  ends_at h e = record { end = end; split = ap (λ (m : Moment). m.bytes) (moment_at h e); ends = f.ends }

  pub found_held : HoldsEnd gate end a
  found_held h e = (base_at h e, size_at h e, moment_at h e)

  pub found_reads : Now a (λ m. reading start m.bytes ≡ Ok (record { records = records; gate = gate }))
  found_reads h e = let held = f.held h e in (front_reads start gate records held.front held.from held.formatted f.lawful f.to h.now.bytes (ends_at h e)).1

  module _ (law : (h : History) → a ≡ Some h → IsImage h.now h.now.bytes) (d : Option History) (moments : (base : List ℕ) → length base ≡ gate → Holds (base ++ end) a → StaysIn (EndsWithin (gate + max (length end) 1) base) a d) where
    repaired_untold : a ≡ None → d ≡ None
    repaired_untold none =
        (moments (replicate gate 0) (length-replicate gate 0) (λ k e. absurd (none-some k (sym none ∙ e)))).untold none

    size_before : (h : History) (e : a ≡ Some h) (image : List ℕ) → length image ≤ gate + max (length end) 1 → length image ≤ max (length h.now.bytes) (gate + 1)
    size_before h e image short = omega (arith, short, ap (λ (m : Moment). length m.bytes) (moment_at h e), size_at h e, length-append (base_at h e) end)

    pub repaired_stays : StaysPossible start a d
    repaired_stays before was =
        StaysIn-from (WasPossible start before) a d repaired_untold (λ h e. StaysIn-weaker (WasPossible start before) (moments (base_at h e) (size_at h e) (holds_at h e)) (λ k told image is.
        let held = f.held h e in
        subst (λ m. WasPossible start m image) (was h e) (front_possible start gate records held.front held.from held.formatted f.lawful f.to h.now (ends_at h e) (law h e) image is.0 (size_before h e image is.1))))

    module _ (repaired : (base : List ℕ) → length base ≡ gate → Holds (base ++ end) a → Holds (base ++ 0 ∷ []) d) where
      rests_at : (h : History) (e : a ≡ Some h) → Now d (IsAtRest (f.held h e).front start gate records)
      rests_at h e k told =
          let held = f.held h e in
          front_rests start gate records held.front held.from held.formatted f.lawful f.to k.now (repaired (base_at h e) (size_at h e) (holds_at h e) k told)

      -- The file is read as before: neither the cut behind the gate nor the byte in the gate's place changes the reading.
      pub repaired_reads : (cutting : (at end : ℕ) (file : List ℕ) (found : Reading) → 8 ≤ at → at ≤ length file → reading at file ≡ Ok found → found.gate ≤ end → reading at (take end file) ≡ Ok found)
          → (rewriting : (at byte : ℕ) (file : List ℕ) (found : Reading) → 8 ≤ at → at ≤ length file → reading at file ≡ Ok found → reading at (take found.gate file ++ byte ∷ []) ≡ Ok found)
          → Now d (λ m. reading start m.bytes ≡ Ok (record { records = records; gate = gate }))
      repaired_reads cutting rewriting =
          Now-from a d (λ m. reading start m.bytes ≡ Ok (record { records = records; gate = gate })) repaired_untold (λ h e k told.
          let held = f.held h e in
          let found : Reading = record { records = records; gate = gate } in
          let file : List ℕ = base_at h e ++ end in
          let size = size_at h e in
          let front_long : start ≤ length (base_at h e) = omega (arith, held.from, length-append held.front (spelled records)) in
          let long : start ≤ length file = omega (arith, front_long, length-append (base_at h e) end) in
          let least : 8 ≤ start = least_start start held.front held.from held.formatted in
          let reads : reading start file ≡ Ok found = ap (λ (m : Moment). reading start m.bytes) (sym (moment_at h e)) ∙ found_reads h e in
          let cut : List ℕ = take (gate + 1) file in
          let front_is : take gate cut ≡ base_at h e = take-take gate (gate + 1) file (omega arith) ∙ take_at (base_at h e) end gate size in
          let cut_long : start ≤ length cut = omega (arith, size, front_long, ap length front_is, length-take gate cut) in
          let is : k.now.bytes ≡ take gate cut ++ 0 ∷ [] =
          ap (λ (m : Moment). m.bytes) (repaired (base_at h e) size (holds_at h e) k told) ∙ ap (λ (l : List ℕ). l ++ 0 ∷ []) (sym front_is) in
          ap (reading start) is ∙ rewriting start 0 cut found least cut_long (cutting start (gate + 1) file found least long reads (omega arith)))

      pub repaired_resting : Now d (IsResting start gate)
      repaired_resting = Now-from a d (IsResting start gate) repaired_untold (λ h e k told. ((f.held h e).front, records, rests_at h e k told))

      pub repaired_rests : (front : List ℕ) → Now a (λ m. take start m.bytes ≡ front) → Keeps front start gate records d
      repaired_rests front same =
          Now-from a d (IsAtRest front start gate records) repaired_untold (λ h e k told.
          let held = f.held h e in
          let front_is : held.front ≡ front = sym (front_reads start gate records held.front held.from held.formatted f.lawful f.to h.now.bytes (ends_at h e)).0 ∙ same h e in
          subst (λ l. IsAtRest l start gate records k.now) front_is (rests_at h e k told))

-- ---- both, one after the other

module _ {T E : Type 0} (start : ℕ) (a b : Option History) (s : OnlySynced a b) where
  pub both_stay : (result : Result T E) (opened : T → Option History) (back : E → Option History)
      → MatchResult result (λ one. StaysPossible start b (opened one)) (λ one. StaysPossible start b (back one)) → MatchResult result (λ one. StaysPossible start a (opened one)) (λ one. StaysPossible start a (back one))
  both_stay (Ok one) opened back stays = possible_joined start a b s (opened one) stays
  both_stay (Err one) opened back stays = possible_joined start a b s (back one) stays

  pub both_rest : (result : Result T E) (opened : T → Option History) (gate : T → ℕ) (records : T → List (List ℕ)) (found_gate : ℕ) (found_records : List (List ℕ))
      → IfOk result (λ one. gate one ≡ found_gate) → IfOk result (λ one. records one ≡ found_records)
      → IfOk result (λ one. (front : List ℕ) → Now b (λ m. take start m.bytes ≡ front) → Keeps front start found_gate found_records (opened one))
      → IfOk result (λ one. (front : List ℕ) → Now a (λ m. take start m.bytes ≡ front) → Keeps front start (gate one) (records one) (opened one))
  both_rest (Ok one) opened gate records found_gate found_records at are rest = λ front same.
      subst (λ n. Keeps front start n (records one) (opened one)) (sym at)
      (subst (λ rs. Keeps front start found_gate rs (opened one)) (sym are) (rest front (synced_behind start a b s (λ file. take start file ≡ front) same)))
  both_rest (Err one) opened gate records found_gate found_records at are rest = tt
