-- The room of the keys of a bucket's entries: sums over the entries.
use Rattle.std.proofs.Common.{◌≡◌, ℕ, zero, suc, ◌+◌, ◌-◌, ◌<◌, ◌≤◌, List, [], ◌∷◌, ◌++◌, length, map, take, drop, get_or, Some, refl, ap, sym, ◌∙◌, append_assoc, length-append, arith}
use Rattle.std.specs.Prelude.{IsTrue}
use Rattle.std.specs.List.{slice_get}
use Rattle.std.proofs.lemmas.Bool.{and_from, le-leb, lt-ltb}
use Rattle.std.proofs.lemmas.List.{length-map, map-append, take_all, drop_all, length-take-le, take-append-drop, take-append-le}
use Rattle.std.proofs.lemmas.List.Sums.{sum_by-cons, sum_by-append}
use Rattle.std.proofs.Math.Seq.{take-append-add}
use Rattle.dataspace.specs.declared.room.Room.{Room}
use Rattle.dataspace.specs.Placed.{Placed, used, fits}
use Rattle.dataspace.specs.Rooms.{none, plus, spare, placed_in}
use Rattle.generic_names.specs.Spelled.{Spelled, qualifiers}
use Rattle.generic_names.specs.Before.{ranks}
use Rattle.generic_names.specs.OrderKey.{order_key, squeezed}
use Rattle.generic_names.specs.Laws.{IsPattern}
use Rattle.generic_names.proofs.KeyLaws.{ranks-length}
use Rattle.profile_index.specs.declared.entry.Entry.{Entry}
use Rattle.profile_index.specs.Buckets.{key_of, keys_room, region_of, both, Filled, with_entries, HasRoom, IsRegionAt}
use Rattle.pages.specs.PartAt.{IsPartAt}
use Rattle.profile_index.proofs.BucketLaws.{name-fits, drop-next, get-mapped}

-- the key of a profile's name has at most 248 bytes
pub key-fits : (name : Spelled) → IsPattern name → length (order_key name.text) ≤ 248
key-fits name h = omega (arith, length-map (ranks (qualifiers name.text)) squeezed, ranks-length name.text, name-fits name h)

pub same-room : (b1 b2 n1 n2 : ℕ) → b1 ≡ b2 → n1 ≡ n2 → ◌≡◌ {A = Room} record { bytes = b1; rows = n1 } record { bytes = b2; rows = n2 }
same-room b1 b2 n1 n2 bytes rows =
    ap (λ (n : ℕ). let room : Room = record { bytes = n; rows = n1 } in room) bytes
    ∙ ap (λ (n : ℕ). let room : Room = record { bytes = b2; rows = n } in room) rows

split-at : {A : Type 0} (xs : List A) (i : ℕ) (x : A) → i < length xs → x ≡ get_or xs i x → take i xs ++ x ∷ drop (suc i) xs ≡ xs
split-at [] i x below is = absurd (omega arith)
split-at (y ∷ xs) zero x below is = ap (λ z. z ∷ xs) is
split-at (y ∷ xs) (suc i) x below is = ap (λ l. y ∷ l) (split-at xs i x (omega arith) is)

-- a region of just the room of the texts that lie in it has none to spare
pub none-spare : (keys : Placed) (texts : List (List ℕ)) → keys ≡ region_of texts → spare keys ≡ none
none-spare keys texts is = ap (λ (k : Placed). spare k) is ∙ same-room _ _ _ _ (omega arith) (omega arith)

module _ {T : Type 0} where
  bytes-append : (xs ys : List (Entry T)) → (keys_room (xs ++ ys)).bytes ≡ (keys_room xs).bytes + (keys_room ys).bytes
  bytes-append xs ys = ap (λ l. used l) (map-append key_of xs ys) ∙ sum_by-append (λ t. length t) (map key_of xs) (map key_of ys)

  bytes-cons : (e : Entry T) (xs : List (Entry T)) → (keys_room (e ∷ xs)).bytes ≡ length (key_of e) + (keys_room xs).bytes
  bytes-cons e xs = sum_by-cons (λ t. length t) (key_of e) (map key_of xs)

  pub keys-rows : (xs : List (Entry T)) → (keys_room xs).rows ≡ length xs
  keys-rows xs = length-map xs key_of

  -- ---- entries with which a bucket is filled
  -- more entries behind more are so many behind
  pub with-more : (f : Filled T) (xs ys : List (Entry T)) → with_entries (with_entries f xs) ys ≡ with_entries f (xs ++ ys)
  with-more f xs ys = ap (λ (l : List (Entry T)). let g : Filled T = record { entries = l; room = f.room } in g) (append_assoc f.entries xs ys)

  -- where there is room for all, there is for the first
  pub room-front : (f : Filled T) (xs ys : List (Entry T)) → HasRoom (with_entries f (xs ++ ys)) → HasRoom (with_entries f xs)
  room-front f xs ys h =
      let all = ap (λ (g : Filled T). (keys_room g.entries).bytes) (with-more f xs ys) in
      let count = ap (λ (g : Filled T). length g.entries) (with-more f xs ys) in
      record {
        bytes = omega (arith, bytes-append (f.entries ++ xs) ys, all, h.bytes);
        rows = omega (arith, length-append (f.entries ++ xs) ys, count, h.rows);
      }

  -- there is room for just the entries that it is the room of
  pub room-whole : (f : Filled T) (xs : List (Entry T)) → f.room ≡ keys_room xs → f.entries ≡ xs → HasRoom f
  room-whole f xs room is =
      let same = ap (λ l. (keys_room l).bytes) is in
      let bytes = ap (λ (r : Room). r.bytes) room in
      let rows = ap (λ (r : Room). r.rows) room in
      record {
        bytes = omega (arith, same, bytes);
        rows = omega (arith, ap length is, rows, keys-rows xs);
      }

  -- where the room is that of the keys of all items, there is room for the next one
  pub room-each : {A : Type 0} (entry_of : A → Entry T) (f : Filled T) (all : List A) (i : ℕ) (x : A) (e : Entry T) → f.entries ≡ map entry_of (take i all) → f.room ≡ keys_room (map entry_of all)
      → i < length all → x ≡ get_or all i x → e ≡ entry_of x → HasRoom (with_entries f (e ∷ []))
  room-each entry_of f all i x e so_far room below is same =
      let rest = map entry_of (drop (suc i) all) in
      let whole : f.entries ++ e ∷ rest ≡ map entry_of all =
      ap (λ l. l ++ e ∷ rest) so_far
      ∙ ap (λ z. map entry_of (take i all) ++ z ∷ rest) same
      ∙ sym (map-append entry_of (take i all) (x ∷ drop (suc i) all))
      ∙ ap (λ l. map entry_of l) (split-at all i x below is) in
      room-front f (e ∷ []) rest (room-whole (with_entries f (e ∷ rest)) (map entry_of all) room whole)

  -- where there is room for one entry more, its key fits, and so does the entry
  pub key-has-room : (keys : Placed) (xs : List (Entry T)) (e : Entry T) (key : List ℕ) → keys.texts ≡ map key_of xs → key ≡ key_of e
      → HasRoom (with_entries record { entries = xs; room = record { bytes = keys.bytes; rows = keys.rows } } (e ∷ [])) → IsTrue (fits keys (length key))
  key-has-room keys xs e key texts is h =
      let more = bytes-append xs (e ∷ []) in
      let one = bytes-cons e [] in
      let none : (keys_room {T = T} []).bytes ≡ 0 = refl in
      let old = ap (λ l. used l) texts in
      let rows = ap (λ (l : List (List ℕ)). length l) texts in
      and_from _ _ (le-leb (used keys.texts + length key) keys.bytes (omega (arith, more, one, none, old, ap length is, h.bytes)))
      (lt-ltb (length keys.texts) keys.rows (omega (arith, rows, keys-rows xs, length-append xs (e ∷ []), h.rows)))

  -- a region of the keys of entries, and of their room
  pub just-room : (keys : Placed) (xs : List (Entry T)) → keys.texts ≡ map key_of xs → ◌≡◌ {A = Room} record { bytes = keys.bytes; rows = keys.rows } (keys_room xs) → keys ≡ region_of (map key_of xs)
  just-room keys xs texts room =
      ap (λ l. placed_in (record { bytes = keys.bytes; rows = keys.rows }) l) texts
      ∙ ap (λ (r : Room). placed_in r (map key_of xs)) room

  -- ---- sums
  -- the key of an entry is short
  pub key-short : (xs : List (Entry T)) (place : ℕ) (e : Entry T) (key : List ℕ) → slice_get xs place ≡ Some e → slice_get (map key_of xs) place ≡ Some key → IsPattern e.name → length key ≤ 248
  key-short xs place e key is got named =
      let own = ap (λ (k : List ℕ). length k) (get-mapped key_of xs place e key is got) in
      omega (arith, own, key-fits e.name named)

  -- the key of the next entry counts once
  pub room-next : (room : Room) (xs : List (Entry T)) (place end : ℕ) (e : Entry T) (key : List ℕ) → slice_get xs place ≡ Some e → place < end → slice_get (map key_of xs) place ≡ Some key
      → both (plus room (length key)) (keys_room (drop (place + 1) (take end xs))) ≡ both room (keys_room (drop place (take end xs)))
  room-next room xs place end e key is below got =
      let step : suc place ≡ place + 1 = omega arith in
      let rest = drop (place + 1) (take end xs) in
      let next : drop place (take end xs) ≡ e ∷ rest = drop-next xs place end e is below ∙ ap (λ n. e ∷ drop n (take end xs)) step in
      let own = ap (λ (k : List ℕ). length k) (get-mapped key_of xs place e key is got) in
      same-room _ _ _ _ (omega (arith, own, bytes-cons e rest)) (omega arith) ∙ ap (λ l. both room (keys_room l)) (sym next)

  pub room-end : (room : Room) (xs : List (Entry T)) (end : ℕ) → end ≤ length xs → both room (keys_room (drop end (take end xs))) ≡ room
  room-end room xs end within =
      let nothing = drop_all end (take end xs) (omega (arith, length-take-le end xs within)) in
      ap (λ l. both room (keys_room l)) nothing ∙ same-room _ _ _ _ (omega arith) (omega arith)

  rest-all : (xs : List (Entry T)) (next n : ℕ) → n ≡ length xs → drop next (take n xs) ≡ drop next xs
  rest-all xs next n all = ap (λ l. drop next l) (take_all n xs (omega (arith, all)))

  -- the room of a front, of one entry more, and of what stands behind
  pub room-around : (xs : List (Entry T)) (place next n : ℕ) (e : Entry T) (first front all : Room) (size : ℕ) → first ≡ none → front ≡ both first (keys_room (take place xs)) → size ≡ length (key_of e)
      → all ≡ both (plus front size) (keys_room (drop next (take n xs))) → n ≡ length xs → all ≡ keys_room (take place xs ++ e ∷ drop next xs)
  room-around xs place next n e first front all size f0 f1 s f2 whole =
      let more = bytes-append (take place xs) (e ∷ drop next xs) in
      let count = length-append (take place xs) (e ∷ drop next xs) in
      f2
      ∙ ap (λ l. both (plus front size) (keys_room l)) (rest-all xs next n whole)
      ∙ ap (λ (r : Room). both (plus r size) (keys_room (drop next xs))) (f1 ∙ ap (λ (r : Room). both r (keys_room (take place xs))) f0)
      ∙ same-room _ _ _ _ (omega (arith, s, more, bytes-cons e (drop next xs))) (omega (arith, count, keys-rows (take place xs), keys-rows (drop next xs), keys-rows (take place xs ++ e ∷ drop next xs)))

  -- the room of a front, and of what stands behind
  pub room-joined : (xs : List (Entry T)) (place next n : ℕ) (first front all : Room) → first ≡ none → front ≡ both first (keys_room (take place xs))
      → all ≡ both front (keys_room (drop next (take n xs))) → n ≡ length xs → all ≡ keys_room (take place xs ++ drop next xs)
  room-joined xs place next n first front all f0 f1 f2 whole =
      let more = bytes-append (take place xs) (drop next xs) in
      let count = length-append (take place xs) (drop next xs) in
      f2
      ∙ ap (λ l. both front (keys_room l)) (rest-all xs next n whole)
      ∙ ap (λ (r : Room). both r (keys_room (drop next xs))) (f1 ∙ ap (λ (r : Room). both r (keys_room (take place xs))) f0)
      ∙ same-room _ _ _ _ (omega (arith, more)) (omega (arith, count, keys-rows (take place xs), keys-rows (drop next xs), keys-rows (take place xs ++ drop next xs)))

  pub room-alone : (first all : Room) (xs : List (Entry T)) → first ≡ none → all ≡ both first (keys_room xs) → all ≡ keys_room xs
  room-alone first all xs f0 f1 = f1 ∙ ap (λ (r : Room). both r (keys_room xs)) f0 ∙ same-room _ _ _ _ (omega arith) (omega arith)

  -- ---- regions one behind another
  -- a part of the entries has its keys in a part of the keys
  pub region-at : (xs part : List (Entry T)) (place row : ℕ) (region : Placed) → IsPartAt xs place part row → region ≡ region_of (map key_of part) → IsRegionAt (map key_of xs) place region row
  region-at xs part place row region at is =
      let texts : region.texts ≡ map key_of part = ap (λ (k : Placed). k.texts) is in
      record {
        part = record {
          front = map key_of at.front;
          back = map key_of at.back;
          among = ap (λ l. map key_of l) at.among
              ∙ map-append key_of at.front (part ++ at.back)
              ∙ ap (λ l. map key_of at.front ++ l) (map-append key_of part at.back ∙ ap (λ l. l ++ map key_of at.back) (sym texts));
          start = omega (arith, length-map at.front key_of, at.start);
          within = omega (arith, ap (λ (l : List (List ℕ)). length l) texts, length-map part key_of, at.within);
        };
        just = is ∙ ap (λ l. region_of l) (sym texts);
      }

  -- the room of the keys of a list and of those behind it
  both-appended : (xs ys : List (Entry T)) → keys_room (xs ++ ys) ≡ both (keys_room xs) (keys_room ys)
  both-appended xs ys = same-room _ _ _ _ (bytes-append xs ys) (omega (arith, keys-rows (xs ++ ys), keys-rows xs, keys-rows ys, length-append xs ys))

  -- what a region has taken, but for what the keys before a place take, is the room of the rest
  pub room-behind : (xs : List (Entry T)) (place : ℕ) (first front free : Room) (bytes count : ℕ) → first ≡ none → front ≡ both first (keys_room (take place xs)) → free ≡ none → bytes ≡ (keys_room xs).bytes → count ≡ length xs
      → (front.bytes ≤ bytes + free.bytes) × ((front.rows ≤ count + free.rows) × ◌≡◌ {A = Room} record { bytes = bytes + free.bytes - front.bytes; rows = count + free.rows - front.rows } (keys_room (drop place xs)))
  room-behind xs place first front free bytes count f0 f1 f2 taken all =
      let parts = ap (λ l. keys_room l) (sym (take-append-drop place xs)) ∙ both-appended (take place xs) (drop place xs) in
      let is = f1 ∙ ap (λ (r : Room). both r (keys_room (take place xs))) f0 in
      let b1 = ap (λ (r : Room). r.bytes) parts in
      let n1 = ap (λ (r : Room). r.rows) parts in
      let b2 = ap (λ (r : Room). r.bytes) is in
      let n2 = ap (λ (r : Room). r.rows) is in
      let b3 = ap (λ (r : Room). r.bytes) f2 in
      let n3 = ap (λ (r : Room). r.rows) f2 in
      let rows = keys-rows xs in
      (omega (arith, b1, b2, b3, taken), (omega (arith, n1, n2, n3, all, rows), same-room _ _ _ _ (omega (arith, b1, b2, b3, taken)) (omega (arith, n1, n2, n3, all, rows))))

  -- the room of the keys up to the end of a part
  pub room-up-to : (xs part : List (Entry T)) (place row next : ℕ) → IsPartAt xs place part row → next ≡ place + (length part - row)
      → (both (keys_room (take place xs)) (keys_room (drop row part)) ≡ keys_room (take next xs)) × (next ≤ length xs)
  room-up-to xs part place row next at is =
      let within = at.within in
      let up : place ≡ length at.front + row = omega (arith, at.start) in
      let to : next ≡ length at.front + length part = omega (arith, is, at.start, within) in
      let size : next ≤ length xs = omega (arith, ap (λ (l : List (Entry T)). length l) at.among, length-append at.front (part ++ at.back), length-append part at.back, to) in
      let before : take place xs ≡ at.front ++ take row part =
      ap (λ l. take place l) at.among
      ∙ ap (λ n. take n (at.front ++ (part ++ at.back))) up
      ∙ take-append-add at.front (part ++ at.back) row
      ∙ ap (λ l. at.front ++ l) (take-append-le row part at.back (omega (arith, within))) in
      let behind : take next xs ≡ at.front ++ part =
      ap (λ l. take next l) at.among
      ∙ ap (λ n. take n (at.front ++ (part ++ at.back))) to
      ∙ take-append-add at.front (part ++ at.back) (length part)
      ∙ ap (λ l. at.front ++ l) (take-append-le (length part) part at.back (omega arith) ∙ take_all (length part) part (omega arith)) in
      let whole : at.front ++ part ≡ take place xs ++ drop row part =
      ap (λ l. at.front ++ l) (sym (take-append-drop row part))
      ∙ sym (append_assoc at.front (take row part) (drop row part))
      ∙ ap (λ l. l ++ drop row part) (sym before) in
      (sym (both-appended (take place xs) (drop row part)) ∙ ap (λ l. keys_room l) (sym (behind ∙ whole)), size)
