-- Rows of 256 items: where an item stands, and what becomes of them as items go from one row to the next.
use Rattle.std.proofs.Common.{◌≡◌, ◌≢◌, ◌+◌, ◌-◌, ◌*◌, ◌/◌, ◌%◌, ◌<◌, ◌≤◌, ◌↔◌, ℕ, List, [], ◌∷◌, ◌++◌, length, take, drop, get_or, set, Option, None, Some, ap, sym, ◌∙◌, subst, arith, append_assoc, length-append, length-set, get_or-set_same, get_or-set_other, refl, zero, suc, ⊎_elim}
use Rattle.std.specs.Prelude.{min, IsSome}
use Rattle.std.specs.List.{insert, remove, slice_get}
use Rattle.std.specs.Option.{option_to_list}
use Rattle.std.specs.VecDeque.{deque_len, deque_capacity}
use Rattle.std.specs.declared.collections.VecDeque.{VecDeque}
use Rattle.std.proofs.lemmas.List.{take-set, take-set-le, drop-set, drop-set-lt}
use Rattle.std.proofs.lemmas.Option.{slice_get_read}
use Rattle.std.proofs.lemmas.Bool.{cases_eq, false≢true}
use Rattle.tiered_list.specs.Rows.{row_items, IsRow, AreTiered}
use Rattle.tiered_list.proofs.Seams.{flat_map_halves, split_at_row, up_to_row, get_within, set_within, insert_within, remove_within}

next : (r : ℕ) → suc (r + 1) ≡ suc r + 1
next r = omega arith

module _ {T A : Type 0} where
  -- the rows behind the first
  pub tiered_rest : (x : VecDeque T A) (rows : List (VecDeque T A)) (n : ℕ) → AreTiered (x ∷ rows) n → AreTiered rows (n - 256)
  tiered_rest x rows n h k other below =
      let row = h (suc k) other (omega arith) in
      record { len = row.len ∙ omega arith; room = row.room }

  -- the full rows before a row
  pub length_before : (rows : List (VecDeque T A)) (n k : ℕ) → AreTiered rows n → k ≤ length rows → 256 * k ≤ n → length (row_items (take k rows)) ≡ 256 * k
  length_before rows n zero h le full = refl
  length_before [] n (suc k) h le full = absurd (omega arith)
  length_before (x ∷ rows) n (suc k) h le full =
      let first = (h 0 x (omega arith)).len in
      let ok = x.ok.0 in
      let both = length-append x.items (row_items (take k rows)) in
      let rest = length_before rows (n - 256) k (tiered_rest x rows n h) (omega arith) (omega arith) in
      omega (arith, first, ok, both, rest)

  -- a row is put in the place of one
  pub tiered_set : (rows : List (VecDeque T A)) (n m r : ℕ) (y : VecDeque T A) → AreTiered rows n → r < length rows → IsRow y (min 256 (m - 256 * r)) → ((k : ℕ) → k ≢ r → min 256 (n - 256 * k) ≡ min 256 (m - 256 * k)) → AreTiered (set rows r y) m
  tiered_set rows n m r y h below row same k other within =
      let long = length-set rows r y in
      ⊎_elim
      (λ (e : k ≡ r). subst (λ j. IsRow (get_or (set rows r y) j other) (min 256 (m - 256 * j))) (sym e) (subst (λ z. IsRow z (min 256 (m - 256 * r))) (sym (get_or-set_same rows r y other below)) row))
      (λ (e : k ≢ r).
      let old = h k other (omega (arith, long)) in
      subst (λ z. IsRow z (min 256 (m - 256 * k))) (sym (get_or-set_other rows r k y other e)) record { len = old.len ∙ same k e; room = old.room })
      (cases_eq k r)

  -- the items from a row on
  pub items_from : (rows : List (VecDeque T A)) (r : ℕ) (x : VecDeque T A) → r < length rows → x ≡ get_or rows r x → row_items (drop r rows) ≡ x.items ++ row_items (drop (r + 1) rows)
  items_from [] r x below is = absurd (omega arith)
  items_from (y ∷ rows) zero x below is = ap (λ (z : VecDeque T A). z.items ++ row_items rows) (sym is)
  items_from (y ∷ rows) (suc r) x below is = items_from rows r x (omega arith) is ∙ ap (λ k. x.items ++ row_items (drop k (y ∷ rows))) (next r)

  -- the items with a row in the place of one
  pub items_set : (rows : List (VecDeque T A)) (r : ℕ) (y : VecDeque T A) → r < length rows → row_items (set rows r y) ≡ row_items (take r rows) ++ (y.items ++ row_items (drop (r + 1) rows))
  items_set rows r y below =
      let long = length-set rows r y in
      split_at_row (λ (row : VecDeque T A). row.items) (set rows r y) r y (sym (get_or-set_same rows r y y below)) (omega (arith, long))
      ∙ ap (λ front. row_items front ++ (y.items ++ row_items (drop (r + 1) (set rows r y)))) (take-set rows r y)
      ∙ ap (λ back. row_items (take r rows) ++ (y.items ++ row_items back)) (drop-set-lt (r + 1) rows r y (omega arith))

  -- the items up to a row that is put in the place of one
  pub items_up_to : (rows : List (VecDeque T A)) (r : ℕ) (y : VecDeque T A) → r < length rows → row_items (take (r + 1) (set rows r y)) ≡ row_items (take r rows) ++ y.items
  items_up_to rows r y below =
      let long = length-set rows r y in
      up_to_row (λ (row : VecDeque T A). row.items) (set rows r y) r y (sym (get_or-set_same rows r y y below)) (omega (arith, long))
      ∙ ap (λ front. row_items front ++ y.items) (take-set rows r y)

  pub items_behind : (rows : List (VecDeque T A)) (r : ℕ) (y : VecDeque T A) → row_items (drop (r + 1) (set rows r y)) ≡ row_items (drop (r + 1) rows)
  items_behind rows r y = ap (λ back. row_items back) (drop-set-lt (r + 1) rows r y (omega arith))

-- ---- an item at a place
module _ {T A : Type 0} (rows : List (VecDeque T A)) (n place : ℕ) (x : VecDeque T A) (h : AreTiered rows n) (lt : place < n) (whole : n ≤ 256 * length rows) (is : x ≡ get_or rows (place / 256) x) where
  pub row_at : IsRow x (min 256 (n - 256 * (place / 256)))
  row_at = subst (λ z. IsRow z (min 256 (n - 256 * (place / 256)))) (sym is) (h (place / 256) x (omega arith))

  place_start : length (row_items (take (place / 256) rows)) + place % 256 ≡ place
  place_start =
      let before = length_before rows n (place / 256) h (omega arith) (omega arith) in
      omega (arith, before)

  place_within : place % 256 < length x.items
  place_within =
      let size = row_at.len in
      let ok = x.ok.0 in
      omega (arith, size, ok)

  pub get_at : (item : T) → item ≡ get_or x.items (place % 256) item → slice_get (row_items rows) place ≡ Some item
  get_at item is_item =
      get_within (λ (row : VecDeque T A). row.items) rows (place / 256) (place % 256) place x is (omega arith) place_start place_within
      ∙ slice_get_read x.items (length x.items) (place % 256) item refl place_within is_item

  -- another item in its place
  pub set_at : (y : VecDeque T A) (item : T) → y.items ≡ set x.items (place % 256) item → row_items (set rows (place / 256) y) ≡ set (row_items rows) place item
  set_at y item items =
      items_set rows (place / 256) y (omega arith)
      ∙ ap (λ l. row_items (take (place / 256) rows) ++ (l ++ row_items (drop (place / 256 + 1) rows))) items
      ∙ sym (set_within (λ (row : VecDeque T A). row.items) rows (place / 256) (place % 256) place x is (omega arith) place_start item place_within)

  pub tiered_set_at : (y : VecDeque T A) → deque_len y ≡ deque_len x → deque_capacity y ≡ deque_capacity x → AreTiered (set rows (place / 256) y) n
  tiered_set_at y len capacity =
      let row = row_at in
      tiered_set rows n n (place / 256) y h (omega arith) record { len = len ∙ row.len; room = omega (arith, row.room, capacity) } (λ k e. refl)

-- ---- an item is put in
out_of : {T : Type 0} (before row out with_item behind whole : List T) → row ++ out ≡ with_item → whole ≡ before ++ (with_item ++ behind) → whole ≡ (before ++ row) ++ (out ++ behind)
out_of before row out with_item behind whole e w =
    w ∙ ap (λ l. before ++ (l ++ behind)) (sym e) ∙ ap (λ l. before ++ l) (append_assoc row out behind) ∙ sym (append_assoc before row (out ++ behind))

module _ {T A : Type 0} where
  -- While an item is put in, one may be carried: it is still to be put before those behind the row.
  pub record IsCarried (rows : List (VecDeque T A)) (r : ℕ) (carried : Option T) (n : ℕ) (whole : List T) : Type 0 where
    pub items : whole ≡ row_items (take (r + 1) rows) ++ (option_to_list carried ++ row_items (drop (r + 1) rows))
    pub tiered : AreTiered rows (n + 1 - length (option_to_list carried))
    pub within : r < length rows
    pub full : IsSome carried → 256 * (r + 1) ≤ n

  -- what a row is once an item is put in, and what goes out of it
  pub record IsPut (x : VecDeque T A) (j : ℕ) (item : T) (y : VecDeque T A) (carried : Option T) : Type 0 where
    pub items : y.items ++ option_to_list carried ≡ insert x.items j item
    pub len : deque_len y + length (option_to_list carried) ≡ deque_len x + 1
    pub last : IsSome carried ↔ (deque_len x ≡ 256)
    pub room : 256 ≤ deque_capacity y

  carried_tiered : (rows : List (VecDeque T A)) (n r j : ℕ) (x y : VecDeque T A) (item : T) (carried : Option T) → AreTiered rows n → r < length rows → 256 * r ≤ n → deque_len x ≡ min 256 (n - 256 * r) → IsPut x j item y carried → AreTiered (set rows r y) (n + 1 - length (option_to_list carried))
  carried_tiered rows n r j x y item None h below full size is_put =
      let len = is_put.len in
      let not_full : deque_len x ≢ 256 = λ e. absurd (false≢true (is_put.last.1 e)) in
      tiered_set rows n (n + 1 - 0) r y h below record { len = omega arith; room = is_put.room } (λ k e. omega arith)
  carried_tiered rows n r j x y item (Some last) h below full size is_put =
      let len = is_put.len in
      let is_full : deque_len x ≡ 256 = is_put.last.0 refl in
      tiered_set rows n (n + 1 - 1) r y h below record { len = omega arith; room = is_put.room } (λ k e. omega arith)

  -- an item is put into a row
  pub carry : (rows : List (VecDeque T A)) (n r j : ℕ) (x y : VecDeque T A) (item : T) (carried : Option T) (whole : List T) → AreTiered rows n → r < length rows → 256 * r ≤ n → x ≡ get_or rows r x → whole ≡ row_items (take r rows) ++ (insert x.items j item ++ row_items (drop (r + 1) rows)) → IsPut x j item y carried → IsCarried (set rows r y) r carried n whole
  carry rows n r j x y item carried whole h below full is w is_put =
      let size : deque_len x ≡ min 256 (n - 256 * r) = ap (λ (z : VecDeque T A). deque_len z) is ∙ (h r x below).len in
      let long = length-set rows r y in
      record {
        items = out_of (row_items (take r rows)) y.items (option_to_list carried) (insert x.items j item) (row_items (drop (r + 1) rows)) whole is_put.items w
            ∙ ap (λ l. l ++ (option_to_list carried ++ row_items (drop (r + 1) rows))) (sym (items_up_to rows r y below))
            ∙ ap (λ l. row_items (take (r + 1) (set rows r y)) ++ (option_to_list carried ++ l)) (sym (items_behind rows r y));
        tiered = carried_tiered rows n r j x y item carried h below full size is_put;
        within = omega (arith, long);
        full = λ some. omega (arith, size, is_put.last.0 some);
      }

  -- the first row into which an item is put
  pub carry_first : (rows : List (VecDeque T A)) (n r j place : ℕ) (x y : VecDeque T A) (item : T) (carried : Option T) → AreTiered rows n → r < length rows → 256 * r + j ≡ place → place ≤ n → j ≤ deque_len x → x ≡ get_or rows r x → IsPut x j item y carried → IsCarried (set rows r y) r carried n (insert (row_items rows) place item)
  carry_first rows n r j place x y item carried h below e le within is is_put =
      let before = length_before rows n r h (omega arith) (omega arith) in
      let ok = x.ok.0 in
      carry rows n r j x y item carried (insert (row_items rows) place item) h below (omega arith) is (insert_within (λ (row : VecDeque T A). row.items) rows r j place x is below (omega (arith, before)) item (omega (arith, ok))) is_put

  -- a row behind it
  pub carry_on : (rows : List (VecDeque T A)) (n r : ℕ) (x y : VecDeque T A) (last : T) (carried : Option T) (whole : List T) → IsCarried rows r (Some last) n whole → r + 1 < length rows → x ≡ get_or rows (r + 1) x → IsPut x 0 last y carried → IsCarried (set rows (r + 1) y) (r + 1) carried n whole
  carry_on rows n r x y last carried whole h below is is_put =
      carry rows n (r + 1) 0 x y last carried whole (subst (λ m. AreTiered rows m) (omega arith) h.tiered) below (h.full refl) is (h.items ∙ ap (λ l. row_items (take (r + 1) rows) ++ (last ∷ l)) (items_from rows (r + 1) x below is)) is_put

  -- no item is left
  pub carried_items : (rows : List (VecDeque T A)) (n r : ℕ) (whole : List T) → IsCarried rows r None n whole → row_items rows ≡ whole
  carried_items rows n r whole h = sym (flat_map_halves (λ (row : VecDeque T A). row.items) rows (r + 1)) ∙ sym h.items

  pub carried_end : (rows : List (VecDeque T A)) (n r : ℕ) (whole : List T) → IsCarried rows r None n whole → AreTiered rows (n + 1)
  carried_end rows n r whole h = subst (λ m. AreTiered rows m) (omega arith) h.tiered

-- ---- an item is taken out
module _ {T A : Type 0} where
  -- While an item is taken out, one row has an item less.
  pub record IsShort (rows : List (VecDeque T A)) (r n : ℕ) (whole : List T) : Type 0 where
    pub items : row_items rows ≡ whole
    pub others : (k : ℕ) (other : VecDeque T A) → k < length rows → k ≢ r → IsRow (get_or rows k other) (min 256 (n - 256 * k))
    pub short : (other : VecDeque T A) → IsRow (get_or rows r other) (min 256 (n - 256 * r) - 1)
    pub within : r < length rows
    pub some : 256 * r < n

  -- an item goes from the front of the next row to the back of one
  moved : (rows : List (VecDeque T A)) (r : ℕ) (x y u v : VecDeque T A) (item : T) → r < length rows → r + 1 < length rows → u ≡ get_or rows r u → x ≡ get_or rows (r + 1) x → x.items ≡ item ∷ y.items → v.items ≡ u.items ++ item ∷ [] → row_items (set (set rows (r + 1) y) r v) ≡ row_items rows
  moved rows r x y u v item within below is_u is items more =
      let front = set rows (r + 1) y in
      let long = length-set rows (r + 1) y in
      let behind = row_items (drop (r + 1 + 1) rows) in
      items_set front r v (omega (arith, long))
      ∙ ap (λ l. row_items l ++ (v.items ++ row_items (drop (r + 1) front))) (take-set-le r rows (r + 1) y (omega arith))
      ∙ ap (λ l. row_items (take r rows) ++ (v.items ++ row_items l)) (drop-set rows (r + 1) y below)
      ∙ ap (λ l. row_items (take r rows) ++ (l ++ (y.items ++ behind))) more
      ∙ ap (λ l. row_items (take r rows) ++ l) (append_assoc u.items (item ∷ []) (y.items ++ behind))
      ∙ ap (λ l. row_items (take r rows) ++ (u.items ++ (l ++ behind))) (sym items)
      ∙ ap (λ l. row_items (take r rows) ++ (u.items ++ l)) (sym (items_from rows (r + 1) x below is))
      ∙ sym (split_at_row (λ (row : VecDeque T A). row.items) rows r u is_u within)

  -- a row without an item
  pub shorten : (rows : List (VecDeque T A)) (n r j place : ℕ) (x y : VecDeque T A) → AreTiered rows n → r < length rows → 256 * r + j ≡ place → place < n → j < deque_len x → x ≡ get_or rows r x → y.items ≡ remove x.items j → deque_len y + 1 ≡ deque_len x → deque_capacity y ≡ deque_capacity x → IsShort (set rows r y) r n (remove (row_items rows) place)
  shorten rows n r j place x y h below e lt within is items len capacity =
      let before = length_before rows n r h (omega arith) (omega arith) in
      let ok = x.ok.0 in
      let long = length-set rows r y in
      let old : IsRow x (min 256 (n - 256 * r)) = subst (λ z. IsRow z (min 256 (n - 256 * r))) (sym is) (h r x below) in
      let size = old.len in
      let room = old.room in
      record {
        items = items_set rows r y below
            ∙ ap (λ l. row_items (take r rows) ++ (l ++ row_items (drop (r + 1) rows))) items
            ∙ sym (remove_within (λ (row : VecDeque T A). row.items) rows r j place x is below (omega (arith, before)) (omega (arith, ok)));
        others = λ k other in_rows apart. subst (λ z. IsRow z (min 256 (n - 256 * k))) (sym (get_or-set_other rows r k y other apart)) (h k other (omega (arith, long)));
        short = λ other. subst (λ z. IsRow z (min 256 (n - 256 * r) - 1)) (sym (get_or-set_same rows r y other below)) record { len = omega arith; room = omega arith };
        within = omega (arith, long);
        some = omega arith;
      }

  -- the next row gives it its first item
  pub shorten_next : (rows : List (VecDeque T A)) (n r : ℕ) (x y u v : VecDeque T A) (item : T) (whole : List T) → IsShort rows r n whole → r + 1 < length rows → x ≡ get_or rows (r + 1) x → x.items ≡ item ∷ y.items → deque_len y + 1 ≡ deque_len x → deque_capacity y ≡ deque_capacity x → u ≡ get_or (set rows (r + 1) y) r u → v.items ≡ u.items ++ item ∷ [] → deque_len v ≡ deque_len u + 1 → deque_capacity v ≡ deque_capacity u → IsShort (set (set rows (r + 1) y) r v) (r + 1) n whole
  shorten_next rows n r x y u v item whole h below is items len capacity is_u more len_u capacity_u =
      let front = set rows (r + 1) y in
      let long = length-set rows (r + 1) y in
      let longer = length-set front r v in
      let is_old : u ≡ get_or rows r u = is_u ∙ get_or-set_other rows (r + 1) r y u (omega arith) in
      let row_x : IsRow x (min 256 (n - 256 * (r + 1))) = subst (λ z. IsRow z (min 256 (n - 256 * (r + 1)))) (sym is) (h.others (r + 1) x below (omega arith)) in
      let row_u : IsRow u (min 256 (n - 256 * r) - 1) = subst (λ z. IsRow z (min 256 (n - 256 * r) - 1)) (sym is_old) (h.short u) in
      let size_x = row_x.len in
      let room_x = row_x.room in
      let size_u = row_u.len in
      let room_u = row_u.room in
      let filled : IsRow v (min 256 (n - 256 * r)) = record { len = omega arith; room = omega arith } in
      let rest : IsRow y (min 256 (n - 256 * (r + 1)) - 1) = record { len = omega arith; room = omega arith } in
      record {
        items = moved rows r x y u v item h.within below is_old is items more ∙ h.items;
        others = λ k other in_rows apart.
            ⊎_elim
            (λ (e : k ≡ r). subst (λ i. IsRow (get_or (set front r v) i other) (min 256 (n - 256 * i))) (sym e) (subst (λ z. IsRow z (min 256 (n - 256 * r))) (sym (get_or-set_same front r v other (omega (arith, long, h.within)))) filled))
            (λ (e : k ≢ r). subst (λ z. IsRow z (min 256 (n - 256 * k))) (sym (get_or-set_other front r k v other e ∙ get_or-set_other rows (r + 1) k y other apart)) (h.others k other (omega (arith, long, longer)) e))
            (cases_eq k r);
        short = λ other. subst (λ z. IsRow z (min 256 (n - 256 * (r + 1)) - 1)) (sym (get_or-set_other front r (r + 1) v other (omega arith) ∙ get_or-set_same rows (r + 1) y other below)) rest;
        within = omega (arith, long, longer);
        some = omega arith;
      }

  -- no row behind it has one
  pub short_end : (rows : List (VecDeque T A)) (n r : ℕ) (whole : List T) → IsShort rows r n whole → n ≤ 256 * (r + 1) → AreTiered rows (n - 1)
  short_end rows n r whole h last k other below =
      let some = h.some in
      ⊎_elim
      (λ (e : k ≡ r).
      let row = h.short other in
      subst (λ i. IsRow (get_or rows i other) (min 256 (n - 1 - 256 * i))) (sym e) record { len = row.len ∙ omega arith; room = row.room })
      (λ (e : k ≢ r).
      let row = h.others k other below e in
      record { len = row.len ∙ omega arith; room = row.room })
      (cases_eq k r)
