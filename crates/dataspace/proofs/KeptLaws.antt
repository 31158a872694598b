-- What contracts see of a region, by its fields.
use Rattle.std.proofs.Common.{◌≡◌, ℕ, suc, ◌+◌, ◌<◌, ◌≤◌, Bool, true, false, ltb, List, [], ◌∷◌, ◌++◌, length, get_or, Some, sym, ap, ◌∙◌, arith, ⊎_elim}
use Rattle.std.specs.Prelude.{◌&&◌, IsTrue, slice_range, slice_get}
use Rattle.std.proofs.lemmas.Bool.{cases_Bool, false≢true, and_parts, and_left, leb-true, ltb-true, le-leb, lt-leb, eqb-true}
use Rattle.dataspace.specs.declared.spot.Spot.{Spot}
use Rattle.dataspace.specs.declared.region.Region.TheInside.{Inside}
use Rattle.dataspace.specs.Placed.{used, fits, text_at, has, IsWithinRoom}
use Rattle.dataspace.specs.Kept.{IsKept, seen, texts_of, end_of, start_of, is_row, is_before}
use Rattle.dataspace.proofs.SpotLaws.{had-text}
use Rattle.dataspace.proofs.RowLaws.{row-text, end-within, rising-at, used-texts, length-texts, texts-placed, text-bytes, row-had, none-had, only-row}

pub used-seen : (region : Inside) → IsKept region → used (seen region).texts ≡ length region.bytes.items
used-seen region h = omega (arith, h.whole, used-texts region.bytes.items 0 region.ends.items h.rising (omega (arith, h.whole)))

pub rows-seen : (region : Inside) → length (seen region).texts ≡ length region.ends.items
rows-seen region = length-texts region.bytes.items 0 region.ends.items

pub within-seen : (region : Inside) → IsKept region → IsWithinRoom (seen region)
within-seen region h = record {
  bytes = omega (arith, used-seen region h, region.bytes.ok.0, h.bytes);
  rows = omega (arith, rows-seen region, region.ends.ok.0, h.rows);
  byte_room = h.byte_room;
  row_room = h.row_room;
}

-- A text that fits has its bytes and a row free.
pub room-seen : (region : Inside) → IsKept region → (size : ℕ) → IsTrue (fits (seen region) size) → (length region.bytes.items + size ≤ region.byte_room) × (length region.ends.items < region.row_room)
room-seen region h size t =
    let parts = and_parts _ _ t in
    let bytes = leb-true (used (seen region).texts + size) region.byte_room parts.0 in
    let rows = ltb-true (length (seen region).texts) region.row_room parts.1 in (
      omega (arith, bytes, used-seen region h),
      omega (arith, rows, rows-seen region),
    )

pub fits-rows : (region : Inside) → IsKept region → (size : ℕ) → length region.bytes.items + size ≤ region.byte_room → ltb (length region.ends.items) region.row_room ≡ fits (seen region) size
fits-rows region h size free =
    ap (λ (n : ℕ). ltb n region.row_room) (sym (rows-seen region))
    ∙ ap (λ (b : Bool). b && ltb (length (seen region).texts) region.row_room) (sym (le-leb (used (seen region).texts + size) region.byte_room (omega (arith, used-seen region h, free))))

pub fits-not : (region : Inside) → IsKept region → (size : ℕ) → region.byte_room < length region.bytes.items + size → false ≡ fits (seen region) size
fits-not region h size full =
    sym (and_left _ (ltb (length (seen region).texts) region.row_room) (lt-leb (used (seen region).texts + size) region.byte_room (omega (arith, used-seen region h, full))))

-- A text is made of the bytes from its spot's start to its end.
pub bytes-seen : (region : Inside) → IsKept region → (spot : Spot) (text : List ℕ) → text_at (seen region).texts spot ≡ Some text → (spot.start + spot.length ≤ length region.bytes.items) × (slice_range region.bytes.items spot.start (spot.start + spot.length) ≡ text)
bytes-seen region h spot text is = text-bytes region.bytes.items 0 region.ends.items spot text h.rising (omega (arith, h.whole)) is

pub had-seen : (region : Inside) → IsKept region → (spot : Spot) → IsTrue (has (seen region).texts spot) → (spot.start + spot.length ≤ length region.bytes.items) × (text_at (seen region).texts spot ≡ Some (slice_range region.bytes.items spot.start (spot.start + spot.length)))
had-seen region h spot had =
    let found = had-text (seen region).texts spot had in
    let made = bytes-seen region h spot found.0 found.1 in (
      made.0,
      found.1 ∙ ap (λ (text : List ℕ). Some text) (sym made.1),
    )

-- The text of a row, which starts and ends within the bytes.
pub row-seen : (region : Inside) → IsKept region → (row : ℕ) → row < length region.ends.items → (start_of region.ends.items row ≤ get_or region.ends.items row 0) × (get_or region.ends.items row 0 ≤ length region.bytes.items) × (slice_get (seen region).texts row ≡ Some (slice_range region.bytes.items (start_of region.ends.items row) (get_or region.ends.items row 0)))
row-seen region h row below = (
  rising-at 0 region.ends.items h.rising row (suc row) (omega arith) (omega arith),
  omega (arith, end-within 0 region.ends.items h.rising row below, h.whole),
  row-text region.bytes.items 0 region.ends.items row below,
)

-- A text placed behind the others is the last in the list.
pub placed-seen : (region : Inside) → IsKept region → (text bytes ends : List ℕ) (end : ℕ) → bytes ≡ region.bytes.items ++ text → ends ≡ region.ends.items ++ end ∷ [] → end ≡ length region.bytes.items + length text → texts_of bytes ends ≡ (seen region).texts ++ text ∷ []
placed-seen region h text bytes ends end more row is =
    ap (λ (xs : List ℕ). texts_of xs ends) more
    ∙ ap (λ (xs : List ℕ). texts_of (region.bytes.items ++ text) xs) row
    ∙ texts-placed region.bytes.items text region.ends.items end h.rising h.whole is

-- The first row that isn't before a spot tells whether the spot is had.
pub has-then : (region : Inside) → IsKept region → (spot : Spot) (first : ℕ) → first < length region.ends.items → ((row : ℕ) → row < first → is_before region.ends.items row spot ≡ true) → ((row : ℕ) → first ≤ row → row < length region.ends.items → is_before region.ends.items row spot ≡ false) → is_row region.ends.items first spot ≡ has (seen region).texts spot
has-then region h spot first below before behind =
    let ends = region.ends.items in
    let whole : end_of 0 ends ≤ length region.bytes.items = omega (arith, h.whole) in
    ⊎_elim
    (λ own.
    let parts = and_parts _ _ own in
    own ∙ sym (row-had region.bytes.items 0 ends spot h.rising whole first below (eqb-true (start_of ends first) spot.start parts.0) (eqb-true (get_or ends first 0) (spot.start + spot.length) parts.1)))
    (λ other. other ∙ sym (none-had region.bytes.items 0 ends spot h.rising whole (λ row within starts stops. false≢true (sym other ∙ (only-row ends spot h.rising first before behind row within starts stops).1))))
    (cases_Bool (is_row ends first spot))

pub has-else : (region : Inside) → IsKept region → (spot : Spot) (first : ℕ) → length region.ends.items ≤ first → ((row : ℕ) → row < first → is_before region.ends.items row spot ≡ true) → ((row : ℕ) → first ≤ row → row < length region.ends.items → is_before region.ends.items row spot ≡ false) → false ≡ has (seen region).texts spot
has-else region h spot first past before behind =
    sym (none-had region.bytes.items 0 region.ends.items spot h.rising (omega (arith, h.whole))
    (λ row within starts stops. let later = (only-row region.ends.items spot h.rising first before behind row within starts stops).0 in absurd (omega (arith, later, within, past))))
