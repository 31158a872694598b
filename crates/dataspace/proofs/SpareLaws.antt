-- The room that is free in a region, and what it tells of the texts that fit.
use Rattle.std.proofs.Common.{◌≡◌, ℕ, ◌+◌, ◌-◌, ◌<◌, ◌≤◌, List, [], ◌∷◌, ◌++◌, length, length-append, ap, ◌∙◌, arith}
use Rattle.std.specs.Prelude.{◌↔◌, IsTrue}
use Rattle.std.proofs.lemmas.Bool.{and_parts, and_from, leb-true, ltb-true, le-leb, lt-ltb}
use Rattle.dataspace.specs.declared.room.Room.{Room}
use Rattle.dataspace.specs.declared.region.Region.TheInside.{Inside}
use Rattle.dataspace.specs.Placed.{Placed, used, fits, IsWithinRoom}
use Rattle.dataspace.specs.Rooms.{plus, spare}
use Rattle.dataspace.specs.Kept.{IsKept, seen}
use Rattle.dataspace.proofs.SpotLaws.{used-push}
use Rattle.dataspace.proofs.KeptLaws.{used-seen, rows-seen}

same-room : (b1 b2 n1 n2 : ℕ) → b1 ≡ b2 → n1 ≡ n2 → ◌≡◌ {A = Room} record { bytes = b1; rows = n1 } record { bytes = b2; rows = n2 }
same-room b1 b2 n1 n2 bytes rows =
    ap (λ (n : ℕ). let room : Room = record { bytes = n; rows = n1 } in room) bytes
    ∙ ap (λ (n : ℕ). let room : Room = record { bytes = b2; rows = n } in room) rows

-- A text that fits takes its bytes and one row of the room that is free.
pub spare-placed : (region : Placed) (text : List ℕ) → IsTrue (fits region (length text)) → plus (spare record region { texts = region.texts ++ text ∷ [] }) (length text) ≡ spare region
spare-placed region text t =
    let parts = and_parts _ _ t in
    let bytes = leb-true (used region.texts + length text) region.bytes parts.0 in
    let rows = ltb-true (length region.texts) region.rows parts.1 in
    same-room _ _ _ _ (omega (arith, bytes, used-push region.texts text)) (omega (arith, rows, length-append region.texts (text ∷ [])))

-- A text fits just where its bytes and one row are free.
pub fits-spare : (region : Placed) (size : ℕ) → IsWithinRoom region → IsTrue (fits region size) ↔ ((size ≤ (spare region).bytes) × (0 < (spare region).rows))
fits-spare region size within = (
  (λ t.
      let parts = and_parts _ _ t in
      let bytes = leb-true (used region.texts + size) region.bytes parts.0 in
      let rows = ltb-true (length region.texts) region.rows parts.1 in
      (omega (arith, bytes), omega (arith, rows))),
  λ free.
      and_from _ _ (le-leb (used region.texts + size) region.bytes (omega (arith, free.0, within.bytes))) (lt-ltb (length region.texts) region.rows (omega (arith, free.1))),
)

-- The room that is free, by the fields of a region.
pub spare-seen : (region : Inside) → IsKept region → (bytes rows : ℕ) → bytes ≡ length region.bytes.items → rows ≡ length region.ends.items → ◌≡◌ {A = Room} record { bytes = region.byte_room - bytes; rows = region.row_room - rows } (spare (seen region))
spare-seen region h bytes rows b n = same-room _ _ _ _ (omega (arith, b, used-seen region h)) (omega (arith, n, rows-seen region))
