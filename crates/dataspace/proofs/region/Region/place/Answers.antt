use Rattle.std.proofs.Common.{rules, ◌≡◌, ◌∙◌, ◌^◌, ◌<◌, ◌≤◌, ◌++◌, ◌∷◌, [], ℕ, List, length, refl, sym, ap, subst, arith}
use Rattle.std.specs.Prelude.{IsTrue}
use Rattle.std.specs.Result.{is_ok}
use Rattle.dataspace.specs.declared.spot.Spot.{Spot}
use Rattle.dataspace.specs.Placed.{Placed, used, fits, text_at}
use Rattle.dataspace.specs.Rooms.{plus, spare}
use Rattle.dataspace.specs.Kept.{texts_of, AreRising, end_of}
use Rattle.dataspace.proofs.SpotLaws.{used-push, text-own, text-stays}
use Rattle.dataspace.proofs.RowLaws.{rising-push, end-push}
use Rattle.dataspace.proofs.KeptLaws.{used-seen, room-seen, placed-seen}
use Rattle.dataspace.proofs.SpareLaws.{spare-placed}
use Rattle.dataspace.proofs.region.Region.place.Goals as goal

pub unwrap-requires : goal.unwrap-requires
unwrap-requires c =
    let inside = c.self.inside in
    let size = length c.args.text.now in
    let room = room-seen inside c.self.invariant size (subst (λ r. IsTrue (fits r size)) (sym c.self.view_is) c.requires) in
    c.extend_from_slice.ensures.succeeds (omega (arith, inside.bytes.ok.0, c.self.invariant.byte_capacity, room.0))

pub overflow_cast-end : goal.overflow_cast-end
overflow_cast-end c =
    let inside = c.self.inside in
    let size = length c.args.text.now in
    let room = room-seen inside c.self.invariant size (subst (λ r. IsTrue (fits r size)) (sym c.self.view_is) c.requires) in
    let more = rw (ap (λ r. is_ok r) c.unwrap.ensures) at c.extend_from_slice.ensures.len in
    let small : c.len-end.result < 2 ^ 32 = omega (arith, c.len-end.ensures, more, inside.bytes.ok.0, c.self.invariant.byte_room, room.0) in
    search rules

pub unwrap-requires-2 : goal.unwrap-requires-2
unwrap-requires-2 c =
    let inside = c.self.inside in
    let size = length c.args.text.now in
    let room = room-seen inside c.self.invariant size (subst (λ r. IsTrue (fits r size)) (sym c.self.view_is) c.requires) in
    c.push.ensures.succeeds (omega (arith, inside.ends.ok.0, c.self.invariant.row_capacity, room.1))

pub invariant_of-self : goal.invariant_of-self
invariant_of-self c =
    let inside = c.self.inside in
    let size = length c.args.text.now in
    let room = room-seen inside c.self.invariant size (subst (λ r. IsTrue (fits r size)) (sym c.self.view_is) c.requires) in
    let more = rw (ap (λ r. is_ok r) c.unwrap.ensures) at c.extend_from_slice.ensures.len in
    let pushed = rw (ap (λ r. is_ok r) c.unwrap-2.ensures) at c.push.ensures.items in
    let one = rw (ap (λ r. is_ok r) c.unwrap-2.ensures) at c.push.ensures.len in
    let above : end_of 0 inside.ends.items ≤ c.len-end.result = omega (arith, c.len-end.ensures, more, inside.bytes.ok.0, c.self.invariant.whole) in
    record {
      rising = subst (λ ends. AreRising 0 ends) (sym pushed) (rising-push 0 inside.ends.items c.len-end.result c.self.invariant.rising above);
      whole = ap (λ ends. end_of 0 ends) pushed ∙ end-push 0 inside.ends.items c.len-end.result ∙ c.len-end.ensures ∙ c.extend_from_slice.new.self.ok.0;
      bytes = omega (arith, more, inside.bytes.ok.0, room.0);
      rows = omega (arith, one, inside.ends.ok.0, room.1);
      byte_capacity = omega (arith, c.extend_from_slice.ensures.capacity, c.self.invariant.byte_capacity);
      row_capacity = omega (arith, c.push.ensures.capacity, c.self.invariant.row_capacity);
      byte_room = c.self.invariant.byte_room;
      row_room = c.self.invariant.row_room;
    }

-- The texts as they are kept then.
texts : (c : goal.After-unwrap-2) → texts_of c.extend_from_slice.new.self.items c.push.new.self.items ≡ c.args.self.now.texts ++ c.args.text.now ∷ []
texts c =
    let inside = c.self.inside in
    let extended = rw (ap (λ r. is_ok r) c.unwrap.ensures) at c.extend_from_slice.ensures.items in
    let more = rw (ap (λ r. is_ok r) c.unwrap.ensures) at c.extend_from_slice.ensures.len in
    let pushed = rw (ap (λ r. is_ok r) c.unwrap-2.ensures) at c.push.ensures.items in
    placed-seen inside c.self.invariant c.args.text.now c.extend_from_slice.new.self.items c.push.new.self.items c.len-end.result extended pushed (omega (arith, c.len-end.ensures, more, inside.bytes.ok.0))
    ∙ ap (λ r. r.texts ++ c.args.text.now ∷ []) c.self.view_is

start : (c : goal.After-unwrap-2) → c.len-start.result ≡ used c.args.self.now.texts
start c = c.len-start.ensures ∙ c.self.inside.bytes.ok.0 ∙ sym (used-seen c.self.inside c.self.invariant) ∙ ap (λ r. used r.texts) c.self.view_is

pub returns-clause-texts : goal.returns-clause-texts
returns-clause-texts c =
    ap (λ (ts : List (List ℕ)). let region : Placed = record { texts = ts; bytes = c.self.inside.byte_room; rows = c.self.inside.row_room } in region) (texts c)
    ∙ ap (λ (r : Placed). let region : Placed = record { texts = c.args.self.now.texts ++ c.args.text.now ∷ []; bytes = r.bytes; rows = r.rows } in region) c.self.view_is

pub returns-clause-spot : goal.returns-clause-spot
returns-clause-spot c = ap (λ (n : ℕ). let spot : Spot = record { start = n; length = length c.args.text.now } in spot) (start c)

pub returns-clause-used : goal.returns-clause-used
returns-clause-used c = ap (λ ts. used ts) (texts c) ∙ used-push c.args.self.now.texts c.args.text.now

pub returns-clause-spare : goal.returns-clause-spare
returns-clause-spare c = ap (λ r. plus (spare r) (length c.args.text.now)) (returns-clause-texts c) ∙ spare-placed c.args.self.now c.args.text.now c.requires

pub returns-clause-placed : goal.returns-clause-placed
returns-clause-placed c =
    ap (λ ts. text_at ts record { start = c.len-start.result; length = length c.args.text.now }) (texts c)
    ∙ text-own 0 c.args.self.now.texts c.args.text.now [] (record { start = c.len-start.result; length = length c.args.text.now }) (omega (arith, start c)) refl

pub returns-clause-stays : goal.returns-clause-stays
returns-clause-stays c spot earlier h = ap (λ ts. text_at ts spot) (texts c) ∙ text-stays 0 c.args.self.now.texts (c.args.text.now ∷ []) spot earlier h
