use Rattle.std.proofs.Common.{◌≡◌, ◌+◌, length, ap, ◌∙◌, subst, arith, [], ◌∷◌, length-append}
use Rattle.std.specs.Prelude.{IsSome}
use Rattle.std.specs.Option.{option_to_list}
use Rattle.std.specs.List.{All}
use Rattle.std.specs.Vec.Iter.{into_iter_items, into_iter_len}
use Rattle.std.proofs.lemmas.List.Elements.{All-head, All-tail}
use Rattle.raclist_snapshots.specs.Publishing.{Seeing}
use Rattle.racf_threads.proofs.Seats.{seated, one_item}
use Rattle.racf_threads.proofs.seating.seat.Goals as goal

pub loop-caller-preserved : goal.loop-caller-preserved
loop-caller-preserved g c =
    let P : Seeing → Type 0 = λ caller. caller ≡ record { events = []; learned = 0 } in
    let i = c.loop-caller.invariant in
    let next : into_iter_items c.loop-caller.callers ≡ c.in-Some.caller ∷ into_iter_items c.next.new.self = c.in-Some.ensures.items in
    let new = subst (All P) next i.new in
    let count : into_iter_len c.next.new.self + 1 ≡ into_iter_len c.loop-caller.callers = c.in-Some.ensures.cases.1 in
    let there : IsSome c.next-in-Some-2.result = c.next-in-Some-2.ensures.variant.1 (let e = i.as_many in omega arith) in
    let one = one_item c.next-in-Some-2.result there in
    let made =
    seated c.loop-caller.workers.items c.in-Some.caller c.next-in-Some.result c.next-in-Some-2.result (into_iter_items c.loop-caller.passes) (into_iter_items c.next-in-Some.new.self) (into_iter_items c.loop-caller.files) (into_iter_items c.next-in-Some-2.new.self)
    (All-head P c.in-Some.caller (into_iter_items c.next.new.self) new) c.next-in-Some.ensures.items (λ some. c.next-in-Some.ensures.variant.1 (let e = i.passes_left in omega arith)) c.next-in-Some-2.ensures.items there in
    record {
      new = All-tail P c.in-Some.caller (into_iter_items c.next.new.self) new;
      made = rw c.push_reserved.ensures.items (made ∙ i.made);
      callers_left = (let e = ap length next in let n = i.callers_left in omega arith);
      passes_left = (let e = ap length c.next-in-Some.ensures.items in let n = i.passes_left in let m = c.next-in-Some.ensures.len in omega (arith, e, length-append (option_to_list c.next-in-Some.result) (into_iter_items c.next-in-Some.new.self)));
      files_left = (let e = ap length c.next-in-Some-2.ensures.items in let n = i.files_left in let m = c.next-in-Some-2.ensures.len in omega (arith, e, length-append (option_to_list c.next-in-Some-2.result) (into_iter_items c.next-in-Some-2.new.self)));
      as_many = (let n = i.as_many in let m = c.next-in-Some-2.ensures.len in omega arith);
      count = (let n = i.count in omega arith);
      room = (let n = i.room in let m = c.push_reserved.ensures.len in let p = c.push_reserved.ensures.capacity in omega arith);
    }
