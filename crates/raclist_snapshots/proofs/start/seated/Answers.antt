use Rattle.std.proofs.Common.{◌≡◌, ◌+◌, [], ◌∷◌, ◌++◌, length, ap, sym, ◌∙◌, subst, arith, rules, length-append}
use Rattle.std.proofs.lemmas.List.Elements.{All-push}
use Rattle.std.specs.List.{All}
use Rattle.raclist_snapshots.specs.Publishing.{Seeing}
use Rattle.raclist_snapshots.proofs.start.seated.Goals as goal

pub loop-count-preserved : goal.loop-count-preserved
loop-count-preserved g c =
    let P : Seeing → Type 0 = λ caller. caller ≡ record { events = c.args.note.now; learned = 0 } in
    let items : c.push.new.self.items ≡ c.loop-count.made.items ++ c.new.result ∷ [] = c.in_ok-push.ensures.items in
    let made : P c.new.result = search rules in
    let count : length c.push.new.self.items ≡ c.loop-count.count + 1 =
    omega (arith, ap length items, length-append c.loop-count.made.items (c.new.result ∷ []), c.loop-count.invariant.count) in
    record {
      callers = subst (All P) (sym items) (All-push P c.loop-count.made.items c.new.result c.loop-count.invariant.callers made);
      count = count;
    }
