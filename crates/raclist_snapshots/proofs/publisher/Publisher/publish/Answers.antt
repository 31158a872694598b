use Rattle.std.proofs.Common.{◌≡◌, Some, IfSome, Option, ap, ◌∙◌, subst, rules}
use Rattle.std.specs.Arc.{arc_value}
use Rattle.raclist_snapshots.specs.Kept.{Holding, IsHeld}
use Rattle.raclist_snapshots.proofs.Marks.{kept_added}
use Rattle.raclist_snapshots.proofs.publisher.Publisher.publish.Goals as goal

-- what was held is published, and the turn behind it is the next
pub invariant_of-self-2 : goal.invariant_of-self-2
invariant_of-self-2 g c =
    let holding = c.in-Some-Some.held in
    let is : c.self.inside.held ≡ Some holding = search rules in
    let held : IsHeld g.J.Naming.base c.self.inside.note c.self.inside.next holding =
    subst (λ (h : Option Holding). IfSome h (IsHeld g.J.Naming.base c.self.inside.note c.self.inside.next)) is c.self.invariant.held_is in
    let entry : holding.entry ≡ c.args.entry.now = search rules in
    let spare : arc_value c.held.inside.spare ≡ holding.image = c.held.invariant.1 ∙ ap (λ (h : Holding). h.image) c.held.view_is in
    rw (c.add.ensures, c.take-3.ensures.value, c.take.ensures.after, spare)
    (kept_added g.J.Naming.base c.self.inside.note c.self.inside.next c.take-3.new.self holding held c.args.entry.now entry)
