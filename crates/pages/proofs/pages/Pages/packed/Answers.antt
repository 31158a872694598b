use Rattle.std.proofs.Common.{◌∙◌, length, ap, sym}
use Rattle.std.specs.Arc.{arc_value}
use Rattle.std.proofs.lemmas.List.{length-map}
use Rattle.pages.proofs.pages.Pages.packed.Goals as goal

pub invariant_of-result : goal.invariant_of-result
invariant_of-result g c = sym (ap length c.in_ok-pages.ensures ∙ length-map c.args.items.now arc_value)
