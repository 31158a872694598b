use Rattle.std.proofs.Common.{◌∙◌, sym, ap, subst}
use Rattle.dataspace.specs.Placed.{used, IsWithinRoom}
use Rattle.dataspace.proofs.KeptLaws.{used-seen, within-seen}
use Rattle.dataspace.proofs.region.Region.used.Goals as goal

pub returns-clause-used : goal.returns-clause-used
returns-clause-used c = c.len.ensures ∙ c.self.inside.bytes.ok.0 ∙ sym (used-seen c.self.inside c.self.invariant) ∙ ap (λ r. used r.texts) c.self.view_is

pub returns-clause-within : goal.returns-clause-within
returns-clause-within c = subst (λ r. IsWithinRoom r) c.self.view_is (within-seen c.self.inside c.self.invariant)
