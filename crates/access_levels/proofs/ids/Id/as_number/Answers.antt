-- The bytes are the spelling with its padding.
use Rattle.std.proofs.Common.{◌∙◌}
use Rattle.access_levels.proofs.Numbered.{as_number-bytes}
use Rattle.access_levels.proofs.ids.Id.as_number.Goals as goal

pub returns : goal.returns
returns c = c.from_be_bytes.ensures ∙ as_number-bytes c.self.inside c.args.self.now c.self.view_is c.self.invariant
