-- By the ways that a walk goes.
use Rattle.command_rules.proofs.Walks.{meets-within, within-meets}
use Rattle.command_rules.proofs.laws.walks_meet_what_is_above.Goals as goal

pub returns : goal.returns
returns c = λ groups group from tree. (λ met. within-meets groups group from met, λ within. meets-within groups tree group from within)
