-- Those that go and those that stay.
use Rattle.std.proofs.Common.{◌∙◌, ◌+◌, ap, length}
use Rattle.command_rules.specs.Members.{is_named_in, without_members}
use Rattle.command_rules.proofs.ListCounts.{count-filter}
use Rattle.command_rules.proofs.members.count_gone.Goals as goal

pub returns : goal.returns
returns c = ap (λ n. n + length (without_members c.args.gone.now c.args.old.now)) c.count_named_in.ensures ∙ count-filter (is_named_in c.args.gone.now) c.args.old.now
