-- Those that pass among those that stay.
use Rattle.std.proofs.Common.{◌∙◌, not, sym}
use Rattle.command_rules.specs.Members.{is_member_named, is_named_in}
use Rattle.command_rules.proofs.ListCounts.{list_any-filter}
use Rattle.command_rules.proofs.members.stays.Goals as goal

pub returns : goal.returns
returns c = c.any_stays.ensures ∙ sym (list_any-filter (is_member_named c.args.name.now) (λ member. not (is_named_in c.args.gone.now member)) c.args.old.now)
