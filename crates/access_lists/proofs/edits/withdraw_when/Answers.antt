use Rattle.std.proofs.Common.{not, rules}
use Rattle.std.proofs.lemmas.Fn.{filter_same}
use Rattle.access_lists.specs.Lists.{is_for_under}
use Rattle.access_lists.proofs.edits.withdraw_when.Goals as goal

pub returns : goal.returns
returns c = filter_same _ (λ entry. not (is_for_under c.args.condition c.args.who entry)) _ (λ x b f' k. search rules) _ _ c.retain.ensures.filtered
