use Rattle.std.proofs.Common.{not, rules}
use Rattle.std.proofs.lemmas.Fn.{filter_same}
use Rattle.access_lists.specs.Lists.{is_for}
use Rattle.access_lists.proofs.edits.withdraw.Goals as goal

pub returns : goal.returns
returns c = filter_same _ (λ entry. not (is_for c.args.who entry)) _ (λ x b f' k. search rules) _ _ c.retain.ensures.filtered
