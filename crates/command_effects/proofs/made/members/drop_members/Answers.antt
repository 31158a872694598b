use Rattle.std.proofs.Common.{not, rules}
use Rattle.std.proofs.lemmas.Fn.{filter_same}
use Rattle.racf_profiles.specs.declared.profiles.Member.{Member}
use Rattle.command_rules.specs.Members.{is_named_in}
use Rattle.command_effects.proofs.made.members.drop_members.Goals as goal

pub returns : goal.returns
returns c = filter_same _ (λ (member : Member). not (is_named_in c.args.gone.now member)) _ (λ x r f' k. search rules) _ _ c.retain.ensures.filtered
