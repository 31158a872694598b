use Rattle.std.proofs.Common.{ap, ◌∙◌}
use Rattle.generic_names.specs.Best.{best}
use Rattle.profile_index.specs.Indexed.{name_of}
use Rattle.profile_index.proofs.shared_index.SharedIndex.find.Goals as goal

pub returns : goal.returns
returns g c = c.most_specific.ensures ∙ ap (λ xs. best name_of xs c.args.name.now) c.self.view_is
