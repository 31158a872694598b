use Rattle.std.proofs.Common.{◌∙◌, ap}
use Rattle.racf_profiles.specs.Lookup.{find_group}
use Rattle.racf_profiles.specs.declared.groups.Group.{Group}
use Rattle.racf_profiles.proofs.Named.{lookup-named}
use Rattle.group_tree.proofs.tree.Tree.get.Goals as goal

-- the map finds the group, and the value's groups are the map's values
pub returns : goal.returns
returns c = c.get.ensures.value ∙ lookup-named (λ (g : Group). g.id) c.args.id c.self.inside.groups.entries c.self.invariant.named ∙ ap (λ v. find_group v.groups c.args.id) c.self.view_is
