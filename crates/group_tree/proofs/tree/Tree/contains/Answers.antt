use Rattle.std.proofs.Common.{◌∙◌, ap, is_some}
use Rattle.racf_profiles.specs.Lookup.{find_group}
use Rattle.racf_profiles.specs.declared.groups.Group.{Group}
use Rattle.racf_profiles.proofs.Named.{lookup-named}
use Rattle.group_tree.proofs.tree.Tree.contains.Goals as goal

-- the map has the name where the list has the group
pub returns : goal.returns
returns c =
    c.contains_key.ensures
    ∙ ap is_some (lookup-named (λ (g : Group). g.id) c.args.id c.self.inside.groups.entries c.self.invariant.named ∙ ap (λ v. find_group v.groups c.args.id) c.self.view_is)
