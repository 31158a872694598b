use Rattle.std.proofs.Common.{◌∙◌, ap, sym, subst}
use Rattle.generic_names.proofs.CoverLaws.{same_tests}
use Rattle.racf_profiles.specs.Tree.{IsTree}
use Rattle.command_rules.specs.Conflicts.{meets}
use Rattle.command_rules.proofs.Walks.{meets-within, within-meets}
use Rattle.command_conflicts.proofs.check.groups.meets.Goals as goal

-- in a tree, what is below the group is what meets it on a walk up
pub returns : goal.returns
returns c =
    same_tests c.is_within.result (meets c.args.group c.args.from c.tree.result.now.groups)
    (λ t. meets-within c.tree.result.now.groups (subst IsTree (sym c.tree.ensures) c.what_is_kept.ensures.groups) c.args.group c.args.from (c.is_within.ensures.0 t))
    (λ m. c.is_within.ensures.1 (within-meets c.tree.result.now.groups c.args.group c.args.from m))
    ∙ ap (meets c.args.group c.args.from) c.tree.ensures
