use Rattle.std.proofs.Common.{◌∙◌, ap, sym, subst, arith}
use Rattle.indexmap.specs.IndexMap.{values}
use Rattle.group_tree.specs.Groups.{first_subgroup}
use Rattle.racf_profiles.specs.Lookup.{is_group}
use Rattle.racf_profiles.specs.Edits.{drop_row}
use Rattle.racf_profiles.specs.Tree.{IsTree}
use Rattle.group_tree.specs.Answers.{CanRemove}
use Rattle.group_tree.proofs.Edits.{tree-drop, one_there, none_from_map}
use Rattle.group_tree.proofs.Stored.{taken}
use Rattle.group_tree.proofs.tree.Tree.remove.Goals as goal

pub invariant_of-self : goal.invariant_of-self
invariant_of-self c =
    let old = c.self.inside.groups in
    let new = taken c.args.group old.entries c.shift_remove.new.self.entries c.self.invariant.named c.shift_remove.ensures.entries in
    let can : CanRemove c.args.self.now.groups c.args.group = record {
      there = one_there c.args.self.now.groups c.args.group c.in_ok-check_there.ensures.there;
      no_subgroup = none_from_map _ (first_subgroup c.args.self.now.groups c.args.group) (sym c.in-None.ensures);
    } in
    record {
      lawful = subst IsTree (sym new.0) (tree-drop (values old) c.self.invariant.lawful c.args.group (subst (λ v. CanRemove v.groups c.args.group) (sym c.self.view_is) can) c.requires);
      named = new.1;
      room = omega (arith, c.self.invariant.room, c.shift_remove.ensures.room.0);
    }

pub returns-in-None-clause-groups : goal.returns-in-None-clause-groups
returns-in-None-clause-groups c =
    let new = taken c.args.group c.self.inside.groups.entries c.shift_remove.new.self.entries c.self.invariant.named c.shift_remove.ensures.entries in
    new.0 ∙ ap (λ v. drop_row (is_group c.args.group) v.groups) c.self.view_is
